-- Refusals by tests in their order, functions changed at one number, and tests of all numbers below some. Assumes nothing.
use Rattle.std.specs.Prelude.{ℕ, zero, suc, Bool, true, false, cond, ◌||◌, Some, None, Option, ◌==◌}

-- a call is refused by the number of the first test that fails
abbrev pub unless : Bool → ℕ → Option ℕ → Option ℕ
unless true number rest = rest
unless false number rest = Some number

-- what a call leaves: after a refusal, what was there
abbrev pub left_by : {A : Type 0} → Option ℕ → A → A → A
left_by None old new = new
left_by (Some number) old new = old

-- f, but a at n
abbrev pub put : {A : Type 0} → (ℕ → A) → ℕ → A → ℕ → A
put f n a k = cond (k == n) a (f k)

-- the test holds for one of the numbers below k
unfoldable pub some_below : (ℕ → Bool) → ℕ → Bool
some_below test zero = false
some_below test (suc k) = test k || some_below test k
