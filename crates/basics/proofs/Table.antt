-- The rule of a table, proved at all of its places by one test that antt computes. Assumes nothing.
use Rattle.std.proofs.Common.{◌≡◌, ℕ, zero, suc, ◌<◌, Bool, true, false, not, ◌&&◌, ◌⊎◌, List, get_or, sym, refl, subst, inl, inr, ⊎_elim, arith}
use Rattle.std.proofs.lemmas.Bool.{and_parts, cases_eq}
use Rattle.std.proofs.lemmas.Bool.Decides.{nat_tests}
use Rattle.basics.specs.Fonts.{lit, built_in, rows_of}
use Rattle.basics.specs.Segments.{masks, lights}

-- the test passes at each number below n
abbrev pub every : (ℕ → Bool) → ℕ → Bool
every test zero = true
every test (suc n) = test n && every test n

pub every_at : (test : ℕ → Bool) (n : ℕ) → every test n ≡ true → (k : ℕ) → k < n → test k ≡ true
every_at test zero e k h = absurd (omega arith)
every_at test (suc n) e k h =
    let p = and_parts (test n) (every test n) e in
    ⊎_elim (λ q. subst (λ m. test m ≡ true) (sym q) p.0) (λ q. every_at test n p.1 k (omega (arith, q))) (cases_eq k n)

abbrev pub same : Bool → Bool → Bool
same true b = b
same false b = not b

pub same_eq : (a b : Bool) → same a b ≡ true → a ≡ b
same_eq true b e = sym e
same_eq false true e = e
same_eq false false e = refl

-- the rows light the same pixels as the masks do, in each of the sixteen cells
abbrev pub agrees : List ℕ → Bool
agrees rows = every (λ g. every (λ j. every (λ i. same (lit rows g i j) (lights (get_or masks g 0) i j)) 8) 16) 16

pub agrees_at : (rows : List ℕ) → agrees rows ≡ true → (g i j : ℕ) → g < 16 → i < 8 → j < 16 → lit rows g i j ≡ lights (get_or masks g 0) i j
agrees_at rows e g i j hg hi hj =
    let cell = every_at (λ m. every (λ l. every (λ k. same (lit rows m k l) (lights (get_or masks m 0) k l)) 8) 16) 16 e g hg in
    let row = every_at (λ l. every (λ k. same (lit rows g k l) (lights (get_or masks g 0) k l)) 8) 16 cell j hj in
    same_eq _ _ (every_at (λ k. same (lit rows g k j) (lights (get_or masks g 0) k j)) 8 row i hi)

-- there is nothing lit beside the cells
pub lit_past : (rows : List ℕ) (g i j : ℕ) → (15 < g) ⊎ ((7 < i) ⊎ (15 < j)) → lit rows g i j ≡ false
lit_past rows g i j (inl h) = grind (arith, nat_tests)
lit_past rows g i j (inr (inl h)) = grind (arith, nat_tests)
lit_past rows g i j (inr (inr h)) = grind (arith, nat_tests)

-- the built-in font is that of the masks
pub built_in_lights : (g i j : ℕ) → g < 16 → i < 8 → j < 16 → lit built_in g i j ≡ lights (get_or masks g 0) i j
unfolding rows_of
built_in_lights = agrees_at built_in refl
