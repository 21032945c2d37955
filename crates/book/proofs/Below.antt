-- A test of all numbers below some, and a function changed at one number. Assumes nothing.
use Rattle.std.proofs.Common.{◌≡◌, ℕ, zero, suc, ◌+◌, ◌<◌, Bool, true, false, ◌||◌, eqb, sym, refl, ap, ◌∙◌, ⊎_elim, add-one, arith}
use Rattle.std.proofs.lemmas.Bool.{false≢true, cases_eq, or_cases, or_parts, cond-true, cond-false, eq-eqb, ne_eqb}
use Rattle.book.specs.Tests.{put, some_below}

pub or_false : (v : Bool) → (v || false) ≡ v
or_false true = refl
or_false false = refl

pub some_below_none : (test : ℕ → Bool) → some_below test 0 ≡ false
unfolding some_below
some_below_none test = refl

pub some_below_more : (test : ℕ → Bool) (k : ℕ) → some_below test (k + 1) ≡ (test k || some_below test k)
unfolding some_below
some_below_more test k = ap (some_below test) (add-one k)

-- where it holds it holds for some number
pub some_below_which : (test : ℕ → Bool) (k : ℕ) → some_below test k ≡ true → (n : ℕ) × (n < k) × (test n ≡ true)
unfolding some_below
some_below_which test zero e = absurd (false≢true e)
some_below_which test (suc k) e = ⊎_elim
    (λ h. (k, omega arith, h))
    (λ h. let r = some_below_which test k h in (r.0, omega (arith, r.1), r.2))
    (or_cases (test k) (some_below test k) e)

-- and where not, for none
pub some_below_never : (test : ℕ → Bool) (k : ℕ) → some_below test k ≡ false → (n : ℕ) → n < k → test n ≡ false
unfolding some_below
some_below_never test zero e n l = absurd (omega arith)
some_below_never test (suc k) e n l =
    let p = or_parts (test k) (some_below test k) e in
    ⊎_elim (λ h. ap test h ∙ p.0) (λ h. some_below_never test k p.1 n (omega (arith, h))) (cases_eq n k)

-- a test that can hold for one number only
pub some_below_one : (test : ℕ → Bool) (k n : ℕ) → n < k → ((m : ℕ) → (m ≡ n → ⊥) → test m ≡ false) → some_below test k ≡ test n
unfolding some_below
some_below_one test zero n l h = absurd (omega arith)
some_below_one test (suc k) n l h = ⊎_elim
    (λ e. ap (λ v. test k || v) (none test k (λ m a. h m (λ z. omega (arith, z, e)))) ∙ or_false (test k) ∙ ap test (sym e))
    (λ e. ap (λ v. v || some_below test k) (h k (λ z. e (sym z))) ∙ some_below_one test k n (omega (arith, e)) h)
    (cases_eq n k)
  where
    none : (test : ℕ → Bool) (k : ℕ) → ((m : ℕ) → m < k → test m ≡ false) → some_below test k ≡ false
    none test zero h = refl
    none test (suc k) h = ap (λ v. v || some_below test k) (h k (omega arith)) ∙ none test k (λ m l. h m (omega arith))

-- tests that agree
pub some_below_same : (test other : ℕ → Bool) (k : ℕ) → ((n : ℕ) → n < k → test n ≡ other n) → some_below test k ≡ some_below other k
unfolding some_below
some_below_same test other zero h = refl
some_below_same test other (suc k) h = ap (λ v. v || some_below test k) (h k (omega arith)) ∙ ap (λ v. other k || v) (some_below_same test other k (λ n l. h n (omega arith)))

pub put_here : {A : Type 0} (f : ℕ → A) (n : ℕ) (a : A) → put f n a n ≡ a
put_here f n a = cond-true (eqb n n) a (f n) (eq-eqb n n refl)

pub put_there : {A : Type 0} (f : ℕ → A) (n : ℕ) (a : A) (m : ℕ) → (m ≡ n → ⊥) → put f n a m ≡ f m
put_there f n a m h = cond-false (eqb m n) a (f m) (ne_eqb m n h)
