-- How many letters are equal to one, before and after a place has another. Assumes nothing.
use Rattle.std.proofs.Common.{◌≡◌, ℕ, zero, suc, ◌+◌, ◌<◌, cond, eqb, List, [], ◌∷◌, length, get_or, set, ap, inl, inr, arith}
use Rattle.std.proofs.lemmas.Bool.{cases_eq, ne_eqb}
use Rattle.quadratic.specs.Sharing.{tally}

pub tally_set : (v : ℕ) (ls : List ℕ) (i w : ℕ) → i < length ls → tally v (set ls i w) + cond (eqb (get_or ls i 0) v) 1 0 ≡ tally v ls + cond (eqb w v) 1 0
tally_set v [] i w h = omega arith
tally_set v (l ∷ ls) zero w h = omega arith
tally_set v (l ∷ ls) (suc i) w h = let k = tally_set v ls i w (omega arith) in omega arith

-- a letter that is there stands at some place
pub tally_some : (v : ℕ) (ls : List ℕ) → 0 < tally v ls → (i : ℕ) × (i < length ls) × (get_or ls i 0 ≡ v)
tally_some v [] h = absurd (omega arith)
tally_some v (l ∷ ls) h =
    elim (cases_eq l v) [
      | inl e ↦ (0, omega arith, e)
      | inr e ↦
          let z : ◌≡◌ {A = ℕ} (cond (eqb l v) 1 0) 0 = ap (λ t. cond {A = ℕ} t 1 0) (ne_eqb l v e) in
          let k = tally_some v ls (omega arith) in
          (suc k.0, let m = k.1 in omega arith, k.2)
    ]
