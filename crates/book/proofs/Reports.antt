-- A report that is written tile by tile. Assumes nothing.
use Rattle.std.proofs.Common.{◌≡◌, ℕ, zero, suc, ◌<◌, Bool, true, false, ◌||◌, eqb, List, [], ◌∷◌, ◌++◌, length, get_or, refl, ap, ◌∙◌, ⊎_elim, arith, length-append}
use Rattle.std.proofs.lemmas.Bool.{cases_lt, or_cases, or_left, or_right, false≢true, eqb-true, eq-eqb}
use Rattle.book.specs.Past.{listed, Climbs}
use Rattle.book.proofs.Below.{or_false}

pub climbs_none : Climbs []
climbs_none i j h l = absurd (omega arith)

-- a tile above those listed comes to the end
pub climbs_push : (ts : List ℕ) (t : ℕ) → Climbs ts → ((k : ℕ) → k < length ts → get_or ts k 0 < t) → Climbs (ts ++ t ∷ [])
climbs_push ts t up below i j h l = ⊎_elim
    (λ e. rw (front ts i (omega arith), front ts j e) (up i j h e))
    (λ e. let z : j ≡ length ts = omega (arith, length-append ts (t ∷ [])) in rw (front ts i (omega arith), z, back ts) (below i (omega arith)))
    (cases_lt j (length ts))
  where
    front : (ts : List ℕ) (i : ℕ) → i < length ts → get_or (ts ++ t ∷ []) i 0 ≡ get_or ts i 0
    front [] i l = absurd (omega arith)
    front (a ∷ ts) zero l = refl
    front (a ∷ ts) (suc i) l = front ts i (omega arith)

    back : (ts : List ℕ) → get_or (ts ++ t ∷ []) (length ts) 0 ≡ t
    back [] = refl
    back (a ∷ ts) = back ts

pub listed_push : (ts : List ℕ) (t u : ℕ) → listed (ts ++ t ∷ []) u ≡ (listed ts u || eqb t u)
listed_push [] t u = or_false (eqb t u)
listed_push (a ∷ ts) t u = ap (λ v. eqb a u || v) (listed_push ts t u) ∙ or_assoc (eqb a u) (listed ts u) (eqb t u)
  where
    or_assoc : (a b c : Bool) → (a || (b || c)) ≡ ((a || b) || c)
    or_assoc true b c = refl
    or_assoc false b c = refl

-- what is listed stands somewhere in the list
pub listed_where : (ts : List ℕ) (t : ℕ) → listed ts t ≡ true → (k : ℕ) × (k < length ts) × (get_or ts k 0 ≡ t)
listed_where [] t e = absurd (false≢true e)
listed_where (a ∷ ts) t e = ⊎_elim
    (λ h. (0, omega arith, eqb-true a t h))
    (λ h. let r = listed_where ts t h in (suc r.0, omega (arith, r.1), r.2))
    (or_cases (eqb a t) (listed ts t) e)

pub listed_at : (ts : List ℕ) (k : ℕ) → k < length ts → listed ts (get_or ts k 0) ≡ true
listed_at [] k l = absurd (omega arith)
listed_at (a ∷ ts) zero l = or_left (eqb a a) (listed ts a) (eq-eqb a a refl)
listed_at (a ∷ ts) (suc k) l = or_right (eqb a (get_or ts k 0)) (listed ts (get_or ts k 0)) (listed_at ts k (omega arith))
