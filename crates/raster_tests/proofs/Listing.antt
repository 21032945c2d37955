-- Whether a pixel is one of a list, as a search through the list answers it. Assumes nothing.
use Rattle.std.proofs.Common.{◌≡◌, ℕ, ◌<◌, Bool, true, false, ◌&&◌, eqb, List, length, MatchBool, refl, sym, arith}
use Rattle.std.specs.List.{AllWithin, HoldsAt}
use Rattle.std.proofs.lemmas.List.Recursion.{or_at, or_from_places}
use Rattle.raster.specs.Lines.{among}

abbrev pub Answer : ℕ → ℕ → Bool → ℕ × ℕ → Type 0
Answer x y b p = (eqb p.0 x && eqb p.1 y) ≡ b

pub found : (ps : List (ℕ × ℕ)) (x y : ℕ) (r : Bool) → MatchBool r ((k : ℕ) × (k < length ps) × HoldsAt (Answer x y true) ps k) (AllWithin (Answer x y false) ps 0 (length ps)) → r ≡ among ps x y
found ps x y true h = sym (or_at (λ qs. among qs x y) (λ p. eqb p.0 x && eqb p.1 y) refl (λ p qs. refl) ps h.0 (0, 0) h.1 (h.2 (0, 0)))
found ps x y false h = sym (or_from_places (λ qs. among qs x y) (λ p. eqb p.0 x && eqb p.1 y) refl (λ p qs. refl) ps (0, 0) (λ i l. h i (0, 0) (omega arith) l))
