-- The join of some extents, folded one by one, is their least upper bound. Assumes nothing.
use Rattle.std.proofs.Common.{◌≡◌, ℕ, ◌<◌, Bool, true, List, [], ◌∷◌, length, fold, arith}
use Rattle.guttman.specs.Trees.{bound}
use Rattle.guttman.specs.Shape.{IsJoin}
use Rattle.guttman.specs.Laws.{Joining}

module _ {E : Type 0} (size : E → ℕ) (join : E → E → E) (covering : E → E → Bool) (laws : Joining join covering) where
  folds : (x : E) (xs : List E) → (covering (fold join x xs) x ≡ true) × IsJoin covering (fold join x xs) (x ∷ xs)
  folds x [] = (laws.reflexive x, record { above = (laws.reflexive x, tt); least = λ u h. h.0 })
  folds x (y ∷ ys) =
      let ih = folds (join x y) ys in
      let j = fold join (join x y) ys in
      let a = laws.transitive j (join x y) x ih.0 (laws.left x y) in
      let b = laws.transitive j (join x y) y ih.0 (laws.right x y) in
      (a, record { above = (a, (b, ih.1.above.1)); least = λ u h. ih.1.least u (laws.least x y u h.0 h.1.0, h.1.1) })

  pub bound_joins : (none : E) (xs : List E) → 0 < length xs → IsJoin covering (bound size join none xs) xs
  bound_joins none [] h = absurd (omega arith)
  bound_joins none (x ∷ xs) h = (folds x xs).1
