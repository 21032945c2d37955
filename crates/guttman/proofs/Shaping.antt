-- A tree that a pair is inserted into has as many entries in each node as it may. Assumes nothing.
use Rattle.std.proofs.Common.{ℕ, zero, suc, ◌<◌, ◌≤◌, [], length, get_or, set, arith, length-set}
use Rattle.std.proofs.ByRecursion.{All-get_or, All-set}
use Rattle.guttman.specs.Trees.{Tree, Grown, One, Two, extents, bound, choose, renewed, insert, rooted, inserted}
use Rattle.guttman.specs.Shape.{Filled, Shaped}
use Rattle.guttman.specs.Growth.{ShapedGrown}
use Rattle.guttman.proofs.Adding.{add_sized, add_all}
use Rattle.guttman.proofs.Gaining.{chosen_below}

pub low_some : (low : ℕ → ℕ) → ((h : ℕ) → 0 < low (suc h)) → (h : ℕ) → 0 < h → 0 < low h
low_some low some zero z = absurd (omega arith)
low_some low some (suc h) z = some h

module _ {E : Type 0} (size : E → ℕ) (join : E → E → E) where
  renewed_shaped : (h low : ℕ) (t : Tree E (suc h)) (i : ℕ) (e : E) (g : Grown (Tree E h)) → Shaped low (suc h) t → ShapedGrown 3 h g → ShapedGrown low (suc h) (renewed size join t i e g)
  renewed_shaped h low t i e (One s) w k =
      let d : E × Tree E h = (bound size join e (extents s), s) in
      let n = length-set t i d in
      let a = w.0.0 in
      let b = w.0.1 in
      ((omega arith, omega arith), All-set (Filled (suc h)) t i d k w.1)
  renewed_shaped h low t i e (Two s u) w k =
      let d : E × Tree E h = (bound size join e (extents s), s) in
      let y : E × Tree E h = (bound size join e (extents u), u) in
      let n = length-set t i d in
      let a = w.0.0 in
      let b = w.0.1 in (
        add_sized size join (λ p. p.0) (set t i d) y low (omega arith) (omega arith),
        add_all size join (λ p. p.0) (set t i d) y (Filled (suc h)) (All-set (Filled (suc h)) t i d (k.0.0, k.1.0) w.1) (k.0.1, k.1.1),
      )

  pub insert_shaped : (h low : ℕ) (t : Tree E h) (e : E) (c : ℕ) → (0 < h → 0 < low) → Shaped low h t → ShapedGrown low h (insert size join h t e c)
  insert_shaped zero low t e c full w =
      (add_sized size join (λ p. p.0) t (e, c) low w.0.0 w.0.1, add_all size join (λ p. p.0) t (e, c) (Filled 0) w.1 tt)
  insert_shaped (suc h) low t e c full w =
      let i = choose size join (extents t) e in
      let l : i < length t = chosen_below size join t e (let a = full (omega arith) in let b = w.0.0 in omega arith) in
      let s = All-get_or (Filled (suc h)) t i (e, []) l w.1 in
      renewed_shaped h low t i e (insert size join h (get_or t i (e, [])).1 e c) w (insert_shaped h 3 (get_or t i (e, [])).1 e c (λ _. omega arith) s)

  -- a new root has two entries, which suffices where a root above other nodes may have so few
  module _ (low : ℕ → ℕ) (some : (h : ℕ) → 0 < low (suc h)) (two : (h : ℕ) → low (suc h) ≤ 2) where
    pub rooted_shaped : (h : ℕ) (e : E) (g : Grown (Tree E h)) → ShapedGrown (low h) h g → Shaped (low (rooted size join h e g).0) (rooted size join h e g).0 (rooted size join h e g).1
    rooted_shaped h e (One t) w = w
    rooted_shaped h e (Two s t) w = ((two h, omega arith), ((w.0.0, w.1.0), ((w.0.1, w.1.1), tt)))

    pub inserted_shaped : (h : ℕ) (t : Tree E h) (e : E) (c : ℕ) → Shaped (low h) h t → Shaped (low (inserted size join h t e c).0) (inserted size join h t e c).0 (inserted size join h t e c).1
    inserted_shaped h t e c w = rooted_shaped h e (insert size join h t e c) (insert_shaped h (low h) t e c (low_some low some h) w)
