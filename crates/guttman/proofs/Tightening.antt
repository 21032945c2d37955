-- A tree that a pair is inserted into has the join of a node's extents as the extent of the node's entry. Assumes nothing.
use Rattle.std.proofs.Common.{ℕ, zero, suc, ◌<◌, Bool, [], length, get_or, set, arith}
use lib.ListN.{length-map}
use Rattle.std.proofs.ByRecursion.{All-get_or, All-set}
use Rattle.guttman.specs.Trees.{Tree, Grown, One, Two, extents, bound, choose, renewed, insert, rooted, inserted}
use Rattle.guttman.specs.Shape.{Filled, Shaped, Exact, Tight}
use Rattle.guttman.specs.Growth.{SizedGrown, TightGrown}
use Rattle.guttman.specs.Laws.{Joining}
use Rattle.guttman.proofs.Adding.{add_all}
use Rattle.guttman.proofs.Gaining.{chosen_below}
use Rattle.guttman.proofs.Shaping.{insert_shaped}
use Rattle.guttman.proofs.Joins.{bound_joins}

module _ {E : Type 0} (size : E → ℕ) (join : E → E → E) (covering : E → E → Bool) (laws : Joining join covering) where
  -- an entry above a node that has one has the join
  pub bound_exact : (h : ℕ) (e : E) (s : Tree E h) → 0 < length s → Tight covering h s → Exact covering (suc h) (bound size join e (extents s), s)
  bound_exact h e s some t = (bound_joins size join covering laws e (extents s) (let n = length-map s (λ p. p.0) in omega arith), t)

  renewed_tight : (h : ℕ) (t : Tree E (suc h)) (i : ℕ) (e : E) (g : Grown (Tree E h)) → SizedGrown 3 g → Tight covering (suc h) t → TightGrown covering h g → TightGrown covering (suc h) (renewed size join t i e g)
  renewed_tight h t i e (One s) z w k = All-set (Exact covering (suc h)) t i (bound size join e (extents s), s) (bound_exact h e s (omega arith) k) w
  renewed_tight h t i e (Two s u) z w k =
      let d : E × Tree E h = (bound size join e (extents s), s) in
      let y : E × Tree E h = (bound size join e (extents u), u) in
      add_all size join (λ p. p.0) (set t i d) y (Exact covering (suc h)) (All-set (Exact covering (suc h)) t i d (bound_exact h e s (omega arith) k.0) w) (bound_exact h e u (omega arith) k.1)

  pub insert_tight : (h low : ℕ) (t : Tree E h) (e : E) (c : ℕ) → (0 < h → 0 < low) → Shaped low h t → Tight covering h t → TightGrown covering h (insert size join h t e c)
  insert_tight zero low t e c full w k = add_all size join (λ p. p.0) t (e, c) (Exact covering 0) k tt
  insert_tight (suc h) low t e c full w k =
      let i = choose size join (extents t) e in
      let l : i < length t = chosen_below size join t e (let a = full (omega arith) in let b = w.0.0 in omega arith) in
      let s = All-get_or (Filled (suc h)) t i (e, []) l w.1 in
      let x = All-get_or (Exact covering (suc h)) t i (e, []) l k in
      renewed_tight h t i e (insert size join h (get_or t i (e, [])).1 e c)
      (insert_shaped size join h 3 (get_or t i (e, [])).1 e c (λ _. omega arith) s).0 k
      (insert_tight h 3 (get_or t i (e, [])).1 e c (λ _. omega arith) s x.1)

  -- the two nodes that a root was split into have an entry at least
  pub rooted_tight : (h : ℕ) (low : ℕ) (e : E) (g : Grown (Tree E h)) → SizedGrown low g → TightGrown covering h g → Tight covering (rooted size join h e g).0 (rooted size join h e g).1
  rooted_tight h low e (One t) z k = k
  rooted_tight h low e (Two s t) z k = (bound_exact h e s (omega arith) k.0, (bound_exact h e t (omega arith) k.1, tt))

  pub inserted_tight : (h low : ℕ) (t : Tree E h) (e : E) (c : ℕ) → (0 < h → 0 < low) → Shaped low h t → Tight covering h t → Tight covering (inserted size join h t e c).0 (inserted size join h t e c).1
  inserted_tight h low t e c full w k = rooted_tight h low e (insert size join h t e c) (insert_shaped size join h low t e c full w).0 (insert_tight h low t e c full w k)
