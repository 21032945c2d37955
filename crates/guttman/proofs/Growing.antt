-- How many nodes an insertion adds. Assumes nothing.
use Rattle.std.proofs.Common.{◌≡◌, ℕ, zero, suc, ◌+◌, ◌<◌, ◌≤◌, List, [], ◌∷◌, length, get_or, set, sum_by, ◌∙◌, arith, length-set}
use Rattle.std.proofs.ByRecursion.{All-get_or}
use Rattle.std.proofs.lemmas.List.Sums.{sum_by-cons, sum_by-append, sum_by_push, sum_by-set}
use Rattle.guttman.specs.Trees.{Tree, Grown, One, Two, extents, bound, choose, add, renewed, insert, rooted, inserted}
use Rattle.guttman.specs.Shape.{nodes_of, nodes, Filled, Shaped}
use Rattle.guttman.specs.Growth.{flat, nodes_grown}
use Rattle.guttman.proofs.Lists.{perm_sum_by}
use Rattle.guttman.proofs.Adding.{add_perm}
use Rattle.guttman.proofs.Gaining.{chosen_below}

-- the nodes under its entries, and itself or the two
grown_between : {E : Type 0} (h : ℕ) (g : Grown (Tree E h)) → (sum_by (nodes_of h) (flat g) + 1 ≤ nodes_grown h g) × (nodes_grown h g ≤ sum_by (nodes_of h) (flat g) + 2)
grown_between h (One t) = (omega arith, omega arith)
grown_between {E} h (Two s t) = let a = sum_by-append (nodes_of {E = E} h) s t in (omega arith, omega arith)

module _ {E : Type 0} (size : E → ℕ) (join : E → E → E) where
  add_sum : {Z : Type 0} (f : Z → ℕ) (extent : Z → E) (es : List Z) (y : Z) → length es ≤ 8 → sum_by f (flat (add size join extent es y)) ≡ sum_by f es + f y
  add_sum f extent es y few = perm_sum_by f (add_perm size join extent es y few) ∙ sum_by_push f es y

  -- at most one more in the node itself
  pub renewed_nodes : (h : ℕ) (t : Tree E (suc h)) (i : ℕ) (e : E) (g : Grown (Tree E h)) → i < length t → length t ≤ 8
      → (nodes (suc h) t + nodes_grown h g ≤ nodes_grown (suc h) (renewed size join t i e g) + nodes h (get_or t i (e, [])).1)
      × (nodes_grown (suc h) (renewed size join t i e g) + nodes h (get_or t i (e, [])).1 ≤ (nodes (suc h) t + nodes_grown h g) + 1)
  renewed_nodes h t i e (One s) l few =
      let d : E × Tree E h = (bound size join e (extents s), s) in
      let a = sum_by-set (nodes_of {E = E} (suc h)) t i d (e, []) l in
      (omega arith, omega arith)
  renewed_nodes h t i e (Two s u) l few =
      let d : E × Tree E h = (bound size join e (extents s), s) in
      let y : E × Tree E h = (bound size join e (extents u), u) in
      let f = nodes_of {E = E} (suc h) in
      let a = sum_by-set f t i d (e, []) l in
      let n = length-set t i d in
      let b = add_sum f (λ p. p.0) (set t i d) y (omega arith) in
      let c = grown_between (suc h) (add size join (λ p. p.0) (set t i d) y) in
      let c0 = c.0 in
      let c1 = c.1 in
      (omega arith, omega arith)

  -- at most one on each level, and none goes
  pub insert_nodes : (h low : ℕ) (t : Tree E h) (e : E) (c : ℕ) → (0 < h → 0 < low) → Shaped low h t
      → (nodes h t ≤ nodes_grown h (insert size join h t e c)) × (nodes_grown h (insert size join h t e c) ≤ nodes h t + (h + 1))
  insert_nodes zero low t e c full w =
      let g = add size join (λ p. p.0) t (e, c) in
      let b = add_sum (nodes_of {E = E} 0) (λ p. p.0) t (e, c) w.0.1 in
      let c = grown_between 0 g in
      let c0 = c.0 in
      let c1 = c.1 in
      (omega arith, omega arith)
  insert_nodes (suc h) low t e c full w =
      let i = choose size join (extents t) e in
      let l : i < length t = chosen_below size join t e (let a = full (omega arith) in let b = w.0.0 in omega arith) in
      let s = All-get_or (Filled (suc h)) t i (e, []) l w.1 in
      let ih = insert_nodes h 3 (get_or t i (e, [])).1 e c (λ _. omega arith) s in
      let r = renewed_nodes h t i e (insert size join h (get_or t i (e, [])).1 e c) l w.0.1 in
      let i0 = ih.0 in
      let i1 = ih.1 in
      let r0 = r.0 in
      let r1 = r.1 in
      (omega arith, omega arith)

  -- and a new root
  rooted_nodes : (h : ℕ) (e : E) (g : Grown (Tree E h))
      → (nodes_grown h g ≤ nodes (rooted size join h e g).0 (rooted size join h e g).1) × (nodes (rooted size join h e g).0 (rooted size join h e g).1 ≤ nodes_grown h g + 1)
  rooted_nodes h e (One t) = (omega arith, omega arith)
  rooted_nodes h e (Two s t) =
      let x : E × Tree E h = (bound size join e (extents s), s) in
      let y : E × Tree E h = (bound size join e (extents t), t) in
      let f = nodes_of {E = E} (suc h) in
      let a = sum_by-cons f x (y ∷ []) in
      let b = sum_by-cons f y [] in
      (omega arith, omega arith)

  pub inserted_nodes : (h low : ℕ) (t : Tree E h) (e : E) (c : ℕ) → (0 < h → 0 < low) → Shaped low h t
      → (nodes h t ≤ nodes (inserted size join h t e c).0 (inserted size join h t e c).1) × (nodes (inserted size join h t e c).0 (inserted size join h t e c).1 ≤ nodes h t + (h + 2))
  inserted_nodes h low t e c full w =
      let a = insert_nodes h low t e c full w in
      let b = rooted_nodes h e (insert size join h t e c) in
      let a0 = a.0 in
      let a1 = a.1 in
      let b0 = b.0 in
      let b1 = b.1 in
      (omega arith, omega arith)
