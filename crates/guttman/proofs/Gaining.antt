-- A tree that a pair is inserted into holds the pairs that it held, and that one. Assumes nothing.
use Rattle.std.proofs.Common.{◌≡◌, ℕ, zero, suc, ◌<◌, ◌≤◌, List, [], ◌∷◌, ◌++◌, length, get_or, set, sym, refl, ap, ◌∙◌, append_assoc, arith, length-set}
use mathlib.Core.List.Permᴰ
use mathlib.Core.List.{Permᴰ}
use lib.ListN.{length-map}
use Rattle.std.specs.List.{flat_map}
use Rattle.std.proofs.lemmas.List.{append-nil}
use Rattle.std.proofs.ByRecursion.{All-get_or}
use Rattle.guttman.specs.Trees.{Tree, Grown, One, Two, extents, bound, choose, renewed, insert, rooted, inserted}
use Rattle.guttman.specs.Shape.{leaves, pairs, Filled, Shaped}
use Rattle.guttman.specs.Growth.{flat}
use Rattle.guttman.proofs.Choosing.{choose_below}
use Rattle.guttman.proofs.Adding.{add_perm}
use Rattle.quadratic.proofs.Perms.{joined_append, perm_same, perm_front, perm_last, perm_joined, others, perm_at, perm_set}

module _ {E : Type 0} (size : E → ℕ) (join : E → E → E) where
  -- the place that e goes to in a node with an entry
  pub chosen_below : {X : Type 0} (t : List (E × X)) (e : E) → 0 < length t → choose size join (extents t) e < length t
  chosen_below t e some =
      let n : length (extents t) ≡ length t = length-map t (λ p. p.0) in
      let k = choose_below size join (extents t) e (omega arith) in
      omega arith

  -- the entry at i has a new node with one pair more
  renewed_pairs : (h : ℕ) (t : Tree E (suc h)) (i : ℕ) (e : E) (q : E × ℕ) (g : Grown (Tree E h)) → i < length t → length t ≤ 8
      → Permᴰ (pairs h (flat g)) (q ∷ pairs h (get_or t i (e, [])).1) → Permᴰ (pairs (suc h) (flat (renewed size join t i e g))) (q ∷ pairs (suc h) t)
  renewed_pairs h t i e q (One s) l few p =
      let f = leaves {E = E} (suc h) in
      Permᴰ.trans (perm_joined f (perm_set t i (bound size join e (extents s), s) l))
      (Permᴰ.trans (Permᴰ.append_right (flat_map f (others t i)) p)
      (Permᴰ.cons refl (Permᴰ.symm (perm_joined f (perm_at t i (e, []) l)))))
  renewed_pairs h t i e q (Two s u) l few p =
      let f = leaves {E = E} (suc h) in
      let d : E × Tree E h = (bound size join e (extents s), s) in
      let y : E × Tree E h = (bound size join e (extents u), u) in
      let rest = flat_map f (others t i) in
      Permᴰ.trans (perm_joined f (add_perm size join (λ p. p.0) (set t i d) y (let n = length-set t i d in omega arith)))
      (Permᴰ.trans (perm_joined f (perm_last (set t i d) y))
      (Permᴰ.trans (Permᴰ.append_left (pairs h u) (perm_joined f (perm_set t i d l)))
      (Permᴰ.trans (perm_front (pairs h u) (pairs h s) rest)
      (Permᴰ.trans (perm_same (sym (append_assoc (pairs h s) (pairs h u) rest) ∙ ap (λ z. z ++ rest) (sym (joined_append (leaves h) s u))))
      (Permᴰ.trans (Permᴰ.append_right rest p)
      (Permᴰ.cons refl (Permᴰ.symm (perm_joined f (perm_at t i (e, []) l)))))))))

  pub insert_pairs : (h low : ℕ) (t : Tree E h) (e : E) (c : ℕ) → (0 < h → 0 < low) → Shaped low h t → Permᴰ (pairs h (flat (insert size join h t e c))) ((e, c) ∷ pairs h t)
  insert_pairs zero low t e c full w =
      let f = leaves {E = E} 0 in
      Permᴰ.trans (perm_joined f (add_perm size join (λ p. p.0) t (e, c) w.0.1)) (perm_joined f (perm_last t (e, c)))
  insert_pairs (suc h) low t e c full w =
      let i = choose size join (extents t) e in
      let l : i < length t = chosen_below t e (let a = full (omega arith) in let b = w.0.0 in omega arith) in
      let s = All-get_or (Filled (suc h)) t i (e, []) l w.1 in
      renewed_pairs h t i e (e, c) (insert size join h (get_or t i (e, [])).1 e c) l w.0.1
      (insert_pairs h 3 (get_or t i (e, [])).1 e c (λ _. omega arith) s)

  -- a new root adds none
  pub rooted_pairs : (h : ℕ) (e : E) (g : Grown (Tree E h)) → pairs (rooted size join h e g).0 (rooted size join h e g).1 ≡ pairs h (flat g)
  rooted_pairs h e (One t) = refl
  rooted_pairs h e (Two s t) = ap (λ z. pairs h s ++ z) (append-nil (pairs h t)) ∙ sym (joined_append (leaves h) s t)

  pub inserted_pairs : (h low : ℕ) (t : Tree E h) (e : E) (c : ℕ) → (0 < h → 0 < low) → Shaped low h t
      → Permᴰ (pairs (inserted size join h t e c).0 (inserted size join h t e c).1) ((e, c) ∷ pairs h t)
  inserted_pairs h low t e c full w = Permᴰ.trans (perm_same (rooted_pairs h e (insert size join h t e c))) (insert_pairs h low t e c full w)
