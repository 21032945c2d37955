-- A tree that a pair is cut out of holds, with what was cut off, the other pairs, and has as many nodes. Assumes nothing.
use Rattle.std.proofs.Common.{◌≡◌, ℕ, zero, suc, ◌+◌, Bool, List, ◌∷◌, ◌++◌, length, sum_by, sym, refl, ap, ◌∙◌, inl, inr, append_assoc, arith}
use mathlib.Core.List.Permᴰ
use mathlib.Core.List.{Permᴰ}
use Rattle.std.specs.List.{flat_map}
use Rattle.std.proofs.lemmas.List.{append-nil}
use Rattle.std.proofs.lemmas.List.Sums.{sum_by-cons}
use Rattle.std.proofs.lemmas.Bool.{cases_lt}
use Rattle.quadratic.proofs.Perms.{perm_same, perm_joined}
use Rattle.guttman.specs.Trees.{Tree}
use Rattle.guttman.specs.Shape.{leaves, pairs, nodes_of, nodes}
use Rattle.guttman.specs.Deletion.{Loose, loose_pairs, loose_nodes, PassedUp, CutOut}
use Rattle.guttman.proofs.Lists.{perm_swap, perm_append, perm_sum_by}

module _ {E : Type 0} (covering : E → E → Bool) (e : E) (c : ℕ) where
  -- of the pairs before, those under the node come first
  passed_pairs : (h : ℕ) (t s : Tree E (suc h)) (loose : List (Loose E)) (k : PassedUp covering h (CutOut covering e c h) t s loose)
      → Permᴰ (pairs h k.through.1) ((e, c) ∷ (pairs h k.node ++ loose_pairs k.below))
      → Permᴰ (pairs (suc h) t) ((e, c) ∷ (pairs (suc h) s ++ loose_pairs loose))
  passed_pairs h t s loose k ih =
      let f = leaves {E = E} (suc h) in
      let N = pairs h k.node in
      let B = loose_pairs k.below in
      let R = flat_map f k.others in
      Permᴰ.trans (perm_joined f k.before) (Permᴰ.trans (Permᴰ.append_right R ih) (Permᴰ.cons refl (
      elim (cases_lt (length k.node) 3) [
        | inl few ↦
            let g = k.goes few in
            Permᴰ.trans (perm_swap (N ++ B) R) (Permᴰ.symm (perm_append (perm_joined f g.0) (perm_joined (λ (o : Loose E). pairs o.0 o.1) g.1)))
        | inr many ↦
            let g = k.stays many in
            Permᴰ.trans (perm_same (append_assoc N B R))
            (Permᴰ.trans (Permᴰ.append_left N (perm_swap B R))
            (Permᴰ.trans (perm_same (sym (append_assoc N R B) ∙ ap (λ z. (N ++ R) ++ loose_pairs z) (sym g.3)))
            (Permᴰ.append_right (loose_pairs loose) (Permᴰ.symm (perm_joined f g.2)))))
      ])))

  -- what is left, what was cut off, and the pair are the pairs before
  pub cut_pairs : (h : ℕ) (t s : Tree E h) (loose : List (Loose E)) → CutOut covering e c h t s loose → Permᴰ (pairs h t) ((e, c) ∷ (pairs h s ++ loose_pairs loose))
  cut_pairs zero t s loose k =
      Permᴰ.trans (perm_joined (leaves {E = E} 0) k.0)
      (perm_same (ap (λ z. (e, c) ∷ z) (sym (append-nil (pairs 0 s)) ∙ ap (λ z. pairs 0 s ++ loose_pairs z) (sym k.1))))
  cut_pairs (suc h) t s loose k = passed_pairs h t s loose k (cut_pairs h k.through.1 k.node k.below k.cut)

  passed_nodes : (h : ℕ) (t s : Tree E (suc h)) (loose : List (Loose E)) (k : PassedUp covering h (CutOut covering e c h) t s loose)
      → nodes h k.node + loose_nodes k.below ≡ nodes h k.through.1 → nodes (suc h) s + loose_nodes loose ≡ nodes (suc h) t
  passed_nodes h t s loose k ih =
      let n = nodes_of {E = E} (suc h) in
      let m : Loose E → ℕ = λ o. nodes o.0 o.1 in
      let b = perm_sum_by n k.before in
      let a = sum_by-cons n k.through k.others in
      elim (cases_lt (length k.node) 3) [
        | inl few ↦
            let g = k.goes few in
            let u = perm_sum_by n g.0 in
            let v = perm_sum_by m g.1 in
            let w = sum_by-cons m (h, k.node) k.below in
            omega arith
        | inr many ↦
            let g = k.stays many in
            let u = perm_sum_by n g.2 in
            let v = sum_by-cons n (g.0, k.node) k.others in
            let w = ap (sum_by m) g.3 in
            omega arith
      ]

  -- each node is still there or was cut off
  pub cut_nodes : (h : ℕ) (t s : Tree E h) (loose : List (Loose E)) → CutOut covering e c h t s loose → nodes h s + loose_nodes loose ≡ nodes h t
  cut_nodes zero t s loose k =
      let n = nodes_of {E = E} 0 in
      let m : Loose E → ℕ = λ o. nodes o.0 o.1 in
      let b = perm_sum_by n k.0 in
      let a = sum_by-cons n (e, c) s in
      let w = ap (sum_by m) k.1 in
      omega arith
  cut_nodes (suc h) t s loose k = passed_nodes h t s loose k (cut_nodes h k.through.1 k.node k.below k.cut)
