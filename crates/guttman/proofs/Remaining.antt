-- What is left of a tree that a pair is cut out of has as many entries in each node as it may, and exact extents. Assumes nothing.
use Rattle.std.proofs.Common.{ℕ, zero, suc, ◌-◌, Bool, List, length, sym, subst, inl, inr, arith}
use mathlib.Core.List.Permᴰ
use Rattle.std.specs.List.{AllByRecursion}
use Rattle.std.proofs.lemmas.Bool.{cases_lt}
use Rattle.quadratic.proofs.Perms.{perm_all}
use Rattle.guttman.specs.Trees.{Tree}
use Rattle.guttman.specs.Shape.{least_root, slack_root, Filled, Shaped, Exact, Tight}
use Rattle.guttman.specs.Deletion.{Loose, Short, PassedUp, CutOut}
use Rattle.guttman.proofs.Lists.{perm_length}

module _ {E : Type 0} (covering : E → E → Bool) (e : E) (c : ℕ) where
  passed_shaped : (h low : ℕ) (t s : Tree E (suc h)) (loose : List (Loose E)) (k : PassedUp covering h (CutOut covering e c h) t s loose) → Shaped low (suc h) t
      → (Filled (suc h) k.through → Shaped 2 h k.node × AllByRecursion Short k.below) → Shaped (low - 1) (suc h) s × AllByRecursion Short loose
  passed_shaped h low t s loose k w ih =
      let F = Filled {E = E} (suc h) in
      let all = perm_all F k.before w.1 in
      let i = ih all.0 in
      let n = perm_length k.before in
      let a = w.0.0 in
      let b = w.0.1 in
      elim (cases_lt (length k.node) 3) [
        | inl few ↦
            let g = k.goes few in
            let m = perm_length g.0 in
            let two = i.0.0.0 in
            (((omega arith, omega arith), perm_all F (Permᴰ.symm g.0) all.1), perm_all Short (Permᴰ.symm g.1) ((omega arith, i.0.1), i.1))
        | inr many ↦
            let g = k.stays many in
            let m = perm_length g.2 in
            let eight = i.0.0.1 in
            (((omega arith, omega arith), perm_all F (Permᴰ.symm g.2) (((omega arith, omega arith), i.0.1), all.1)), subst (AllByRecursion Short) (sym g.3) i.1)
      ]

  -- a node loses at most one entry, and what was cut off was left with two
  pub cut_shaped : (h low : ℕ) (t s : Tree E h) (loose : List (Loose E)) → CutOut covering e c h t s loose → Shaped low h t → Shaped (low - 1) h s × AllByRecursion Short loose
  cut_shaped zero low t s loose k w =
      let n = perm_length k.0 in
      let a = w.0.0 in
      let b = w.0.1 in
      (((omega arith, omega arith), (perm_all (Filled {E = E} 0) k.0 w.1).1), subst (AllByRecursion Short) (sym k.1) tt)
  cut_shaped (suc h) low t s loose k w = passed_shaped h low t s loose k w (cut_shaped h 3 k.through.1 k.node k.below k.cut)

  pub cut_slack : (h : ℕ) (t s : Tree E h) (loose : List (Loose E)) → CutOut covering e c h t s loose → Shaped (least_root h) h t → Shaped (slack_root h) h s × AllByRecursion Short loose
  cut_slack zero t s loose k w = cut_shaped 0 0 t s loose k w
  cut_slack (suc h) t s loose k w = cut_shaped (suc h) 2 t s loose k w

  pub cut_tight : (h : ℕ) (t s : Tree E h) (loose : List (Loose E)) → CutOut covering e c h t s loose → Tight covering h t → Tight covering h s
  cut_tight zero t s loose k w = (perm_all (Exact covering 0) k.0 w).1
  cut_tight (suc h) t s loose k w =
      let X = Exact covering (suc h) in
      let all = perm_all X k.before w in
      let ih = cut_tight h k.through.1 k.node k.below k.cut all.0.1 in
      elim (cases_lt (length k.node) 3) [
        | inl few ↦ perm_all X (Permᴰ.symm (k.goes few).0) all.1
        | inr many ↦ let g = k.stays many in perm_all X (Permᴰ.symm g.2) ((g.1, ih), all.1)
      ]
