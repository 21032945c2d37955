-- After pairs were inserted again, and a root with one child gave way, a tree is well formed. Assumes nothing.
use Rattle.std.proofs.Common.{◌≡◌, ℕ, zero, suc, ◌<◌, ◌≤◌, Bool, List, [], ◌∷◌, ◌++◌, length, sym, refl, ◌∙◌, subst, arith}
use mathlib.Core.List.Permᴰ
use mathlib.Core.List.{Permᴰ}
use Rattle.std.proofs.lemmas.List.{append-nil}
use Rattle.std.proofs.lemmas.List.Sums.{sum_by-cons}
use Rattle.quadratic.proofs.Perms.{perm_same}
use Rattle.guttman.specs.Trees.{Tree, inserted}
use Rattle.guttman.specs.Shape.{least_root, slack_root, pairs, nodes_of, nodes, Filled, Shaped, Tight}
use Rattle.guttman.specs.Laws.{Joining}
use Rattle.guttman.specs.Deletion.{lowered, inserted_all}
use Rattle.guttman.proofs.Gaining.{inserted_pairs}
use Rattle.guttman.proofs.Shaping.{low_some, inserted_shaped}
use Rattle.guttman.proofs.Tightening.{inserted_tight}

pub slack_root_some : (h : ℕ) → 0 < h → 0 < slack_root h
slack_root_some h z = low_some slack_root (λ h. omega arith) h z

-- ---- a root gives way

module _ {E : Type 0} where
  pub lowered_pairs : (h : ℕ) (t : Tree E h) → pairs (lowered h t).0 (lowered h t).1 ≡ pairs h t
  lowered_pairs zero t = refl
  lowered_pairs (suc h) [] = refl
  lowered_pairs (suc h) (p ∷ []) = lowered_pairs h p.1 ∙ sym (append-nil (pairs h p.1))
  lowered_pairs (suc h) (p ∷ q ∷ t) = refl

  -- a node with three entries does not
  pub lowered_stays : (h : ℕ) (t : Tree E h) → 2 ≤ length t → lowered h t ≡ (h, t)
  lowered_stays zero t l = refl
  lowered_stays (suc h) [] l = absurd (omega arith)
  lowered_stays (suc h) (p ∷ []) l = absurd (omega arith)
  lowered_stays (suc h) (p ∷ q ∷ t) l = refl

  -- so that once suffices
  pub lowered_once : (h : ℕ) (p : E × Tree E h) → Filled (suc h) p → lowered (suc h) (p ∷ []) ≡ (h, p.1)
  lowered_once h p w = lowered_stays h p.1 (let a = w.0.0 in omega arith)

  pub lowered_shaped : (h : ℕ) (t : Tree E h) → Shaped (slack_root h) h t → Shaped (least_root (lowered h t).0) (lowered h t).0 (lowered h t).1
  lowered_shaped zero t w = w
  lowered_shaped (suc h) [] w = absurd (let a = w.0.0 in omega arith)
  lowered_shaped (suc h) (p ∷ []) w =
      subst (λ u. Shaped (least_root u.0) u.0 u.1) (sym (lowered_once h p w.1.0)) (
      let f = w.1.0 in let a = f.0.0 in let b = f.0.1 in ((at_least h (length p.1) (omega arith), omega arith), f.1))
    where
      at_least : (h n : ℕ) → 2 ≤ n → least_root h ≤ n
      at_least zero n l = omega arith
      at_least (suc h) n l = l
  lowered_shaped (suc h) (p ∷ q ∷ t) w = ((omega arith, w.0.1), w.1)

  pub lowered_tight : (covering : E → E → Bool) (h : ℕ) (t : Tree E h) → Tight covering h t → Tight covering (lowered h t).0 (lowered h t).1
  lowered_tight covering zero t w = w
  lowered_tight covering (suc h) [] w = w
  lowered_tight covering (suc h) (p ∷ []) w = lowered_tight covering h p.1 w.0.1
  lowered_tight covering (suc h) (p ∷ q ∷ t) w = w

  pub lowered_nodes : (h : ℕ) (t : Tree E h) → nodes (lowered h t).0 (lowered h t).1 ≤ nodes h t
  lowered_nodes zero t = omega arith
  lowered_nodes (suc h) [] = omega arith
  lowered_nodes (suc h) (p ∷ []) = let ih = lowered_nodes h p.1 in let s = sum_by-cons (nodes_of {E = E} (suc h)) p [] in omega arith
  lowered_nodes (suc h) (p ∷ q ∷ t) = omega arith

-- ---- pairs are inserted one by one

module _ {E : Type 0} (size : E → ℕ) (join : E → E → E) where
  -- a root that may have one entry keeps as many
  pub inserted_slack : (h : ℕ) (t : Tree E h) (e : E) (c : ℕ) → Shaped (slack_root h) h t → Shaped (slack_root (inserted size join h t e c).0) (inserted size join h t e c).0 (inserted size join h t e c).1
  inserted_slack h t e c w = inserted_shaped size join slack_root (λ h. omega arith) (λ h. omega arith) h t e c w

  pub inserted_all_shaped : (ps : List (E × ℕ)) (u : (k : ℕ) × Tree E k) → Shaped (slack_root u.0) u.0 u.1
      → Shaped (slack_root (inserted_all size join u ps).0) (inserted_all size join u ps).0 (inserted_all size join u ps).1
  inserted_all_shaped [] u w = w
  inserted_all_shaped (p ∷ ps) u w =
      inserted_all_shaped ps (inserted size join u.0 u.1 p.0 p.1) (inserted_slack u.0 u.1 p.0 p.1 w)

  pub inserted_all_pairs : (ps : List (E × ℕ)) (u : (k : ℕ) × Tree E k) → Shaped (slack_root u.0) u.0 u.1
      → Permᴰ (pairs (inserted_all size join u ps).0 (inserted_all size join u ps).1) (pairs u.0 u.1 ++ ps)
  inserted_all_pairs [] u w = perm_same (sym (append-nil (pairs u.0 u.1)))
  inserted_all_pairs (p ∷ ps) u w =
      let v = inserted size join u.0 u.1 p.0 p.1 in
      Permᴰ.trans (inserted_all_pairs ps v (inserted_slack u.0 u.1 p.0 p.1 w))
      (Permᴰ.trans (Permᴰ.append_right ps (inserted_pairs size join u.0 (slack_root u.0) u.1 p.0 p.1 (slack_root_some u.0) w))
      (Permᴰ.symm (Permᴰ.middle p (pairs u.0 u.1) ps)))

  module _ (covering : E → E → Bool) (laws : Joining join covering) where
    pub inserted_all_tight : (ps : List (E × ℕ)) (u : (k : ℕ) × Tree E k) → Shaped (slack_root u.0) u.0 u.1 → Tight covering u.0 u.1
        → Tight covering (inserted_all size join u ps).0 (inserted_all size join u ps).1
    inserted_all_tight [] u w k = k
    inserted_all_tight (p ∷ ps) u w k =
        inserted_all_tight ps (inserted size join u.0 u.1 p.0 p.1) (inserted_slack u.0 u.1 p.0 p.1 w)
        (inserted_tight size join covering laws u.0 (slack_root u.0) u.1 p.0 p.1 (slack_root_some u.0) w k)
