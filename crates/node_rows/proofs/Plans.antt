-- The rows of a node, from those of its child that has grown. Assumes nothing.
use Rattle.std.proofs.Common.{◌≡◌, ℕ, suc, ◌<◌, List, ◌∷◌, ◌++◌, map, length, sym, refl, ap, ◌∙◌, subst}
use mathlib.Core.List.Permᴰ
use mathlib.Core.List.{Permᴰ}
use Rattle.std.specs.List.{flat_map, AllByRecursion}
use Rattle.std.proofs.ByRecursion.{All-append, All-weaker}
use Rattle.extent.specs.declared.entry.Entry.{Entry}
use Rattle.quadratic.proofs.Perms.{perm_same, perm_all}
use Rattle.guttman.proofs.Lists.{all_both}
use Rattle.node_rows.specs.Rows.{under, used}
use Rattle.node_rows.specs.Nodes.{Off, Distinct, Live, Kept}
use Rattle.node_rows.proofs.Separate.{joined_map, all_unappend, Apart, apart_flip, distinct_parts, distinct_append, perm_distinct}
use Rattle.node_rows.proofs.Frames.{same_seen, under_append, perm_under, perm_used}

-- before row r is written: L are the entries that it is to have, or that it is to share with a new row
pub record Planned {E : Type 0} (f f₁ : ℕ → List (Entry E)) (h r : ℕ) (L : List (Entry E)) : Type 0 where
  pub frame : (q : ℕ) → Off q (used f h r) → 0 < length (f q) → f₁ q ≡ f q
  pub off : (q : ℕ) → Off q (used f h r) → 0 < length (f q) → Off q (under f₁ h L)
  pub apart : Distinct (r ∷ under f₁ h L)
  pub live : AllByRecursion (Live f₁) (under f₁ h L)
  pub more : (q : ℕ) → Off q (r ∷ under f₁ h L) → Off q (used f h r)
  pub rest : (q : ℕ) → Off q (r ∷ under f₁ h L) → f₁ q ≡ f q

-- rows that are as they were are in use still
pub still_live : {E : Type 0} (f f' : ℕ → List (Entry E)) (rs : List ℕ) → AllByRecursion (λ q. f' q ≡ f q) rs → AllByRecursion (Live f) rs → AllByRecursion (Live f') rs
still_live f f' rs same live =
    All-weaker (λ q. (f' q ≡ f q) × Live f q) (Live f') (λ q a. (a.1.0, subst (λ z. 0 < length z) (sym a.0) a.1.1)) rs
    (all_both (λ q. f' q ≡ f q) (Live f) rs same live)

-- ---- f₃ is f₁ but for row r; then the entries L were dealt out to r and to rows that were not in use

module _ {E : Type 0} (f f₁ f₃ f₂ : ℕ → List (Entry E)) (h r : ℕ) (new : List ℕ) (L : List (Entry E)) (plan : Planned f f₁ h r L)
    (other : (q : ℕ) → (q ≡ r → ⊥) → f₃ q ≡ f₁ q) (perm : Permᴰ L (flat_map f₂ (r ∷ new))) (others : (q : ℕ) → Off q (r ∷ new) → f₂ q ≡ f₃ q)
    (clear : (q : ℕ) → 0 < length (f₃ q) → (q ≡ r → ⊥) → Off q (r ∷ new)) (distinct : Distinct (r ∷ new)) (live : AllByRecursion (Live f₂) (r ∷ new)) where
  clear_before : (q : ℕ) → 0 < length (f₁ q) → (q ≡ r → ⊥) → Off q (r ∷ new)
  clear_before q n ne = clear q (subst (λ z. 0 < length z) (sym (other q ne)) n) ne

  clear_elsewhere : (q : ℕ) → Off q (used f h r) → 0 < length (f q) → Off q (r ∷ new)
  clear_elsewhere q o n = clear_before q (subst (λ z. 0 < length z) (sym (plan.frame q o n)) n) o.0

  fresh : Apart (r ∷ new) (under f₁ h L)
  fresh =
      apart_flip (under f₁ h L) (r ∷ new) (All-weaker (λ q. Live f₁ q × (r ≡ q → ⊥)) (λ q. Off q (r ∷ new)) (λ q a. clear_before q a.0.1 (λ z. a.1 (sym z))) (under f₁ h L)
      (all_both (Live f₁) (λ q. r ≡ q → ⊥) (under f₁ h L) plan.live plan.apart.0))

  pub planned_same : AllByRecursion (λ q. f₂ q ≡ f₁ q) (under f₁ h L)
  planned_same =
      All-weaker (λ q. Off q (r ∷ new)) (λ q. f₂ q ≡ f₁ q) (λ q o. others q o ∙ other q o.0) (under f₁ h L) (apart_flip (r ∷ new) (under f₁ h L) fresh)

  all_used : Permᴰ ((r ∷ new) ++ under f₁ h L) (flat_map (used f₂ h) (r ∷ new))
  all_used =
      Permᴰ.trans (Permᴰ.append_left (r ∷ new) (Permᴰ.trans (perm_same (sym (same_seen f₁ f₂ h L planned_same).1)) (perm_under f₂ h perm)))
      (perm_used f₂ h (r ∷ new))

  -- a row outside the tree after the deal is none of those dealt to, and none below
  pub planned_off : (q : ℕ) → Off q (flat_map (used f₂ h) (r ∷ new)) → Off q (r ∷ new) × Off q (under f₁ h L)
  planned_off q o = all_unappend (λ k. q ≡ k → ⊥) (r ∷ new) (under f₁ h L) (perm_all (λ k. q ≡ k → ⊥) (Permᴰ.symm all_used) o)

  pub kept_planned : Kept f f₂ h r (r ∷ new)
  kept_planned = record {
    frame = λ q o n. let c = clear_elsewhere q o n in others q c ∙ other q c.0 ∙ plan.frame q o n;
    off = λ q o n. perm_all (λ k. q ≡ k → ⊥) all_used (All-append (λ k. q ≡ k → ⊥) (r ∷ new) (under f₁ h L) (clear_elsewhere q o n) (plan.off q o n));
    apart = perm_distinct all_used (distinct_append (r ∷ new) (under f₁ h L) distinct plan.apart.1 fresh);
    live = perm_all (Live f₂) all_used (All-append (Live f₂) (r ∷ new) (under f₁ h L) live (still_live f₁ f₂ (under f₁ h L) planned_same plan.live));
    more = λ q o. let p = planned_off q o in plan.more q (p.0.0, p.1);
    rest = λ q o. let p = planned_off q o in others q p.0 ∙ other q p.0.0 ∙ plan.rest q (p.0.0, p.1);
  }

pub planned_leaf : {E : Type 0} (f : ℕ → List (Entry E)) (r : ℕ) (L : List (Entry E)) → Planned f f 0 r L
planned_leaf f r L = record { frame = λ q o n. refl; off = λ q o n. tt; apart = (tt, tt); live = tt; more = λ q o. o; rest = λ q o. refl }

-- ---- an inner node keeps its entries C; its child d has grown into the rows rs, for which it has the entries D

module _ {E : Type 0} (f f₁ : ℕ → List (Entry E)) (k r : ℕ) (C : List (Entry E)) (d : Entry E) (rs : List ℕ) (D L : List (Entry E))
    (was : Permᴰ (f r) (d ∷ C)) (apart : Distinct (used f (suc k) r)) (full : 0 < length (f r)) (live : AllByRecursion (Live f) (under f (suc k) (f r)))
    (grew : Kept f f₁ k d.code rs) (code : map (λ x. x.code) D ≡ rs) (laid : Permᴰ L (D ++ C)) where
  rows_were : Permᴰ (under f (suc k) (f r)) (used f k d.code ++ under f (suc k) C)
  rows_were = perm_under f (suc k) was

  parts : (P : ℕ → Type 0) → AllByRecursion P (under f (suc k) (f r)) → AllByRecursion P (used f k d.code) × AllByRecursion P (under f (suc k) C)
  parts P h = all_unappend P (used f k d.code) (under f (suc k) C) (perm_all P rows_were h)

  split : Distinct (used f k d.code) × Distinct (under f (suc k) C) × Apart (used f k d.code) (under f (suc k) C)
  split = distinct_parts (used f k d.code) (under f (suc k) C) (perm_distinct rows_were apart.1)

  -- the others' rows are apart from those of d, and in use
  away : AllByRecursion (λ q. Off q (used f k d.code) × Live f q) (under f (suc k) C)
  away =
      all_both (λ q. Off q (used f k d.code)) (Live f) (under f (suc k) C) (apart_flip (used f k d.code) (under f (suc k) C) split.2)
      (parts (Live f) live).1

  pub still : AllByRecursion (λ q. f₁ q ≡ f q) (under f (suc k) C)
  still = All-weaker (λ q. Off q (used f k d.code) × Live f q) (λ q. f₁ q ≡ f q) (λ q a. grew.frame q a.0 a.1.1) (under f (suc k) C) away

  under_d : under f₁ (suc k) D ≡ flat_map (used f₁ k) rs
  under_d = sym (joined_map (used f₁ k) (λ x. x.code) D) ∙ ap (flat_map (used f₁ k)) code

  all_under : Permᴰ (flat_map (used f₁ k) rs ++ under f (suc k) C) (under f₁ (suc k) L)
  all_under =
      Permᴰ.trans
      (perm_same (ap (λ z. z ++ under f (suc k) C) (sym under_d) ∙ ap (λ z. under f₁ (suc k) D ++ z) (sym (same_seen f f₁ (suc k) C still).1) ∙ sym (under_append f₁ (suc k) D C)))
      (perm_under f₁ (suc k) (Permᴰ.symm laid))

  offs : (q : ℕ) → Off q (under f (suc k) (f r)) → 0 < length (f q) → Off q (under f₁ (suc k) L)
  offs q o n =
      let p = parts (λ z. q ≡ z → ⊥) o in
      perm_all (λ z. q ≡ z → ⊥) all_under (All-append (λ z. q ≡ z → ⊥) (flat_map (used f₁ k) rs) (under f (suc k) C) (grew.off q p.0 n) p.1)

  -- a row that is none of those below the node is none of the child's, and none of the others'
  pub planned_child : (q : ℕ) → Off q (under f₁ (suc k) L) → Off q (flat_map (used f₁ k) rs) × Off q (under f (suc k) C)
  planned_child q o = all_unappend (λ z. q ≡ z → ⊥) (flat_map (used f₁ k) rs) (under f (suc k) C) (perm_all (λ z. q ≡ z → ⊥) (Permᴰ.symm all_under) o)

  pub planned_inner : Planned f f₁ (suc k) r L
  planned_inner = record {
    frame = λ q o n. grew.frame q (parts (λ z. q ≡ z → ⊥) o.1).0 n;
    off = λ q o n. offs q o.1 n;
    apart = (
      offs r apart.0 full,
      perm_distinct all_under (distinct_append (flat_map (used f₁ k) rs) (under f (suc k) C) grew.apart split.1
          (apart_flip (under f (suc k) C) (flat_map (used f₁ k) rs)
          (All-weaker (λ q. Off q (used f k d.code) × Live f q) (λ q. Off q (flat_map (used f₁ k) rs)) (λ q a. grew.off q a.0 a.1.1) (under f (suc k) C) away))),
    );
    live = perm_all (Live f₁) all_under
        (All-append (Live f₁) (flat_map (used f₁ k) rs) (under f (suc k) C) grew.live (still_live f f₁ (under f (suc k) C) still (parts (Live f) live).1));
    more = λ q o. let p = planned_child q o.1 in
        (o.0, perm_all (λ z. q ≡ z → ⊥) (Permᴰ.symm rows_were) (All-append (λ z. q ≡ z → ⊥) (used f k d.code) (under f (suc k) C) (grew.more q p.0) p.1));
    rest = λ q o. grew.rest q (planned_child q o.1).0;
  }
