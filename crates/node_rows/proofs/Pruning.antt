-- The rows of a node, from those of its child that has fewer. Assumes nothing.
use Rattle.std.proofs.Common.{◌≡◌, ℕ, suc, List, ◌∷◌, ◌++◌, map, length, sym, ap, ◌∙◌, subst, inl, inr}
use mathlib.Core.List.Permᴰ
use mathlib.Core.List.{Permᴰ}
use Rattle.std.specs.List.{flat_map, AllByRecursion}
use Rattle.std.proofs.ByRecursion.{All-append, All-weaker}
use Rattle.extent.specs.declared.entry.Entry.{Entry}
use Rattle.quadratic.proofs.Perms.{perm_same, perm_all}
use Rattle.guttman.proofs.Lists.{all_both}
use Rattle.node_rows.specs.Rows.{under, used}
use Rattle.node_rows.specs.Nodes.{Off, Distinct, Live}
use Rattle.node_rows.specs.Removal.{Pruned}
use Rattle.node_rows.proofs.Separate.{joined_map, all_unappend, Apart, apart_flip, distinct_parts, distinct_append, perm_distinct}
use Rattle.node_rows.proofs.Frames.{same_seen, under_append, perm_under}
use Rattle.node_rows.proofs.Plans.{still_live}

-- ---- an inner node keeps its entries C; its child d has the rows of rs left, for which it has the entries D

module _ {E : Type 0} (f f₁ f₃ : ℕ → List (Entry E)) (k r : ℕ) (C : List (Entry E)) (d : Entry E) (rs : List ℕ) (D : List (Entry E))
    (was : Permᴰ (f r) (d ∷ C)) (apart : Distinct (used f (suc k) r)) (live : AllByRecursion (Live f) (under f (suc k) (f r)))
    (less : Pruned f f₁ (used f k d.code) (flat_map (used f₁ k) rs)) (lives : AllByRecursion (Live f₁) (flat_map (used f₁ k) rs))
    (code : map (λ x. x.code) D ≡ rs) (laid : Permᴰ (f₃ r) (D ++ C)) (other : (q : ℕ) → (q ≡ r → ⊥) → f₃ q ≡ f₁ q) where
  abbrev own : List ℕ
  own = used f k d.code

  abbrev left : List ℕ
  left = flat_map (used f₁ k) rs

  abbrev theirs : List ℕ
  theirs = under f (suc k) C

  rows_were : Permᴰ (under f (suc k) (f r)) (own ++ theirs)
  rows_were = perm_under f (suc k) was

  parts : (P : ℕ → Type 0) → AllByRecursion P (under f (suc k) (f r)) → AllByRecursion P own × AllByRecursion P theirs
  parts P h = all_unappend P own theirs (perm_all P rows_were h)

  split : Distinct own × Distinct theirs × Apart own theirs
  split = distinct_parts own theirs (perm_distinct rows_were apart.1)

  -- the others' rows are none of the child's, and not the node's
  away : AllByRecursion (λ q. Off q own × (r ≡ q → ⊥)) theirs
  away = all_both (λ q. Off q own) (λ q. r ≡ q → ⊥) theirs (apart_flip own theirs split.2) (parts (λ q. r ≡ q → ⊥) apart.0).1

  pub pruned_still : AllByRecursion (λ q. f₃ q ≡ f q) theirs
  pruned_still = All-weaker (λ q. Off q own × (r ≡ q → ⊥)) (λ q. f₃ q ≡ f q) (λ q a. other q (λ z. a.1 (sym z)) ∙ less.frame q a.0) theirs away

  off_left : Off r left
  off_left = less.fewer r (parts (λ q. r ≡ q → ⊥) apart.0).0

  pub pruned_same : AllByRecursion (λ q. f₃ q ≡ f₁ q) left
  pruned_same = All-weaker (λ q. r ≡ q → ⊥) (λ q. f₃ q ≡ f₁ q) (λ q a. other q (λ z. a (sym z))) left off_left

  under_d : under f₁ (suc k) D ≡ left
  under_d = sym (joined_map (used f₁ k) (λ x. x.code) D) ∙ ap (flat_map (used f₁ k)) code

  pub pruned_d : AllByRecursion (λ q. f₃ q ≡ f₁ q) (under f₁ (suc k) D)
  pruned_d = subst (AllByRecursion (λ q. f₃ q ≡ f₁ q)) (sym under_d) pruned_same

  all_under : Permᴰ (left ++ theirs) (under f₃ (suc k) (f₃ r))
  all_under =
      Permᴰ.trans
      (perm_same (ap (λ z. z ++ theirs) (sym ((same_seen f₁ f₃ (suc k) D pruned_d).1 ∙ under_d)) ∙ ap (λ z. under f₃ (suc k) D ++ z) (sym (same_seen f f₃ (suc k) C pruned_still).1) ∙ sym (under_append f₃ (suc k) D C)))
      (perm_under f₃ (suc k) (Permᴰ.symm laid))

  pub pruned_live : AllByRecursion (Live f₃) (under f₃ (suc k) (f₃ r))
  pruned_live =
      perm_all (Live f₃) all_under
      (All-append (Live f₃) left theirs (still_live f₁ f₃ left pruned_same lives) (still_live f f₃ theirs pruned_still (parts (Live f) live).1))

  pub pruned_inner : Pruned f f₃ (used f (suc k) r) (used f₃ (suc k) r)
  pruned_inner = record {
    frame = λ q o. other q o.0 ∙ less.frame q (parts (λ z. q ≡ z → ⊥) o.1).0;
    fewer = λ q o. let p = parts (λ z. q ≡ z → ⊥) o.1 in
        (o.0, perm_all (λ z. q ≡ z → ⊥) all_under (All-append (λ z. q ≡ z → ⊥) left theirs (less.fewer q p.0) p.1));
    gone = λ q o. let p = all_unappend (λ z. q ≡ z → ⊥) left theirs (perm_all (λ z. q ≡ z → ⊥) (Permᴰ.symm all_under) o.1) in
        elim (less.gone q p.0) [
          | inl a ↦ inl (o.0, perm_all (λ z. q ≡ z → ⊥) (Permᴰ.symm rows_were) (All-append (λ z. q ≡ z → ⊥) own theirs a p.1))
          | inr z ↦ inr (ap length (other q o.0) ∙ z)
        ];
    apart = (
      perm_all (λ z. r ≡ z → ⊥) all_under (All-append (λ z. r ≡ z → ⊥) left theirs off_left (parts (λ q. r ≡ q → ⊥) apart.0).1),
      perm_distinct all_under (distinct_append left theirs less.apart split.1
          (apart_flip theirs left (All-weaker (λ q. Off q own × (r ≡ q → ⊥)) (λ q. Off q left) (λ q a. less.fewer q a.0) theirs away))),
    );
  }
