-- The child of an inner node: where it stands, and which rows are its own. Assumes nothing.
use Rattle.std.proofs.Common.{◌≡◌, ℕ, suc, ◌+◌, ◌*◌, ◌<◌, List, [], ◌∷◌, ◌++◌, length, get_or, take, drop, sym, ap, ◌∙◌, subst, arith}
use mathlib.Core.List.Permᴰ
use mathlib.Core.List.{Permᴰ}
use lib.Seq.{split_at}
use Rattle.std.specs.List.{flat_map, AllByRecursion}
use Rattle.extent.specs.declared.entry.Entry.{Entry}
use Rattle.quadratic.proofs.Perms.{perm_same}
use Rattle.node_rows.specs.Rows.{row, under, used}
use Rattle.node_rows.specs.Nodes.{Ready, Placed, Live, Distinct}
use Rattle.node_rows.proofs.RowSet.{get_or_row, count_row}
use Rattle.node_rows.proofs.Separate.{all_unappend, all_unjoined, distinct_joined}

-- d stands at place i of row `at`, of a node of height h that has nodes of height k below it
pub record Child {E : Type 0} (places : List (Entry E)) (counts : List ℕ) (h k at i : ℕ) (d : Entry E) : Type 0 where
  pub inner : h ≡ suc k
  pub within : i < get_or counts at 0
  pub read : d ≡ get_or places (8 * at + i) d
  pub ready : Ready places counts
  pub placed : Placed (row places counts) h at

module _ {E : Type 0} {places : List (Entry E)} {counts : List ℕ} {h k at i : ℕ} {d : Entry E} (child : Child places counts h k at i d) where
  abbrev f : ℕ → List (Entry E)
  f = row places counts

  pub child_in : i < length (f at)
  child_in = let c = count_row places counts child.ready at child.placed.there in let l = child.within in omega arith

  pub child_is : get_or (f at) i d ≡ d
  child_is = get_or_row places counts at i d child.within ∙ sym child.read

  pub child_split : f at ≡ take i (f at) ++ (d ∷ drop (suc i) (f at))
  child_split = split_at (f at) i d child_in ∙ ap (λ z. take i (f at) ++ (z ∷ drop (suc i) (f at))) child_is

  pub child_perm : Permᴰ (f at) (d ∷ (take i (f at) ++ drop (suc i) (f at)))
  child_perm = Permᴰ.trans (perm_same child_split) (Permᴰ.middle d (take i (f at)) (drop (suc i) (f at)))

  pub child_full : 0 < length (f at)
  child_full = let l = child_in in omega arith

  -- of the node, at the height of its child and one
  pub child_apart : Distinct (used f (suc k) at)
  child_apart = subst (λ n. Distinct (used f n at)) child.inner child.placed.apart

  pub child_live : AllByRecursion (Live f) (under f (suc k) (f at))
  child_live = subst (λ n. AllByRecursion (Live f) (under f n (f at))) child.inner child.placed.live

  -- what holds of each row below the node holds of each that the child takes
  pub child_own : (P : ℕ → Type 0) → AllByRecursion P (under f (suc k) (f at)) → AllByRecursion P (used f k d.code)
  child_own P a =
      let g : Entry E → List ℕ = λ x. used f k x.code in
      (all_unappend (λ x. AllByRecursion P (g x)) (take i (f at)) (d ∷ drop (suc i) (f at))
      (all_unjoined P g (take i (f at) ++ (d ∷ drop (suc i) (f at))) (subst (λ xs. AllByRecursion P (flat_map g xs)) child_split a))).1.0

  pub child_placed : Placed f k d.code
  child_placed =
      let live = child_own (Live f) child_live in
      record {
        there = live.0.0;
        full = λ _. live.0.1;
        live = live.1;
        apart = distinct_joined (λ x. used f k x.code) d (take i (f at)) (drop (suc i) (f at)) (subst (λ xs. Distinct (flat_map (λ x. used f k x.code) xs)) child_split child_apart.1);
      }

-- a row that a tree in use takes is in use
pub live_count : {E : Type 0} {places : List (Entry E)} {counts : List ℕ} (q : ℕ) → Ready places counts → Live (row places counts) q → 0 < get_or counts q 0
live_count {E} {places} {counts} q ready live = let c = count_row places counts ready q live.0 in let l = live.1 in omega arith

pub live_both : {E : Type 0} (f : ℕ → List (Entry E)) (k r s : ℕ) → AllByRecursion (Live f) (flat_map (used f k) (r ∷ s ∷ [])) → Live f r × Live f s
live_both f k r s h = let a = all_unjoined (Live f) (used f k) (r ∷ s ∷ []) h in (a.0.0, a.1.0.0)
