-- A tree in rows, call after call: there is always a row left, and an insertion leaves such a tree. Assumes nothing.
use Rattle.std.proofs.Common.{◌≡◌, ℕ, zero, suc, ◌+◌, ◌<◌, ◌≤◌, Bool, List, [], ◌∷◌, length, get_or, sym, refl, ap, ◌∙◌, subst, inl, inr, arith}
use mathlib.Core.List.{Permᴰ}
use mathlib.Core.Logic.{∥∥₁_elim}
use native.Mathlib.Bridge.{le_prop}
use native.Mathlib.Nat.{ℕ_set}
use std.HLevel.{¬_prop}
use Rattle.std.specs.List.{AllByRecursion}
use Rattle.std.proofs.lemmas.List.{get_or_past}
use Rattle.std.proofs.lemmas.Bool.{cases_lt}
use Rattle.extent.specs.declared.entry.Entry.{Entry}
use Rattle.guttman.specs.Trees.{Item, Tree}
use Rattle.guttman.specs.Shape.{Filled, Shaped, Tight, slack_root, pairs}
use Rattle.guttman.specs.Laws.{Joining}
use Rattle.guttman.proofs.Lists.{perm_length}
use Rattle.guttman.proofs.Counting.{nodes_slack_pairs, six_deep}
use Rattle.guttman.proofs.Gaining.{inserted_pairs}
use Rattle.guttman.proofs.Shaping.{low_some, inserted_shaped}
use Rattle.guttman.proofs.Tightening.{inserted_tight}
use Rattle.node_rows.specs.Rows.{row, below, under, used}
use Rattle.node_rows.specs.Nodes.{Off, Distinct, Live, Ready, Placed, Standing, Added, spare}
use Rattle.node_rows.proofs.RowSet.{count_row}
use Rattle.node_rows.proofs.Spares.{spare_outside}
use Rattle.node_rows.proofs.Frames.{length_used}

-- ---- what such a tree states has one proof at most, so it comes out of a truncation

all_prop : {X : Type 0} (P : X → Type 0) → ((x : X) → IsProp (P x)) → (xs : List X) → IsProp (AllByRecursion P xs)
all_prop P one [] p q = refl
all_prop P one (x ∷ xs) p q = λ i. (one x p.0 q.0 i, all_prop P one xs p.1 q.1 i)

distinct_prop : (rs : List ℕ) → IsProp (Distinct rs)
distinct_prop [] p q = refl
distinct_prop (r ∷ rs) p q = λ i. (all_prop (λ k. r ≡ k → ⊥) (λ k. ¬_prop) rs p.0 q.0 i, distinct_prop rs p.1 q.1 i)

filled_prop : {E : Type 0} (h : ℕ) (p : E × Item E h) → IsProp (Filled h p)
filled_prop zero p a b = refl
filled_prop (suc h) p a b = λ i. ((le_prop a.0.0 b.0.0 i, le_prop a.0.1 b.0.1 i), all_prop (Filled h) (filled_prop h) p.1 a.1 b.1 i)

placed_prop : {E : Type 0} (f : ℕ → List (Entry E)) (h r : ℕ) → IsProp (Placed f h r)
placed_prop f h r a b = λ i. record {
  there = le_prop a.there b.there i;
  full = λ n. le_prop (a.full n) (b.full n) i;
  live = all_prop (Live f) (λ q x y j. (le_prop x.0 y.0 j, le_prop x.1 y.1 j)) (under f h (f r)) a.live b.live i;
  apart = distinct_prop (used f h r) a.apart b.apart i;
}

standing_prop : {E : Type 0} (low : ℕ → ℕ) (f : ℕ → List (Entry E)) (h r n : ℕ) → IsProp (Standing low f h r n)
standing_prop low f h r n a b = λ i. record {
  placed = placed_prop f h r a.placed b.placed i;
  shape = ((le_prop a.shape.0.0 b.shape.0.0 i, le_prop a.shape.0.1 b.shape.0.1 i), all_prop (Filled h) (filled_prop h) (below f h r) a.shape.1 b.shape.1 i);
  count = ℕ_set n (length (pairs h (below f h r))) a.count b.count i;
  few = le_prop a.few b.few i;
  clear = λ q o. ℕ_set (length (f q)) 0 (a.clear q o) (b.clear q o) i;
}

pub standing_out : {E : Type 0} {low : ℕ → ℕ} {f : ℕ → List (Entry E)} {h r n : ℕ} → ∥ Standing low f h r n ∥₁ → Standing low f h r n
standing_out {E} {low} {f} {h} {r} {n} z = ∥∥₁_elim z (standing_prop low f h r n) (λ s. s)

-- ---- a new tree

pub standing_new : {E : Type 0} (low : ℕ → ℕ) (f : ℕ → List (Entry E)) → low 0 ≡ 0 → ((q : ℕ) → f q ≡ []) → Standing low f 0 0 0
standing_new low f none empty =
    let e = empty 0 in
    let l = ap length e in
    record {
      placed = record { there = omega arith; full = λ z. absurd (omega arith); live = tt; apart = (tt, tt) };
      shape = subst (λ es. Shaped (low 0) 0 (below (λ q. es) 0 0)) (sym e) ((omega arith, omega arith), tt);
      count = sym (ap (λ es. length (pairs 0 (below (λ q. es) 0 0))) e);
      few = omega arith;
      clear = λ q o. ap length (empty q);
    }

-- ---- a row is left

module _ (low : ℕ → ℕ) (some : (h : ℕ) → 0 < low (suc h)) where
  slack : (h : ℕ) → slack_root h ≤ low h
  slack zero = omega arith
  slack (suc h) = some h

  pub standing_room : {E : Type 0} {places : List (Entry E)} {counts : List ℕ} {h r n : ℕ} → Ready places counts → Standing low (row places counts) h r n → (h ≤ 5) × (h + 1 < spare counts)
  standing_room {E} {places} {counts} {h} {r} {n} ready s =
      let f = row places counts in
      let t = below f h r in
      let a = s.shape.0.0 in
      let b = slack h in
      let c = s.count in
      let m = s.few in
      let w : Shaped (slack_root h) h t = ((omega arith, s.shape.0.1), s.shape.1) in
      let deep = six_deep h t w (omega arith) in
      let half = nodes_slack_pairs h t w in
      let none : (q : ℕ) → Off q (used f h r) → get_or counts q 0 ≡ 0 = λ q o. elim (cases_lt q 256) [
        | inl l ↦ count_row places counts ready q l ∙ s.clear q o
        | inr l ↦ get_or_past counts q 0 (let z = ready.wide in omega arith)
      ] in
      let left = spare_outside (used f h r) counts none in
      let rows = length_used f h r in
      let z = ready.wide in
      (deep, omega arith)

-- ---- after an insertion

module _ {E : Type 0} (size : E → ℕ) (join : E → E → E) (low : ℕ → ℕ) (some : (h : ℕ) → 0 < low (suc h)) (two : (h : ℕ) → low (suc h) ≤ 2)
    {places : List (Entry E)} {counts : List ℕ} {places' : List (Entry E)} {counts' : List ℕ} {h r h' r' n : ℕ} {y : Entry E}
    (before : Standing low (row places counts) h r n) (added : Added places counts places' counts' size join h r h' r' y) where
  abbrev t : Tree E h
  t = below (row places counts) h r

  abbrev t' : Tree E h'
  t' = below (row places' counts') h' r'

  pub added_pairs : Permᴰ (pairs h' t') ((y.extent, y.code) ∷ pairs h t)
  added_pairs =
      subst (λ (z : (k : ℕ) × Tree E k). Permᴰ (pairs z.0 z.1) ((y.extent, y.code) ∷ pairs h t)) (sym added.is)
      (inserted_pairs size join h (low h) t y.extent y.code (low_some low some h) before.shape)

  pub added_tight : (covering : E → E → Bool) → Joining join covering → Tight covering h t → Tight covering h' t'
  added_tight covering laws k =
      subst (λ (z : (k : ℕ) × Tree E k). Tight covering z.0 z.1) (sym added.is)
      (inserted_tight size join covering laws h (low h) t y.extent y.code (low_some low some h) before.shape k)

  pub standing_added : n < 256 → Standing low (row places' counts') h' r' (n + 1)
  standing_added room = record {
    placed = record { there = added.live.0.0; full = λ _. added.live.0.1; live = added.live.1; apart = added.apart };
    shape = subst (λ (z : (k : ℕ) × Tree E k). Shaped (low z.0) z.0 z.1) (sym added.is) (inserted_shaped size join low some two h t y.extent y.code before.shape);
    count = let p = perm_length added_pairs in let c = before.count in omega arith;
    few = omega arith;
    clear = λ q o. ap length (added.rest q o) ∙ before.clear q (added.more q o);
  }
