-- After a pair was cut out below an entry: how much is left of the entry's node, and what was taken down. Assumes nothing.
use Rattle.std.proofs.Common.{◌≡◌, ℕ, suc, ◌+◌, ◌-◌, ◌<◌, ◌≤◌, Bool, true, List, length, get_or, sym, ap, ◌∙◌, subst, arith, length-append}
use lib.ListN.{length-map}
use Rattle.std.specs.List.{AllByRecursion}
use Rattle.std.proofs.lemmas.List.{get_or-map}
use Rattle.std.proofs.ByRecursion.{All-get_or}
use Rattle.extent.specs.declared.entry.Entry.{Entry}
use Rattle.guttman.specs.Trees.{Tree}
use Rattle.guttman.specs.Shape.{Filled, Shaped, pairs}
use Rattle.guttman.specs.Laws.{Joining}
use Rattle.guttman.specs.Deletion.{loose_pairs, CutOut}
use Rattle.guttman.proofs.Lists.{perm_length}
use Rattle.guttman.proofs.Losing.{cut_pairs}
use Rattle.guttman.proofs.Remaining.{cut_shaped}
use Rattle.guttman.proofs.Cutting.{cut_cuts}
use Rattle.node_rows.specs.Rows.{row, below, used}
use Rattle.node_rows.specs.Nodes.{seen, Off, Placed}
use Rattle.node_rows.specs.Removal.{WasCut}
use Rattle.node_rows.proofs.RowSet.{count_short}
use Rattle.node_rows.proofs.Children.{Child, child_in, child_is, child_apart, child_own, child_placed}
use Rattle.node_rows.proofs.Gathering.{pairs_room}

-- ---- what is below an entry of an inner node

module _ {E : Type 0} {places : List (Entry E)} {counts : List ℕ} {h k at i : ℕ} {d : Entry E} (child : Child places counts h k at i d) where
  abbrev f : ℕ → List (Entry E)
  f = row places counts

  pub child_filled : AllByRecursion (Filled h) (below f h at) → Shaped 3 k (below f k d.code)
  child_filled all =
      let φ = seen f (suc k) in
      let each : AllByRecursion (Filled (suc k)) (below f (suc k) at) = subst (λ m. AllByRecursion (Filled m) (below f m at)) child.inner all in
      subst (Filled (suc k)) (get_or-map φ (f at) i d (φ d) (child_in child) ∙ ap φ (child_is child))
      (All-get_or (Filled (suc k)) (below f (suc k) at) i (φ d) (let l = length-map (f at) φ in let s = child_in child in omega arith) each)

  pub child_pairs : length (pairs k (below f k d.code)) ≤ length (pairs h (below f h at))
  child_pairs =
      subst (λ m. length (pairs k (below f k d.code)) ≤ length (pairs m (below f m at))) (sym child.inner)
      (let r = pairs_room f (f at) i d (child_in child) (child_is child) (suc k) in omega arith)

-- ---- what was cut out, and what is left

module _ {E : Type 0} (size : E → ℕ) (join : E → E → E) (covering : E → E → Bool) (laws : Joining join covering)
    (antisymmetric : (a b : E) → covering a b ≡ true → covering b a ≡ true → a ≡ b) (e : E) (c : ℕ)
    {places : List (Entry E)} {counts : List ℕ} {places₁ : List (Entry E)} {counts₁ : List ℕ} {k r : ℕ} {again : List (Entry E)} {n : ℕ}
    (w : WasCut places counts places₁ counts₁ size join covering e c k r again n) where
  abbrev was : Tree E k
  was = below (row places counts) k r

  abbrev is_now : Tree E k
  is_now = below (row places₁ counts₁) k r

  pub was_cut_cut : CutOut covering e c k was w.left.0 w.left.1
  was_cut_cut = cut_cuts size join covering laws antisymmetric e c k was w.left w.is

  pub was_cut_pairs : n + length (pairs k is_now) + 1 ≡ length (pairs k was)
  was_cut_pairs =
      let s = w.left.0 in
      let o = w.left.1 in
      let p = perm_length (cut_pairs covering e c k was s o was_cut_cut) in
      let l = length-append (pairs k s) (loose_pairs o) in
      let m = w.many in
      let z = ap (λ (t : Tree E k). length (pairs k t)) w.out.is in
      omega arith

  pub was_cut_long : (low : ℕ) → Shaped low k was → low - 1 ≤ length (row places₁ counts₁ r)
  was_cut_long low shape =
      let a = (cut_shaped covering e c k low was w.left.0 w.left.1 was_cut_cut shape).0.0.0 in
      let z = ap length w.out.is in
      let l = length-map (row places₁ counts₁ r) (seen (row places₁ counts₁) k) in
      omega arith

-- ---- before the entry is settled

module _ {E : Type 0} (size : E → ℕ) (join : E → E → E) (covering : E → E → Bool) (e : E) (c : ℕ) {places : List (Entry E)} {counts : List ℕ} {h k at i : ℕ} {d : Entry E} (child : Child places counts h k at i d)
    {places₁ : List (Entry E)} {counts₁ : List ℕ} {again : List (Entry E)} {n : ℕ} (w : WasCut places counts places₁ counts₁ size join covering e c k d.code again n) where
  abbrev f₀ : ℕ → List (Entry E)
  f₀ = row places counts

  at_off : Off at (used f₀ k d.code)
  at_off = child_own child (λ q. at ≡ q → ⊥) (child_apart child).0

  pub settle_inside : i < get_or counts₁ at 0
  settle_inside = let l = child_in child in let s = count_short places₁ counts₁ at in let z = ap length (w.out.pruned.frame at at_off) in omega arith

  pub settle_off : Off at (used (row places₁ counts₁) k d.code)
  settle_off = w.out.pruned.fewer at at_off

  pub settle_placed : 0 < length (row places₁ counts₁ d.code) → Placed (row places₁ counts₁) k d.code
  settle_placed full = record { there = (child_placed child).there; full = λ _. full; live = w.out.live; apart = w.out.pruned.apart }
