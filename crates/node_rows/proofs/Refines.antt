-- What is inserted into the rows is what is inserted into the tree. Assumes nothing.
use Rattle.std.proofs.Common.{◌≡◌, ℕ, suc, ◌+◌, ◌*◌, ◌/◌, ◌<◌, ◌≤◌, List, [], ◌∷◌, ◌++◌, map, length, get_or, take, drop, set, Some, None, Option, sym, refl, ap, ◌∙◌, subst, arith, length-append, length-set}
use mathlib.Core.List.{Permᴰ}
use lib.ListN.{length-map}
use lib.Seq.{set_split}
use Rattle.std.specs.List.{flat_map, AllByRecursion}
use Rattle.std.proofs.lemmas.List.{append-nil, map-append, get_or-map, take-map, drop-map}
use Rattle.extent.specs.declared.entry.Entry.{Entry}
use Rattle.quadratic.proofs.Perms.{perm_same, map_map}
use Rattle.guttman.specs.Trees.{Tree, One, Two, extents, bound, choose, add, renewed, insert}
use Rattle.guttman.specs.Growth.{flat, mapped}
use Rattle.guttman.proofs.Adding.{add_perm, add_mapped}
use Rattle.node_rows.specs.Rows.{row, below, under, used}
use Rattle.node_rows.specs.Nodes.{extents_in, seen, Off, Ready, Untouched, halves, rows_of, trees_of, Dealt, Kept, Inserted, spare}
use Rattle.node_rows.proofs.RowSet.{row_set_here, row_set_other, set_untouched, count_short}
use Rattle.node_rows.proofs.Separate.{all_unappend}
use Rattle.node_rows.proofs.Frames.{same_seen, under_append}
use Rattle.node_rows.proofs.Plans.{Planned, kept_planned, planned_same, planned_off, planned_leaf, planned_inner, planned_child, still}
use Rattle.node_rows.proofs.Children.{Child, child_in, child_is, child_perm, child_full, child_apart, child_live, child_own}

-- the extent above a node, over the entries of its row
pub bound_seen : {E : Type 0} (size : E → ℕ) (join : E → E → E) (f : ℕ → List (Entry E)) (h q : ℕ) (e : E) → bound size join e (extents_in (f q)) ≡ bound size join e (extents (below f h q))
bound_seen size join f h q e = ap (bound size join e) (sym (map_map (λ p. p.0) (seen f h) (f q)))

-- ---- a row that was dealt out, seen as trees

module _ {E : Type 0} (size : E → ℕ) (join : E → E → E) (g : ℕ → List (Entry E)) (r : ℕ) where
  trees_are : (h : ℕ) (o : Option ℕ) → trees_of g h r o ≡ mapped (seen g h) (rows_of g r o)
  trees_are h None = refl
  trees_are h (Some s) = refl

  flat_rows : (o : Option ℕ) → flat (rows_of g r o) ≡ flat_map g (halves r o)
  flat_rows None = sym (append-nil (g r))
  flat_rows (Some s) = ap (λ z. g r ++ z) (sym (append-nil (g s)))

  dealt_seen : (h : ℕ) (o : Option ℕ) (es : List (Entry E)) (y : Entry E) → rows_of g r o ≡ add size join (λ e. e.extent) es y
      → trees_of g h r o ≡ add size join (λ p. p.0) (map (seen g h) es) (seen g h y)
  dealt_seen h o es y is = trees_are h o ∙ ap (mapped (seen g h)) is ∙ sym (add_mapped size join (λ p. p.0) (seen g h) es y)

  dealt_perm : (o : Option ℕ) (es : List (Entry E)) (y : Entry E) → length es ≤ 8 → rows_of g r o ≡ add size join (λ e. e.extent) es y → Permᴰ (es ++ (y ∷ [])) (flat_map g (halves r o))
  dealt_perm o es y few is = mathlib.Core.List.Permᴰ.trans (mathlib.Core.List.Permᴰ.symm (add_perm size join (λ e. e.extent) es y few)) (perm_same (ap flat (sym is) ∙ flat_rows o))

-- ---- the plan is carried out

-- after an entry was dealt out: the rows are kept, what is below the planned entries is as planned, and a row outside the tree is none of those dealt to, and none below
record Done {E : Type 0} (f f₁ f₂ : ℕ → List (Entry E)) (h r : ℕ) (o : Option ℕ) (L : List (Entry E)) : Type 0 where
  kept : Kept f f₂ h r (halves r o)
  same : AllByRecursion (λ q. f₂ q ≡ f₁ q) (under f₁ h L)
  off : (q : ℕ) → Off q (flat_map (used f₂ h) (halves r o)) → Off q (halves r o) × Off q (under f₁ h L)

done : {E : Type 0} {size : E → ℕ} {join : E → E → E} {places₃ : List (Entry E)} {counts₃ : List ℕ} {places₂ : List (Entry E)} {counts₂ : List ℕ} (f f₁ : ℕ → List (Entry E)) (h r : ℕ) (o : Option ℕ) (y : Entry E)
    → length (row places₃ counts₃ r) ≤ 8 → Planned f f₁ h r (row places₃ counts₃ r ++ (y ∷ [])) → ((q : ℕ) → (q ≡ r → ⊥) → row places₃ counts₃ q ≡ f₁ q)
    → Dealt places₃ counts₃ places₂ counts₂ size join r o y → Done f f₁ (row places₂ counts₂) h r o (row places₃ counts₃ r ++ (y ∷ []))
done {E} {size} {join} {places₃} {counts₃} {places₂} {counts₂} f f₁ h r None y few plan other d =
    let f₃ = row places₃ counts₃ in
    let f₂ = row places₂ counts₂ in
    let L = f₃ r ++ (y ∷ []) in
    let perm = dealt_perm size join f₂ r None (f₃ r) y few d.is in
    record {
      kept = kept_planned f f₁ f₃ f₂ h r [] L plan other perm d.others d.clear d.distinct d.live;
      same = planned_same f f₁ f₃ f₂ h r [] L plan other perm d.others d.clear d.distinct d.live;
      off = planned_off f f₁ f₃ f₂ h r [] L plan other perm d.others d.clear d.distinct d.live;
    }
done {E} {size} {join} {places₃} {counts₃} {places₂} {counts₂} f f₁ h r (Some s) y few plan other d =
    let f₃ = row places₃ counts₃ in
    let f₂ = row places₂ counts₂ in
    let L = f₃ r ++ (y ∷ []) in
    let perm = dealt_perm size join f₂ r (Some s) (f₃ r) y few d.is in
    record {
      kept = kept_planned f f₁ f₃ f₂ h r (s ∷ []) L plan other perm d.others d.clear d.distinct d.live;
      same = planned_same f f₁ f₃ f₂ h r (s ∷ []) L plan other perm d.others d.clear d.distinct d.live;
      off = planned_off f f₁ f₃ f₂ h r (s ∷ []) L plan other perm d.others d.clear d.distinct d.live;
    }

-- ---- a leaf

module _ {E : Type 0} (size : E → ℕ) (join : E → E → E) {places : List (Entry E)} {counts : List ℕ} {places₂ : List (Entry E)} {counts₂ : List ℕ} {r : ℕ} {o : Option ℕ} {y : Entry E}
    (ready : Ready places counts) where
  pub inserted_leaf : (h : ℕ) → h ≡ 0 → Dealt places counts places₂ counts₂ size join r o y → Inserted places counts places₂ counts₂ size join h r o y
  inserted_leaf h z d =
      let f = row places counts in
      let f₂ = row places₂ counts₂ in
      let few : length (f r) ≤ 8 = let c = count_short places counts r in let w = ready.within r in omega arith in
      let D = done f f 0 r o y few (planned_leaf f r (f r ++ (y ∷ []))) (λ q _. refl) d in
      subst (λ n. Inserted places counts places₂ counts₂ size join n r o y) (sym z) (record {
        ready = d.ready;
        spares = let s = d.spares in omega arith;
        is = dealt_seen size join f₂ r 0 o (f r) y d.is;
        kept = D.kept;
        memory = λ p x out. d.memory p x (D.off (p / 8) out).0;
      })

-- ---- an inner node, whose child has grown into the rows rs, and whose entry for the child has a new extent

module _ {E : Type 0} (size : E → ℕ) (join : E → E → E) {places : List (Entry E)} {counts : List ℕ} {h k at i : ℕ} {d : Entry E} (child : Child places counts h k at i d) (y : Entry E)
    (picked : i ≡ choose size join (extents_in (row places counts at)) y.extent) {places₁ : List (Entry E)} {counts₁ : List ℕ} (ready₁ : Ready places₁ counts₁) (rs : List ℕ)
    (grew : Kept (row places counts) (row places₁ counts₁) k d.code rs) (memory₁ : Untouched places places₁ (flat_map (used (row places₁ counts₁) k) rs))
    (x : E) (x-is : x ≡ bound size join y.extent (extents_in (row places₁ counts₁ d.code))) where
  abbrev f : ℕ → List (Entry E)
  f = row places counts

  abbrev A : List (Entry E)
  A = take i (f at)

  abbrev B : List (Entry E)
  B = drop (suc i) (f at)

  abbrev f₁ : ℕ → List (Entry E)
  f₁ = row places₁ counts₁

  abbrev d' : Entry E
  d' = record { extent = x; code = d.code }

  abbrev places₃ : List (Entry E)
  places₃ = set places₁ (8 * at + i) d'

  abbrev f₃ : ℕ → List (Entry E)
  f₃ = row places₃ counts₁

  abbrev t : Tree E (suc k)
  t = below f (suc k) at

  kept_at : f₁ at ≡ f at
  kept_at = grew.frame at (child_own child (λ q. at ≡ q → ⊥) (child_apart child).0) (child_full child)

  chosen₁ : i < get_or counts₁ at 0
  chosen₁ = let l = child_in child in let s = count_short places₁ counts₁ at in let e = ap length kept_at in omega arith

  small : i < 8
  small = let w = child.ready.within at in let l = child.within in omega arith

  row_is : f₃ at ≡ A ++ (d' ∷ B)
  row_is = row_set_here places₁ at i d' small (get_or counts₁ at 0) chosen₁ ∙ ap (λ z. set z i d') kept_at ∙ set_split (f at) i d' (child_in child)

  rows_are : (q : ℕ) → (q ≡ at → ⊥) → f₃ q ≡ f₁ q
  rows_are q ne = row_set_other places₁ at i d' small (get_or counts₁ q 0) q ne (ready₁.within q)

  ready₃ : Ready places₃ counts₁
  ready₃ = record { long = let l = length-set places₁ (8 * at + i) d' in let m = ready₁.long in omega arith; wide = ready₁.wide; within = ready₁.within }

  -- the tree with the new child
  abbrev t' : Tree E (suc k)
  t' = set t i (bound size join y.extent (extents (below f₁ k d.code)), below f₁ k d.code)

  seen_row : (g : ℕ → List (Entry E)) → AllByRecursion (λ q. g q ≡ f₁ q) (under f₁ (suc k) (f₃ at)) → AllByRecursion (λ q. f₁ q ≡ f q) (under f (suc k) (A ++ B)) → map (seen g (suc k)) (f₃ at) ≡ t'
  seen_row g same st =
      let φ = seen f (suc k) in
      let ψ = seen f₁ (suc k) in
      let ab = all_unappend (λ q. f₁ q ≡ f q) (under f (suc k) A) (under f (suc k) B) (subst (AllByRecursion (λ q. f₁ q ≡ f q)) (under_append f (suc k) A B) st) in
      let z : E × Tree E k = (bound size join y.extent (extents (below f₁ k d.code)), below f₁ k d.code) in
      let l : i < length t = let n = length-map (f at) φ in let m = child_in child in omega arith in
      (same_seen f₁ g (suc k) (f₃ at) same).0 ∙ ap (map ψ) row_is ∙ map-append ψ A (d' ∷ B)
      ∙ ap (λ w. w ++ (ψ d' ∷ map ψ B)) (same_seen f f₁ (suc k) A ab.0).0
      ∙ ap (λ w. map φ A ++ (ψ d' ∷ w)) (same_seen f f₁ (suc k) B ab.1).0
      ∙ ap (λ (w : E). map φ A ++ ((w, below f₁ k d.code) ∷ map φ B)) (x-is ∙ bound_seen size join f₁ k d.code y.extent)
      ∙ sym (set_split t i z l ∙ ap (λ w. w ++ (z ∷ drop (suc i) t)) (take-map φ i (f at)) ∙ ap (λ w. map φ A ++ (z ∷ w)) (drop-map φ (suc i) (f at)))

  insert_is : insert size join (suc k) t y.extent y.code ≡ renewed size join t i y.extent (insert size join k (below f k d.code) y.extent y.code)
  insert_is =
      let e = y.extent in
      let pick : choose size join (extents t) e ≡ i = ap (λ xs. choose size join xs e) (map_map (λ p. p.0) (seen f (suc k)) (f at)) ∙ sym picked in
      let there : get_or t i (e, []) ≡ seen f (suc k) d = get_or-map (seen f (suc k)) (f at) i d (e, []) (child_in child) ∙ ap (seen f (suc k)) (child_is child) in
      ap (λ j. renewed size join t j e (insert size join k (get_or t j (e, [])).1 e y.code)) pick
      ∙ ap (λ z. renewed size join t i e (insert size join k z.1 e y.code)) there

  -- a place outside the tree, whose row is none below the entries L
  memory₃ : (D L : List (Entry E)) → map (λ w. w.code) D ≡ rs → Permᴰ L (D ++ (A ++ B)) → (p : ℕ) (z : Entry E) → (p / 8 ≡ at → ⊥) → Off (p / 8) (under f₁ (suc k) L) → get_or places₃ p z ≡ get_or places p z
  memory₃ D L codes laid p z ne o =
      set_untouched places₁ at i d' small p z (ne, tt)
      ∙ memory₁ p z (planned_child f f₁ k at (A ++ B) d rs D L (child_perm child) (child_apart child) (child_full child) (child_live child) grew codes laid (p / 8) o).0

  -- the child was not split
  pub inserted_one : rs ≡ d.code ∷ [] → One (below f₁ k d.code) ≡ insert size join k (below f k d.code) y.extent y.code → spare counts ≤ spare counts₁ + (k + 1)
      → Inserted places counts places₃ counts₁ size join h at None y
  inserted_one z is few =
      let codes : map (λ w. w.code) (d' ∷ []) ≡ rs = sym z in
      let laid : Permᴰ (f₃ at) (d' ∷ (A ++ B)) = mathlib.Core.List.Permᴰ.trans (perm_same row_is) (mathlib.Core.List.Permᴰ.middle d' A B) in
      let plan = planned_inner f f₁ k at (A ++ B) d rs (d' ∷ []) (f₃ at) (child_perm child) (child_apart child) (child_full child) (child_live child) grew codes laid in
      let st = still f f₁ k at (A ++ B) d rs (d' ∷ []) (f₃ at) (child_perm child) (child_apart child) (child_full child) (child_live child) grew codes laid in
      let l : 0 < length (f₃ at) = omega (arith, ap length row_is ∙ length-append A (d' ∷ B)) in
      let perm = perm_same (sym (append-nil (f₃ at))) in
      let there = child.placed.there in
      let same = planned_same f f₁ f₃ f₃ (suc k) at [] (f₃ at) plan rows_are perm (λ q o. refl) (λ q n ne. (ne, tt)) (tt, tt) ((there, l), tt) in
      let off = planned_off f f₁ f₃ f₃ (suc k) at [] (f₃ at) plan rows_are perm (λ q o. refl) (λ q n ne. (ne, tt)) (tt, tt) ((there, l), tt) in
      subst (λ n. Inserted places counts places₃ counts₁ size join n at None y) (sym child.inner) (record {
        ready = ready₃;
        spares = omega arith;
        is = ap One (seen_row f₃ same st) ∙ ap (renewed size join t i y.extent) is ∙ sym insert_is;
        kept = kept_planned f f₁ f₃ f₃ (suc k) at [] (f₃ at) plan rows_are perm (λ q o. refl) (λ q n ne. (ne, tt)) (tt, tt) ((there, l), tt);
        memory = λ p w out. let b = off (p / 8) out in memory₃ (d' ∷ []) (f₃ at) codes laid p w b.0.0 b.1;
      })

  -- the child was split, and the entry for its new row was dealt out
  pub inserted_two : (new : ℕ) (u : E) → rs ≡ d.code ∷ new ∷ [] → u ≡ bound size join y.extent (extents_in (f₁ new))
      → Two (below f₁ k d.code) (below f₁ k new) ≡ insert size join k (below f k d.code) y.extent y.code → spare counts ≤ spare counts₁ + (k + 1)
      → (places₂ : List (Entry E)) (counts₂ : List ℕ) (o : Option ℕ) → Dealt places₃ counts₁ places₂ counts₂ size join at o (record { extent = u; code = new }) → Inserted places counts places₂ counts₂ size join h at o y
  inserted_two new u z u-is is few places₂ counts₂ o dealt =
      let v : Entry E = record { extent = u; code = new } in
      let f₂ = row places₂ counts₂ in
      let codes : map (λ w. w.code) (d' ∷ v ∷ []) ≡ rs = sym z in
      let L : List (Entry E) = f₃ at ++ (v ∷ []) in
      let laid : Permᴰ L (d' ∷ v ∷ (A ++ B)) =
      mathlib.Core.List.Permᴰ.trans (mathlib.Core.List.Permᴰ.append_right (v ∷ []) (mathlib.Core.List.Permᴰ.trans (perm_same row_is) (mathlib.Core.List.Permᴰ.middle d' A B)))
      (mathlib.Core.List.Permᴰ.cons refl (mathlib.Core.List.Permᴰ.trans (mathlib.Core.List.Permᴰ.middle v (A ++ B) []) (mathlib.Core.List.Permᴰ.cons refl (perm_same (append-nil (A ++ B)))))) in
      let plan = planned_inner f f₁ k at (A ++ B) d rs (d' ∷ v ∷ []) L (child_perm child) (child_apart child) (child_full child) (child_live child) grew codes laid in
      let st = still f f₁ k at (A ++ B) d rs (d' ∷ v ∷ []) L (child_perm child) (child_apart child) (child_full child) (child_live child) grew codes laid in
      let short : length (f₃ at) ≤ 8 = let w = ready₁.within at in let c = count_short places₃ counts₁ at in omega arith in
      let D = done f f₁ (suc k) at o v short plan rows_are dealt in
      let ab = all_unappend (λ q. f₂ q ≡ f₁ q) (under f₁ (suc k) (f₃ at)) (under f₁ (suc k) (v ∷ [])) (subst (AllByRecursion (λ q. f₂ q ≡ f₁ q)) (under_append f₁ (suc k) (f₃ at) (v ∷ [])) D.same) in
      let item-is : seen f₂ (suc k) v ≡ (bound size join y.extent (extents (below f₁ k new)), below f₁ k new) =
      ap (λ w. get_or w 0 (seen f₂ (suc k) v)) (same_seen f₁ f₂ (suc k) (v ∷ []) ab.1).0 ∙ ap (λ (w : E). (w, below f₁ k new)) (u-is ∙ bound_seen size join f₁ k new y.extent) in
      subst (λ n. Inserted places counts places₂ counts₂ size join n at o y) (sym child.inner) (record {
        ready = dealt.ready;
        spares = let s = dealt.spares in omega arith;
        is = dealt_seen size join f₂ at (suc k) o (f₃ at) v dealt.is ∙ ap (λ w. add size join (λ p. p.0) w (seen f₂ (suc k) v)) (seen_row f₂ ab.0 st)
            ∙ ap (add size join (λ p. p.0) t') item-is ∙ ap (renewed size join t i y.extent) is ∙ sym insert_is;
        kept = D.kept;
        memory = λ p w out. let b = D.off (p / 8) out in dealt.memory p w b.0 ∙ memory₃ (d' ∷ v ∷ []) L codes laid p w (none o (p / 8) b.0) b.1;
      })
    where
      none : (o : Option ℕ) (q : ℕ) → Off q (halves at o) → q ≡ at → ⊥
      none None q b = b.0
      none (Some s) q b = b.0
