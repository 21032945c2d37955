-- Pairs are taken down from a tree, and its rows are given up. Assumes nothing.
use Rattle.std.proofs.Common.{◌≡◌, ℕ, suc, ◌+◌, ◌*◌, ◌<◌, ◌≤◌, ◌⊎◌, List, [], ◌∷◌, ◌++◌, map, length, get_or, take, drop, set, sym, refl, ap, ◌∙◌, subst, inl, inr, append_assoc, arith, length-append, take_all, get_or-set_other, get_or-set_same}
use lib.Seq.{split_at}
use Rattle.std.specs.List.{flat_map, AllByRecursion}
use Rattle.std.proofs.lemmas.List.{append-nil, map-append, map_push, take_more, take_more_set}
use Rattle.std.proofs.ByRecursion.{All-append, All-weaker}
use Rattle.std.proofs.lemmas.Bool.{cases_eq}
use Rattle.extent.specs.declared.entry.Entry.{Entry}
use Rattle.quadratic.proofs.Perms.{joined_append}
use Rattle.guttman.specs.Trees.{Tree}
use Rattle.guttman.specs.Shape.{leaves, pairs}
use Rattle.node_rows.specs.Rows.{row, below, under, used}
use Rattle.node_rows.specs.Nodes.{seen, Off, Distinct, Live, Placed}
use Rattle.node_rows.specs.Removal.{as_pair, Freed, Gathered}
use Rattle.node_rows.proofs.RowSet.{count_short}
use Rattle.node_rows.proofs.Separate.{all_unappend, apart_flip, distinct_parts}
use Rattle.node_rows.proofs.Frames.{same_seen, under_append}
use Rattle.node_rows.proofs.Plans.{still_live}
use Rattle.node_rows.proofs.Children.{Child, child_in, child_is, child_split, child_apart, child_placed}

-- ---- rows that are given up

pub freed_none : (c : List ℕ) → Freed c c []
freed_none c = record { gone = λ q. inl tt; rest = λ q o. refl }

pub freed_more : {c c₁ c₂ : List ℕ} (rs ss : List ℕ) → Freed c c₁ rs → Freed c₁ c₂ ss → Freed c c₂ (rs ++ ss)
freed_more rs ss a b = record {
  gone = λ q. elim (b.gone q) [
    | inl o ↦ elim (a.gone q) [ inl p ↦ inl (All-append (λ k. q ≡ k → ⊥) rs ss p o) | inr z ↦ inr (b.rest q o ∙ z) ]
    | inr z ↦ inr z
  ];
  rest = λ q o. let p = all_unappend (λ k. q ≡ k → ⊥) rs ss o in b.rest q p.1 ∙ a.rest q p.0;
}

pub freed_last : {c : List ℕ} (c₁ : List ℕ) (r : ℕ) (rs : List ℕ) → r < length c₁ → Freed c c₁ rs → Freed c (set c₁ r 0) (r ∷ rs)
freed_last c₁ r rs l a = record {
  gone = λ q. elim (cases_eq q r) [
    | inl e ↦ inr (ap (λ k. get_or (set c₁ r 0) k 0) e ∙ get_or-set_same c₁ r 0 0 l)
    | inr ne ↦ elim (a.gone q) [ inl o ↦ inl (ne, o) | inr z ↦ inr (get_or-set_other c₁ r q 0 0 ne ∙ z) ]
  ];
  rest = λ q o. get_or-set_other c₁ r q 0 0 o.0 ∙ a.rest q o.1;
}

module _ {E : Type 0} (places : List (Entry E)) {c c₁ : List ℕ} {rs : List ℕ} (freed : Freed c c₁ rs) where
  pub freed_row : (q : ℕ) → Off q rs → row places c₁ q ≡ row places c q
  freed_row q o = ap (λ n. take n (drop (8 * q) places)) (freed.rest q o)

  pub freed_empty : (q : ℕ) → Off q rs ⊎ (length (row places c₁ q) ≡ 0)
  freed_empty q = elim (freed.gone q) [ inl o ↦ inl o | inr z ↦ inr (let s = count_short places c₁ q in omega arith) ]

-- ---- pairs that are taken down

module _ {E : Type 0} where
  pub gathered_none : (again : List (Entry E)) (n : ℕ) → Gathered again n again n []
  gathered_none again n = record { counted = omega arith; listed = sym (append-nil (map as_pair (take n again))) }

  pub gathered_more : {a a₁ a₂ : List (Entry E)} {n n₁ n₂ : ℕ} {ps qs : List (E × ℕ)} → Gathered a n a₁ n₁ ps → Gathered a₁ n₁ a₂ n₂ qs → Gathered a n a₂ n₂ (ps ++ qs)
  gathered_more {a} {a₁} {a₂} {n} {n₁} {n₂} {ps} {qs} g k = record {
    counted = let x = g.counted in let y = k.counted in let l = length-append ps qs in omega arith;
    listed = k.listed ∙ ap (λ z. z ++ qs) g.listed ∙ append_assoc (map as_pair (take n a)) ps qs;
  }

  pub gathered_one : (again : List (Entry E)) (n : ℕ) (x : Entry E) → n < length again → Gathered again n (set again n x) (n + 1) (as_pair x ∷ [])
  gathered_one again n x l = record { counted = refl; listed = ap (map as_pair) (take_more_set again n x l) ∙ map_push as_pair (take n again) x }

-- ---- the entries of a node, one after the other

-- of the node of height h at `at`, the first i entries were walked: the rows below them are given up, and the pairs below them are taken down
pub record Walked {E : Type 0} (places : List (Entry E)) (counts : List ℕ) (h at : ℕ) (again : List (Entry E)) (n i : ℕ) (counts₁ : List ℕ) (again₁ : List (Entry E)) (n₁ : ℕ) : Type 0 where
  pub freed : Freed counts counts₁ (under (row places counts) h (take i (row places counts at)))
  pub gathered : Gathered again n again₁ n₁ (pairs h (map (seen (row places counts) h) (take i (row places counts at))))

module _ {E : Type 0} (f : ℕ → List (Entry E)) (es : List (Entry E)) (i : ℕ) (d : Entry E) (inside : i < length es) (is : get_or es i d ≡ d) where
  take_next : take (i + 1) es ≡ take i es ++ (d ∷ [])
  take_next = take_more es i d inside ∙ ap (λ z. take i es ++ (z ∷ [])) is

  pairs_next : (h : ℕ) → pairs h (map (seen f h) (take (i + 1) es)) ≡ pairs h (map (seen f h) (take i es)) ++ leaves h (seen f h d)
  pairs_next h =
      ap (λ z. pairs h (map (seen f h) z)) take_next ∙ ap (flat_map (leaves h)) (map-append (seen f h) (take i es) (d ∷ []))
      ∙ joined_append (leaves h) (map (seen f h) (take i es)) (seen f h d ∷ []) ∙ ap (λ z. pairs h (map (seen f h) (take i es)) ++ z) (append-nil (leaves h (seen f h d)))

  under_next : (k : ℕ) → under f (suc k) (take (i + 1) es) ≡ under f (suc k) (take i es) ++ used f k d.code
  under_next k =
      ap (under f (suc k)) take_next ∙ under_append f (suc k) (take i es) (d ∷ [])
      ∙ ap (λ z. under f (suc k) (take i es) ++ z) (append-nil (used f k d.code))

  -- there is room for the pairs of the next entry where there is for all
  pub pairs_room : (h : ℕ) → length (pairs h (map (seen f h) (take i es))) + length (leaves h (seen f h d)) ≤ length (pairs h (map (seen f h) es))
  pairs_room h =
      let φ = seen f h in
      let A = map φ (take i es) in
      let B = map φ (drop (suc i) es) in
      let e : pairs h (map φ es) ≡ pairs h A ++ (leaves h (φ d) ++ pairs h B) =
      ap (λ z. pairs h (map φ z)) (split_at es i d inside ∙ ap (λ z. take i es ++ (z ∷ drop (suc i) es)) is)
      ∙ ap (flat_map (leaves h)) (map-append φ (take i es) (d ∷ drop (suc i) es)) ∙ joined_append (leaves h) A (φ d ∷ B) in
      let l = ap length e ∙ length-append (pairs h A) (leaves h (φ d) ++ pairs h B) in
      let m = length-append (leaves h (φ d)) (pairs h B) in
      omega arith

module _ {E : Type 0} (places : List (Entry E)) (counts : List ℕ) where
  abbrev f : ℕ → List (Entry E)
  f = row places counts

  pub walked_none : (h at : ℕ) (again : List (Entry E)) (n : ℕ) → Walked places counts h at again n 0 counts again n
  walked_none h at again n = record { freed = subst (Freed counts counts) (sym (none h)) (freed_none counts); gathered = gathered_none again n }
    where
      none : (h : ℕ) → under f h [] ≡ []
      none ℕ.zero = refl
      none (suc h) = refl

  pub walked_leaf : (h at : ℕ) (again : List (Entry E)) (n i : ℕ) (counts₁ : List ℕ) (again₁ : List (Entry E)) (n₁ : ℕ) (d : Entry E) → h ≡ 0 → i < length (f at) → get_or (f at) i d ≡ d → n₁ < length again₁
      → Walked places counts h at again n i counts₁ again₁ n₁ → Walked places counts h at again n (i + 1) counts₁ (set again₁ n₁ d) (n₁ + 1)
  walked_leaf h at again n i counts₁ again₁ n₁ d z inside is room =
      subst (λ m. Walked places counts m at again n i counts₁ again₁ n₁ → Walked places counts m at again n (i + 1) counts₁ (set again₁ n₁ d) (n₁ + 1)) (sym z)
      (λ w. record {
        freed = w.freed;
        gathered = subst (Gathered again n (set again₁ n₁ d) (n₁ + 1)) (sym (pairs_next f (f at) i d inside is 0)) (gathered_more w.gathered (gathered_one again₁ n₁ d room));
      })

  -- there is room for the pair of the next entry of a leaf
  pub walked_leaf_room : (h at : ℕ) (again : List (Entry E)) (n i : ℕ) (counts₁ : List ℕ) (again₁ : List (Entry E)) (n₁ m : ℕ) (d : Entry E) → h ≡ 0 → i < length (f at) → get_or (f at) i d ≡ d
      → Walked places counts h at again n i counts₁ again₁ n₁ → n + length (pairs h (below f h at)) ≤ m → n₁ < m
  walked_leaf_room h at again n i counts₁ again₁ n₁ m d z inside is =
      subst (λ k. Walked places counts k at again n i counts₁ again₁ n₁ → n + length (pairs k (below f k at)) ≤ m → n₁ < m) (sym z)
      (λ w few. let c = w.gathered.counted in let r = pairs_room f (f at) i d inside is 0 in omega arith)

  pub walked_all : (h at : ℕ) (again : List (Entry E)) (n i : ℕ) (counts₁ : List ℕ) (again₁ : List (Entry E)) (n₁ : ℕ) → length (f at) ≤ i → at < length counts₁ → Walked places counts h at again n i counts₁ again₁ n₁
      → Freed counts (set counts₁ at 0) (used f h at) × Gathered again n again₁ n₁ (pairs h (below f h at))
  walked_all h at again n i counts₁ again₁ n₁ whole there w =
      let e = take_all i (f at) whole in (
        freed_last counts₁ at (under f h (f at)) there (subst (λ z. Freed counts counts₁ (under f h z)) e w.freed),
        subst (λ z. Gathered again n again₁ n₁ (pairs h (map (seen f h) z))) e w.gathered,
      )

-- ---- below an entry of an inner node

module _ {E : Type 0} {places : List (Entry E)} {counts : List ℕ} {h k at i : ℕ} {d : Entry E} (child : Child places counts h k at i d)
    {again : List (Entry E)} {n : ℕ} {counts₁ : List ℕ} {again₁ : List (Entry E)} {n₁ : ℕ} (w : Walked places counts h at again n i counts₁ again₁ n₁) where
  abbrev g : ℕ → List (Entry E)
  g = row places counts

  abbrev g₁ : ℕ → List (Entry E)
  g₁ = row places counts₁

  -- the rows of the child are as they were
  child_same : AllByRecursion (λ q. g₁ q ≡ g q) (used g k d.code)
  child_same =
      let before = under g (suc k) (take i (g at)) in
      let behind = under g (suc k) (drop (suc i) (g at)) in
      let own = used g k d.code in
      let e : under g (suc k) (g at) ≡ before ++ (own ++ behind) = ap (under g (suc k)) (child_split child) ∙ under_append g (suc k) (take i (g at)) (d ∷ drop (suc i) (g at)) in
      let apart = (distinct_parts before (own ++ behind) (subst Distinct e (child_apart child).1)).2 in
      let off = (all_unappend (λ q. Off q before) own behind (apart_flip before (own ++ behind) apart)).0 in
      let freed : Freed counts counts₁ before = subst (λ m. Freed counts counts₁ (under g m (take i (g at)))) child.inner w.freed in
      All-weaker (λ q. Off q before) (λ q. g₁ q ≡ g q) (λ q o. freed_row places freed q o) own off

  pub walked_used : used g₁ k d.code ≡ used g k d.code
  walked_used = ap (λ z. d.code ∷ z) (ap (under g₁ k) child_same.0 ∙ (same_seen g g₁ k (g d.code) child_same.1).1)

  pub walked_below : below g₁ k d.code ≡ below g k d.code
  walked_below = ap (map (seen g₁ k)) child_same.0 ∙ (same_seen g g₁ k (g d.code) child_same.1).0

  pub walked_placed : Placed g₁ k d.code
  walked_placed =
      let p = child_placed child in
      record {
        there = p.there;
        full = λ z. subst (λ es. 0 < length es) (sym child_same.0) (p.full z);
        live = subst (AllByRecursion (Live g₁)) (sym (ap (under g₁ k) child_same.0 ∙ (same_seen g g₁ k (g d.code) child_same.1).1)) (still_live g g₁ (under g k (g d.code)) child_same.1 p.live);
        apart = subst Distinct (sym walked_used) p.apart;
      }

  pub walked_inner : {counts₂ : List ℕ} {again₂ : List (Entry E)} {n₂ : ℕ} → Freed counts₁ counts₂ (used g₁ k d.code) → Gathered again₁ n₁ again₂ n₂ (pairs k (below g₁ k d.code))
      → Walked places counts h at again n (i + 1) counts₂ again₂ n₂
  walked_inner {counts₂} {again₂} {n₂} freed gathered =
      let before = take i (g at) in
      let wf : Freed counts counts₁ (under g (suc k) before) = subst (λ m. Freed counts counts₁ (under g m before)) child.inner w.freed in
      let wg : Gathered again n again₁ n₁ (pairs (suc k) (map (seen g (suc k)) before)) = subst (λ m. Gathered again n again₁ n₁ (pairs m (map (seen g m) before))) child.inner w.gathered in
      subst (λ m. Walked places counts m at again n (i + 1) counts₂ again₂ n₂) (sym child.inner) (record {
        freed = subst (Freed counts counts₂) (sym (under_next g (g at) i d (child_in child) (child_is child) k))
            (freed_more (under g (suc k) before) (used g k d.code) wf (subst (Freed counts₁ counts₂) walked_used freed));
        gathered = subst (Gathered again n again₂ n₂) (sym (pairs_next g (g at) i d (child_in child) (child_is child) (suc k)))
            (gathered_more wg (subst (λ t. Gathered again₁ n₁ again₂ n₂ (pairs k t)) walked_below gathered));
      })

  -- there is room for the pairs below the child
  pub walked_room : n + length (pairs h (below g h at)) ≤ length again₁ → n₁ + length (pairs k (below g₁ k d.code)) ≤ length again₁
  walked_room few =
      let wg : Gathered again n again₁ n₁ (pairs (suc k) (map (seen g (suc k)) (take i (g at)))) = subst (λ m. Gathered again n again₁ n₁ (pairs m (map (seen g m) (take i (g at))))) child.inner w.gathered in
      let r = pairs_room g (g at) i d (child_in child) (child_is child) (suc k) in
      let all : n + length (pairs (suc k) (below g (suc k) at)) ≤ length again₁ = subst (λ m. n + length (pairs m (below g m at)) ≤ length again₁) child.inner few in
      let e = ap (λ (t : Tree E k). length (pairs k t)) walked_below in
      let c = wg.counted in
      omega arith
