-- What is cut out of the rows is what is cut out of the tree. Assumes nothing.
use Rattle.std.proofs.Common.{◌≡◌, ℕ, suc, ◌+◌, ◌-◌, ◌*◌, ◌/◌, ◌<◌, ◌≤◌, Bool, true, cond, not, List, [], ◌∷◌, ◌++◌, map, length, get_or, take, drop, set, Some, None, Option, sym, refl, ap, ◌∙◌, subst, inl, inr, arith, length-append, length-set, length-take, get_or-set_other, get_or-take, get_or-set_same, take-take}
use mathlib.Core.List.{Permᴰ}
use lib.ListN.{length-map}
use lib.Seq.{drop-set-add, take-set-lt, set_split}
use Rattle.std.specs.List.{flat_map, AllByRecursion}
use Rattle.std.proofs.lemmas.List.{append-nil, map-append, get_or-map, take-map, drop-map}
use Rattle.std.proofs.ByRecursion.{All-get_or, All-map}
use Rattle.std.proofs.lemmas.Bool.{lt-ltb, le-ltb}
use Rattle.extent.specs.declared.entry.Entry.{Entry}
use Rattle.quadratic.proofs.Perms.{perm_same, joined_append}
use Rattle.guttman.specs.Trees.{Item, Tree, extents, bound}
use Rattle.guttman.specs.Shape.{pairs}
use Rattle.guttman.specs.Deletion.{Loose, loose_pairs}
use Rattle.guttman.specs.Cutting.{without, Remains, is_pair, cut, cut_at, cut_inner, cut_leaf}
use Rattle.guttman.proofs.Leaving.{perm_without, without_is, without_map, leading_map, first_some_found, first_some_missed}
use Rattle.node_rows.specs.Rows.{row, below, under, used}
use Rattle.node_rows.specs.Nodes.{seen, Off, Live, Ready}
use Rattle.node_rows.specs.Removal.{as_pair, before_pair, Gathered, Pruned, TakenOut, Dropped, Stayed, WasCut}
use Rattle.node_rows.proofs.RowSet.{row_set_here, row_set_other, set_untouched, row_count, get_or_row, count_row, count_short}
use Rattle.node_rows.proofs.Separate.{all_unappend}
use Rattle.node_rows.proofs.Frames.{same_seen, under_append}
use Rattle.node_rows.proofs.Children.{Child, child_in, child_is, child_perm, child_apart, child_live, child_own}
use Rattle.node_rows.proofs.Refines.{bound_seen}
use Rattle.node_rows.proofs.Gathering.{freed_row, freed_empty}
use Rattle.node_rows.proofs.Pruning.{pruned_inner, pruned_live, pruned_still, pruned_d}

-- ---- an entry leaves a row

module _ {E : Type 0} (places : List (Entry E)) (counts : List ℕ) (at i last : ℕ) (x : Entry E) (ready : Ready places counts) (there : at < 256) (inside : i < get_or counts at 0)
    (last-is : last + 1 ≡ get_or counts at 0) (x-is : x ≡ get_or places (8 * at + last) x) where
  abbrev n : ℕ
  n = get_or counts at 0

  small : i < 8
  small = let w = ready.within at in omega arith

  abbrev wrote : List (Entry E)
  wrote = set places (8 * at + i) x

  pub taken_out : TakenOut places counts wrote (set counts at last) at i
  taken_out =
      let xs = row places counts at in
      let l = drop (8 * at) places in
      let w = ready.within at in
      let wide : at < length counts = let z = ready.wide in omega arith in
      let long : length xs - 1 ≡ last = let z = count_row places counts ready at there in omega arith in
      let top : get_or xs last x ≡ x = get_or_row places counts at last x (omega arith) ∙ sym x-is in
      record {
        ready = record {
          long = let z = length-set places (8 * at + i) x in let m = ready.long in omega arith;
          wide = length-set counts at last ∙ ready.wide;
          within = row_count counts at last wide (omega arith) ready.within;
        };
        here =
            ap (λ m. take m (drop (8 * at) wrote)) (get_or-set_same counts at last 0 wide) ∙ ap (take last) (drop-set-add (8 * at) places i x)
            ∙ sym (take-take last n (set l i x) (omega arith)) ∙ ap (take last) (take-set-lt n l i x inside)
            ∙ ap (λ z. take last (set xs i z)) (sym top) ∙ ap (λ m. take m (set xs i (get_or xs m x))) (sym long) ∙ sym (without_is xs i x);
        others = λ q ne. ap (λ m. take m (drop (8 * q) wrote)) (get_or-set_other counts at q last 0 ne) ∙ row_set_other places at i x small (get_or counts q 0) q ne (ready.within q);
        memory = set_untouched places at i x small;
      }

-- ---- a leaf

module _ {E : Type 0} (size : E → ℕ) (join : E → E → E) (covering : E → E → Bool) (e : E) (c : ℕ) where
  abbrev first : List (Entry E) → ℕ
  first es = before_pair covering e c es

  module _ (places : List (Entry E)) (counts : List ℕ) (h r : ℕ) (z : h ≡ 0) where
    leaf_cut : cut size join covering e c 0 (below (row places counts) 0 r) ≡ cut_leaf (below (row places counts) 0 r) (first (row places counts r))
    leaf_cut = ap (cut_leaf (below (row places counts) 0 r)) (leading_map (λ p. not (is_pair covering e c p)) as_pair (row places counts r))

    pub cut_leaf_none : length (row places counts r) ≤ first (row places counts r) → cut size join covering e c h (below (row places counts) h r) ≡ None
    cut_leaf_none l =
        subst (λ m. cut size join covering e c m (below (row places counts) m r) ≡ None) (sym z)
        (leaf_cut ∙ ap (λ b. cond b (Some (without (below (row places counts) 0 r) (first (row places counts r)), [])) None)
        (le-ltb (first (row places counts r)) (length (below (row places counts) 0 r)) (let m = length-map (row places counts r) as_pair in omega arith)))

    pub was_cut_leaf : {places' : List (Entry E)} {counts' : List ℕ} (i : ℕ) (again : List (Entry E)) → i ≡ first (row places counts r) → i < length (row places counts r)
        → TakenOut places counts places' counts' r i → WasCut places counts places' counts' size join covering e c h r again 0
    was_cut_leaf {places'} {counts'} i again i-is l taken =
        let f = row places counts in
        let t = below f 0 r in
        subst (λ m. WasCut places counts places' counts' size join covering e c m r again 0) (sym z) (record {
          left = (without t i, []);
          is = leaf_cut ∙ ap (cut_leaf t) (sym i-is)
              ∙ ap (λ b. cond b (Some (without t i, [])) None) (lt-ltb i (length t) (let m = length-map (f r) as_pair in omega arith));
          out = record {
            ready = taken.ready;
            is = ap (map as_pair) taken.here ∙ sym (without_map as_pair (f r) i);
            pruned = record { frame = λ q o. taken.others q o.0; fewer = λ q o. o; gone = λ q o. inl o; apart = (tt, tt) };
            live = tt;
            memory = taken.memory;
          };
          listed = refl;
          many = refl;
        })

  -- ---- below an entry of an inner node

  -- what is found below an entry
  abbrev pub sought : (ℕ → List (Entry E)) → (k : ℕ) → Entry E → Option (Remains E k)
  sought f k x = cond (covering x.extent e) (cut size join covering e c k (below f k x.code)) None

  module _ (f : ℕ → List (Entry E)) (k at : ℕ) where
    abbrev here : E × Item E (suc k) → Option (Remains E k)
    here p = cond (covering p.0 e) (cut size join covering e c k p.1) None

    abbrev t : Tree E (suc k)
    t = below f (suc k) at

    pub cut_inner_none : (h : ℕ) → h ≡ suc k → AllByRecursion (λ x. sought f k x ≡ None) (f at) → cut size join covering e c h (below f h at) ≡ None
    cut_inner_none h z all =
        subst (λ m. cut size join covering e c m (below f m at) ≡ None) (sym z)
        (ap (cut_inner size join e k t) (first_some_missed here t (All-map (λ p. here p ≡ None) (seen f (suc k)) (f at) all)))

    cut_inner_some : (i : ℕ) (d : Entry E) (left : Remains E k) → i < length (f at) → get_or (f at) i d ≡ d → AllByRecursion (λ x. sought f k x ≡ None) (take i (f at)) → sought f k d ≡ Some left
        → cut size join covering e c (suc k) t ≡ Some (cut_at size join e k t i left)
    cut_inner_some i d left l is before found =
        let φ = seen f (suc k) in
        let m = length-map (f at) φ in
        let read : (j : ℕ) → j < length (f at) → get_or t j (φ d) ≡ φ (get_or (f at) j d) = λ j s. get_or-map φ (f at) j d (φ d) s in
        ap (cut_inner size join e k t) (first_some_found here t i (φ d) left (omega arith)
        (λ j s. ap here (read j (omega arith) ∙ ap φ (sym (get_or-take i (f at) j d s)))
        ∙ All-get_or (λ x. sought f k x ≡ None) (take i (f at)) j d (let n = length-take i (f at) in omega arith) before)
        (ap here (read i l ∙ ap φ is) ∙ found))

  module _ {places : List (Entry E)} {counts : List ℕ} {h k at i : ℕ} {d : Entry E} (child : Child places counts h k at i d) (covers : covering d.extent e ≡ true)
      (before : AllByRecursion (λ x. sought (row places counts) k x ≡ None) (take i (row places counts at)))
      {places₁ : List (Entry E)} {counts₁ : List ℕ} {again₁ : List (Entry E)} {n₁ : ℕ} (w : WasCut places counts places₁ counts₁ size join covering e c k d.code again₁ n₁) where
    abbrev f : ℕ → List (Entry E)
    f = row places counts

    abbrev f₁ : ℕ → List (Entry E)
    f₁ = row places₁ counts₁

    abbrev node : Tree E k
    node = w.left.0

    cut_is : cut size join covering e c (suc k) (below f (suc k) at) ≡ Some (cut_at size join e k (below f (suc k) at) i w.left)
    cut_is =
        cut_inner_some f k at i d w.left (child_in child) (child_is child) before
        (ap (λ b. cond b (cut size join covering e c k (below f k d.code)) None) covers ∙ w.is)

    node_long : length node ≡ length (f₁ d.code)
    node_long = ap length (sym w.out.is) ∙ length-map (f₁ d.code) (seen f₁ k)

    -- the node of the entry is elsewhere than its own row
    own_off : (P : ℕ → Type 0) → AllByRecursion P (used f (suc k) at) → AllByRecursion P (used f k d.code)
    own_off P o = child_own child P o.1

    at_off : Off at (used f k d.code)
    at_off = child_own child (λ q. at ≡ q → ⊥) (child_apart child).0

    kept_at : f₁ at ≡ f at
    kept_at = w.out.pruned.frame at at_off

    -- the node is left with too few entries
    pub was_cut_few : {places₃ : List (Entry E)} {counts₃ : List ℕ} {again₃ : List (Entry E)} {n₃ : ℕ} → length (f₁ d.code) < 3
        → Dropped places₁ counts₁ places₃ counts₃ k d.code at i again₁ n₁ again₃ n₃ → WasCut places counts places₃ counts₃ size join covering e c h at again₃ n₃
    was_cut_few {places₃} {counts₃} {again₃} {n₃} few dropped =
        let t = below f (suc k) at in
        let f₂ = row places₁ dropped.between in
        let f₃ = row places₃ counts₃ in
        let C = without (f at) i in
        let was = subst (λ z. Permᴰ (f at) (z ∷ C)) (child_is child) (perm_without (f at) i d (child_in child)) in
        let out = w.out in
        let less : Pruned f f₂ (used f k d.code) [] = record {
          frame = λ q o. freed_row places₁ dropped.freed q (out.pruned.fewer q o) ∙ out.pruned.frame q o;
          fewer = λ q o. tt;
          gone = λ q _. elim (freed_empty places₁ dropped.freed q) [
            | inl o ↦ elim (out.pruned.gone q o) [ inl a ↦ inl a | inr z ↦ inr (ap length (freed_row places₁ dropped.freed q o) ∙ z) ]
            | inr z ↦ inr z
          ];
          apart = tt;
        } in
        let row_is : f₃ at ≡ C = dropped.taken.here ∙ ap (λ z. without z i) (freed_row places₁ dropped.freed at (out.pruned.fewer at at_off) ∙ kept_at) in
        let laid = perm_same row_is in
        let other = dropped.taken.others in
        let still = pruned_still f f₂ f₃ k at C d [] [] was (child_apart child) (child_live child) less tt refl laid other in
        let left : Remains E (suc k) = (without t i, w.left.1 ++ ((k, node) ∷ [])) in
        let tree : below f₃ (suc k) at ≡ without t i = ap (map (seen f₃ (suc k))) row_is ∙ (same_seen f f₃ (suc k) C still).0 ∙ sym (without_map (seen f (suc k)) (f at) i) in
        let loose : loose_pairs left.1 ≡ loose_pairs w.left.1 ++ pairs k node =
        joined_append (λ (o : Loose E). pairs o.0 o.1) w.left.1 ((k, node) ∷ []) ∙ ap (λ z. loose_pairs w.left.1 ++ z) (append-nil (pairs k node)) in
        let g = subst (λ s. Gathered again₁ n₁ again₃ n₃ (pairs k s)) out.is dropped.gathered in
        subst (λ m. WasCut places counts places₃ counts₃ size join covering e c m at again₃ n₃) (sym child.inner) (record {
          left = left;
          is = cut_is ∙ ap Some (ap (λ b. cond b left (set t i (bound size join e (extents node), node), w.left.1)) (lt-ltb (length node) 3 (let l = node_long in omega arith)));
          out = record {
            ready = dropped.taken.ready;
            is = tree;
            pruned = pruned_inner f f₂ f₃ k at C d [] [] was (child_apart child) (child_live child) less tt refl laid other;
            live = pruned_live f f₂ f₃ k at C d [] [] was (child_apart child) (child_live child) less tt refl laid other;
            memory = λ p x o. dropped.taken.memory p x (o.0, tt) ∙ out.memory p x (own_off (λ q. p / 8 ≡ q → ⊥) o);
          };
          listed = g.listed ∙ ap (λ z. z ++ pairs k node) w.listed ∙ sym loose;
          many = let a = g.counted in let b = w.many in let l = ap length loose ∙ length-append (loose_pairs w.left.1) (pairs k node) in omega arith;
        })

    -- the node stays
    pub was_cut_many : {places₃ : List (Entry E)} {counts₃ : List ℕ} → 3 ≤ length (f₁ d.code) → Stayed places₁ counts₁ places₃ counts₃ size join d.code at i e
        → WasCut places counts places₃ counts₃ size join covering e c h at again₁ n₁
    was_cut_many {places₃} {counts₃} many stayed =
        let A = take i (f at) in
        let B = drop (suc i) (f at) in
        let out = w.out in
        let x = stayed.extent in
        let d' : Entry E = record { extent = x; code = d.code } in
        let wrote = set places₁ (8 * at + i) d' in
        let f₃ = row wrote counts₁ in
        let t = below f (suc k) at in
        let φ = seen f (suc k) in
        let ψ = seen f₁ (suc k) in
        let χ = seen f₃ (suc k) in
        let small : i < 8 = let a = child.ready.within at in let b = child.within in omega arith in
        let chosen : i < get_or counts₁ at 0 = let l = child_in child in let s = count_short places₁ counts₁ at in let z = ap length kept_at in omega arith in
        let row_is : f₃ at ≡ A ++ (d' ∷ B) = row_set_here places₁ at i d' small (get_or counts₁ at 0) chosen ∙ ap (λ z. set z i d') kept_at ∙ set_split (f at) i d' (child_in child) in
        let other : (q : ℕ) → (q ≡ at → ⊥) → f₃ q ≡ f₁ q = λ q ne. row_set_other places₁ at i d' small (get_or counts₁ q 0) q ne (out.ready.within q) in
        let laid : Permᴰ (f₃ at) (d' ∷ (A ++ B)) = mathlib.Core.List.Permᴰ.trans (perm_same row_is) (mathlib.Core.List.Permᴰ.middle d' A B) in
        let nil = append-nil (used f₁ k d.code) in
        let less : Pruned f f₁ (used f k d.code) (flat_map (used f₁ k) (d.code ∷ [])) = subst (Pruned f f₁ (used f k d.code)) (sym nil) out.pruned in
        let there : d.code < 256 = (child_own child (λ q. q < 256) (in_range (under f (suc k) (f at)) (child_live child))).0 in
        let lives : AllByRecursion (Live f₁) (flat_map (used f₁ k) (d.code ∷ [])) = subst (AllByRecursion (Live f₁)) (sym nil) ((there, omega arith), out.live) in
        let still = pruned_still f f₁ f₃ k at (A ++ B) d (d.code ∷ []) (d' ∷ []) (child_perm child) (child_apart child) (child_live child) less lives refl laid other in
        let same = pruned_d f f₁ f₃ k at (A ++ B) d (d.code ∷ []) (d' ∷ []) (child_perm child) (child_apart child) (child_live child) less lives refl laid other in
        let ab = all_unappend (λ q. f₃ q ≡ f q) (under f (suc k) A) (under f (suc k) B) (subst (AllByRecursion (λ q. f₃ q ≡ f q)) (under_append f (suc k) A B) still) in
        let z : E × Tree E k = (bound size join e (extents node), node) in
        let item-is : χ d' ≡ z =
        ap (λ l. get_or l 0 (χ d')) (same_seen f₁ f₃ (suc k) (d' ∷ []) same).0
        ∙ ap (λ (s : E). (s, below f₁ k d.code)) (stayed.is ∙ bound_seen size join f₁ k d.code e)
        ∙ ap (λ (s : Tree E k). (bound size join e (extents s), s)) out.is in
        let l : i < length t = let a = length-map (f at) φ in let b = child_in child in omega arith in
        let tree : below f₃ (suc k) at ≡ set t i z =
        ap (map χ) row_is ∙ map-append χ A (d' ∷ B) ∙ ap (λ s. s ++ (χ d' ∷ map χ B)) (same_seen f f₃ (suc k) A ab.0).0
        ∙ ap (λ s. map φ A ++ (χ d' ∷ s)) (same_seen f f₃ (suc k) B ab.1).0 ∙ ap (λ s. map φ A ++ (s ∷ map φ B)) item-is
        ∙ sym (set_split t i z l ∙ ap (λ s. s ++ (z ∷ drop (suc i) t)) (take-map φ i (f at)) ∙ ap (λ s. map φ A ++ (z ∷ s)) (drop-map φ (suc i) (f at))) in
        let result : WasCut places counts wrote counts₁ size join covering e c (suc k) at again₁ n₁ = record {
          left = (set t i z, w.left.1);
          is = cut_is ∙ ap Some (ap (λ b. cond b (without t i, w.left.1 ++ ((k, node) ∷ [])) (set t i z, w.left.1)) (le-ltb (length node) 3 (let s = node_long in omega arith)));
          out = record {
            ready = record { long = let a = length-set places₁ (8 * at + i) d' in let b = out.ready.long in omega arith; wide = out.ready.wide; within = out.ready.within };
            is = tree;
            pruned = pruned_inner f f₁ f₃ k at (A ++ B) d (d.code ∷ []) (d' ∷ []) (child_perm child) (child_apart child) (child_live child) less lives refl laid other;
            live = pruned_live f f₁ f₃ k at (A ++ B) d (d.code ∷ []) (d' ∷ []) (child_perm child) (child_apart child) (child_live child) less lives refl laid other;
            memory = λ p s o. set_untouched places₁ at i d' small p s (o.0, tt) ∙ out.memory p s (own_off (λ q. p / 8 ≡ q → ⊥) o);
          };
          listed = w.listed;
          many = w.many;
        } in
        subst (λ m. WasCut places counts places₃ counts₃ size join covering e c m at again₁ n₁) (sym child.inner)
        (subst (λ s. WasCut places counts s counts₃ size join covering e c (suc k) at again₁ n₁) (sym stayed.stored)
        (subst (λ s. WasCut places counts wrote s size join covering e c (suc k) at again₁ n₁) (sym stayed.counted) result))
      where
        in_range : (rs : List ℕ) → AllByRecursion (Live f) rs → AllByRecursion (λ q. q < 256) rs
        in_range [] a = tt
        in_range (q ∷ rs) a = (a.0.0, in_range rs a.1)
