-- What a walk over rows has written into a list, entry by entry, and what it has found in the end. Assumes nothing.
use Rattle.std.proofs.Common.{◌≡◌, ℕ, zero, suc, ◌+◌, ◌<◌, ◌≤◌, min, Bool, true, false, cond, List, [], ◌∷◌, ◌++◌, map, length, get_or, take, drop, set, sym, refl, ap, ◌∙◌, subst, inl, inr, add-zero, add-suc, suc-add, arith, length-append}
use lib.ListN.{length-map}
use lib.Seq.{sets, sets-eq, length-sets}
use Rattle.std.proofs.lemmas.List.{map-append, take_more, take_all, take-map, set_past, flat_map_more}
use Rattle.std.proofs.lemmas.List.Sums.{length-filter, count_by-le-length}
use Rattle.std.proofs.lemmas.Bool.{cases_lt}
use Rattle.extent.specs.declared.entry.Entry.{Entry}
use Rattle.guttman.specs.Trees.{Item, Tree}
use Rattle.guttman.specs.Shape.{pairs, Tight}
use Rattle.guttman.specs.Finding.{reached_at, reached, passing, Upward}
use Rattle.guttman.proofs.Finding.{reached_passing}
use Rattle.node_rows.specs.Rows.{item, below}
use Rattle.node_rows.specs.Walks.{codes, Finds}

-- ---- what is written

pub sets_append : {X : Type 0} (xs ys l : List X) (i : ℕ) → sets l i (xs ++ ys) ≡ sets (sets l i xs) (i + length xs) ys
sets_append [] ys l i = ap (λ n. sets l n ys) (sym (add-zero i))
sets_append (x ∷ xs) ys l i =
    sets_append xs ys (set l i x) (suc i) ∙ ap (λ n. sets (sets (set l i x) (suc i) xs) n ys) (suc-add i (length xs) ∙ sym (add-suc i (length xs)))

-- nothing is written past the end
pub sets_past : {X : Type 0} (vs l : List X) (i : ℕ) → length l ≤ i → sets l i vs ≡ l
sets_past [] l i h = refl
sets_past (x ∷ vs) l i h =
    let e : set l i x ≡ l = set_past l i x h in
    let k : length l ≤ suc i = omega arith in
    ap (λ z. sets z (suc i) vs) e ∙ sets_past vs l (suc i) k

-- the list l with vs written from place i on, as far as it goes, and the next place n
pub record Put {X : Type 0} (l : List X) (i : ℕ) (vs : List X) (n : ℕ) (m : List X) : Type 0 where
  pub count : n ≡ min (i + length vs) (length l)
  pub wrote : m ≡ sets l i vs

pub put_none : {X : Type 0} (l : List X) (i : ℕ) → i ≤ length l → Put l i [] i l
put_none l i h = record { count = omega arith; wrote = refl }

pub put_more : {X : Type 0} (l m o : List X) (i n k : ℕ) (vs ws : List X) → Put l i vs n m → Put m n ws k o → Put l i (vs ++ ws) k o
put_more l m o i n k vs ws p q =
    let long : length m ≡ length l = ap length p.wrote ∙ length-sets l i vs in
    let both : length (vs ++ ws) ≡ length vs + length ws = length-append vs ws in
    let same : sets m n ws ≡ sets m (i + length vs) ws =
    elim (cases_lt (length l) (i + length vs)) [ inl y ↦ sets_past ws m n (omega (arith, p.count)) ∙ sym (sets_past ws m (i + length vs) (omega arith)) | inr y ↦ ap (λ z. sets m z ws) (omega (arith, p.count)) ] in
    record {
      count = omega (arith, p.count, q.count);
      wrote = q.wrote ∙ same ∙ ap (λ z. sets z (i + length vs) ws) p.wrote ∙ sym (sets_append vs ws l i);
    }

-- ---- the walk over a row

module _ {E : Type 0} (f : ℕ → List (Entry E)) (test : E → Bool) where
  -- the codes that it comes to at one entry of a node of height h and under it
  abbrev pub codes_at : ℕ → Entry E → List ℕ
  codes_at h d = codes (reached_at test h (d.extent, item f h d.code))

  -- those at the first i entries of row r
  abbrev pub codes_of : (h r i : ℕ) → List ℕ
  codes_of h r i = codes (reached test h (take i (below f h r)))

  pub codes_missed : (h : ℕ) (d : Entry E) → test d.extent ≡ false → codes_at h d ≡ []
  codes_missed zero d v = ap (λ b. codes (cond b ((d.extent, d.code) ∷ []) [])) v
  codes_missed (suc h) d v = ap (λ b. codes (cond b (reached test h (below f h d.code)) [])) v

  pub codes_leaf : (h : ℕ) (d : Entry E) → h ≡ 0 → test d.extent ≡ true → codes_at h d ≡ d.code ∷ []
  codes_leaf h d z v = ap (λ n. codes_at n d) z ∙ ap (λ b. codes (cond b ((d.extent, d.code) ∷ []) [])) v

  pub codes_inner : (h k : ℕ) (d : Entry E) → h ≡ suc k → test d.extent ≡ true → codes_at h d ≡ codes (reached test k (below f k d.code))
  codes_inner h k d s v = ap (λ n. codes_at n d) s ∙ ap (λ b. codes (cond b (reached test k (below f k d.code)) [])) v

  codes_more : (h r i : ℕ) (d : Entry E) → i < length (f r) → d ≡ get_or (f r) i d → codes_of h r (i + 1) ≡ codes_of h r i ++ codes_at h d
  codes_more h r i d l e =
      let g : Entry E → E × Item E h = λ x. (x.extent, item f h x.code) in
      let one : take (i + 1) (below f h r) ≡ take i (below f h r) ++ (g d ∷ []) =
      take-map g (i + 1) (f r) ∙ ap (map g) (take_more (f r) i d l ∙ ap (λ y. take i (f r) ++ (y ∷ [])) (sym e)) ∙ map-append g (take i (f r)) (d ∷ []) ∙ ap (λ z. z ++ (g d ∷ [])) (sym (take-map g i (f r))) in
      ap (λ z. codes (reached test h z)) one ∙ ap codes (sym (flat_map_more (reached_at test h) [] (take i (below f h r)) (g d)))
      ∙ map-append (λ (p : E × ℕ). p.1) (reached test h (take i (below f h r))) (reached_at test h (g d))

  -- a turn of the walk, at entry i of row r
  pub walked_more : (h r i : ℕ) (d : Entry E) → i < length (f r) → d ≡ get_or (f r) i d → (l m o : List ℕ) (found n k : ℕ) (more : List ℕ)
      → codes_at h d ≡ more → Put l found (codes_of h r i) n m → Put m n more k o → Put l found (codes_of h r (i + 1)) k o
  walked_more h r i d l' e l m o found n k more is p q =
      let P : List ℕ → Type 0 = λ z. Put l found z k o in
      subst P (ap (λ z. codes_of h r i ++ z) (sym is) ∙ sym (codes_more h r i d l' e)) (put_more l m o found n k (codes_of h r i) more p q)

  pub walked_all : (h r i : ℕ) → length (f r) ≤ i → codes_of h r i ≡ codes (reached test h (below f h r))
  walked_all h r i l =
      let g : Entry E → E × Item E h = λ x. (x.extent, item f h x.code) in
      let k : length (below f h r) ≤ i = omega (arith, length-map (f r) g) in
      ap (λ z. codes (reached test h z)) (take_all i (below f h r) k)

-- ---- what is found

-- a walk over a tight tree that has no more pairs than the list has places finds all that pass
pub finds_all : {E : Type 0} (covering : E → E → Bool) (test : E → Bool) → Upward covering test → (h : ℕ) (t : Tree E h) → Tight covering h t
    → (l m : List ℕ) (n : ℕ) → length (pairs h t) ≤ length l → n ≡ min (length (codes (reached test h t))) (length l) → m ≡ sets l 0 (codes (reached test h t))
    → Finds (passing test (pairs h t)) l n m
finds_all covering test up h t tight l m n room count wrote =
    let ps = passing test (pairs h t) in
    let same : reached test h t ≡ ps = reached_passing covering test up h t tight in
    let long : length (codes (reached test h t)) ≡ length ps = ap (λ z. length (codes z)) same ∙ length-map ps (λ p. p.1) in
    let few : length ps ≤ length (pairs h t) = omega (arith, length-filter (λ p. test p.0) (pairs h t), count_by-le-length (λ p. test p.0) (pairs h t)) in
    let size : n ≡ length ps = omega arith in
    let fits : 0 + length (codes ps) ≤ length l = omega (arith, length-map ps (λ p. p.1)) in
    let last : 0 + length (codes ps) ≡ n = omega (arith, length-map ps (λ p. p.1)) in
    record {
      count = size;
      list = wrote ∙ ap (λ z. sets l 0 (codes z)) same ∙ sets-eq (codes ps) l 0 fits ∙ ap (λ k. codes ps ++ drop k l) last;
    }
