-- What a write to one place leaves of each row. Assumes nothing.
use Rattle.std.proofs.Common.{◌≡◌, ℕ, ◌+◌, ◌-◌, ◌*◌, ◌<◌, ◌≤◌, min, ◌⊎◌, List, [], ◌∷◌, ◌++◌, length, get_or, take, drop, set, sym, ap, ◌∙◌, subst, inl, inr, arith, length-drop, length-set, length-take, get_or-drop, get_or-set_other, get_or-take, get_or-set_same, drop-set-lt}
use lib.Seq.{drop-set-add, take-set-le, take-set-lt}
use Rattle.std.proofs.lemmas.Bool.{cases_eq, cases_lt}
use Rattle.std.proofs.lemmas.List.{take_more_set}
use Rattle.extent.specs.declared.entry.Entry.{Entry}
use Rattle.node_rows.specs.Rows.{row}
use Rattle.node_rows.specs.Nodes.{Ready, Untouched, Pushed}

-- ---- a part of a list in which the place j does not lie

part_set_under : {X : Type 0} (l : List X) (a m j : ℕ) (x : X) → j < a → take m (drop a (set l j x)) ≡ take m (drop a l)
part_set_under l a m j x h = ap (take m) (drop-set-lt a l j x h)

part_set_over : {X : Type 0} (l : List X) (a m j : ℕ) (x : X) → a + m ≤ j → take m (drop a (set l j x)) ≡ take m (drop a l)
part_set_over l a m j x h =
    let e : j ≡ a + (j - a) = omega arith in
    ap (λ k. take m (drop a (set l k x))) e ∙ ap (take m) (drop-set-add a l (j - a) x) ∙ take-set-le m (drop a l) (j - a) x (omega arith)

order : (q r : ℕ) → (q ≡ r → ⊥) → (q < r) ⊎ (r < q)
order q r ne = elim (cases_lt q r) [ inl h ↦ inl h | inr h ↦ inr (omega arith) ]

-- ---- the place n of the row r

module _ {E : Type 0} (places : List (Entry E)) (r n : ℕ) (e : Entry E) (small : n < 8) where
  pub row_set_other : (m q : ℕ) → (q ≡ r → ⊥) → m ≤ 8 → take m (drop (8 * q) (set places (8 * r + n) e)) ≡ take m (drop (8 * q) places)
  row_set_other m q ne w =
      elim (order q r ne) [
        | inl h ↦ part_set_over places (8 * q) m (8 * r + n) e (omega arith)
        | inr h ↦ part_set_under places (8 * q) m (8 * r + n) e (omega arith)
      ]

  pub row_set_here : (m : ℕ) → n < m → take m (drop (8 * r) (set places (8 * r + n) e)) ≡ set (take m (drop (8 * r) places)) n e
  row_set_here m l = ap (take m) (drop-set-add (8 * r) places n e) ∙ take-set-lt m (drop (8 * r) places) n e l

  row_push_here : 8 * r + n < length places → take (n + 1) (drop (8 * r) (set places (8 * r + n) e)) ≡ take n (drop (8 * r) places) ++ (e ∷ [])
  row_push_here l =
      let k : n < length (drop (8 * r) places) = simp length-drop (omega arith) in
      ap (take (n + 1)) (drop-set-add (8 * r) places n e) ∙ take_more_set (drop (8 * r) places) n e k

  pub set_untouched : Untouched places (set places (8 * r + n) e) (r ∷ [])
  set_untouched p d o = get_or-set_other places (8 * r + n) p e d (λ z. o.0 (omega arith))

pub row_count : (counts : List ℕ) (at n : ℕ) → at < length counts → n ≤ 8 → ((q : ℕ) → get_or counts q 0 ≤ 8) → (q : ℕ) → get_or (set counts at n) q 0 ≤ 8
row_count counts at n l s w q =
    elim (cases_eq q at) [
      | inl h ↦ omega (arith, ap (λ k. get_or (set counts at n) k 0) h, get_or-set_same counts at n 0 l)
      | inr h ↦ omega (arith, get_or-set_other counts at q n 0 h, w q)
    ]

-- ---- a row's entries

module _ {E : Type 0} (places : List (Entry E)) (counts : List ℕ) where
  pub get_or_row : (at i : ℕ) (d : Entry E) → i < get_or counts at 0 → get_or (row places counts at) i d ≡ get_or places (8 * at + i) d
  get_or_row at i d l = get_or-take (get_or counts at 0) (drop (8 * at) places) i d l ∙ get_or-drop (8 * at) places i d

  pub length_row : (at : ℕ) → length (row places counts at) ≡ min (get_or counts at 0) (length places - 8 * at)
  length_row at = length-take (get_or counts at 0) (drop (8 * at) places) ∙ ap (min (get_or counts at 0)) (length-drop (8 * at) places)

  -- a row's count is its length
  pub count_row : Ready places counts → (at : ℕ) → at < 256 → get_or counts at 0 ≡ length (row places counts at)
  count_row ready at there = let w = ready.within at in let l = length_row at in omega arith

  pub count_short : (at : ℕ) → length (row places counts at) ≤ get_or counts at 0
  count_short at = let l = length_row at in omega arith

-- ---- after an entry was pushed to the row r

module _ {E : Type 0} {places : List (Entry E)} {counts : List ℕ} {places' : List (Entry E)} {counts' : List ℕ} {r : ℕ} {e : Entry E}
    (pushed : Pushed places counts places' counts' r e) (ready : Ready places counts) (there : r < 256) (room : get_or counts r 0 < 8) where
  abbrev n : ℕ
  n = get_or counts r 0

  abbrev wrote : List (Entry E)
  wrote = set places (8 * r + n) e

  row_is : (q : ℕ) → row places' counts' q ≡ row wrote (set counts r (n + 1)) q
  row_is q = ap (λ z. row z counts' q) pushed.stored ∙ ap (λ z. row wrote z q) pushed.counted

  pub pushed_here : row places' counts' r ≡ row places counts r ++ (e ∷ [])
  pushed_here =
      let l : r < length counts = omega arith in
      let k : 8 * r + n < length places = omega arith in
      row_is r ∙ ap (λ m. take m (drop (8 * r) wrote)) (get_or-set_same counts r (n + 1) 0 l) ∙ row_push_here places r n e room k

  pub pushed_other : (q : ℕ) → (q ≡ r → ⊥) → row places' counts' q ≡ row places counts q
  pushed_other q ne =
      row_is q ∙ ap (λ m. take m (drop (8 * q) wrote)) (get_or-set_other counts r q (n + 1) 0 ne) ∙ row_set_other places r n e room (get_or counts q 0) q ne (ready.within q)

  pub pushed_ready : Ready places' counts'
  pushed_ready = record {
    long = let l = ap length pushed.stored ∙ length-set places (8 * r + n) e in omega arith;
    wide = ap length pushed.counted ∙ length-set counts r (n + 1) ∙ ready.wide;
    within = subst (λ z. (q : ℕ) → get_or z q 0 ≤ 8) (sym pushed.counted) (row_count counts r (n + 1) (omega arith) (omega arith) ready.within);
  }

  pub pushed_count : get_or counts' r 0 ≡ get_or counts r 0 + 1
  pushed_count = ap (λ z. get_or z r 0) pushed.counted ∙ get_or-set_same counts r (n + 1) 0 (omega arith)

  pub pushed_untouched : Untouched places places' (r ∷ [])
  pushed_untouched p d o = ap (λ z. get_or z p d) pushed.stored ∙ set_untouched places r n e room p d o
