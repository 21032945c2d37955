-- The entries of a row that are shared out. Assumes nothing.
use Rattle.std.proofs.Common.{◌≡◌, ℕ, ◌+◌, ◌*◌, ◌<◌, ◌≤◌, Bool, true, false, cond, eqb, List, [], ◌∷◌, ◌++◌, length, get_or, take, drop, set, Some, None, sym, refl, ap, ◌∙◌, subst, inl, inr, arith, length-append, length-drop, length-take, get_or-drop, take_all, get_or-set_other}
use Rattle.std.proofs.lemmas.List.{take_more, append-nil, length_push}
use Rattle.std.proofs.lemmas.Bool.{cases_eq, eq-eqb, ne_eqb, lt-ltb, le-ltb}
use Rattle.extent.specs.declared.entry.Entry.{Entry}
use Rattle.quadratic.specs.Split.{split9, part}
use Rattle.quadratic.specs.Sharing.{tally}
use Rattle.quadratic.proofs.Fair.{split9_fair}
use Rattle.quadratic.proofs.Parts.{part_more, part_count}
use Rattle.guttman.specs.Trees.{One, Two, add}
use Rattle.node_rows.specs.Rows.{row}
use Rattle.node_rows.specs.Nodes.{extents_in, Ready, Pushed, Laid, Scattered, SetUp, Dealt, spare, idle}
use Rattle.node_rows.proofs.RowSet.{count_row, pushed_here, pushed_other, pushed_ready, pushed_count, pushed_untouched}
use Rattle.node_rows.proofs.Spares.{spare_off, spare_set, spare_kept}

part_short : {X : Type 0} (t : Bool) (ls : List ℕ) (xs : List X) → length (part t ls xs) ≤ length ls
part_short t [] xs = omega arith
part_short t (l ∷ ls) [] = omega arith
part_short true (l ∷ ls) (x ∷ xs) =
    let ih = part_short true ls xs in
    elim (eqb l 65) as (λ t. length (cond t (x ∷ part true ls xs) (part true ls xs)) ≤ length (l ∷ ls)) [ true ↦ omega arith | false ↦ omega arith ]
part_short false (l ∷ ls) (x ∷ xs) =
    let ih = part_short false ls xs in
    elim (eqb l 65) as (λ t. length (cond t (part false ls xs) (x ∷ part false ls xs)) ≤ length (l ∷ ls)) [ true ↦ omega arith | false ↦ omega arith ]

-- ---- one entry is laid by its letter

module _ {E : Type 0} {places : List (Entry E)} {counts : List ℕ} {places' : List (Entry E)} {counts' : List ℕ} (at to letter : ℕ) {x : Entry E}
    (ready : Ready places counts) (other : to ≡ at → ⊥) where
  pub laid_a : at < 256 → get_or counts at 0 < 8 → letter ≡ 65 → Pushed places counts places' counts' at x → Laid places counts places' counts' at to letter x
  laid_a there room z p =
      let e : eqb letter 65 ≡ true = eq-eqb letter 65 z in
      let f = row places counts in
      record {
        ready = pushed_ready p ready there room;
        a = pushed_here p ready there room ∙ ap (λ t. f at ++ cond t (x ∷ []) []) (sym e);
        b = pushed_other p ready there room to other ∙ sym (append-nil (f to)) ∙ ap (λ t. f to ++ cond t [] (x ∷ [])) (sym e);
        others = λ q u _. pushed_other p ready there room q u;
        ahead = λ j d l s. ap (λ z. get_or z (8 * at + j) d) p.stored ∙ get_or-set_other places (8 * at + get_or counts at 0) (8 * at + j) x d (λ k. omega arith);
        memory = λ q d o. pushed_untouched p ready there room q d (o.0, tt);
      }

  pub laid_b : to < 256 → get_or counts to 0 < 8 → (letter ≡ 65 → ⊥) → Pushed places counts places' counts' to x → Laid places counts places' counts' at to letter x
  laid_b there room z p =
      let e : eqb letter 65 ≡ false = ne_eqb letter 65 z in
      let f = row places counts in
      record {
        ready = pushed_ready p ready there room;
        a = pushed_other p ready there room at (λ k. other (sym k)) ∙ sym (append-nil (f at)) ∙ ap (λ t. f at ++ cond t (x ∷ []) []) (sym e);
        b = pushed_here p ready there room ∙ ap (λ t. f to ++ cond t [] (x ∷ [])) (sym e);
        others = λ q _ u. pushed_other p ready there room q u;
        ahead = λ j d l s. ap (λ z. get_or z (8 * at + j) d) p.stored ∙ get_or-set_other places (8 * to + get_or counts to 0) (8 * at + j) x d (λ k. other (omega arith));
        memory = λ q d o. pushed_untouched p ready there room q d (o.1.0, tt);
      }

-- ---- the eight entries of a full row, one after the other

module _ {E : Type 0} (places : List (Entry E)) (counts : List ℕ) (at to : ℕ) (ls : List ℕ) (ready : Ready places counts) (there : at < 256) (there' : to < 256) (nine : length ls ≡ 9) where
  pub scattered_none : get_or counts at 0 ≡ 0 → get_or counts to 0 ≡ 0 → Scattered places counts places counts at to 0 ls
  scattered_none none free = record {
    ready = ready;
    a = ap (λ n. take n (drop (8 * at) places)) none;
    b = ap (λ n. take n (drop (8 * to) places)) free;
    others = λ q _ _. refl;
    ahead = λ j d _ _. refl;
    memory = λ q d _. refl;
  }

  module _ {places₁ : List (Entry E)} {counts₁ : List ℕ} (n : ℕ) (s : Scattered places counts places₁ counts₁ at to n ls) where
    pub scattered_few : (get_or counts₁ at 0 ≤ n) × (get_or counts₁ to 0 ≤ n)
    scattered_few =
        let k = length-take n ls in (
          let c = count_row places₁ counts₁ s.ready at there in let l = ap length s.a in let p = part_short true (take n ls) (take n (drop (8 * at) places)) in omega arith,
          let c = count_row places₁ counts₁ s.ready to there' in let l = ap length s.b in let p = part_short false (take n ls) (take n (drop (8 * at) places)) in omega arith,
        )

    pub scattered_more : n < 8 → (x : Entry E) → x ≡ get_or places₁ (8 * at + n) x → (places₂ : List (Entry E)) (counts₂ : List ℕ) → Laid places₁ counts₁ places₂ counts₂ at to (get_or ls n 0) x
        → Scattered places counts places₂ counts₂ at to (n + 1) ls
    scattered_more l x is places₂ counts₂ laid =
        let L = drop (8 * at) places in
        let long_L : 8 ≤ length L = let k = length-drop (8 * at) places in omega arith in
        let x-is : x ≡ get_or L n x = is ∙ s.ahead n x (omega arith) l ∙ sym (get_or-drop (8 * at) places n x) in
        let more : take (n + 1) L ≡ take n L ++ (x ∷ []) = take_more L n x (omega arith) ∙ ap (λ z. take n L ++ (z ∷ [])) (sym x-is) in
        let more-l : take (n + 1) ls ≡ take n ls ++ (get_or ls n 0 ∷ []) = take_more ls n 0 (omega arith) in
        let same : length (take n ls) ≡ length (take n L) = let p = length-take n ls in let q = length-take n L in omega arith in
        let both : (t : Bool) → part t (take n ls) (take n L) ++ part t (get_or ls n 0 ∷ []) (x ∷ []) ≡ part t (take (n + 1) ls) (take (n + 1) L) =
        λ t. sym (ap (λ z. part t z (take (n + 1) L)) more-l ∙ ap (part t (take n ls ++ (get_or ls n 0 ∷ []))) more ∙ part_more t (take n ls) (get_or ls n 0) (take n L) x same) in
        let few = scattered_few.0 in
        record {
          ready = laid.ready;
          a = laid.a ∙ ap (λ z. z ++ part true (get_or ls n 0 ∷ []) (x ∷ [])) s.a ∙ both true;
          b = laid.b ∙ ap (λ z. z ++ part false (get_or ls n 0 ∷ []) (x ∷ [])) s.b ∙ both false;
          others = λ q u v. laid.others q u v ∙ s.others q u v;
          ahead = λ j d u v. laid.ahead j d (omega arith) v ∙ s.ahead j d (omega arith) v;
          memory = λ q d o. laid.memory q d o ∙ s.memory q d o;
        }

-- ---- a row that was not in use gets two entries

pub set_up_two : {E : Type 0} {places : List (Entry E)} {counts : List ℕ} {places₁ : List (Entry E)} {counts₁ : List ℕ} {places₂ : List (Entry E)} {counts₂ : List ℕ} {top : ℕ} {x y : Entry E}
    → Ready places counts → top < 256 → get_or counts top 0 ≡ 0 → Pushed places counts places₁ counts₁ top x → Pushed places₁ counts₁ places₂ counts₂ top y → SetUp places counts places₂ counts₂ top (x ∷ y ∷ [])
set_up_two {E} {places} {counts} {places₁} {counts₁} {places₂} {counts₂} {top} {x} {y} ready there free p q =
    let room : get_or counts top 0 < 8 = omega arith in
    let ready₁ = pushed_ready p ready there room in
    let one = pushed_count p ready there room in
    let room₁ : get_or counts₁ top 0 < 8 = omega arith in
    let none : row places counts top ≡ [] = ap (λ n. take n (drop (8 * top) places)) free in
    record {
      ready = pushed_ready q ready₁ there room₁;
      spares =
          let a : spare counts ≤ spare counts₁ + 1 = subst (λ z. spare counts ≤ spare z + 1) (sym p.counted) (spare_set counts top (get_or counts top 0 + 1)) in
          let b : spare counts₁ ≤ spare counts₂ = subst (λ z. spare counts₁ ≤ spare z) (sym q.counted) (spare_kept counts₁ top (get_or counts₁ top 0 + 1) (omega arith)) in
          omega arith;
      here = pushed_here q ready₁ there room₁ ∙ ap (λ z. z ++ (y ∷ [])) (pushed_here p ready there room ∙ ap (λ z. z ++ (x ∷ [])) none);
      others = λ r ne. pushed_other q ready₁ there room₁ r ne ∙ pushed_other p ready there room r ne;
      memory = λ r d o. pushed_untouched q ready₁ there room₁ r d o ∙ pushed_untouched p ready there room r d o;
    }

-- ---- an entry is added to a row

module _ {E : Type 0} (size : E → ℕ) (join : E → E → E) where
  -- the letters of a full row's entries and one more
  abbrev pub letters_of : List (Entry E) → Entry E → List ℕ
  letters_of es x = split9 size join (λ i. get_or (extents_in es) i x.extent)

  pub dealt_one : {places : List (Entry E)} {counts : List ℕ} {places' : List (Entry E)} {counts' : List ℕ} {r : ℕ} {x : Entry E}
      → Ready places counts → r < 256 → get_or counts r 0 < 8 → Pushed places counts places' counts' r x → Dealt places counts places' counts' size join r None x
  unfolding add
  dealt_one {places} {counts} {places'} {counts'} {r} {x} ready there room p =
      let f = row places counts in
      let here = pushed_here p ready there room in
      let L = f r ++ (x ∷ []) in
      let n = count_row places counts ready r there in
      record {
        ready = pushed_ready p ready there room;
        spares = subst (λ z. spare counts ≤ spare z + 1) (sym p.counted) (spare_set counts r (get_or counts r 0 + 1));
        is = ap One here ∙ ap (λ t. cond t (One L) (Two (part true (letters_of (f r) x) L) (part false (letters_of (f r) x) L))) (sym (lt-ltb (length (f r)) 8 (omega arith)));
        others = λ q o. pushed_other p ready there room q o.0;
        clear = λ q n ne. (ne, tt);
        distinct = (tt, tt);
        live = ((there, let k = ap length here ∙ length_push (f r) x in omega arith), tt);
        memory = pushed_untouched p ready there room;
      }

  -- a full row was split
  module _ (places : List (Entry E)) (counts : List ℕ) (at to : ℕ) (ls : List ℕ) (ready : Ready places counts) (there : at < 256) (there' : to < 256)
      (full : 8 ≤ get_or counts at 0) (free : get_or counts to 0 ≡ 0) (x : Entry E) (letters : ls ≡ letters_of (row places counts at) x) where
    pub split_apart : to ≡ at → ⊥
    split_apart z = let k = ap (λ q. get_or counts q 0) z in omega arith

    pub split_nine : length ls ≡ 9
    split_nine = ap length letters ∙ (split9_fair size join (λ i. get_or (extents_in (row places counts at)) i x.extent)).0

    module _ (places₁ : List (Entry E)) (counts₁ : List ℕ) (s : Scattered places (set counts at 0) places₁ counts₁ at to 8 ls) where
      abbrev f : ℕ → List (Entry E)
      f = row places counts

      abbrev L : List (Entry E)
      L = f at ++ (x ∷ [])

      eight : get_or counts at 0 ≡ 8
      eight = let w = ready.within at in omega arith

      f_at : f at ≡ take 8 (drop (8 * at) places)
      f_at = ap (λ n. take n (drop (8 * at) places)) eight

      len : length (f at) ≡ 8
      len = let c = count_row places counts ready at there in let e = eight in omega arith

      fair : (3 ≤ tally 65 ls) × (tally 65 ls ≤ 6)
      fair =
          let g = split9_fair size join (λ i. get_or (extents_in (f at)) i x.extent) in
          subst (λ z. (3 ≤ tally 65 z) × (tally 65 z ≤ 6)) (sym letters) (g.1, g.2)

      ls_is : ls ≡ take 8 ls ++ (get_or ls 8 0 ∷ [])
      ls_is = sym (take_all 9 ls (let n = split_nine in omega arith)) ∙ take_more ls 8 0 (let n = split_nine in omega arith)

      all : (t : Bool) → part t (take 8 ls) (take 8 (drop (8 * at) places)) ++ part t (get_or ls 8 0 ∷ []) (x ∷ []) ≡ part t ls L
      all t =
          ap (λ z. part t (take 8 ls) z ++ part t (get_or ls 8 0 ∷ []) (x ∷ [])) (sym f_at)
          ∙ sym (ap (λ z. part t z L) ls_is ∙ part_more t (take 8 ls) (get_or ls 8 0) (f at) x (let n = length-take 8 ls in let m = split_nine in let k = len in omega arith))

      sizes : (3 ≤ length (part true ls L)) × (length (part true ls L) ≤ 6) × (3 ≤ length (part false ls L)) × (length (part false ls L) ≤ 6)
      sizes =
          let n : length ls ≡ length L = split_nine ∙ (let a = length_push (f at) x in let b = len in omega arith) in
          let c = part_count ls L n in
          let u = c.0 in let v = c.1 in let g = fair in let p = g.0 in let q = g.1 in let m = split_nine in
          (omega arith, omega arith, omega arith, omega arith)

      pub split_room : (get_or counts₁ at 0 < 8) × (get_or counts₁ to 0 < 8)
      split_room =
          let a = ap length (all true) in
          let b = ap length (all false) in
          let a' = length-append (part true (take 8 ls) (take 8 (drop (8 * at) places))) (part true (get_or ls 8 0 ∷ []) (x ∷ [])) in
          let b' = length-append (part false (take 8 ls) (take 8 (drop (8 * at) places))) (part false (get_or ls 8 0 ∷ []) (x ∷ [])) in
          let z = sizes in
          let p = z.1 in let q = z.3 in
          let u = ap length s.a in let v = ap length s.b in
          let ca = count_row places₁ counts₁ s.ready at there in
          let cb = count_row places₁ counts₁ s.ready to there' in
          (omega arith, omega arith)

      module _ (places₂ : List (Entry E)) (counts₂ : List ℕ) (laid : Laid places₁ counts₁ places₂ counts₂ at to (get_or ls 8 0) x) where
        abbrev f' : ℕ → List (Entry E)
        f' = row places₂ counts₂

        a_is : f' at ≡ part true ls L
        a_is = laid.a ∙ ap (λ z. z ++ part true (get_or ls 8 0 ∷ []) (x ∷ [])) s.a ∙ all true

        b_is : f' to ≡ part false ls L
        b_is = laid.b ∙ ap (λ z. z ++ part false (get_or ls 8 0 ∷ []) (x ∷ [])) s.b ∙ all false

        rest : (q : ℕ) → (q ≡ at → ⊥) → (q ≡ to → ⊥) → f' q ≡ f q
        rest q u v = laid.others q u v ∙ s.others q u v ∙ ap (λ n. take n (drop (8 * q) places)) (get_or-set_other counts at q 0 0 u)

        few : spare counts ≤ spare counts₂ + 1
        few =
            spare_off counts counts₂ to (ready.wide ∙ sym laid.ready.wide)
            (λ q l ne. elim (cases_eq q at) [
              | inl w ↦ let e : idle (get_or counts q 0) ≡ 0 = ap (λ i. idle (get_or counts i 0)) w ∙ ap idle eight in omega arith
              | inr w ↦
                  let q-in : q < 256 = let k = ready.wide in omega arith in
                  let c = count_row places counts ready q q-in in
                  let c' = count_row places₂ counts₂ laid.ready q q-in in
                  let k = ap length (rest q w ne) in
                  let m : get_or counts q 0 ≡ get_or counts₂ q 0 = omega arith in
                  let i = ap idle m in omega arith
            ])

        pub dealt_two : Dealt places counts places₂ counts₂ size join at (Some to) x
        unfolding add
        dealt_two =
            let ks = letters_of (f at) x in
            let z = sizes in
            let p = z.0 in let q = z.2 in
            let u = ap length a_is in let v = ap length b_is in
            let none : length (f to) ≡ 0 = let c = count_row places counts ready to there' in omega arith in
            record {
              ready = laid.ready;
              spares = few;
              is = ap (λ w. Two w (f' to)) a_is ∙ ap (Two (part true ls L)) b_is ∙ ap (λ w. Two (part true w L) (part false w L)) letters
                  ∙ ap (λ t. cond t (One L) (Two (part true ks L) (part false ks L))) (sym (le-ltb (length (f at)) 8 (let l = len in omega arith)));
              others = λ q o. rest q o.0 o.1.0;
              clear = λ q n ne. (ne, ((λ w. let k = ap (λ i. length (f i)) w in omega arith), tt));
              distinct = (((λ w. split_apart (sym w)), tt), (tt, tt));
              live = ((there, omega arith), ((there', omega arith), tt));
              memory = λ q d o. laid.memory q d o ∙ s.memory q d o;
            }
