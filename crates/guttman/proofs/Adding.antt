-- What an entry that is added to a node leaves as it was. Assumes nothing.
use Rattle.std.proofs.Common.{◌≡◌, ℕ, ◌≤◌, Bool, true, false, cond, ltb, List, [], ◌∷◌, ◌++◌, map, length, get_or, sym, refl, ap, ◌∙◌, arith, length-append}
use mathlib.Core.List.Permᴰ
use mathlib.Core.List.{Permᴰ}
use lib.ListN.{length-map}
use Rattle.std.specs.List.{AllByRecursion}
use Rattle.std.proofs.lemmas.List.{map-append}
use Rattle.std.proofs.ByRecursion.{All-push}
use Rattle.std.proofs.lemmas.Bool.{cond_both, ltb-true, ltb-false}
use Rattle.quadratic.specs.Split.{split9, part}
use Rattle.guttman.specs.Trees.{Grown, One, Two, add}
use Rattle.guttman.specs.Growth.{flat, SizedGrown, AllGrown, mapped}
use Rattle.quadratic.proofs.Perms.{map_map}
use Rattle.quadratic.proofs.Parts.{part_perm, part_count, part_all, part_map}
use Rattle.quadratic.proofs.Fair.{split9_fair}

module _ {E : Type 0} (size : E → ℕ) (join : E → E → E) where
  module _ {Z : Type 0} (extent : Z → E) (es : List Z) (y : Z) where
    abbrev letters : List ℕ
    letters = split9 size join (λ i. get_or (map extent es) i (extent y))

    abbrev nine : List Z
    nine = es ++ (y ∷ [])

    as_many : 8 ≤ length es → length es ≤ 8 → length letters ≡ length nine
    as_many h few = (split9_fair size join (λ i. get_or (map extent es) i (extent y))).0 ∙ (let l = length-append es (y ∷ []) in omega arith)

    -- a node of at most eight gains the entry and keeps all others
    pub add_perm : length es ≤ 8 → Permᴰ (flat (add size join extent es y)) (es ++ (y ∷ []))
    unfolding add
    add_perm few =
        cond_both (ltb (length es) 8) (One nine) (Two (part true letters nine) (part false letters nine)) (λ g. Permᴰ (flat g) nine)
        (λ e. Permᴰ.refl nine)
        (λ e. Permᴰ.symm (part_perm letters nine (as_many (ltb-false (length es) 8 e) few)))

    pub add_sized : (low : ℕ) → low ≤ length es → length es ≤ 8 → SizedGrown low (add size join extent es y)
    unfolding add
    add_sized low h few =
        let n = length-append es (y ∷ []) in
        let f = split9_fair size join (λ i. get_or (map extent es) i (extent y)) in
        let p = f.1 in
        let q = f.2 in
        cond_both (ltb (length es) 8) (One nine) (Two (part true letters nine) (part false letters nine)) (SizedGrown low)
        (λ e. let l = ltb-true (length es) 8 e in (omega arith, omega arith))
        (λ e. let c = part_count letters nine (as_many (ltb-false (length es) 8 e) few) in
        let u = c.0 in
        let v = c.1 in
        let l = ltb-false (length es) 8 e in
        ((omega arith, omega arith), (omega arith, omega arith)))

    pub add_all : (P : Z → Type 0) → AllByRecursion P es → P y → AllGrown P (add size join extent es y)
    unfolding add
    add_all P all py =
        let a : AllByRecursion P nine = All-push P es y all py in
        cond_both (ltb (length es) 8) (One nine) (Two (part true letters nine) (part false letters nine)) (AllGrown P) (λ e. a) (λ e. (part_all P true letters nine a, part_all P false letters nine a))

  -- entries may be read another way, as long as their extents are the same
  pub add_mapped : {Z W : Type 0} (extent : W → E) (φ : Z → W) (es : List Z) (y : Z) → add size join extent (map φ es) (φ y) ≡ mapped φ (add size join (λ z. extent (φ z)) es y)
  unfolding add
  add_mapped {Z} extent φ es y =
      let ks = split9 size join (λ i. get_or (map extent (map φ es)) i (extent (φ y))) in
      let js = split9 size join (λ i. get_or (map (λ z. extent (φ z)) es) i (extent (φ y))) in
      let same : ks ≡ js = ap (λ xs. split9 size join (λ i. get_or xs i (extent (φ y)))) (map_map extent φ es) in
      let L = es ++ (y ∷ []) in
      let push : map φ es ++ (φ y ∷ []) ≡ map φ L = sym (map-append φ es (y ∷ [])) in
      let p : (t : Bool) → part t ks (map φ es ++ (φ y ∷ [])) ≡ map φ (part t js L) = λ t. ap (λ z. part t z (map φ es ++ (φ y ∷ []))) same ∙ ap (part t js) push ∙ part_map φ t js L in
      ap (λ n. cond (ltb n 8) (One (map φ es ++ (φ y ∷ []))) (Two (part true ks (map φ es ++ (φ y ∷ []))) (part false ks (map φ es ++ (φ y ∷ []))))) (length-map es φ)
      ∙ ap (λ z. cond (ltb (length es) 8) (One z) (Two (part true ks (map φ es ++ (φ y ∷ []))) (part false ks (map φ es ++ (φ y ∷ []))))) push
      ∙ ap (λ z. cond (ltb (length es) 8) (One (map φ L)) (Two z (part false ks (map φ es ++ (φ y ∷ []))))) (p true)
      ∙ ap (λ z. cond (ltb (length es) 8) (One (map φ L)) (Two (map φ (part true js L)) z)) (p false)
      ∙ out (ltb (length es) 8) (One L) (Two (part true js L) (part false js L))
    where
      out : (b : Bool) (g k : Grown (List Z)) → cond b (mapped φ g) (mapped φ k) ≡ mapped φ (cond b g k)
      out true g k = refl
      out false g k = refl
