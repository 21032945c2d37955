-- One element leaves a list, and the first that passes. Assumes nothing.
use Rattle.std.proofs.Common.{◌≡◌, ℕ, zero, suc, ◌+◌, ◌-◌, ◌<◌, ◌≤◌, Bool, true, false, cond, List, [], ◌∷◌, ◌++◌, map, length, get_or, take, set, Some, None, Option, sym, refl, ap, ◌∙◌, subst, inl, inr, arith, get_or-take}
use mathlib.Core.List.{Permᴰ}
use lib.ListN.{length-map}
use lib.Seq.{split_at, take-set-le, take-set-lt}
use Rattle.std.specs.List.{prefix_len, AllByRecursion}
use Rattle.std.proofs.lemmas.List.{drop_all, get_or_default, get_or-map, map-set, take-map}
use Rattle.std.proofs.lemmas.Bool.{cases_lt}
use Rattle.quadratic.proofs.Perms.{perm_same, perm_last, perm_at, perm_set}
use Rattle.guttman.specs.Cutting.{without, or_later, first_some}
use Rattle.guttman.proofs.Lists.{perm_length}

module _ {X : Type 0} where
  -- the last element, and those before it
  last_apart : (x : X) (xs : List X) → x ∷ xs ≡ take (length xs) (x ∷ xs) ++ (get_or (x ∷ xs) (length xs) x ∷ [])
  last_apart x xs =
      split_at (x ∷ xs) (length xs) x (omega arith)
      ∙ ap (λ z. take (length xs) (x ∷ xs) ++ (get_or (x ∷ xs) (length xs) x ∷ z)) (drop_all (length xs) xs (omega arith))

  -- without its element at i a list has the others
  pub perm_without : (xs : List X) (i : ℕ) (d : X) → i < length xs → Permᴰ xs (get_or xs i d ∷ without xs i)
  perm_without [] i d l = absurd (omega arith)
  perm_without (x ∷ xs) i d l =
      let n = length xs in
      let z = get_or (x ∷ xs) n x in
      let us = take n (x ∷ xs) in
      let front : Permᴰ (x ∷ xs) (z ∷ us) = mathlib.Core.List.Permᴰ.trans (perm_same (last_apart x xs)) (perm_last us z) in
      elim (cases_lt i n) [
        | inl m ↦
            let f = perm_length front in
            let short : length us ≡ n = omega arith in
            let inside : i < length us = omega arith in
            let same : get_or us i d ≡ get_or (x ∷ xs) i d = get_or-take n (x ∷ xs) i d m in
            mathlib.Core.List.Permᴰ.trans front
            (mathlib.Core.List.Permᴰ.trans (mathlib.Core.List.Permᴰ.cons refl (perm_at us i d inside))
            (mathlib.Core.List.Permᴰ.trans (mathlib.Core.List.Permᴰ.swap refl refl)
            (mathlib.Core.List.Permᴰ.cons same (mathlib.Core.List.Permᴰ.trans (mathlib.Core.List.Permᴰ.symm (perm_set us i z inside)) (perm_same (sym (take-set-lt n (x ∷ xs) i z m)))))))
        | inr m ↦
            let last : i ≡ n = omega arith in
            let here : z ≡ get_or (x ∷ xs) i d = ap (λ k. get_or (x ∷ xs) k x) (sym last) ∙ get_or_default (x ∷ xs) i x d l in
            mathlib.Core.List.Permᴰ.trans front (mathlib.Core.List.Permᴰ.cons here (perm_same (sym (take-set-le n (x ∷ xs) i z m))))
      ]

  pub length_without : (xs : List X) (i : ℕ) → i < length xs → length (without xs i) + 1 ≡ length xs
  length_without [] i l = absurd (omega arith)
  length_without (x ∷ xs) i l = let n = perm_length (perm_without (x ∷ xs) i x l) in omega arith

  -- in places: the count falls by one, and what stood last is written to place i
  pub without_is : (xs : List X) (i : ℕ) (d : X) → without xs i ≡ take (length xs - 1) (set xs i (get_or xs (length xs - 1) d))
  without_is [] i d = refl
  without_is (x ∷ xs) i d =
      let n : length xs ≡ length (x ∷ xs) - 1 = omega arith in
      ap (λ z. take (length xs) (set (x ∷ xs) i z)) (get_or_default (x ∷ xs) (length xs) x d (omega arith))
      ∙ ap (λ k. take k (set (x ∷ xs) i (get_or (x ∷ xs) k d))) n

-- elements may be read another way
pub without_map : {X Y : Type 0} (f : X → Y) (xs : List X) (i : ℕ) → without (map f xs) i ≡ map f (without xs i)
without_map f [] i = refl
without_map f (x ∷ xs) i =
    let n = length xs in
    ap (λ k. take k (set (map f (x ∷ xs)) i (get_or (map f (x ∷ xs)) k (f x)))) (length-map xs f)
    ∙ ap (λ z. take n (set (map f (x ∷ xs)) i z)) (get_or-map f (x ∷ xs) n x (f x) (omega arith))
    ∙ ap (take n) (sym (map-set f (x ∷ xs) i (get_or (x ∷ xs) n x)))
    ∙ take-map f n (set (x ∷ xs) i (get_or (x ∷ xs) n x))

-- ---- the first that does not pass, and the first to which a function gives something

module _ {X : Type 0} (p : X → Bool) where
  pub leading_stops : (xs : List X) (d : X) → prefix_len p xs < length xs → p (get_or xs (prefix_len p xs) d) ≡ false
  leading_stops [] d l = absurd (omega arith)
  leading_stops (x ∷ xs) d l =
      elim (p x) as (λ b. p x ≡ b → cond b (1 + prefix_len p xs) 0 < suc (length xs) → p (get_or (x ∷ xs) (cond b (1 + prefix_len p xs) 0) d) ≡ false) [
        | true ↦ λ e m. let one : suc (prefix_len p xs) ≡ 1 + prefix_len p xs = omega arith in subst (λ k. p (get_or (x ∷ xs) k d) ≡ false) one (leading_stops xs d (omega arith))
        | false ↦ λ e m. e
      ] refl l

  pub leading_whole : (xs : List X) → length xs ≤ prefix_len p xs → AllByRecursion (λ x. p x ≡ true) xs
  leading_whole [] l = tt
  leading_whole (x ∷ xs) l =
      elim (p x) as (λ b. p x ≡ b → suc (length xs) ≤ cond b (1 + prefix_len p xs) 0 → (p x ≡ true) × AllByRecursion (λ x. p x ≡ true) xs) [
        | true ↦ λ e m. (e, leading_whole xs (omega arith))
        | false ↦ λ e m. absurd (omega arith)
      ] refl l

  -- where a search stands that passed by the elements before i
  pub leading_is : (xs : List X) (i : ℕ) (d : X) → i ≤ length xs → ((k : ℕ) → k < i → p (get_or xs k d) ≡ true) → (i < length xs → p (get_or xs i d) ≡ false) → prefix_len p xs ≡ i
  leading_is [] i d l before here = omega arith
  leading_is (x ∷ xs) zero d l before here = ap (λ b. cond b (1 + prefix_len p xs) 0) (here (omega arith))
  leading_is (x ∷ xs) (suc i) d l before here =
      let ih = leading_is xs i d (omega arith) (λ k m. before (suc k) (omega arith)) (λ m. here (omega arith)) in
      ap (λ b. cond b (1 + prefix_len p xs) 0) (before 0 (omega arith)) ∙ omega arith

pub leading_map : {X Y : Type 0} (p : Y → Bool) (g : X → Y) (xs : List X) → prefix_len p (map g xs) ≡ prefix_len (λ x. p (g x)) xs
leading_map p g [] = refl
leading_map p g (x ∷ xs) = ap (λ n. cond (p (g x)) (1 + n) 0) (leading_map p g xs)

pub first_some_map : {X Y Z : Type 0} (f : Y → Option Z) (g : X → Y) (xs : List X) → first_some f (map g xs) ≡ first_some (λ x. f (g x)) xs
first_some_map f g [] = refl
first_some_map f g (x ∷ xs) = ap (or_later (f (g x))) (first_some_map f g xs)

-- what is found only under a test is found
pub some_under : {Y : Type 0} (b : Bool) (o : Option Y) (y : Y) → cond b o None ≡ Some y → o ≡ Some y
some_under true o y z = z
some_under false o y z = absurd (let n : ◌≡◌ {A = ℕ} 0 1 = cc in omega arith)

module _ {X Y : Type 0} (f : X → Option Y) where
  pub first_some_at : (xs : List X) (r : ℕ × Y) → first_some f xs ≡ Some r → (r.0 < length xs) × ((d : X) → f (get_or xs r.0 d) ≡ Some r.1)
  first_some_at [] r z = absurd (let n : ◌≡◌ {A = ℕ} 0 1 = cc in omega arith)
  first_some_at (x ∷ xs) r z = by (f x) refl (first_some f xs) (λ s. first_some_at xs s) z
    where
      by : (o : Option Y) → f x ≡ o → (l : Option (ℕ × Y)) → ((s : ℕ × Y) → l ≡ Some s → (s.0 < length xs) × ((d : X) → f (get_or xs s.0 d) ≡ Some s.1))
          → or_later o l ≡ Some r → (r.0 < length (x ∷ xs)) × ((d : X) → f (get_or (x ∷ xs) r.0 d) ≡ Some r.1)
      by (Some y) e l ih z =
          let q : (0, y) ≡ r = cc in
          subst (λ r. (r.0 < length (x ∷ xs)) × ((d : X) → f (get_or (x ∷ xs) r.0 d) ≡ Some r.1)) q (omega arith, λ d. e)
      by None e None ih z = absurd (let n : ◌≡◌ {A = ℕ} 0 1 = cc in omega arith)
      by None e (Some s) ih z =
          let q : (suc s.0, s.1) ≡ r = cc in
          let k = ih s refl in
          let a = k.0 in
          subst (λ r. (r.0 < length (x ∷ xs)) × ((d : X) → f (get_or (x ∷ xs) r.0 d) ≡ Some r.1)) q (omega arith, k.1)

  pub first_some_none : (xs : List X) → first_some f xs ≡ None → AllByRecursion (λ x. f x ≡ None) xs
  first_some_none [] z = tt
  first_some_none (x ∷ xs) z = by (f x) refl (first_some f xs) (first_some_none xs) z
    where
      by : (o : Option Y) → f x ≡ o → (l : Option (ℕ × Y)) → (l ≡ None → AllByRecursion (λ x. f x ≡ None) xs) → or_later o l ≡ None → (f x ≡ None) × AllByRecursion (λ x. f x ≡ None) xs
      by (Some y) e l ih z = absurd (let n : ◌≡◌ {A = ℕ} 0 1 = cc in omega arith)
      by None e None ih z = (e, ih refl)
      by None e (Some s) ih z = absurd (let n : ◌≡◌ {A = ℕ} 0 1 = cc in omega arith)

  -- what a search is that passed by the elements before i and found y at i
  pub first_some_found : (xs : List X) (i : ℕ) (d : X) (y : Y) → i < length xs → ((k : ℕ) → k < i → f (get_or xs k d) ≡ None) → f (get_or xs i d) ≡ Some y → first_some f xs ≡ Some (i, y)
  first_some_found [] i d y l before here = absurd (omega arith)
  first_some_found (x ∷ xs) zero d y l before here = ap (λ o. or_later o (first_some f xs)) here
  first_some_found (x ∷ xs) (suc i) d y l before here =
      ap (λ o. or_later o (first_some f xs)) (before 0 (omega arith))
      ∙ ap (or_later None) (first_some_found xs i d y (omega arith) (λ k m. before (suc k) (omega arith)) here)

  pub first_some_missed : (xs : List X) → AllByRecursion (λ x. f x ≡ None) xs → first_some f xs ≡ None
  first_some_missed [] h = refl
  first_some_missed (x ∷ xs) h = ap (λ o. or_later o (first_some f xs)) h.0 ∙ ap (or_later None) (first_some_missed xs h.1)
