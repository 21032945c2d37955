-- The two parts that letters make of a list: they have all of it, and as many as there are letters. Assumes nothing.
use Rattle.std.proofs.Common.{◌≡◌, ℕ, suc, ◌+◌, Bool, true, false, cond, eqb, List, [], ◌∷◌, ◌++◌, map, length, refl, ap, arith}
use mathlib.Core.List.Permᴰ
use mathlib.Core.List.{Permᴰ}
use Rattle.std.specs.List.{AllByRecursion}
use Rattle.quadratic.specs.Sharing.{tally}
use Rattle.quadratic.specs.Split.{part}

module _ {X : Type 0} where
  -- together the parts have just the elements of the list
  pub part_perm : (ls : List ℕ) (xs : List X) → length ls ≡ length xs → Permᴰ xs (part true ls xs ++ part false ls xs)
  part_perm [] [] e = Permᴰ.nil
  part_perm [] (x ∷ xs) e = absurd (omega arith)
  part_perm (l ∷ ls) [] e = absurd (omega arith)
  part_perm (l ∷ ls) (x ∷ xs) e =
      let ih = part_perm ls xs (omega arith) in
      elim (eqb l 65) as (λ t. Permᴰ (x ∷ xs) (cond t (x ∷ part true ls xs) (part true ls xs) ++ cond t (part false ls xs) (x ∷ part false ls xs))) [
        | true ↦ Permᴰ.cons refl ih
        | false ↦ Permᴰ.trans (Permᴰ.cons refl ih) (Permᴰ.symm (Permᴰ.middle x (part true ls xs) (part false ls xs)))
      ]

  -- the part of A has as many as there are letters A, and the part of B the rest
  pub part_count : (ls : List ℕ) (xs : List X) → length ls ≡ length xs → (length (part true ls xs) ≡ tally 65 ls) × (length (part true ls xs) + length (part false ls xs) ≡ length xs)
  part_count [] [] e = (refl, refl)
  part_count [] (x ∷ xs) e = absurd (omega arith)
  part_count (l ∷ ls) [] e = absurd (omega arith)
  part_count (l ∷ ls) (x ∷ xs) e =
      let ih = part_count ls xs (omega arith) in
      let p = ih.0 in
      let q = ih.1 in
      elim (eqb l 65) as (λ t. (length (cond t (x ∷ part true ls xs) (part true ls xs)) ≡ cond t 1 0 + tally 65 ls) × (length (cond t (x ∷ part true ls xs) (part true ls xs)) + length (cond t (part false ls xs) (x ∷ part false ls xs)) ≡ suc (length xs))) [
        | true ↦ (omega arith, omega arith)
        | false ↦ (omega arith, omega arith)
      ]

  pub part_all : (P : X → Type 0) (t : Bool) (ls : List ℕ) (xs : List X) → AllByRecursion P xs → AllByRecursion P (part t ls xs)
  part_all P t [] xs h = tt
  part_all P t (l ∷ ls) [] h = tt
  part_all P true (l ∷ ls) (x ∷ xs) h =
      elim (eqb l 65) as (λ t. AllByRecursion P (cond t (x ∷ part true ls xs) (part true ls xs))) [ true ↦ (h.0, part_all P true ls xs h.1) | false ↦ part_all P true ls xs h.1 ]
  part_all P false (l ∷ ls) (x ∷ xs) h =
      elim (eqb l 65) as (λ t. AllByRecursion P (cond t (part false ls xs) (x ∷ part false ls xs))) [ true ↦ part_all P false ls xs h.1 | false ↦ (h.0, part_all P false ls xs h.1) ]

  -- one more letter and one more element
  pub part_more : (t : Bool) (ls : List ℕ) (l : ℕ) (xs : List X) (x : X) → length ls ≡ length xs → part t (ls ++ (l ∷ [])) (xs ++ (x ∷ [])) ≡ part t ls xs ++ part t (l ∷ []) (x ∷ [])
  part_more t [] l [] x e = refl
  part_more t [] l (y ∷ xs) x e = absurd (omega arith)
  part_more t (k ∷ ls) l [] x e = absurd (omega arith)
  part_more true (k ∷ ls) l (y ∷ xs) x e =
      let ih = part_more true ls l xs x (omega arith) in
      elim (eqb k 65) as (λ t. cond t (y ∷ part true (ls ++ (l ∷ [])) (xs ++ (x ∷ []))) (part true (ls ++ (l ∷ [])) (xs ++ (x ∷ []))) ≡ cond t (y ∷ part true ls xs) (part true ls xs) ++ part true (l ∷ []) (x ∷ [])) [ true ↦ ap (λ z. y ∷ z) ih | false ↦ ih ]
  part_more false (k ∷ ls) l (y ∷ xs) x e =
      let ih = part_more false ls l xs x (omega arith) in
      elim (eqb k 65) as (λ t. cond t (part false (ls ++ (l ∷ [])) (xs ++ (x ∷ []))) (y ∷ part false (ls ++ (l ∷ [])) (xs ++ (x ∷ []))) ≡ cond t (part false ls xs) (y ∷ part false ls xs) ++ part false (l ∷ []) (x ∷ [])) [ true ↦ ih | false ↦ ap (λ z. y ∷ z) ih ]

pub part_map : {X Y : Type 0} (f : X → Y) (t : Bool) (ls : List ℕ) (xs : List X) → part t ls (map f xs) ≡ map f (part t ls xs)
part_map f t [] xs = refl
part_map f t (l ∷ ls) [] = refl
part_map f true (l ∷ ls) (x ∷ xs) =
    let ih = part_map f true ls xs in
    elim (eqb l 65) as (λ t. cond t (f x ∷ part true ls (map f xs)) (part true ls (map f xs)) ≡ map f (cond t (x ∷ part true ls xs) (part true ls xs))) [ true ↦ ap (λ z. f x ∷ z) ih | false ↦ ih ]
part_map f false (l ∷ ls) (x ∷ xs) =
    let ih = part_map f false ls xs in
    elim (eqb l 65) as (λ t. cond t (part false ls (map f xs)) (f x ∷ part false ls (map f xs)) ≡ map f (cond t (part false ls xs) (x ∷ part false ls xs))) [ true ↦ ih | false ↦ ap (λ z. f x ∷ z) ih ]
