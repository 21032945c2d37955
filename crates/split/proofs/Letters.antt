-- The letters of a sharing as numbers. Assumes nothing.
use Rattle.std.proofs.Common.{◌≡◌, ℕ, zero, suc, ◌+◌, ◌<◌, cond, eqb, List, [], ◌∷◌, length, get_or, set, Some, None, Option, sym, refl, ap, ◌∙◌, arith}
use Rattle.std.proofs.lemmas.List.{map-set, length-map}
use Rattle.std.proofs.lemmas.Bool.{eq-eqb, ne_eqb, eqb-true}
use Rattle.quadratic.specs.Sharing.{tally}
use Rattle.quadratic.proofs.Tally.{tally_set}
use Rattle.quadratic.specs.Split.{keep_pulled, next_before}
use Rattle.split.specs.declared.letter.Letter.{Letter}
use Rattle.split.specs.declared.letter.Letter.TheVariants.{A, B}
use Rattle.split.specs.Letters.{code_of, code_so_far, codes, marks}

coded : (l : Letter) → code_of l ≡ 0 → ⊥
coded A e = omega arith
coded B e = omega arith

pub codes_set : (letters : List (Option Letter)) (i : ℕ) (l : Letter) → codes (set letters i (Some l)) ≡ set (codes letters) i (code_of l)
codes_set letters i l = map-set code_so_far letters i (Some l)

-- an entry that has none yet gets its letter
pub one_less : (letters : List (Option Letter)) (i : ℕ) (l : Letter) → i < length letters → get_or (codes letters) i 0 ≡ 0 → tally 0 (codes (set letters i (Some l))) + 1 ≡ tally 0 (codes letters)
one_less letters i l small free =
    let more : tally 0 (set (codes letters) i (code_of l)) + cond (eqb (get_or (codes letters) i 0) 0) 1 0 ≡ tally 0 (codes letters) + cond (eqb (code_of l) 0) 1 0 =
    tally_set 0 (codes letters) i (code_of l) (omega (arith, length-map letters code_so_far)) in
    let blank = eq-eqb (get_or (codes letters) i 0) 0 free in
    let other = ne_eqb (code_of l) 0 (coded l) in
    let less = rw (blank, other) at more in
    rw codes_set (omega arith)

-- an entry without a letter has the mark 0 and the number 0
marked_alike : (letters : List (Option Letter)) (i : ℕ) → eqb (get_or (marks letters) i 0) 0 ≡ eqb (get_or (codes letters) i 0) 0
marked_alike [] i = refl
marked_alike (None ∷ ls) zero = refl
marked_alike (Some A ∷ ls) zero = refl
marked_alike (Some B ∷ ls) zero = refl
marked_alike (l ∷ ls) (suc i) = marked_alike ls i

pub free_alike : (letters : List (Option Letter)) (i : ℕ) → get_or (marks letters) i 0 ≡ 0 → get_or (codes letters) i 0 ≡ 0
free_alike letters i e = eqb-true (get_or (codes letters) i 0) 0 (sym (marked_alike letters i) ∙ eq-eqb (get_or (marks letters) i 0) 0 e)

module _ (ga gb : List ℕ) (letters : List (Option Letter)) where
  keeps_alike : (i : ℕ) (best : Option ℕ) → keep_pulled ga gb (marks letters) i best ≡ keep_pulled ga gb (codes letters) i best
  unfolding keep_pulled
  keeps_alike i None = let e = marked_alike letters i in cc
  keeps_alike i (Some k) = let e = marked_alike letters i in cc

  -- so either says which entry goes next
  pub next_alike : (n : ℕ) → next_before ga gb (marks letters) n ≡ next_before ga gb (codes letters) n
  unfolding next_before
  next_alike zero = refl
  next_alike (suc i) = keeps_alike i (next_before ga gb (marks letters) i) ∙ ap (keep_pulled ga gb (codes letters) i) (next_alike i)
