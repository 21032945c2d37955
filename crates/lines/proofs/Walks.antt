-- A walk along a list. Assumes nothing.
use Rattle.std.proofs.Common.{◌≡◌, ℕ, ◌+◌, ◌<◌, List, [], ◌∷◌, length, drop, Option, MatchOption, sym, ap, ◌∙◌, subst, ⊎_elim, arith}
use Rattle.std.specs.List.{slice_get}
use Rattle.std.proofs.lemmas.List.{drop_more}
use Rattle.std.proofs.lemmas.Option.{slice_get_cases}

-- it passes the item where it stands
pub passes_one : {A : Type 0} (xs : List A) (r : Option A) (i j : ℕ) → r ≡ slice_get xs i → i < length xs → j ≡ i + 1 → MatchOption r ((drop i xs ≡ []) × (drop j xs ≡ [])) (λ x. drop i xs ≡ x ∷ drop j xs)
passes_one {A = A} xs r i j e h k = ⊎_elim
    (λ w. let P : Option A → Type 0 = λ o. MatchOption o ((drop i xs ≡ []) × (drop j xs ≡ [])) (λ x. drop i xs ≡ x ∷ drop j xs) in
    subst P (sym (e ∙ w.2)) (drop_more xs i w.0 h ∙ ap (λ y. y ∷ drop (i + 1) xs) w.3 ∙ ap (λ n. w.0 ∷ drop n xs) (sym k)))
    (λ w. absurd (omega (arith, w.0)))
    (slice_get_cases xs i).1
