-- A table of 256 numbers, as it is made and read. Assumes nothing.
use Rattle.std.proofs.Common.{◌≡◌, ℕ, ◌<◌, ltb, List, length, get_or, replicate, is_some, Some, None, Option, refl, ap, ◌∙◌, ⊎_elim}
use Rattle.std.proofs.lemmas.Bool.{cases_Bool, cond-true, cond-false}
use Rattle.std.specs.Option.{option_map}
use Rattle.raster.proofs.Tables.{nothing_read}
use Rattle.painting.specs.Scenes.{at_number}
use Rattle.painting.proofs.Numbers.{entry_there}

pub nothing_there : {A : Type 0} (m n : ℕ) → at_number {A = A} (replicate m None) n ≡ None
nothing_there m n = ⊎_elim (λ e. cond-true (ltb n 256) _ None e ∙ nothing_read m n) (λ e. cond-false (ltb n 256) _ None e) (cases_Bool (ltb n 256))

-- whether something stands at a number that was read
pub some_there : {A B : Type 0} (f : A → B) (xs : List (Option A)) (n : ℕ) (o : Option A) → n < 256 → n < length xs → o ≡ get_or xs n o → is_some (option_map f (at_number xs n)) ≡ is_some o
some_there {A = A} f xs n o h l e = ap (λ v. is_some (option_map f v)) (entry_there xs n o h l e) ∙ some_mapped o
  where
    some_mapped : (v : Option A) → is_some (option_map f v) ≡ is_some v
    some_mapped None = refl
    some_mapped (Some x) = refl
