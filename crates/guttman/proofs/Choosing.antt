-- The entry that is chosen is there, and is the first best. Assumes nothing.
use Rattle.std.proofs.Common.{◌≡◌, ℕ, zero, suc, ◌<◌, Bool, true, false, List, ◌∷◌, length, get_or, ◌∙◌, subst, zero-add, arith}
use Rattle.std.specs.List.{range_with_len, IsFirstBest}
use Rattle.std.specs.Cmp.{IsStrictWeakOrder}
use Rattle.std.proofs.lemmas.List.MinMax.{IsFirstBest-from_best_of}
use Rattle.std.proofs.lemmas.List.FromFn.{get_or-range_with_len, length-range_with_len}
use Rattle.std.proofs.lemmas.Bool.Decides.{nat_tests}
use Rattle.guttman.specs.Trees.{sooner, choose}
use Rattle.guttman.specs.Laws.{Soonest}

module _ {E : Type 0} (size : E → ℕ) (join : E → E → E) (xs : List E) (e : E) where
  abbrev beats : ℕ → ℕ → Bool
  beats i k = sooner size join e (get_or xs i e) (get_or xs k e)

  sooner_ranks : IsStrictWeakOrder beats
  unfolding sooner
  sooner_ranks = record {
    one_way = λ i k h. grind (arith, nat_tests);
    chain = λ i j k h l. grind (arith, nat_tests);
  }

  abbrev places : List ℕ
  places = 0 ∷ range_with_len 0 (length xs)

  at_place : (k : ℕ) → k < length xs → get_or places (suc k) 0 ≡ k
  at_place k h = get_or-range_with_len 0 (length xs) k 0 h ∙ zero-add k

  -- from the first best of the places, of which place 0 is listed twice
  from_places : (b j : ℕ) → 0 < length xs → IsFirstBest beats places (length places) b → get_or places b 0 ≡ j → Soonest size join xs e j
  from_places b j some f is =
      let n = length-range_with_len 0 (length xs) in
      record {
        within = within b is f.0;
        best = λ k h. subst (λ z. beats z j ≡ false) (at_place k h) (subst (λ z. beats (get_or places (suc k) 0) z ≡ false) is (f.1 (suc k) 0 (omega arith)));
        first = λ k h. first b is f.0 f.2 k h;
      }
    where
      within : (b : ℕ) → get_or places b 0 ≡ j → b < length places → j < length xs
      within zero z l = omega arith
      within (suc b) z l = let n = length-range_with_len 0 (length xs) in let v = at_place b (omega arith) in omega arith

      first : (b : ℕ) → get_or places b 0 ≡ j → b < length places → ((k : ℕ) (d : ℕ) → k < b → beats (get_or places b d) (get_or places k d) ≡ true) → (k : ℕ) → k < j → beats j k ≡ true
      first zero z l f k h = absurd (omega arith)
      first (suc b) z l f k h =
          let n = length-range_with_len 0 (length xs) in
          let v = at_place b (omega arith) in
          subst (λ y. beats j y ≡ true) (at_place k (omega arith)) (subst (λ y. beats y (get_or places (suc k) 0) ≡ true) z (f (suc k) 0 (omega arith)))

  pub choose_soonest : 0 < length xs → Soonest size join xs e (choose size join xs e)
  unfolding choose
  choose_soonest some = let f = IsFirstBest-from_best_of sooner_ranks 0 (range_with_len 0 (length xs)) in from_places f.0 (choose size join xs e) some f.1 f.2

  pub choose_below : 0 < length xs → choose size join xs e < length xs
  choose_below some = (choose_soonest some).within
