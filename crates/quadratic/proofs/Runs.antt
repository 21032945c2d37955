-- The choices of a whole run are those of the rule, and a group whose count plus the remaining is three gets all of them. Assumes nothing.
use Rattle.std.proofs.Common.{◌≡◌, ℕ, zero, suc, ◌+◌, ◌-◌, ◌<◌, cond, eqb, List, [], ◌∷◌, get_or, set, sym, refl, ap, ◌∙◌, subst, inl, inr, arith}
use Rattle.std.proofs.lemmas.Bool.{cases_eq, eq-eqb, ne_eqb}
use Rattle.quadratic.specs.Sharing.{tally, filled, RestToOne, ByTheRule}
use Rattle.quadratic.specs.Split.{remaining, sizes, join_sizes_lem, growths, seeds, goes_to_a, given, next, shared_one, shared, split9}
use Rattle.quadratic.proofs.Chosen.{next_is, seeds_are}
use Rattle.quadratic.proofs.Fair.{next_free, all_to_a, all_to_b, shared_fair}

filled_set : (v : ℕ) (ls : List ℕ) (i : ℕ) → get_or ls i 0 ≡ 0 → (v ≡ 0 → ⊥) → filled v (set ls i v) ≡ filled v ls
filled_set v [] i e n = refl
filled_set v (l ∷ ls) zero e n = ap (λ b. cond b v v ∷ filled v ls) (ne_eqb v 0 n) ∙ ap (λ b. cond b v l ∷ filled v ls) (sym (eq-eqb l 0 e))
filled_set v (l ∷ ls) (suc i) e n = ap (λ z. cond (eqb l 0) v l ∷ z) (filled_set v ls i e n)

filled_none : (v : ℕ) (ls : List ℕ) → tally 0 ls ≡ 0 → filled v ls ≡ ls
filled_none v [] e = refl
filled_none v (l ∷ ls) e =
    elim (cases_eq l 0) [
      | inl z ↦ let o : ◌≡◌ {A = ℕ} (cond (eqb l 0) 1 0) 1 = ap (λ b. cond {A = ℕ} b 1 0) (eq-eqb l 0 z) in absurd (omega arith)
      | inr z ↦ ap (λ b. cond b v l ∷ filled v ls) (ne_eqb l 0 z) ∙ ap (λ w. l ∷ w) (filled_none v ls (omega arith))
    ]

module _ {E : Type 0} (size : E → ℕ) (join : E → E → E) (x : ℕ → E) where
  -- at the end no entry is without a letter
  at_end : (v n : ℕ) → n ≡ 7 → split9 size join x ≡ filled v (shared size join x n).letters
  unfolding split9
  at_end v n e =
      let f = shared_fair size join x n (omega arith) in
      let z = f.0.in_none in
      let s = f.1 in
      ap (λ j. (shared size join x j).letters) (sym e) ∙ sym (filled_none v (shared size join x n).letters (omega arith))

  -- entry i gets its letter by the turn after n others
  one_turn : (n : ℕ) → n < 7 → (i : ℕ) × (shared size join x (suc n) ≡ given size join x (shared size join x n) i (goes_to_a size join x (shared size join x n) i)) × (get_or (shared size join x n).letters i 0 ≡ 0)
  unfolding shared shared_one
  one_turn n l =
      let g = shared size join x n in
      let f = shared_fair size join x n (omega arith) in
      let z = f.0.in_none in
      let s = f.1 in
      let k = next_free size join x g f.0.nine (omega arith) in
      (k.0, ap (shared_one size join x g) k.1, k.3)

  stays_a : (n : ℕ) → n < 7 → (shared size join x n).na + remaining (shared size join x n).na (shared size join x n).nb ≡ 3
      → (filled 65 (shared size join x (suc n)).letters ≡ filled 65 (shared size join x n).letters) × ((shared size join x (suc n)).na + remaining (shared size join x (suc n)).na (shared size join x (suc n)).nb ≡ 3)
  unfolding given
  stays_a n l e =
      let g = shared size join x n in
      let s = (shared_fair size join x n (omega arith)).1 in
      let k = one_turn n l in
      let i = k.0 in
      let turn = k.1 ∙ ap (given size join x g i) (all_to_a size join x g i e) in (
        ap (λ h. filled 65 h.letters) turn ∙ filled_set 65 g.letters i k.2 (λ z. omega arith),
        subst (λ h. h.na + remaining h.na h.nb ≡ 3) (sym turn) (omega arith),
      )

  stays_b : (n : ℕ) → n < 7 → (shared size join x n).nb + remaining (shared size join x n).na (shared size join x n).nb ≡ 3
      → (filled 66 (shared size join x (suc n)).letters ≡ filled 66 (shared size join x n).letters) × ((shared size join x (suc n)).nb + remaining (shared size join x (suc n)).na (shared size join x (suc n)).nb ≡ 3)
  unfolding given
  stays_b n l e =
      let g = shared size join x n in
      let s = (shared_fair size join x n (omega arith)).1 in
      let k = one_turn n l in
      let i = k.0 in
      let turn = k.1 ∙ ap (given size join x g i) (all_to_b size join x g i (omega arith) e) in (
        ap (λ h. filled 66 h.letters) turn ∙ filled_set 66 g.letters i k.2 (λ z. omega arith),
        subst (λ h. h.nb + remaining h.na h.nb ≡ 3) (sym turn) (omega arith),
      )

  gets_all_a : (d n : ℕ) → n + d ≡ 7 → (shared size join x n).na + remaining (shared size join x n).na (shared size join x n).nb ≡ 3 → split9 size join x ≡ filled 65 (shared size join x n).letters
  gets_all_a zero n z e = at_end 65 n (omega arith)
  gets_all_a (suc d) n z e = let s = stays_a n (omega arith) e in gets_all_a d (suc n) (omega arith) s.1 ∙ s.0

  gets_all_b : (d n : ℕ) → n + d ≡ 7 → (shared size join x n).nb + remaining (shared size join x n).na (shared size join x n).nb ≡ 3 → split9 size join x ≡ filled 66 (shared size join x n).letters
  gets_all_b zero n z e = at_end 66 n (omega arith)
  gets_all_b (suc d) n z e = let s = stays_b n (omega arith) e in gets_all_b d (suc n) (omega arith) s.1 ∙ s.0

  pub rest_to_one : RestToOne size join x (split9 size join x)
  rest_to_one = record {
    to_a = λ n l e. gets_all_a (7 - n) n (omega arith) e;
    to_b = λ n l e. gets_all_b (7 - n) n (omega arith) e;
  }

  pub by_the_rule : ByTheRule size join x
  unfolding seeds next
  by_the_rule = record {
    worst_pair = seeds_are (sizes size join x) (join_sizes_lem size join x) 79;
    goes_next = λ n l. next_is (growths size join x (shared size join x n).a) (growths size join x (shared size join x n).b) (shared size join x n).letters 9;
  }
