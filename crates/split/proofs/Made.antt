-- An array that calls of a closure made, one for each place. Assumes nothing.
use Rattle.std.proofs.Common.{◌≡◌, ℕ, zero, suc, ◌+◌, ◌<◌, List, map, length, get_or, sym, ap, ◌∙◌, subst, arith}
use Rattle.std.specs.List.{range_with_len}
use Rattle.std.specs.Fn.{Called, Mut}
use Rattle.std.specs.Array.{IsFromFnResultFrom, IsFromFnResult, MapsFrom, IsMapOf}
use Rattle.std.proofs.lemmas.List.{ext_get_or, get_or-map, length-map}
use Rattle.std.proofs.lemmas.List.FromFn.{fill_by_all}

-- the closure gives h of the place, and stays as it is
module _ {F B : Type 0} (g : Mut F (ℕ × Unit {0}) B) (f : F) (h : ℕ → B) (step : (i : ℕ) (y : B) (q : F) → Called g f (i, tt) y q → (y ≡ h i) × (q ≡ f)) where
  made_at : (ys : List B) (i n k m : ℕ) (d : B) → IsFromFnResultFrom g f ys i n → k < n → i + k ≡ m → get_or ys m d ≡ h m
  made_at ys i zero k m d made l e = absurd (omega arith)
  made_at ys i (suc n) zero m d made l e =
      let at : i ≡ m = omega arith in
      subst (λ v. get_or ys v d ≡ h v) at (made.2.1 d ∙ (step i made.1 made.0 made.3).0)
  made_at ys i (suc n) (suc k) m d made l e =
      made_at ys (i + 1) n k m d (subst (λ q. IsFromFnResultFrom g q ys (i + 1) n) (step i made.1 made.0 made.3).1 made.4) (omega arith) (omega arith)

  pub made : (d : B) (ys : List B) (n : ℕ) → IsFromFnResult g f ys n → ys ≡ map h (range_with_len 0 n)
  made d ys n all = fill_by_all h ys n d all.long (λ k l. made_at ys 0 n k k d all.each l (omega arith))

-- the closure gives h of the element, and stays as it is
module _ {F A B : Type 0} (g : Mut F (A × Unit {0}) B) (f : F) (h : A → B) (step : (x : A) (y : B) (q : F) → Called g f (x, tt) y q → (y ≡ h x) × (q ≡ f)) where
  mapped_at : (xs : List A) (ys : List B) (i n k m : ℕ) (c : A) (d : B) → MapsFrom g f xs ys i n → k < n → i + k ≡ m → get_or ys m d ≡ h (get_or xs m c)
  mapped_at xs ys i zero k m c d all l e = absurd (omega arith)
  mapped_at xs ys i (suc n) zero m c d all l e =
      let at : i ≡ m = omega arith in
      subst (λ v. get_or ys v d ≡ h (get_or xs v c)) at (all.4.1 d ∙ (step all.1 all.2 all.0 all.5).0 ∙ ap h (sym (all.3.1 c)))
  mapped_at xs ys i (suc n) (suc k) m c d all l e =
      mapped_at xs ys (i + 1) n k m c d (subst (λ q. MapsFrom g q xs ys (i + 1) n) (step all.1 all.2 all.0 all.5).1 all.6) (omega arith) (omega arith)

  pub mapped : (xs : List A) (ys : List B) (n : ℕ) (c : A) (d : B) → length xs ≡ n → IsMapOf g f xs ys n → ys ≡ map h xs
  mapped xs ys n c d long all =
      ext_get_or d ys (map h xs) (all.long ∙ sym long ∙ sym (length-map xs h))
      (λ k l. let m = all.long in mapped_at xs ys 0 n k k c d all.each (omega arith) (omega arith) ∙ sym (get_or-map h xs k c d (omega arith)))
