-- A row in characters: the inks that a surface has there, each as a character. Assumes nothing.
use Rattle.std.proofs.Common.{◌≡◌, ℕ, zero, suc, ◌+◌, ◌<◌, ◌≤◌, ◌&&◌, true, false, cond, get_or, string_bytes, IfOk, List, [], ◌∷◌, map, map-id, nat_lt, Some, None, Ok, Err, Option, Result, refl, sym, ap, ◌∙◌, inl, inr, arith}
use Rattle.std.specs.List.{range_with_len, filter_map}
use Rattle.std.specs.Iterator.{DrainsIf}
use Rattle.std.specs.Result.{result_ok}
use Rattle.std.specs.Str.{encode_utf8_all}
use Rattle.std.specs.declared.string.String.{String}
use Rattle.std.proofs.lemmas.Iterator.{YieldsList, items_from_drains}
use Rattle.std.proofs.lemmas.Result.{IfOk-weaker}
use Rattle.std.proofs.lemmas.Str.{encodes-IsAscii}
use Rattle.std.proofs.lemmas.Bool.{cases_lt}
use Rattle.std.proofs.lemmas.Bool.Decides.{nat_tests}
use Rattle.raster.specs.declared.refusal.Refusal.{Refusal}
use Rattle.surface.specs.Picture.{Picture, On}
use Rattle.surface.specs.Calls.{Read}
use Rattle.letters.specs.Letters.{letter_of, row_text}

-- the ink of a pixel, if the picture has it
abbrev pub ink_at : Picture → ℕ → ℕ → Option ℕ
ink_at p y x = cond (nat_lt x p.wide && nat_lt y p.high) (Some (p.taken x y)) None

on : (p : Picture) (x y : ℕ) → On p x y → ink_at p y x ≡ Some (p.taken x y)
on p x y o = let a = o.column in let b = o.row in grind (arith, nat_tests)

off : (p : Picture) (x y : ℕ) → (On p x y → ⊥) → ink_at p y x ≡ None
off p x y o =
    elim (cases_lt x p.wide) [
      | inl a ↦ elim (cases_lt y p.high) [ inl b ↦ absurd (o (record { column = a; row = b })) | inr b ↦ grind (arith, nat_tests) ]
      | inr a ↦ grind (arith, nat_tests)
    ]

pub ink_read : (p : Picture) (x y : ℕ) (r : Result ℕ Refusal) → Read p x y r → result_ok r ≡ ink_at p y x
ink_read p x y (Ok ink) h = ap Some h.1 ∙ sym (on p x y h.0)
ink_read p x y (Err e) h = sym (off p x y h.0)

-- the letters of n pixels, from a on
letters :
    (p : Picture) (y a n : ℕ) → a + n ≤ p.wide
    → map letter_of (filter_map (ink_at p y) (range_with_len a n)) ≡ cond (nat_lt y p.high) (map (λ x. letter_of (p.taken x y)) (range_with_len a n)) []
letters p y a zero h = elim (nat_lt y p.high) as (λ b. ◌≡◌ {A = List ℕ} [] (cond b [] [])) [ true ↦ refl | false ↦ refl ]
letters p y a (suc n) h =
    let e = letters p y (a + 1) n (omega arith) in
    elim (cases_lt y p.high) [
      | inl b ↦ let f = on p a y (record { column = omega arith; row = b }) in grind (arith, nat_tests, e, f)
      | inr b ↦ let f = off p a y (λ o. let r = o.row in omega arith) in grind (arith, nat_tests, e, f)
    ]

letter_below : (k : ℕ) → letter_of k < 128
letter_below k = grind (arith, nat_tests)

letters_ascii : (ks : List ℕ) (i : ℕ) → get_or (map letter_of ks) i 0 < 128
letters_ascii [] i = omega arith
letters_ascii (k ∷ ks) zero = letter_below k
letters_ascii (k ∷ ks) (suc i) = letters_ascii ks i

-- the text of the letters of the row's inks
pub row_collected :
    {S Z E : Type 0} {steps : S → Option ℕ → S → Type 0} {s : S} (p : Picture) (y n : ℕ) (r : Result (String Z) E) → n ≡ p.wide
    → IfOk r (λ v. (xs : List ℕ) × DrainsIf steps (Unit {0}) s xs × (string_bytes v ≡ encode_utf8_all xs))
    → YieldsList steps (λ x. x) s (map letter_of (filter_map (ink_at p y) (range_with_len 0 n)))
    → IfOk r (λ v. string_bytes v ≡ row_text p y)
row_collected p y n r e ran road = IfOk-weaker r _ _ (λ v h.
    h.2
    ∙ ap encode_utf8_all (sym (map-id h.0) ∙ items_from_drains h.0 h.1 road)
    ∙ encodes-IsAscii _ (letters_ascii (filter_map (ink_at p y) (range_with_len 0 n)))
    ∙ ap (λ k. map letter_of (filter_map (ink_at p y) (range_with_len 0 k))) e
    ∙ letters p y 0 p.wide (omega arith)) ran
