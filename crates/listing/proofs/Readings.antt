-- A figure at the front of some bytes can be read in one way only.
use Rattle.std.proofs.Common.{◌≡◌, ℕ, ◌<◌, ◌≤◌, List, [], ◌∷◌, ◌++◌, length, get_or, take, drop, Some, None, decimal, Option, sym, refl, ap, ◌∙◌, inl, inr, add-zero, arith, Bor}
use Rattle.std.proofs.lemmas.Bool.{cases_lt}
use Rattle.std.specs.Str.Parse.{digits_value, AllDigits}
use Rattle.std.proofs.lemmas.Str.Parse.{IsNumeralModel, digit_from_value, numerals_by_value, tells_by_index}
use Rattle.std.proofs.lemmas.Fmt.{decimal_is_IsNumeral, decimal_digit, first_decimal, decimal-digits_value}
use Rattle.std.proofs.lemmas.List.{take-append-drop, length-take-le, get_or-take, get_or-drop}
use Rattle.listing.specs.Figures.{Ended, Numeric, DigitsFront, Parts, Front, Reads}

-- digits up to what is no digit
pub same_front :
    (ds es t u : List ℕ) → AllDigits 10 ds → AllDigits 10 es → Ended t → Ended u → ds ++ t ≡ es ++ u → (ds ≡ es) × (t ≡ u)
same_front [] [] t u p q et eu e = (refl, e)
same_front [] (c ∷ es) t u p q et eu e =
    let h : get_or t 0 0 ≡ c = ap (λ xs. get_or xs 0 0) e in
    let d = digit_from_value c q.0 in
    absurd (et (omega arith, omega arith))
same_front (c ∷ ds) [] t u p q et eu e =
    let h : c ≡ get_or u 0 0 = ap (λ xs. get_or xs 0 0) e in
    let d = digit_from_value c p.0 in
    absurd (eu (omega arith, omega arith))
same_front (c ∷ ds) (d ∷ es) t u p q et eu e =
    let h : c ≡ d = cc in
    let r = same_front ds es t u p.1 q.1 et eu (ap (drop 1) e) in
    (let s = r.0 in cc, r.1)

-- a figure's digits
digits_of : (n : ℕ) → n ≤ 65535 → AllDigits 10 (decimal n)
digits_of n l = (decimal_is_IsNumeral n (omega arith)).0.1

own : IsNumeralModel (λ ds. Numeric ds (length ds)) (digits_value 10)
own = numerals_by_value _ tells_by_index

pub parts :
    (bs : List ℕ) (k : ℕ) (ds t : List ℕ) → DigitsFront bs k → ds ≡ take k bs → t ≡ drop k bs → Parts bs ds t
parts bs k ds t f d e =
    let n : length ds ≡ k = ap length d ∙ length-take-le k bs f.within in
    let at : get_or t 0 0 ≡ get_or bs k 0 = ap (λ xs. get_or xs 0 0) e ∙ (get_or-drop k bs 0 0 ∙ ap (λ i. get_or bs i 0) (add-zero k)) in
    record {
      whole = sym (take-append-drop k bs) ∙ (ap (λ xs. xs ++ drop k bs) (sym d) ∙ ap (λ xs. ds ++ xs) (sym e));
      digits =
          λ i l.
          let m : i < k = omega arith in
          let g : get_or ds i 0 ≡ get_or bs i 0 = ap (λ xs. get_or xs i 0) d ∙ get_or-take k bs i 0 m in
          let h = f.digits i m in
          (omega arith, omega arith);
      ended = λ h. f.ended (omega arith, omega arith);
    }

-- what the digits are, if they are a figure's
read_digits : (bs ds t : List ℕ) (n : ℕ) (rest : List ℕ) → Parts bs ds t → Front [] bs n rest → ds ≡ decimal n
read_digits bs ds t n rest p f =
    (same_front ds (decimal n) t rest (own.to ds p.digits) (digits_of n f.small) p.ended f.ended
    (sym p.whole ∙ f.text)).0

-- two readings leave the same rest
pub same_rest : (x : ℕ) (bs : List ℕ) (m n : ℕ) (t u : List ℕ) → Front (x ∷ []) bs m t → Front (x ∷ []) bs n u → t ≡ u
same_rest x bs m n t u f g =
    (same_front (decimal m) (decimal n) t u (digits_of m f.small) (digits_of n g.small) f.ended g.ended
    (ap (drop 1) (sym f.text ∙ g.text))).1

-- a figure has a digit
pub none_empty : (bs ds t : List ℕ) → Parts bs ds t → length ds ≡ 0 → Reads [] bs None
none_empty bs ds t p l n rest f =
    let h = f.small in
    let e = ap length (read_digits bs ds t n rest p f) in
    let s = (decimal_is_IsNumeral n (omega arith)).0.0 in
    omega arith

-- of several, the first is no zero
pub none_zero : (bs ds t : List ℕ) → Parts bs ds t → 1 < length ds → get_or ds 0 0 ≡ 48 → Reads [] bs None
none_zero bs ds t p l z n rest f =
    let h = f.small in
    let e = read_digits bs ds t n rest p f in
    let len = ap length e in
    let first = ap (λ xs. get_or xs 0 0) e in
    elim (cases_lt 0 n) [
      | inl q ↦ let more = first_decimal n q (omega arith) in omega arith
      | inr q ↦ let one = ap length (decimal_digit n (omega arith)) in omega arith
    ]

-- the value is at most 65,535
pub none_large : (bs ds t : List ℕ) → Parts bs ds t → 65535 < digits_value 10 ds → Reads [] bs None
none_large bs ds t p l n rest f =
    let h = f.small in
    let e = ap (digits_value 10) (read_digits bs ds t n rest p f) in
    let s = (decimal_is_IsNumeral n (omega arith)).1 in
    omega arith

-- else it is a figure
pub some_read :
    (bs ds t : List ℕ) (n : ℕ) → Parts bs ds t → 0 < length ds → (get_or ds 0 0 ≡ 48 → length ds ≡ 1)
    → digits_value 10 ds ≡ n → n ≤ 65535 → Front [] bs n t
some_read bs ds t n p some lead v l =
    let w : decimal (digits_value 10 ds) ≡ ds = decimal-digits_value own ds p.digits some lead (omega arith) in
    record { small = l; text = p.whole ∙ ap (λ xs. xs ++ t) (sym w ∙ ap decimal v); ended = p.ended }

-- after a space
pub after_space :
    (bs xs : List ℕ) (r : Option (ℕ × Bor (List ℕ))) → bs ≡ 32 ∷ xs → Reads [] xs r → Reads (32 ∷ []) bs r
after_space bs xs (Some p) e f = record { small = f.small; text = e ∙ ap (λ ys. 32 ∷ ys) f.text; ended = f.ended }
after_space bs xs None e f = λ n rest h.
    f n rest (record { small = h.small; text = ap (drop 1) (sym e ∙ h.text); ended = h.ended })
