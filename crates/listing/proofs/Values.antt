-- The value of digits, one digit after the other.
use Rattle.std.proofs.Common.{◌≡◌, ℕ, ◌+◌, ◌-◌, ◌*◌, ◌<◌, ◌≤◌, List, ◌++◌, map, length, get_or, take, drop, sym, ap, ◌∙◌, arith}
use Rattle.std.specs.Int.{IsInRange}
use Rattle.std.specs.Char.{digit_value}
use Rattle.std.specs.Str.Parse.{digits_value}
use Rattle.std.specs.Int.Digits.{number_from_digits_after, number_from_digits}
use Rattle.std.proofs.lemmas.Int.Digits.{digits_value_is, digits_value_more, number_after_append, number_after_ge}
use Rattle.std.proofs.lemmas.List.{take-append-drop, map-append}
use Rattle.std.proofs.lemmas.Bool.Decides.{nat_tests}

pub digit_value_is : (c : ℕ) → IsInRange 48 57 c → digit_value c ≡ c - 48
digit_value_is c h = grind (arith, nat_tests)

-- one more digit
pub value_step :
    (ds : List ℕ) (i n : ℕ) → i < length ds → IsInRange 48 57 (get_or ds i 0) → digits_value 10 (take i ds) ≡ n
    → digits_value 10 (take (i + 1) ds) ≡ n * 10 + (get_or ds i 0 - 48)
value_step ds i n l h e =
    let m = digits_value_more 10 ds i l in
    let d = digit_value_is (get_or ds i 0) h in
    omega arith

-- the first digits write no more than all of them
pub value_front : (ds : List ℕ) (i : ℕ) → digits_value 10 (take i ds) ≤ digits_value 10 ds
value_front ds i =
    let a = digits_value_is 10 (take i ds) in
    let b = digits_value_is 10 ds in
    let front = map digit_value (take i ds) in
    let rest = map digit_value (drop i ds) in
    let e : map digit_value ds ≡ front ++ rest = ap (map digit_value) (sym (take-append-drop i ds)) ∙ map-append digit_value (take i ds) (drop i ds) in
    let f : number_from_digits 10 (map digit_value ds) ≡ number_from_digits_after 10 (number_from_digits 10 front) rest = ap (number_from_digits 10) e ∙ number_after_append 10 0 front rest in
    let g = number_after_ge 10 (number_from_digits 10 front) rest (omega arith) in
    omega arith
