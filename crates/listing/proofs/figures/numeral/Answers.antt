use Rattle.std.proofs.Common.{◌≡◌, ◌<◌, length, get_or, rules}
use Rattle.listing.proofs.Readings.{none_empty, none_zero, none_large, some_read}
use Rattle.listing.proofs.figures.numeral.Goals as goal

pub returns-in-empty : goal.returns-in-empty
returns-in-empty c =
    let none : length c.split_digits.result.0.now ≡ 0 = search rules in
    none_empty _ _ _ c.split_digits.ensures none

pub returns-in-48 : goal.returns-in-48
returns-in-48 c =
    let ds = c.split_digits.result.0.now in
    let two : 1 < length ds = search rules in
    let first : get_or ds 0 0 ≡ 48 = search rules in
    none_zero _ ds _ c.split_digits.ensures two first

pub returns-in_err-number-in_default : goal.returns-in_err-number-in_default
returns-in_err-number-in_default c =
    rw c.from_residual.ensures (none_large _ _ _ c.split_digits.ensures c.in_err-number-in_default.ensures)

pub returns-in_ok-number-in_default : goal.returns-in_ok-number-in_default
returns-in_ok-number-in_default c =
    let ds = c.split_digits.result.0.now in
    let read = c.in_ok-number-in_default.ensures in
    let some : 0 < length ds = search rules in
    let lead : get_or ds 0 0 ≡ 48 → length ds ≡ 1 = search rules in
    some_read _ ds _ _ c.split_digits.ensures some lead read.0 read.1
