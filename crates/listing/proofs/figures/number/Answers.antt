use Rattle.std.proofs.Common.{◌+◌, sym, ap, ◌∙◌, arith}
use Rattle.std.specs.Str.Parse.{digits_value}
use Rattle.std.proofs.lemmas.List.{take_all}
use Rattle.listing.proofs.Values.{value_step, value_front}
use Rattle.listing.proofs.figures.number.Goals as goal

pub returns-then-more-gt-LIMIT : goal.returns-then-more-gt-LIMIT
returns-then-more-gt-LIMIT c =
    let ds = c.args.digits.now in
    let i = c.loop-digit.digit-index in
    let step = value_step ds i c.loop-digit.n c.loop-digit-test.true (c.requires i c.loop-digit-test.true) c.loop-digit.invariant.0 in
    let more = value_front ds (i + 1) in
    omega arith

pub loop-digit-preserved : goal.loop-digit-preserved
loop-digit-preserved c =
    let ds = c.args.digits.now in
    let i = c.loop-digit.digit-index in
    let step = value_step ds i c.loop-digit.n c.loop-digit-test.true (c.requires i c.loop-digit-test.true) c.loop-digit.invariant.0 in
    (omega arith, omega arith)

pub returns : goal.returns
returns c =
    let whole = take_all c.loop-digit.digit-index c.args.digits.now c.loop-digit-test.false in
    (sym (ap (digits_value 10) whole) ∙ c.loop-digit.invariant.0, c.loop-digit.invariant.1)
