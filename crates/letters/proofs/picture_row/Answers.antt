use Rattle.std.proofs.Common.{rules, tests, refl, arith}
use Rattle.std.proofs.lemmas.Iterator.{YieldsList-from_range, YieldsList-from_map}
use Rattle.std.proofs.lemmas.Iterator.Consumers.{YieldsList-from_filter_map, YieldsList-at}
use Rattle.letters.specs.Letters.{letter_of}
use Rattle.letters.proofs.Rows.{ink_at, ink_read, row_collected}
use Rattle.letters.proofs.picture_row.Goals as goal

pub returns : goal.returns
returns g c =
    let p = g.S.Surface.view c.args.surface.now in
    let n = c.size-width.result.0 in
    row_collected p c.args.y n c.collect.result c.size-width.ensures.wide c.collect.ensures.ran
    (YieldsList-from_map _ letter_of
    (YieldsList-at c.map.ensures.source
    (YieldsList-from_filter_map _ (ink_at p c.args.y)
    (YieldsList-at c.filter_map.ensures.source (YieldsList-from_range 0 n n refl (omega arith)))
    c.filter_map.ensures.closure (λ x r q k. search (rules, tests, ink_read p x c.args.y))))
    c.map.ensures.closure (λ x r q k. search (rules, tests)))
