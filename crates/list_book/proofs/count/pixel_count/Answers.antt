use Rattle.std.proofs.Common.{ℕ, ◌∙◌, rules, tests, arith}
use Rattle.std.specs.List.{range_with_len}
use Rattle.std.proofs.lemmas.Iterator.{YieldsList-from_range, YieldsList-from_map}
use Rattle.std.proofs.lemmas.Iterator.Consumers.{sum_by_from_yields_List, fits_by_from_yields_list}
use Rattle.raster.specs.Shapes.{covers}
use Rattle.list_book.specs.Counts.{tally}
use Rattle.list_book.proofs.Counting.{rows_listed, pixels_in_le}
use Rattle.list_book.proofs.count.pixel_count.Goals as goal

pub sum-requires-clause-fits : goal.sum-requires-clause-fits
sum-requires-clause-fits c =
    let area = covers c.args.font.now.rows c.args.shape in
    let w = c.args.size.width in
    let h = c.args.size.height in
    let row = λ (y : ℕ). tally (λ x. area x y) w in
    fits_by_from_yields_list row (range_with_len 0 h) c.map.result _ (YieldsList-from_map _ row (YieldsList-from_range 0 h h (cc) (omega arith)) c.map.ensures.closure (λ x r q k. search (rules, tests)))
    (omega (arith, rows_listed area w h, pixels_in_le area w h (omega arith)))

pub returns : goal.returns
returns c =
    let area = covers c.args.font.now.rows c.args.shape in
    let row = λ (y : ℕ). tally (λ x. area x y) c.args.size.width in
    let h = c.args.size.height in
    sum_by_from_yields_List row (range_with_len 0 h) c.map.result c.sum.result c.sum.ensures.ran (YieldsList-from_map _ row (YieldsList-from_range 0 h h (cc) (omega arith)) c.map.ensures.closure (λ x r q k. search (rules, tests)))
    ∙ rows_listed area c.args.size.width h
