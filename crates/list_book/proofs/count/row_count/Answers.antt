use Rattle.std.proofs.Common.{ℕ, ◌∙◌, cond, rules, tests, arith}
use Rattle.std.specs.List.{range_with_len}
use Rattle.std.proofs.lemmas.Iterator.{YieldsList-from_range, YieldsList-from_map}
use Rattle.std.proofs.lemmas.Iterator.Consumers.{sum_by_from_yields_List, fits_by_from_yields_list}
use Rattle.raster.specs.Shapes.{covers}
use Rattle.list_book.proofs.Counting.{tally_listed, tally_le}
use Rattle.list_book.proofs.count.row_count.Goals as goal

pub sum-requires-clause-fits : goal.sum-requires-clause-fits
sum-requires-clause-fits c =
    let covered = λ (x : ℕ). covers c.args.font.now.rows c.args.shape x c.args.y in
    let w = c.args.width in
    let one : ℕ → ℕ = λ x. cond (covered x) 1 0 in
    fits_by_from_yields_list one (range_with_len 0 w) c.map.result _ (YieldsList-from_map _ one (YieldsList-from_range 0 w w (cc) (omega arith)) c.map.ensures.closure (λ x r q k. search (rules, tests)))
    (omega (arith, tally_listed covered w, tally_le covered w))

pub returns-clause-value : goal.returns-clause-value
returns-clause-value c =
    let covered = λ (x : ℕ). covers c.args.font.now.rows c.args.shape x c.args.y in
    let w = c.args.width in
    let one : ℕ → ℕ = λ x. cond (covered x) 1 0 in
    sum_by_from_yields_List one (range_with_len 0 w) c.map.result c.sum.result c.sum.ensures.ran (YieldsList-from_map _ one (YieldsList-from_range 0 w w (cc) (omega arith)) c.map.ensures.closure (λ x r q k. search (rules, tests)))
    ∙ tally_listed covered w

pub returns-clause-bound : goal.returns-clause-bound
returns-clause-bound c = omega (arith, returns-clause-value c, tally_le)
