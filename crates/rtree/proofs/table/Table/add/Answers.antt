use Rattle.std.proofs.Common.{arith}
use Rattle.node_rows.specs.Rows.{row}
use Rattle.node_rows.proofs.Children.{live_count, live_both}
use Rattle.node_rows.proofs.Roots.{added_one, added_two}
use Rattle.rtree.proofs.table.Table.add.Goals as goal

pub returns-in_default-clause-added : goal.returns-in_default-clause-added
returns-in_default-clause-added g c = added_one g.M.Measured.measure g.M.Extent.joined c.in_default.ensures.inserted

pub bounds-requires-2 : goal.bounds-requires-2
bounds-requires-2 g c =
    let I = c.in-Some.ensures.inserted in
    let after = c.insert.new.self in
    live_count c.in-Some.new I.ready (live_both (row after.places.now after.counts) c.args.root.height c.args.root.row c.in-Some.new I.kept.live).1

pub returns-clause-added : goal.returns-clause-added
returns-clause-added g c =
    let e = c.args.entry.extent in
    added_two g.M.Measured.measure g.M.Extent.joined c.in-Some.new c.fresh-top.result c.bounds.result c.bounds-2.result c.above-first.result c.above-second.result c.in-Some.ensures.inserted
    (omega arith) c.fresh-top.ensures (c.bounds.ensures e) (c.bounds-2.ensures e) c.above-first.ensures c.above-second.ensures c.crown.ensures.set_up
