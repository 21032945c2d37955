use Rattle.std.proofs.Common.{ap, ◌∙◌, arith}
use Rattle.quadratic.specs.Split.{split9}
use Rattle.split.specs.Nine.{nine}
use Rattle.node_rows.proofs.Deals.{dealt_one, dealt_two, split_apart, split_room}
use Rattle.rtree.proofs.Tables.{ready}
use Rattle.rtree.proofs.table.Table.deal.Goals as goal

pub returns-then-self-at-lt8-clause-dealt : goal.returns-then-self-at-lt8-clause-dealt
returns-then-self-at-lt8-clause-dealt g c = dealt_one g.M.Measured.measure g.M.Extent.joined (ready c.args.self.now) (omega arith) c.if-self-at-lt8.true c.push.ensures.pushed

pub lay-requires : goal.lay-requires
lay-requires g c =
    let size = g.M.Measured.measure in
    let join = g.M.Extent.joined in
    let self = c.args.self.now in
    let x = c.args.extra in
    let letters = c.split-letters.ensures.letters ∙ ap (λ es. split9 size join (nine es x.extent)) c.row.ensures in
    let room = split_room size join self.places.now self.counts c.args.at c.fresh-to.result c.split-letters.result (ready self) (omega arith) (omega arith) c.if-self-at-lt8.false c.fresh-to.ensures x letters
    c.scatter.new.self.places.now c.scatter.new.self.counts c.scatter.ensures.scattered in
    record { other = split_apart size join self.places.now self.counts c.args.at c.fresh-to.result c.split-letters.result (ready self) (omega arith) (omega arith) c.if-self-at-lt8.false c.fresh-to.ensures x letters; room = room.0; space = room.1 }

pub returns-clause-dealt : goal.returns-clause-dealt
returns-clause-dealt g c =
    let size = g.M.Measured.measure in
    let join = g.M.Extent.joined in
    let self = c.args.self.now in
    let x = c.args.extra in
    let letters = c.split-letters.ensures.letters ∙ ap (λ es. split9 size join (nine es x.extent)) c.row.ensures in
    dealt_two size join self.places.now self.counts c.args.at c.fresh-to.result c.split-letters.result (ready self) (omega arith) (omega arith) c.if-self-at-lt8.false c.fresh-to.ensures x letters
    c.scatter.new.self.places.now c.scatter.new.self.counts c.scatter.ensures.scattered c.lay.new.self.places.now c.lay.new.self.counts c.lay.ensures.laid
