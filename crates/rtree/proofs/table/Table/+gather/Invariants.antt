use Rattle.std.proofs.Common.{◌≡◌}
use Rattle.node_rows.proofs.Gathering.{Walked}
use Rattle.rtree.specs.Loans.{SameLoan}
use Rattle.rtree.proofs.table.Table.+gather.Given as goal

abbrev pub decreases-gather : goal.decreases-gather
decreases-gather g l = l.node.height

abbrev pub invariant-loop-i : goal.invariant-loop-i
invariant-loop-i g l = record {
  walked : Walked l.initial.self.places.now l.initial.self.counts l.node.height l.node.row l.initial.waiting.pairs.now l.initial.waiting.many l.i l.self.counts l.waiting.pairs.now l.waiting.many;
  same : l.self.places.now ≡ l.initial.self.places.now;
  lent : SameLoan l.initial.self.places l.self.places;
  kept : SameLoan l.initial.waiting.pairs l.waiting.pairs;
}
