use Rattle.std.proofs.Common.{◌≡◌, ◌-◌, take, None}
use Rattle.std.specs.List.{AllByRecursion}
use Rattle.node_rows.specs.Rows.{row}
use Rattle.node_rows.proofs.Removing.{sought}
use Rattle.rtree.specs.Loans.{SameLoan}
use Rattle.rtree.proofs.table.Table.+cut.Given as goal

abbrev pub decreases-cut : goal.decreases-cut
decreases-cut g l = l.node.height

abbrev pub invariant-loop-i : goal.invariant-loop-i
invariant-loop-i g l = record {
  missed : AllByRecursion (λ x. sought g.M.Measured.measure g.M.Extent.joined g.M.Extent.covering l.pair.extent l.pair.code (row l.initial.self.places.now l.initial.self.counts) (l.node.height - 1) x ≡ None)
      (take l.i (row l.initial.self.places.now l.initial.self.counts l.node.row));
  same : l.self.places.now ≡ l.initial.self.places.now;
  counted : l.self.counts ≡ l.initial.self.counts;
  none : l.waiting.many ≡ 0;
  lent : SameLoan l.initial.self.places l.self.places;
  kept : SameLoan l.initial.waiting.pairs l.waiting.pairs;
}
