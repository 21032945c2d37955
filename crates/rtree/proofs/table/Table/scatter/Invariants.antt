use Rattle.node_rows.specs.Nodes.{Scattered}
use Rattle.rtree.specs.Loans.{SameLoan}
use Rattle.rtree.proofs.table.Table.scatter.Given as goal

abbrev pub invariant-loop-i : goal.invariant-loop-i
invariant-loop-i g l = record {
  scattered : Scattered l.initial.self.places.now l.initial.self.counts l.self.places.now l.self.counts l.at l.to l.i l.letters;
  lent : SameLoan l.initial.self.places l.self.places;
}
