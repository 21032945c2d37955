use Rattle.std.proofs.Common.{◌≡◌}
use Rattle.node_rows.specs.Rows.{row}
use Rattle.node_rows.proofs.Found.{Put, codes_of}
use Rattle.tree_search.proofs.view.View.+walk.Given as goal

abbrev pub decreases-walk : goal.decreases-walk
decreases-walk g l = l.height

abbrev pub invariant-loop-item : goal.invariant-loop-item
invariant-loop-item g l = record {
  put : Put l.initial.found.list.now l.initial.found.count (codes_of (row l.self.places.now l.self.counts.now) (g.Q.Query.passing l.query) l.height l.at l.item-index) l.found.count l.found.list.now;
  lent : l.found.list.ghost_name ≡ l.initial.found.list.ghost_name;
}
