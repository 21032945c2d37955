use Rattle.std.proofs.Common.{arith}
use Rattle.node_rows.proofs.Deals.{set_up_two}
use Rattle.rtree.proofs.Tables.{ready}
use Rattle.rtree.proofs.table.Table.crown.Goals as goal

pub returns-clause-set_up : goal.returns-clause-set_up
returns-clause-set_up g c = set_up_two (ready c.args.self.now) (omega arith) c.requires c.push.ensures.pushed c.push-2.ensures.pushed
