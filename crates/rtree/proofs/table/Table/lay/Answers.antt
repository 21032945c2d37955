use Rattle.std.proofs.Common.{arith}
use Rattle.node_rows.proofs.Deals.{laid_a, laid_b}
use Rattle.rtree.proofs.Tables.{ready}
use Rattle.rtree.proofs.table.Table.lay.Goals as goal

pub returns-then-letter-eq65-clause-laid : goal.returns-then-letter-eq65-clause-laid
returns-then-letter-eq65-clause-laid g c =
    laid_a c.args.at c.args.to c.args.letter (ready c.args.self.now) c.requires.other (omega arith) c.requires.room c.if-letter-eq65.true c.push.ensures.pushed

pub returns-else-letter-eq65-clause-laid : goal.returns-else-letter-eq65-clause-laid
returns-else-letter-eq65-clause-laid g c =
    laid_b c.args.at c.args.to c.args.letter (ready c.args.self.now) c.requires.other (omega arith) c.requires.space c.if-letter-eq65.false c.push-else-letter-eq65.ensures.pushed
