use Rattle.rtree.proofs.table.Table.+insert.Given as goal

abbrev pub decreases-insert : goal.decreases-insert
decreases-insert g l = l.node.height
