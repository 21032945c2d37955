use Rattle.listing.proofs.Going.{Going}
use Rattle.listing.proofs.figures.figures.Given as goal

abbrev pub invariant-loop-value : goal.invariant-loop-value
invariant-loop-value g l = Going l.bytes g.row.N l.value-index l.value-items l.rest
