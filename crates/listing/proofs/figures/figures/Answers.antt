use Rattle.listing.proofs.Going.{going_more, going_stops}
use Rattle.listing.proofs.figures.figures.Goals as goal

pub returns-in_err-n : goal.returns-in_err-n
returns-in_err-n g c =
    rw c.from_residual.ensures (going_stops _ _ c.loop-value.value-index _ _ c.loop-value-test.true c.loop-value.invariant c.in_err-n.ensures)

pub loop-value-preserved : goal.loop-value-preserved
loop-value-preserved g c =
    going_more _ _ c.loop-value.value-index _ _ _ _ c.loop-value-test.true c.loop-value.invariant c.in_ok-n.ensures
