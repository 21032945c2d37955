use Rattle.std.proofs.Common.{◌-◌, unwrap_or}
use Rattle.handing.specs.Given.{Given, part_inks}
use Rattle.handing.proofs.down.hand_down.Given as goal

abbrev pub invariant-loop-next : goal.invariant-loop-next
invariant-loop-next g l = Given (part_inks (g.T.Tile.inks l.tile) l.spot 0 (unwrap_or l.next 256)) (g.S.Surface.view l.initial.surface) (g.S.Surface.view l.surface)

abbrev pub decreases-loop-next : goal.decreases-loop-next
decreases-loop-next g l = 256 - unwrap_or l.next 256
