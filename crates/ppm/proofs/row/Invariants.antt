use Rattle.std.proofs.Common.{◌≡◌}
use Rattle.ppm.specs.Frames.{front_bytes, over}
use Rattle.ppm.proofs.row.Given as goal

abbrev pub invariant-loop-x : goal.invariant-loop-x
invariant-loop-x g l = l.output ≡ over l.initial.output 0 (front_bytes (g.S.Surface.view l.surface) l.y l.x)
