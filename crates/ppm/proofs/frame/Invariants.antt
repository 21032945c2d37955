use Rattle.std.proofs.Common.{◌≡◌, ◌++◌, vec_items}
use Rattle.ppm.specs.Frames.{head_bytes, rows_bytes}
use Rattle.ppm.proofs.frame.Given as goal

abbrev pub invariant-loop-y : goal.invariant-loop-y
invariant-loop-y g l = vec_items l.bytes ≡ head_bytes (g.S.Surface.view l.surface).wide (g.S.Surface.view l.surface).high ++ rows_bytes (g.S.Surface.view l.surface) l.y
