use Rattle.std.proofs.Common.{◌&&◌}
use Rattle.raster.specs.Shapes.{of_the}
use Rattle.painting.specs.Laid.{Laid}
use Rattle.painting.proofs.lay.lay_box.Given as goal

abbrev pub invariant-loop-row : goal.invariant-loop-row
invariant-loop-row g l = Laid (λ u v. of_the l.b.w l.b.x u && of_the l.row l.b.y v) l.ink.value (g.S.Surface.view l.initial.surface) (g.S.Surface.view l.surface)
