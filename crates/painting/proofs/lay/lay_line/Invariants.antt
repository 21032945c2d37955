use Rattle.raster.specs.Lines.{among}
use Rattle.painting.specs.Laid.{Laid}
use Rattle.painting.proofs.lay.lay_line.Given as goal

abbrev pub invariant-loop-x : goal.invariant-loop-x
invariant-loop-x g l = Laid (among l.yielded) l.ink.value (g.S.Surface.view l.initial.surface) (g.S.Surface.view l.surface)
