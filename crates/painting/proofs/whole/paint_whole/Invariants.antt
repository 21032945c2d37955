use Rattle.std.proofs.Common.{length}
use Rattle.painting.specs.Scenes.{drawing}
use Rattle.painting.proofs.Layers.{Layered}
use Rattle.painting.proofs.whole.paint_whole.Given as goal

abbrev pub invariant-loop-number : goal.invariant-loop-number
invariant-loop-number g l = Layered (drawing l.scene) (length l.yielded) (g.S.Surface.view l.initial.surface) (g.S.Surface.view l.surface)
