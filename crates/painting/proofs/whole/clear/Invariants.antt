use Rattle.std.proofs.Common.{ltb}
use Rattle.painting.specs.Laid.{Laid}
use Rattle.painting.proofs.whole.clear.Given as goal

abbrev pub invariant-loop-y : goal.invariant-loop-y
invariant-loop-y g l = Laid (λ u v. ltb v l.y) 0 (g.S.Surface.view l.initial.surface) (g.S.Surface.view l.surface)
