use Rattle.std.proofs.Common.{arith}
use Rattle.std.proofs.lemmas.Nat.{mul-add-lt}
use Rattle.surface.proofs.byte.panel.ByteSurfaceSurface.read.Goals as goal

pub bounds-self-at : goal.bounds-self-at
bounds-self-at c =
    let on = c.if-not-has.ensures in
    omega (arith, mul-add-lt c.args.y c.args.self.now.width c.args.x c.args.self.now.height on.row on.column)
