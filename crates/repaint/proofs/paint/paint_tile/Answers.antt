use Rattle.tiling.proofs.Filling.{given_tiled}
use Rattle.repaint.proofs.paint.paint_tile.Goals as goal

pub returns : goal.returns
returns g c = given_tiled c.args.t c.size-width.result.0 c.of.result c.args.inks.now.values _ _ c.size-width.ensures.wide c.of.ensures.0 c.of.ensures.1 c.hand_down.ensures
