use Rattle.surface.proofs.Writes.{filled_part}
use Rattle.surface.proofs.byte.memory.paint.Goals as goal

pub returns : goal.returns
returns c = filled_part c.args.start c.args.n c.args.ink c.args.memory.now _ c.requires c.fill.ensures
