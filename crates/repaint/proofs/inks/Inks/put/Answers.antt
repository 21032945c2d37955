use Rattle.tiling.proofs.Places.{set_small}
use Rattle.repaint.proofs.inks.Inks.put.Goals as goal

pub invariant_of-self : goal.invariant_of-self
invariant_of-self c = record { small = set_small c.args.self.now.values c.args.k c.args.ink.value 15 c.args.ink.small c.args.self.now.small }
