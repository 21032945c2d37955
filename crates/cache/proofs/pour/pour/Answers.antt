use Rattle.std.proofs.Common.{sym}
use Rattle.cache.proofs.Tiles.{slot_given}
use Rattle.cache.proofs.pour.pour.Goals as goal

pub returns-in-Some : goal.returns-in-Some
returns-in-Some g c = slot_given _ c.in-Some.tile c.size-width.result.0 c.of.result _ _ (sym c.in-Some.ensures) c.size-width.ensures.wide c.of.ensures.0 c.of.ensures.1 c.hand_down.ensures
