use Rattle.std.proofs.Common.{ap}
use Rattle.cache.specs.Slots.{is_tile, same_tile, tile_at}
use Rattle.cache.proofs.Held.{held_none}
use Rattle.cache.proofs.store.Cache.empty_all.Goals as goal

pub invariant_of-self-clause-apart : goal.invariant_of-self-clause-apart
invariant_of-self-clause-apart g c = λ i j n. ap (λ o. same_tile o (tile_at c.pour_all.new.slots j)) (c.pour_all.ensures.free i)

pub returns : goal.returns
returns g c = record {
  quiet = c.pour_all.ensures.quiet;
  free = λ t k. held_none c.pour_all.new.slots t k (λ j. ap (λ o. is_tile o t) (c.pour_all.ensures.free j));
}
