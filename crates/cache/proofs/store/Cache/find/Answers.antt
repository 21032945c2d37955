use Rattle.std.proofs.Common.{◌≡◌, true, false, rules}
use Rattle.std.proofs.lemmas.Iterator.{IsFirst-from_position, YieldsList-from_slice}
use Rattle.cache.specs.Slots.{is_tile}
use Rattle.cache.proofs.Held.{first_holds}
use Rattle.cache.proofs.store.Cache.find.Goals as goal

pub returns : goal.returns
returns g c =
    let ss = c.args.self.now.slots in
    let t = c.args.tile in
    rw (← c.args.self.now.four)
    (first_holds ss t c.position.result
    (IsFirst-from_position _ _ _ (λ s. is_tile s.tile t ≡ true) (λ s. is_tile s.tile t ≡ false) c.position.ensures.ran (YieldsList-from_slice ss c.iter.ensures.rest) (λ x q k. search rules) (λ x q k. search rules)))
