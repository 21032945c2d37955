use Rattle.std.proofs.Common.{◌<◌, length, get_or, refl, ap, ◌∙◌, length-set, rules}
use Rattle.std.proofs.lemmas.List.{get_or_default}
use Rattle.cache.specs.Slots.{tile_at, same_tile}
use Rattle.cache.proofs.Held.{apart_set, tile_set, tile_kept}
use Rattle.cache.proofs.Moves.{emptied}
use Rattle.cache.proofs.store.Cache.empty.Goals as goal

pub invariant_of-self : goal.invariant_of-self
invariant_of-self g c =
    let ss = c.args.self.now.slots in
    let there : c.args.i < length ss = search rules in
    record { four = simp length-set c.args.self.now.four; turn = c.args.self.now.turn; apart = apart_set ss c.args.i c.blank.result there c.args.self.now.apart (λ j n. ap (λ o. same_tile o (tile_at ss j)) c.blank.ensures.tile) }

pub returns : goal.returns
returns g c =
    let ss = c.args.self.now.slots in
    let i = c.args.i in
    let there : i < length ss = search rules in
    let slot = get_or ss i c.index-self-i.result in
    record {
      quiet = emptied ss i slot c.blank.result (g.S.Surface.view c.args.self.now.below) (g.S.Surface.view c.pour.new.below) there c.args.self.now.apart (get_or_default ss i c.index-self-i.result slot there) c.blank.ensures.tile c.pour.ensures;
      free = tile_set ss i c.blank.result there ∙ c.blank.ensures.tile;
      others = λ j n. tile_kept ss i j c.blank.result n;
      next = refl;
    }
