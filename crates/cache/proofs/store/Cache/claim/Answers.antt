use Rattle.std.proofs.Common.{◌<◌, length, None, refl, ap, ◌∙◌, arith, length-set, rules}
use Rattle.std.proofs.lemmas.Bool.{eq-eqb}
use Rattle.cache.specs.Slots.{tile_at, is_tile, same_tile}
use Rattle.cache.proofs.Giving.{given_then}
use Rattle.cache.proofs.Held.{apart_set, tile_set}
use Rattle.cache.proofs.Moves.{claimed, still_free}
use Rattle.cache.proofs.store.Cache.claim.Goals as goal

pub invariant_of-self : goal.invariant_of-self
invariant_of-self g c =
    let ss = c.empty.new.self.slots in
    let i = c.args.self.now.next in
    let there : i < length ss = search rules in
    let free = still_free c.args.self.now.slots ss i c.args.tile c.empty.ensures.free c.empty.ensures.others c.in_default.ensures in
    record { four = simp length-set c.empty.new.self.four; turn = omega arith; apart = apart_set ss i c.blank.result there c.empty.new.self.apart (λ j n. ap (λ o. same_tile o (tile_at ss j)) c.blank.ensures.tile ∙ free j) }

pub returns : goal.returns
returns g c =
    let ss = c.empty.new.self.slots in
    let i = c.args.self.now.next in
    let there : i < length ss = search rules in
    let free = still_free c.args.self.now.slots ss i c.args.tile c.empty.ensures.free c.empty.ensures.others c.in_default.ensures in
    record {
      bound = c.args.self.now.turn;
      holds = ap (λ o. is_tile o c.args.tile) (tile_set ss i c.blank.result there ∙ c.blank.ensures.tile) ∙ eq-eqb c.args.tile c.args.tile refl;
      quiet = given_then (λ u v. None) (λ u v. None) (λ u v. None) _ _ _ (λ u v o. refl) c.empty.ensures.quiet
          (claimed ss i c.args.tile c.blank.result (g.S.Surface.view c.empty.new.self.below) there free c.empty.ensures.free c.blank.ensures.tile c.blank.ensures.inks);
    }
