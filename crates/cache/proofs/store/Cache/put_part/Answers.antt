use Rattle.std.proofs.Common.{◌≡◌, ◌+◌, ◌<◌, true, cond, ◌&&◌, ltb, leb, length, get_or, Some, None, sym, ap, ◌∙◌, arith, length-set, rules}
use Rattle.std.proofs.lemmas.List.{get_or_default}
use Rattle.raster.specs.Sizes.{tile_of}
use Rattle.cache.specs.Slots.{ink_at_lem, tile_at, is_tile, same_tile}
use Rattle.cache.specs.Cached.{run_inks}
use Rattle.cache.proofs.Giving.{given_then, over_nothing}
use Rattle.cache.proofs.Held.{apart_set, tile_read}
use Rattle.cache.proofs.Moves.{put_given}
use Rattle.cache.proofs.store.Cache.put_part.Goals as goal

pub invariant_of-self : goal.invariant_of-self
invariant_of-self g c =
    let ss = c.claim-i.new.self.slots in
    let i = c.claim-i.result in
    let there : i < length ss = search rules in
    let s = get_or ss i c.index-self-i.result in
    let at = tile_read ss i s there (get_or_default ss i c.index-self-i.result s there) in
    record { four = simp length-set c.claim-i.new.self.four; turn = c.claim-i.new.self.turn; apart = apart_set ss i c.put.new.self there c.claim-i.new.self.apart (λ j n. ap (λ o. same_tile o (tile_at ss j)) (c.put.ensures.tile ∙ sym at) ∙ c.claim-i.new.self.apart i j n) }

pub returns : goal.returns
returns g c =
    let ss = c.claim-i.new.self.slots in
    let i = c.claim-i.result in
    let x = c.args.x in
    let y = c.args.y in
    let there : i < length ss = search rules in
    let s = get_or ss i c.index-self-i.result in
    let read = get_or_default ss i c.index-self-i.result s there in
    let p = g.S.Surface.view c.claim-i.new.self.below in
    let held : is_tile s.tile (tile_of p.wide x y) ≡ true =
    sym (ap (λ o. is_tile o (tile_of p.wide x y)) (tile_read ss i s there read)) ∙ sym (ap (is_tile (tile_at ss i)) (c.locate-tile.ensures.tile ∙ ap (λ w. tile_of w x y) (sym c.claim-i.ensures.quiet.sides.wide))) ∙ c.claim-i.ensures.holds in
    let inside : x < p.wide = omega (arith, c.requires.inside.column, c.claim-i.ensures.quiet.sides.wide) in
    given_then (λ u v. None) (run_inks x y c.args.n c.args.ink.value) (run_inks x y c.args.n c.args.ink.value) _ _ _ (λ u v o. over_nothing _) c.claim-i.ensures.quiet
    (put_given ss i s c.put.new.self p x y c.args.n c.args.ink.value there c.claim-i.new.self.apart read held c.put.ensures.tile (λ j. c.put.ensures.inks j ∙ ap (λ k. cond (leb k j && ltb j (k + c.args.n)) (Some c.args.ink.value) (ink_at_lem s j)) c.locate-tile.ensures.place) c.requires.tile inside)
