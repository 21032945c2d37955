use Rattle.std.proofs.Common.{◌<◌, length, get_or, sym, ap, ◌∙◌, ap₂, arith}
use Rattle.std.proofs.lemmas.List.{get_or_default}
use Rattle.std.specs.Option.{option_map}
use Rattle.cache.specs.Slots.{is_tile, held}
use Rattle.cache.proofs.Held.{held_read, held_none, tile_read, apart_only}
use Rattle.cache.proofs.store.Cache.held_ink.Goals as goal

pub returns : goal.returns
returns g c =
    let ss = c.args.self.now.slots in
    let i = c.in_ok-i.i in
    let s = get_or ss i c.index-self-i.result in
    let t = c.locate-tile.result.0 in
    let found = c.in_ok-i.ensures in
    let there : i < length ss = omega (arith, found.0, c.args.self.now.four) in
    let read = get_or_default ss i c.index-self-i.result s there in
    c.ink_at.ensures
    ∙ sym (held_read ss i s t _ there read (apart_only ss i t c.args.self.now.apart found.1) (sym (ap (λ o. is_tile o t) (tile_read ss i s there read)) ∙ found.1))
    ∙ ap₂ (held ss) c.locate-tile.ensures.tile c.locate-tile.ensures.place

pub returns-in_err-i : goal.returns-in_err-i
returns-in_err-i g c =
    let ss = c.args.self.now.slots in
    ap (option_map (λ i. i.value)) c.from_residual.ensures
    ∙ sym (held_none ss c.locate-tile.result.0 c.locate-tile.result.1 c.in_err-i.ensures)
    ∙ ap₂ (held ss) c.locate-tile.ensures.tile c.locate-tile.ensures.place
