use Rattle.std.proofs.Common.{length, ap, ◌∙◌, arith}
use Rattle.std.specs.Option.{option_map}
use Rattle.std.proofs.lemmas.List.{length_push}
use Rattle.painting.specs.Scenes.{drawing, item}
use Rattle.painting.proofs.Numbers.{at_entry, at_end}
use Rattle.painting.proofs.Layers.{layered_none, layered_entry, layered_all, over_none, over_laid, shape_there, painted}
use Rattle.painting.proofs.whole.paint_whole.Goals as goal

pub loop-number-init : goal.loop-number-init
loop-number-init g c = layered_none _ _ _ c.clear.ensures

pub loop-number-preserved : goal.loop-number-preserved
loop-number-preserved g c =
    let s = c.args.scene.now in
    let n = c.in-Some.number in
    let here = at_entry s.shapes.now c.into_iter-number-iterator.result (cc) (cc) c.loop-number.yielded _ c.loop-number.yielded_by _ c.next.new.self _ c.in-Some.is c.next.ensures.steps in
    layered_entry s _ _ n _ _ _ _ (length_push c.loop-number.yielded (n, c.in-Some.placed)) here c.loop-number.invariant
    (over_none (drawing s) n _ (shape_there s _ n _ here ∙ ap (option_map item) c.in_default.is))

pub loop-number-preserved-in-Some-placed : goal.loop-number-preserved-in-Some-placed
loop-number-preserved-in-Some-placed g c =
    let s = c.args.scene.now in
    let n = c.in-Some.number in
    let here = at_entry s.shapes.now c.into_iter-number-iterator.result (cc) (cc) c.loop-number.yielded _ c.loop-number.yielded_by _ c.next.new.self _ c.in-Some.is c.next.ensures.steps in
    let placed = c.in-Some-placed.placed in
    layered_entry s _ _ n _ _ _ _ (length_push c.loop-number.yielded (n, c.in-Some.placed)) here c.loop-number.invariant
    (over_laid (drawing s) n _ (item placed) _ _ (shape_there s _ n _ here ∙ ap (option_map item) c.in-Some-placed.is) c.ruling_ink-ink.ensures.value c.lay_shape.ensures)

pub returns : goal.returns
returns g c =
    let s = c.args.scene.now in
    let read = at_end s.shapes.now c.into_iter-number-iterator.result (cc) (cc) c.loop-number.yielded _ c.loop-number.yielded_by _ c.next.new.self c.in-None.is c.next.ensures.steps in
    painted (drawing s) _ _ _ _ c.clear.ensures
    (layered_all s (length c.loop-number.yielded) _ _ (omega (arith, read)) (omega (arith, read)) c.loop-number.invariant)
    c.settle.ensures (g.S.Surface.lawful _)
