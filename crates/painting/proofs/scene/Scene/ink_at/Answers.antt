use Rattle.std.proofs.Common.{ℕ, Option, unwrap_or, length, refl, sym, ap, ◌∙◌, subst, arith}
use Rattle.std.specs.Option.{option_map}
use Rattle.std.proofs.lemmas.List.{length_push}
use Rattle.painting.specs.declared.scene.Placed.{Placed}
use Rattle.painting.specs.Drawing.{topmost, shape_ink, Fresh}
use Rattle.painting.specs.Scenes.{drawing, item}
use Rattle.painting.proofs.Topmost.{topmost_none, painting_in_words}
use Rattle.painting.proofs.Numbers.{at_entry, at_end, one_more, all_read}
use Rattle.painting.proofs.scene.Scene.ink_at.Goals as goal

pub loop-number-init : goal.loop-number-init
loop-number-init c = sym (topmost_none _ _)

pub loop-number-preserved : goal.loop-number-preserved
loop-number-preserved c =
    let table = c.args.self.now.shapes.now in
    let d = drawing c.args.self.now in
    let given = λ (n : ℕ) (o : Option Placed). shape_ink d c.args.x c.args.y (option_map item o) n in
    let n = length c.loop-number.yielded in
    let placed = c.in-Some.placed.now in
    let here = at_entry table c.into_iter-number-iterator.result (cc) (cc) c.loop-number.yielded _ c.loop-number.yielded_by _ c.next.new.self _ c.in-Some.is c.next.ensures.steps in
    c.over_shape-ink.ensures
    ∙ ap (λ m. unwrap_or (given m placed) c.loop-number.ink) here.number
    ∙ ap (unwrap_or (given n placed)) c.loop-number.invariant
    ∙ one_more given table 0 n placed here.small here.there here.read
    ∙ ap (topmost (λ n. shape_ink d c.args.x c.args.y (d.shapes n) n) 0) (sym (length_push c.loop-number.yielded (c.in-Some.number, c.in-Some.placed)))

pub returns : goal.returns
returns c =
    let table = c.args.self.now.shapes.now in
    let d = drawing c.args.self.now in
    let given = λ (n : ℕ) (o : Option Placed). shape_ink d c.args.x c.args.y (option_map item o) n in
    let read = at_end table c.into_iter-number-iterator.result (cc) (cc) c.loop-number.yielded _ c.loop-number.yielded_by _ c.next.new.self c.in-None.is c.next.ensures.steps in
    let v = c.loop-number.invariant ∙ all_read given table 0 (λ n. refl) (length c.loop-number.yielded) (omega (arith, read)) (omega (arith, read)) in
    record { value = v; words = subst (Fresh d c.args.x c.args.y) (sym v) (painting_in_words d c.args.x c.args.y) }
