use Rattle.std.proofs.Common.{ℕ, Option, unwrap_or, length, refl, sym, ap, ◌∙◌, subst, arith}
use Rattle.std.specs.Option.{option_map}
use Rattle.std.proofs.lemmas.List.{get_or-take, length-take, length_push}
use Rattle.std.proofs.lemmas.Iterator.{YieldsList-from_slice, YieldsList-from_take}
use Rattle.std.proofs.lemmas.Iterator.Consumers.{YieldsList-at, YieldsList-turn, YieldsList-end}
use Rattle.painting.specs.declared.scene.Span.{Span}
use Rattle.painting.specs.Drawing.{topmost, span_ink, RulingInk}
use Rattle.painting.specs.Scenes.{drawing, turn}
use Rattle.painting.proofs.Topmost.{topmost_none, ruling_in_words}
use Rattle.painting.proofs.Numbers.{one_more, all_read}
use Rattle.painting.proofs.scene.Scene.ruling_ink.Goals as goal

pub loop-span-init : goal.loop-span-init
loop-span-init c = sym (topmost_none _ _)

pub loop-span-preserved : goal.loop-span-preserved
loop-span-preserved c =
    let table = c.args.self.now.spans.now in
    let given = λ (n : ℕ) (o : Option Span). span_ink (option_map turn o) c.args.number c.args.self.now.frame in
    let n = length c.loop-span.yielded in
    let here = YieldsList-turn
    (YieldsList-at c.into_iter-span-iterator.ensures.into_iter_gives (YieldsList-from_take 256 (YieldsList-from_slice table cc) cc))
    c.loop-span.yielded _ c.loop-span.yielded_by _ c.next.new.self c.in-Some.span c.in-Some.is c.next.ensures.steps in
    let long = length-take 256 table in
    let d = drawing c.args.self.now in
    c.over_span-ink.ensures
    ∙ ap (unwrap_or (given n c.in-Some.span.now)) c.loop-span.invariant
    ∙ one_more given table c.args.own.value n c.in-Some.span.now (omega (arith, here.0, long)) (omega (arith, here.0, long)) (here.1 ∙ get_or-take 256 table n _ (omega (arith, here.0, long)))
    ∙ ap (topmost (λ s. span_ink (d.spans s) c.args.number d.frame) c.args.own.value) (sym (length_push c.loop-span.yielded c.in-Some.span))

pub returns : goal.returns
returns c =
    let table = c.args.self.now.spans.now in
    let given = λ (n : ℕ) (o : Option Span). span_ink (option_map turn o) c.args.number c.args.self.now.frame in
    let seen = YieldsList-end
    (YieldsList-at c.into_iter-span-iterator.ensures.into_iter_gives (YieldsList-from_take 256 (YieldsList-from_slice table cc) cc))
    c.loop-span.yielded _ c.loop-span.yielded_by _ c.next.new.self c.in-None.is c.next.ensures.steps in
    let long = length-take 256 table in
    let v = c.loop-span.invariant ∙ all_read given table c.args.own.value (λ n. refl) (length c.loop-span.yielded) (omega (arith, seen.1, long)) (omega (arith, seen.1, long)) in
    let d = drawing c.args.self.now in
    record { value = v; words = subst (RulingInk d c.args.number c.args.own.value) (sym v) (ruling_in_words d c.args.number c.args.own.value) }
