use Rattle.std.proofs.Common.{◌≡◌, ℕ, ◌<◌, get_or, ap, inl, inr, ◌∙◌, arith}
use Rattle.tiling.specs.Found.{ruled, ruled_below}
use Rattle.tiling.proofs.Ruled.{ruled_none, ruled_more, ruled_whole}
use Rattle.repaint.proofs.ruling.ruling_inks.Goals as goal
use Rattle.repaint.proofs.ruling.ruling_inks.Goals.{in-Some, in_default}

pub loop-s-init : goal.loop-s-init
loop-s-init c n h = c.own_inks-inks.ensures n h ∙ ruled_none c.args.shapes.now c.args.spans.now c.args.frame c.args.found.now n

pub loop-s-preserved : goal.loop-s-preserved
loop-s-preserved c n h =
    ruled_more c.args.shapes.now c.args.spans.now c.args.frame c.args.found.now c.loop-s.s n _ c.pick.result _ _ (omega arith) (c.of-listed.ensures c.loop-s.s) c.pick.ensures
    (elim c.match-pick.branch [
      | in-Some w ↦ inr (w.in-Some.span, w.in-Some.is, ap (λ i. get_or i.values n 0) w.inks-is ∙ w.rule.ensures n h)
      | in_default w ↦ inl (w.in_default.is, ap (λ i. get_or i.values n 0) w.inks-is)
    ])
    (c.loop-s.invariant n h)

pub returns : goal.returns
returns c =
    let a = c.args in
    let value : (n : ℕ) → n < 256 → get_or c.loop-s.inks.values n 0 ≡ ruled a.shapes.now a.spans.now a.frame a.found.now n = λ n h.
    c.loop-s.invariant n h ∙ ap (λ s. ruled_below a.shapes.now a.spans.now a.frame a.found.now s n) (omega arith) in
    record {
      value = value;
      whole = λ d has-shapes has-spans e all n h. value n h ∙ ruled_whole a.shapes.now a.spans.now a.frame a.found.now d has-shapes has-spans e all n h;
    }
