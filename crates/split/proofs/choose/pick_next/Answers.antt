use Rattle.std.proofs.Common.{◌≡◌, ◌<◌, IfSome, sym, refl, ap, ◌∙◌, subst, arith}
use Rattle.quadratic.specs.Choosing.{NextOf}
use Rattle.quadratic.specs.Split.{next_before}
use Rattle.quadratic.proofs.Chosen.{next_is}
use Rattle.split.specs.Letters.{marks}
use Rattle.split.proofs.Next.{unmarked, marked, next_taken, next_passed, next_kept}
use Rattle.split.proofs.choose.pick_next.Goals as goal
use Rattle.split.proofs.choose.pick_next.Goals.{then-is_none+then-goes_before, else-is_none, else-is_none-via-then-is_none+else-goes_before, else-is_none-via-else-is_none}

pub loop-i-init : goal.loop-i-init
unfolding next_before
loop-i-init g c = record { chosen = refl; below = tt }

pub loop-i-preserved : goal.loop-i-preserved
loop-i-preserved g c =
    let a = c.args.a in
    let b = c.args.b in
    let ls = marks c.args.letters in
    let i = c.loop-i.i in
    let best = c.loop-i.best in
    let is = c.loop-i.invariant.chosen in
    let l = c.letter-item.result in
    elim c.if-is_none.branch [
      | then-is_none+then-goes_before w ↦ record {
        chosen = w.best-is ∙ next_taken a b ls i best is w.goes_before.result w.goes_before.ensures (unmarked c.args.letters i l (omega arith) w.if-is_none.ensures) w.if-goes_before.true;
        below = subst (λ o. IfSome o (λ k. k < 9)) (sym w.best-is) (omega arith);
      }
      | else-is_none w ↦ record {
        chosen = w.best-is ∙ elim w.else-is_none.branch [
          | else-is_none-via-then-is_none+else-goes_before v ↦ next_passed a b ls i best is v.goes_before.result v.goes_before.ensures (unmarked c.args.letters i l (omega arith) v.if-is_none.ensures) v.if-goes_before.false
          | else-is_none-via-else-is_none v ↦ next_kept a b ls i best is (marked c.args.letters i l (omega arith) v.if-is_none.ensures)
        ];
        below = subst (λ o. IfSome o (λ k. k < 9)) (sym w.best-is) c.loop-i.invariant.below;
      }
    ]

pub returns-clause-rule : goal.returns-clause-rule
returns-clause-rule g c =
    let ls = marks c.args.letters in
    let i : c.loop-i.i ≡ 9 = omega arith in
    let is = c.loop-i.invariant.chosen ∙ ap (next_before c.args.a c.args.b ls) i in
    subst (NextOf c.args.a c.args.b ls 9) (sym is) (next_is c.args.a c.args.b ls 9)
