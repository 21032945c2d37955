use Rattle.std.proofs.Common.{◌≡◌, ◌+◌, ◌*◌, ◌<◌, sym, refl, ap, ◌∙◌, subst, arith}
use Rattle.quadratic.specs.Choosing.{Seeds}
use Rattle.quadratic.specs.Split.{seeds_before}
use Rattle.quadratic.proofs.Chosen.{seeds_are}
use Rattle.split.specs.Table.{table}
use Rattle.split.proofs.Tables.{seeds_skipped, seeds_taken, seeds_kept}
use Rattle.split.proofs.choose.pick_seeds.Goals as goal
use Rattle.split.proofs.choose.pick_seeds.Goals.{then-worse, else-worse}

pub loop-i-init : goal.loop-i-init
unfolding seeds_before
loop-i-init c = record { chosen = refl; first = omega arith; second = omega arith }

pub loop-j-init : goal.loop-j-init
loop-j-init c = record {
  chosen = c.loop-i.invariant.chosen ∙ seeds_skipped c.args.sizes (table c.args.joins) c.loop-i.i (c.loop-i.i + 1) (omega arith) (omega arith);
  first = c.loop-i.invariant.first;
  second = c.loop-i.invariant.second;
}

pub loop-j-preserved : goal.loop-j-preserved
loop-j-preserved c =
    let sizes = c.args.sizes in
    let joins = table c.args.joins in
    let i = c.loop-i.i in
    let j = c.loop-j.j in
    let best = c.loop-j.best in
    elim c.if-worse.branch [
      | then-worse w ↦ record {
        chosen = w.best-is ∙ seeds_taken sizes joins i j best (omega arith) (omega arith) c.loop-j.invariant.chosen (sym c.worse.ensures ∙ w.if-worse.true);
        first = subst (λ p. p.0 < 9) (sym w.best-is) (omega arith);
        second = subst (λ p. p.1 < 9) (sym w.best-is) (omega arith);
      }
      | else-worse w ↦ record {
        chosen = w.best-is ∙ seeds_kept sizes joins i j best (omega arith) (omega arith) c.loop-j.invariant.chosen (sym c.worse.ensures ∙ w.if-worse.false);
        first = subst (λ p. p.0 < 9) (sym w.best-is) c.loop-j.invariant.first;
        second = subst (λ p. p.1 < 9) (sym w.best-is) c.loop-j.invariant.second;
      }
    ]

pub returns-clause-rule : goal.returns-clause-rule
returns-clause-rule c =
    let sizes = c.args.sizes in
    let joins = table c.args.joins in
    let n : 9 * c.loop-i.i ≡ 81 = omega arith in
    let is = c.loop-i.invariant.chosen ∙ ap (seeds_before sizes joins) n in
    subst (λ p. Seeds sizes joins 81 p.0 p.1) (sym is) (seeds_are sizes joins 79)
