use Rattle.std.proofs.Common.{◌≡◌, ◌<◌, IfSome}
use Rattle.quadratic.specs.Split.{next_before}
use Rattle.split.specs.Letters.{marks}
use Rattle.split.proofs.choose.pick_next.Given as goal

abbrev pub invariant-loop-i : goal.invariant-loop-i
invariant-loop-i g l = record {
  chosen : l.best ≡ next_before l.a l.b (marks l.fn.letters) l.i;
  below : IfSome l.best (λ k. k < 9);
}
