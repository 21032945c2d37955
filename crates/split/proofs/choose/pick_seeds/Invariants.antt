use Rattle.std.proofs.Common.{◌≡◌, ◌+◌, ◌*◌, ◌<◌}
use Rattle.quadratic.specs.Split.{seeds_before}
use Rattle.split.specs.Table.{table}
use Rattle.split.proofs.choose.pick_seeds.Given as goal

abbrev pub invariant-loop-i : goal.invariant-loop-i
invariant-loop-i l = record {
  chosen : l.best ≡ seeds_before l.sizes (table l.joins) (9 * l.i);
  first : l.best.0 < 9;
  second : l.best.1 < 9;
}

abbrev pub invariant-loop-j : goal.invariant-loop-j
invariant-loop-j l = record {
  chosen : l.best ≡ seeds_before l.sizes (table l.joins) (9 * l.i + l.j);
  first : l.best.0 < 9;
  second : l.best.1 < 9;
}
