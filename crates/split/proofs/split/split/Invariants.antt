use Rattle.std.proofs.Common.{◌≡◌}
use Rattle.quadratic.specs.Split.{shared}
use Rattle.split.specs.Nine.{extent_at}
use Rattle.split.specs.Sharing.{groups_of}
use Rattle.split.proofs.split.split.Given as goal

abbrev pub invariant-loop : goal.invariant-loop
invariant-loop g l = groups_of l.so_far ≡ shared g.M.Measured.measure g.M.Extent.joined (extent_at l.nine) l.counter
