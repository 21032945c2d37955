use Rattle.std.proofs.Common.{◌≡◌}
use Rattle.plane.specs.Layout.{planes_written}
use Rattle.plane.proofs.planes.memory.write_planes.Given as goal

abbrev pub invariant-loop-k : goal.invariant-loop-k
invariant-loop-k l = l.bytes ≡ planes_written l.k l.bits l.from l.n l.ink l.initial.bytes
