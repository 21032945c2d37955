use Rattle.std.proofs.Common.{◌≡◌}
use Rattle.plane.specs.Layout.{bits_written}
use Rattle.plane.proofs.Written.{patched}
use Rattle.plane.proofs.planes.memory.write_bits.Given as goal

abbrev pub invariant-loop-i : goal.invariant-loop-i
invariant-loop-i l = l.bytes ≡ patched l.i (bits_written l.from l.to l.bit l.initial.bytes) l.initial.bytes
