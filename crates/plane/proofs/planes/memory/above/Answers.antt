use Rattle.std.proofs.Common.{◌-◌, arith}
use Rattle.std.proofs.lemmas.Nat.{one_shl}
use Rattle.plane.proofs.planes.memory.above.Goals as goal

pub returns : goal.returns
returns c = one_shl (8 - c.args.i) 16 (omega arith)
