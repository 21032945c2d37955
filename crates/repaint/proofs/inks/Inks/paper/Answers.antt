use Rattle.std.proofs.Common.{ℕ, arith}
use Rattle.tiling.proofs.Marking.{replicate_read}
use Rattle.repaint.proofs.inks.Inks.paper.Goals as goal

pub invariant_of-result : goal.invariant_of-result
invariant_of-result c = record { small = λ k. omega (arith, replicate_read {A = ℕ} 0 256 k) }

pub returns : goal.returns
returns c k = replicate_read {A = ℕ} 0 256 k
