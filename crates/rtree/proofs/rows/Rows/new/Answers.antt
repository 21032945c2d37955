use Rattle.std.proofs.Common.{ℕ, replicate, inl, inr, arith}
use lib.ListN.{length-replicate}
use Rattle.std.proofs.lemmas.List.{get_or-replicate, get_or_past}
use Rattle.std.proofs.lemmas.Bool.{cases_lt}
use Rattle.rtree.proofs.rows.Rows.new.Goals as goal

pub returns-clause-zero : goal.returns-clause-zero
returns-clause-zero g c q =
    elim (cases_lt q 256) [
      | inl l ↦ get_or-replicate 256 q 0 0 l
      | inr l ↦ get_or_past (replicate 256 0) q 0 (omega (arith, length-replicate {A = ℕ} 256 0))
    ]
