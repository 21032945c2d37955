use Rattle.std.proofs.Common.{false}
use Rattle.std.proofs.lemmas.Bool.{and_right}
use Rattle.tiling.proofs.Marking.{replicate_read}
use Rattle.repaint.proofs.marks.Marks.none.Goals as goal

pub returns : goal.returns
returns c n = and_right _ _ (replicate_read false 256 n)
