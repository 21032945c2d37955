use Rattle.std.proofs.Common.{◌≡◌, ℕ, ◌&&◌, ltb, take}
use Rattle.book.specs.Past.{listed}
use Rattle.repaint.specs.Marked.{marked}
use Rattle.repaint.proofs.marks.Marks.of.Given as goal

abbrev pub invariant-loop-n : goal.invariant-loop-n
invariant-loop-n l = (k : ℕ) → marked l.marks k ≡ (ltb k 256 && listed (take l.n-index l.found) k)
