use Rattle.std.proofs.Common.{◌≡◌, ℕ, ◌+◌, ◌/◌, ◌%◌, ◌&&◌, ◌||◌, ltb, leb}
use Rattle.repaint.specs.Marked.{marked}
use Rattle.repaint.proofs.marks.Marks.mark.Given as goal

abbrev pub invariant-loop-row : goal.invariant-loop-row
invariant-loop-row l = (t : ℕ) → marked l.self t ≡ (marked l.initial.self t || (ltb t 256 && ((leb (l.bounds.left / 16) (t % l.across) && ltb (t % l.across) ((l.right + 15) / 16)) && (leb (l.bounds.top / 16) (t / l.across) && ltb (t / l.across) l.row))))
