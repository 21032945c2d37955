use Rattle.std.proofs.Common.{◌≡◌, ℕ, ◌/◌, ◌%◌, ◌&&◌, ◌||◌, eqb, ltb, leb}
use Rattle.repaint.specs.Marked.{marked}
use Rattle.repaint.proofs.marks.Marks.mark_row.Given as goal

abbrev pub invariant-loop-column : goal.invariant-loop-column
invariant-loop-column l = (t : ℕ) → marked l.self t ≡ (marked l.initial.self t || (ltb t 256 && (eqb l.row (t / l.across) && (leb l.from (t % l.across) && ltb (t % l.across) l.column))))
