use Rattle.std.proofs.Common.{◌+◌, ◌*◌, ◌/◌, ◌%◌, ◌&&◌, ◌||◌, eqb, ltb, leb, ap, ◌∙◌, arith}
use Rattle.tiling.proofs.Marking.{marked_more, columns_more}
use Rattle.repaint.specs.Marked.{marked}
use Rattle.repaint.proofs.marks.Marks.mark_row.Goals as goal

pub loop-column-preserved : goal.loop-column-preserved
loop-column-preserved c t =
    let a = c.args in
    let n = c.loop-column.column in
    marked_more (marked a.self.now t) (ltb t 256) (eqb a.row (t / a.across) && (leb a.from (t % a.across) && ltb (t % a.across) n)) (eqb t (a.row * a.across + n)) _ _ _
    (columns_more t a.across a.row n a.from (omega arith) c.loop-column.auto.column)
    (c.put.ensures t)
    (c.loop-column.invariant t)

pub returns : goal.returns
returns c t =
    let a = c.args in
    c.loop-column.invariant t
    ∙ ap (λ n. marked a.self.now t || (ltb t 256 && (eqb a.row (t / a.across) && (leb a.from (t % a.across) && ltb (t % a.across) n)))) (omega (arith, c.loop-column.auto.column-end c.requires.0))
