use Rattle.std.proofs.Common.{◌≡◌, ℕ, ◌+◌, ◌/◌, ◌%◌, ◌≤◌, Bool, ◌&&◌, ◌||◌, eqb, ltb, leb, ap, ◌∙◌, arith}
use Rattle.tiling.proofs.Marking.{marked_more, marked_like, rows_more, tiles_meet}
use Rattle.repaint.specs.Marked.{marked}
use Rattle.repaint.proofs.marks.Marks.mark.Goals as goal

pub loop-row-preserved : goal.loop-row-preserved
loop-row-preserved c t =
    let b = c.args.bounds in
    let w = c.columns-across.result in
    let columns = leb (b.left / 16) (t % w) && ltb (t % w) ((c.min-right.result + 15) / 16) in
    marked_more (marked c.args.self.now t) (ltb t 256) (columns && (leb (b.top / 16) (t / w) && ltb (t / w) c.loop-row.row)) (eqb c.loop-row.row (t / w) && columns) _ _ _
    (rows_more columns (t / w) (b.top / 16) c.loop-row.row c.loop-row.auto.row)
    (c.mark_row.ensures t)
    (c.loop-row.invariant t)

pub returns : goal.returns
returns c t =
    let b = c.args.bounds in
    let order : b.top / 16 ≤ (c.min-bottom.result + 15) / 16 = omega arith in
    let end : c.loop-row.row ≡ (c.min-bottom.result + 15) / 16 = omega (arith, c.loop-row.auto.row-end order) in
    let columns : ℕ → Bool = λ w. leb (b.left / 16) (t % w) && ltb (t % w) ((c.min-right.result + 15) / 16) in
    c.loop-row.invariant t
    ∙ ap (λ n. marked c.args.self.now t || (ltb t 256 && (columns c.columns-across.result && (leb (b.top / 16) (t / c.columns-across.result) && ltb (t / c.columns-across.result) n)))) end
    ∙ ap (λ w. marked c.args.self.now t || (ltb t 256 && (columns w && (leb (b.top / 16) (t / w) && ltb (t / w) ((c.min-bottom.result + 15) / 16))))) c.columns-across.ensures
    ∙ marked_like (marked c.args.self.now t) (ltb t 256) _ _ (tiles_meet c.args.width c.args.height t c.min-right.result c.min-bottom.result b c.min-right.ensures c.min-bottom.ensures c.if-bounds-right.false c.if-bounds-bottom.false)
