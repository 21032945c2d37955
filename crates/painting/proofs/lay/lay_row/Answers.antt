use Rattle.std.proofs.Common.{ℕ, ◌+◌, Bool, ◌&&◌, ◌||◌, sym, ap, ◌∙◌, subst}
use Rattle.std.proofs.Math.Bool.{or-false}
use Rattle.painting.specs.Laid.{run_of, Laid}
use Rattle.painting.proofs.Laying.{laid_then, laid_like, in_columns, columns_more}
use Rattle.painting.proofs.lay.lay_row.Goals as goal
use Rattle.painting.proofs.lay.lay_row.Goals.{then-lights, else-lights}

pub loop-column-preserved : goal.loop-column-preserved
loop-column-preserved g c =
    let font = c.args.font.now.rows in
    let f = c.args.f in
    let row = c.args.row in
    let n = c.loop-column.column in
    let more = λ (u v : ℕ). columns_more font f row n u v c.lights.result c.lights.ensures in
    let next = λ (u v : ℕ) (b : Bool). in_columns font f row n u v || (b && run_of (f.x + n) (f.y + row) 1 u v) in
    let done : g.row.S.Denot → Type 0 = λ s. Laid (in_columns font f row (n + 1)) c.args.ink.value (g.S.Surface.view c.args.surface.now) (g.S.Surface.view s) in
    elim c.if-lights.branch [
      | then-lights w ↦ subst done (sym w.surface-is) (laid_then (in_columns font f row n) (run_of (f.x + n) (f.y + row) 1) (in_columns font f row (n + 1)) _ _ _ _ (λ u v. more u v ∙ ap (next u v) w.if-lights.true) c.loop-column.invariant w.lay_run.ensures)
      | else-lights w ↦ subst done (sym w.surface-is) (laid_like (in_columns font f row n) (in_columns font f row (n + 1)) _ _ _ (λ u v o. sym (more u v ∙ ap (next u v) w.if-lights.false ∙ or-false _)) c.loop-column.invariant)
    ]
