use Rattle.std.proofs.Common.{◌+◌, ◌&&◌, eqb}
use Rattle.raster.specs.declared.shape.Shape.TheVariants.{Figure}
use Rattle.raster.specs.Shapes.{covers}
use Rattle.painting.proofs.Laying.{laid_then, in_rows, rows_more}
use Rattle.painting.proofs.lay.lay_figure.Goals as goal

pub loop-row-preserved : goal.loop-row-preserved
loop-row-preserved g c =
    let font = c.args.font.now.rows in
    let f = c.args.f in
    let n = c.loop-row.row in
    laid_then (in_rows font f n) (λ u v. covers font (Figure f) u v && eqb v (f.y + n)) (in_rows font f (n + 1)) _ _ _ _ (rows_more font f n) c.loop-row.invariant c.lay_row.ensures
