use Rattle.raster.proofs.Shapes.{line_bounds, line_around}
use Rattle.raster.proofs.shape.Shape.bounds.Goals as goal

pub returns-in-Line : goal.returns-in-Line
returns-in-Line c =
    let v = line_bounds c.args.self c.in-Line.l _ _ _ _ c.in-Line.is c.min.ensures c.min-in-Line.ensures c.max.ensures c.max-in-Line.ensures in
    record { value = v; around = line_around c.args.self c.in-Line.l _ c.in-Line.is v }
