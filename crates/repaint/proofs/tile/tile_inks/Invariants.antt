use Rattle.std.proofs.Common.{◌≡◌, ℕ, ◌<◌, get_or}
use Rattle.tiling.specs.Places.{column_of, row_of}
use Rattle.tiling.specs.Found.{laid_below}
use Rattle.repaint.proofs.tile.tile_inks.Given as goal

abbrev pub invariant-loop-n : goal.invariant-loop-n
invariant-loop-n l = (k : ℕ) → k < 256 → get_or l.tile.values k 0 ≡ laid_below l.font.rows l.shapes l.inks.values l.found l.n (column_of l.width l.t k) (row_of l.width l.t k)
