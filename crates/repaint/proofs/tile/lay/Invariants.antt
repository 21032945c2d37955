use Rattle.std.proofs.Common.{◌≡◌, ℕ, ◌+◌, ◌*◌, ◌/◌, ◌%◌, ◌<◌, ◌≤◌, cond, get_or}
use Rattle.raster.specs.Shapes.{covers}
use Rattle.repaint.proofs.tile.lay.Given as goal

abbrev pub invariant-loop-k : goal.invariant-loop-k
invariant-loop-k l = record {
  laid : (j : ℕ) → j < l.k → get_or l.tile.values j 0 ≡ cond (covers l.font.rows l.shape (16 * l.spot.column + j % 16) (16 * l.spot.row + j / 16)) l.ink.value (get_or l.initial.tile.values j 0);
  left : (j : ℕ) → l.k ≤ j → get_or l.tile.values j 0 ≡ get_or l.initial.tile.values j 0;
}
