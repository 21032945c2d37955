use Rattle.std.proofs.Common.{◌≡◌, ℕ, ◌<◌, get_or}
use Rattle.raster.specs.Fonts.{built_in}
use Rattle.raster.specs.Shapes.{covers}
use Rattle.raster_tests.proofs.tests.covers.check_each.Given as goal

abbrev pub invariant-loop-x : goal.invariant-loop-x
invariant-loop-x g l = (k : ℕ) → k < l.x-index → covers built_in l.shape (get_or l.pixels k (0, 0)).0 (get_or l.pixels k (0, 0)).1 ≡ l.covered
