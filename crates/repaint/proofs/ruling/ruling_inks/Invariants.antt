use Rattle.std.proofs.Common.{◌≡◌, ℕ, ◌<◌, get_or}
use Rattle.tiling.specs.Found.{ruled_below}
use Rattle.repaint.proofs.ruling.ruling_inks.Given as goal

abbrev pub invariant-loop-s : goal.invariant-loop-s
invariant-loop-s l = (n : ℕ) → n < 256 → get_or l.inks.values n 0 ≡ ruled_below l.shapes l.spans l.frame l.found l.s n
