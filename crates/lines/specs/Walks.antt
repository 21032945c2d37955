-- A walk along the pixels of a line. Assumes nothing.
use Rattle.std.specs.Prelude.{ℕ, List, drop}
use Rattle.lines.specs.declared.line.pixels.Pixels.{Pixels}
use Rattle.lines.specs.Lines.{pixels}

-- the pixels that it has not passed yet
abbrev pub left : Pixels → List (ℕ × ℕ)
left p = drop p.places.start (pixels p.line)
