-- Which pixels a shape covers, its bounding box, and the tests of its figures. Assumes nothing.
use Rattle.std.specs.Prelude.{ℕ, ◌+◌, ◌-◌, min, max, Bool, true, ◌&&◌, List, nat_le, nat_lt}
use Rattle.raster.specs.declared.shape.Bounds.{Bounds}
use Rattle.raster.specs.declared.shape.Shape.{Shape}
use Rattle.raster.specs.declared.shape.Shape.TheVariants.{Box, Line, Figure}
use Rattle.basics.specs.Fonts.{lit}
use Rattle.lines.specs.Lines.{pixels, among}

-- n is one of the w numbers from a on
abbrev pub of_the : ℕ → ℕ → ℕ → Bool
of_the w a n = nat_le a n && nat_lt n (a + w)

-- a box covers its columns and rows, a line the pixels of its list, a figure what the font lights
abbrev pub covers : List ℕ → Shape → ℕ → ℕ → Bool
covers font (Box b) x y = of_the b.w b.x x && of_the b.h b.y y
covers font (Line l) x y = among (pixels l) x y
covers font (Figure f) x y = (nat_le f.x x && nat_le f.y y) && lit font f.glyph (x - f.x) (y - f.y)

-- the smallest box around a box's pixels, a line's ends, or a figure's cell; right and bottom lie outside
abbrev pub bounds_of : Shape → Bounds
bounds_of (Box b) = record { left = b.x; top = b.y; right = b.x + b.w; bottom = b.y + b.h }
bounds_of (Line l) = record { left = min l.x0 l.x1; top = min l.y0 l.y1; right = max l.x0 l.x1 + 1; bottom = max l.y0 l.y1 + 1 }
bounds_of (Figure f) = record { left = f.x; top = f.y; right = f.x + 8; bottom = f.y + 16 }

-- the pixel (x, y) lies in the box
abbrev pub inside : Bounds → ℕ → ℕ → Bool
inside b x y = (nat_le b.left x && nat_lt x b.right) && (nat_le b.top y && nat_lt y b.bottom)

-- a box has sides, and a figure has a glyph of the font
abbrev pub drawable : Shape → Bool
drawable (Box b) = nat_lt 0 b.w && nat_lt 0 b.h
drawable (Line l) = true
drawable (Figure f) = nat_le f.glyph 15

-- the bounding box lies on a sheet of that width and height
abbrev pub on_sheet : ℕ → ℕ → Shape → Bool
on_sheet width height s = nat_le (bounds_of s).right width && nat_le (bounds_of s).bottom height
