-- The pixels of a line, after Bresenham: along the longer way one pixel a step, and along the shorter way
-- the nearest. Assumes nothing.
use Rattle.std.specs.Prelude.{ℕ, ◌+◌, ◌-◌, ◌*◌, ◌/◌, Bool, false, cond, ◌&&◌, ◌||◌, List, [], ◌∷◌, map, ◌==◌, nat_le}
use Rattle.std.specs.List.{range_with_len}
use Rattle.lines.specs.declared.line.Ends.{Ends}

-- the distance without sign
abbrev pub distance : ℕ → ℕ → ℕ
distance a b = (a - b) + (b - a)

-- i steps from a in the direction of b
abbrev pub toward : ℕ → ℕ → ℕ → ℕ
toward a b i = cond (nat_le a b) (a + i) (a - i)

-- how far the shorter way has gone after i steps of the longer, rounded down
abbrev pub drift : ℕ → ℕ → ℕ → ℕ
drift long short i = (2 * i * short + long) / (2 * long)

abbrev pub dx : Ends → ℕ
dx l = distance l.x0 l.x1

abbrev pub dy : Ends → ℕ
dy l = distance l.y0 l.y1

-- pixel i where the way along x is the longer, and where that along y is
abbrev pub flat : Ends → ℕ → ℕ × ℕ
flat l i = (toward l.x0 l.x1 i, toward l.y0 l.y1 (drift (dx l) (dy l) i))

abbrev pub steep : Ends → ℕ → ℕ × ℕ
steep l i = (toward l.x0 l.x1 (drift (dy l) (dx l) i), toward l.y0 l.y1 i)

-- the line with x and y exchanged
abbrev pub turned : Ends → Ends
turned l = record { x0 = l.y0; y0 = l.x0; x1 = l.y1; y1 = l.x1 }

-- the line's pixels, from its first end to its last
unfoldable pub pixels : Ends → List (ℕ × ℕ)
pixels l =
    cond (dx l == 0 && dy l == 0) ((l.x0, l.y0) ∷ [])
    (cond (nat_le (dy l) (dx l)) (map (flat l) (range_with_len 0 (dx l + 1))) (map (steep l) (range_with_len 0 (dy l + 1))))

-- the pixel (x, y) is one of the list
abbrev pub among : List (ℕ × ℕ) → ℕ → ℕ → Bool
among [] x y = false
among (p ∷ ps) x y = (p.0 == x && p.1 == y) || among ps x y
