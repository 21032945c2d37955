-- A frame as Netpbm's P6: the bytes of its head and of its rows. Assumes nothing.
use Rattle.std.specs.Prelude.{ℕ, ◌+◌, List, [], ◌∷◌, ◌++◌, length, take, drop, codes, decimal}
use Rattle.std.specs.List.{range_with_len, flat_map}
use Rattle.raster.specs.Inks.{red_of, green_of, blue_of}
use Rattle.surface.specs.Picture.{Picture}

-- "P6", a line feed, the width, a space, the height, a line feed, "255" and a line feed
unfoldable pub head_bytes : ℕ → ℕ → List ℕ
head_bytes w h = codes "P6" ++ (10 ∷ (decimal w ++ (32 ∷ (decimal h ++ (10 ∷ (codes "255" ++ (10 ∷ [])))))))

-- the red, the green and the blue of an ink
unfoldable pub ink_bytes : ℕ → List ℕ
ink_bytes k = red_of k ∷ green_of k ∷ blue_of k ∷ []

-- the first n pixels of row y, by their taken inks
unfoldable pub front_bytes : Picture → ℕ → ℕ → List ℕ
front_bytes p y n = flat_map (λ x. ink_bytes (p.taken x y)) (range_with_len 0 n)

-- all pixels of row y
abbrev pub row_bytes_lem : Picture → ℕ → List ℕ
row_bytes_lem p y = front_bytes p y p.wide

-- old, with the bytes from place i on
unfoldable pub over : List ℕ → ℕ → List ℕ → List ℕ
over old i bytes = take i old ++ (bytes ++ drop (i + length bytes) old)

-- the first n rows
unfoldable pub rows_bytes : Picture → ℕ → List ℕ
rows_bytes p n = flat_map (row_bytes_lem p) (range_with_len 0 n)

-- a frame is the head and then all rows
abbrev pub frame_bytes : Picture → List ℕ
frame_bytes p = head_bytes p.wide p.high ++ rows_bytes p p.high
