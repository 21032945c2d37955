-- Pixels in a list of bytes: one byte a pixel, row by row. Assumes nothing.
use Rattle.std.specs.Prelude.{ℕ, ◌+◌, ◌*◌, false, List, ◌++◌, take, drop, replicate, slice_index}
use Rattle.surface.specs.Picture.{Picture}

-- the place of the byte of pixel (x, y), by the width
abbrev pub place : ℕ → ℕ → ℕ → ℕ
place width x y = y * width + x

-- the picture of these sides: a pixel's ink is its byte, and shows at once
abbrev pub pictured : ℕ → ℕ → List ℕ → Picture
pictured width height bytes = record {
  wide = width;
  high = height;
  taken = λ x y. slice_index bytes (place width x y);
  shown = λ x y. slice_index bytes (place width x y);
  waits = λ x y. false;
}

-- the first n bytes are the ink, the others as before
abbrev pub filled : ℕ → ℕ → List ℕ → List ℕ
filled n ink bytes = replicate n ink ++ drop n bytes

-- the n bytes from the start on are the ink, the others as before
abbrev pub painted : ℕ → ℕ → ℕ → List ℕ → List ℕ
painted start n ink bytes = take start bytes ++ (replicate n ink ++ drop (start + n) bytes)
