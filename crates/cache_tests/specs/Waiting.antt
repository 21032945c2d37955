-- The picture of a surface that lets its pixels wait. Assumes nothing.
use Rattle.std.specs.Prelude.{ℕ, not, List, length, ◌==◌, slice_index_or}
use Rattle.std.proofs.Common.{arith}
use Rattle.std.proofs.lemmas.Bool.{not-false, eqb-true}
use Rattle.surface.specs.Picture.{Picture, Lawful}
use Rattle.cache_tests.specs.declared.waiting.Pixel.{Pixel}
use Rattle.cache_tests.specs.declared.waiting.Waiting.{Waiting}

-- the pixel in a column
abbrev pub pixel : List Pixel → ℕ → Pixel
pixel pixels x = slice_index_or pixels x (record { taken = 0; shown = 0 })

-- one row of pixels; one waits where its shown ink is not the taken one
abbrev pub row_of : List Pixel → Picture
row_of pixels = record {
  wide = length pixels;
  high = 1;
  taken = λ x y. (pixel pixels x).taken;
  shown = λ x y. (pixel pixels x).shown;
  waits = λ x y. not ((pixel pixels x).shown == (pixel pixels x).taken);
}

abbrev pub pictured : Waiting → Picture
pictured w = row_of w.pixels.now

-- it is small, and a pixel that does not wait shows its taken ink
pub pictured_lawful : (w : Waiting) → Lawful (pictured w)
pictured_lawful w = record {
  narrow = w.narrow;
  low = omega arith;
  still = λ x y on calm. eqb-true _ _ (not-false _ calm);
}
