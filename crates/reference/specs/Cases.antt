-- The reference cases: three lines, a glyph's rows, an ink's colour, the tile of a pixel, the inks of a recoloured shape and the split of
-- nine intervals. Assumes nothing.
use Rattle.std.specs.Prelude.{◌≡◌, ℕ, ◌+◌, ◌*◌, cond, List, [], ◌∷◌, ◌++◌, replicate, Some, None, Option, ◌==◌, slice_index}
use Rattle.raster.specs.declared.shape.Ends.{Ends}
use Rattle.raster.specs.declared.shape.Shape.TheVariants.{Box}
use Rattle.raster.specs.Fonts.{built_in}
use Rattle.raster.specs.Glyphs.{GlyphOf}
use Rattle.raster.specs.Inks.{red_of, green_of, blue_of}
use Rattle.raster.specs.Lines.{pixels}
use Rattle.raster.specs.Sizes.{tile_of}
use Rattle.extent.specs.declared.interval.Interval.{Interval}
use Rattle.extent.specs.contracts.interval.IntervalExtent.TheImpl.{ghosts as interval_extent}
use Rattle.extent.specs.contracts.interval.IntervalMeasured.TheImpl.{ghosts as interval_measured}
use Rattle.quadratic.specs.Split.{split9}
use Rattle.painting.specs.Drawing.{Drawing, Item, Turn, ruling}

-- the line from (x0, y0) to (x1, y1)
abbrev pub line : ℕ → ℕ → ℕ → ℕ → Ends
line x0 y0 x1 y1 = record { x0 = x0; y0 = y0; x1 = x1; y1 = y1 }

-- row j of glyph g in the built-in font
abbrev pub row : ℕ → ℕ → ℕ
row g j = slice_index built_in (16 * g + j)

-- a thing at one number, and nothing elsewhere
abbrev pub only_at : {A : Type 0} → ℕ → A → ℕ → Option A
only_at n a k = cond (k == n) (Some a) None

-- shape 3, a box, has the ink 5, and span 0 gives it the ink 7 from frame 2 to frame 6
abbrev pub box_three : Item
box_three = record { shape = Box (record { x = 0; y = 0; w = 1; h = 1 }); ink = 5 }

abbrev pub two_to_six : Turn
two_to_six = record { shape = 3; from = 2; to = 6; ink = 7 }

abbrev pub recoloured : ℕ → Drawing
recoloured frame = record { font = built_in; shapes = only_at 3 box_three; spans = only_at 0 two_to_six; frame = frame }

-- the ruling ink of shape 3 at a frame
abbrev pub ink_of_three : ℕ → ℕ
ink_of_three frame = ruling (recoloured frame) 3 box_three.ink

-- the interval k to k
abbrev pub frame_only : ℕ → Interval
frame_only k = record { first = k; last = k }

-- the letters of nine intervals, with the size and the join that intervals have
abbrev pub interval_letters : (ℕ → Interval) → List ℕ
interval_letters x = split9 interval_measured.measure interval_extent.joined x

-- the seven cases, each a fact about fixed numbers
pub record ReferenceCases : Type 0 where
  pub line_there : pixels (line 0 0 2 1) ≡ (0, 0) ∷ (1, 1) ∷ (2, 1) ∷ []
  pub line_back : pixels (line 2 1 0 0) ≡ (2, 1) ∷ (1, 0) ∷ (0, 0) ∷ []
  pub line_steep : pixels (line 0 0 1 3) ≡ (0, 0) ∷ (0, 1) ∷ (1, 2) ∷ (1, 3) ∷ []
  -- the character 48, '0', has the glyph 0, with these bytes in rows 1, 2 and 7
  pub glyph_zero : GlyphOf 48 (Some 0) × (row 0 1 ≡ 60) × (row 0 2 ≡ 66) × (row 0 7 ≡ 0)
  pub ink_nine : (red_of 9 ≡ 170) × (green_of 9 ≡ 170) × (blue_of 9 ≡ 0)
  -- the pixel (0, 16), on the widths 17 and 16
  pub tiles : (tile_of 17 0 16 ≡ 2) × (tile_of 16 0 16 ≡ 1)
  -- the frames around and in the span
  pub span_frames : (ink_of_three 1 ≡ 5) × (ink_of_three 2 ≡ 7) × (ink_of_three 6 ≡ 7) × (ink_of_three 7 ≡ 5)

-- the case of the split, a fact about fixed numbers
pub record SplitCases : Type 0 where
  -- the intervals k to k, from 0 to 8, go as AAAAAABBB
  pub nine_frames : interval_letters frame_only ≡ replicate 6 65 ++ replicate 3 66
