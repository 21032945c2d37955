-- The glyph codes. Assumes nothing.
use Rattle.std.specs.Prelude.{◌≡◌, ℕ, ◌<◌, List, Some, None, codes, Option, ◌≢◌, slice_index}

-- the characters of the glyph codes 0 to 15, in this order
abbrev pub characters : List ℕ
characters = codes "0123456789-.EPLU"

-- a glyph code is the place of the character; every other character has none
abbrev pub GlyphOf : ℕ → Option ℕ → Type 0
GlyphOf c (Some g) = (g < 16) × (slice_index characters g ≡ c)
GlyphOf c None = (g : ℕ) → g < 16 → slice_index characters g ≢ c
