-- A font is 256 row bytes. Assumes nothing.
use Rattle.std.specs.Prelude.{ℕ, ◌+◌, ◌-◌, ◌*◌, ◌/◌, ◌%◌, ◌^◌, Bool, ◌&&◌, List, map, ◌==◌, nat_lt, slice_index}
use Rattle.std.specs.List.{range_with_len}
use Rattle.basics.specs.Segments.{masks, row_byte}

-- the rows of sixteen masks: row j of glyph g stands at 16 g + j
unfoldable pub rows_of : List ℕ → List ℕ
rows_of ms = map (λ k. row_byte (slice_index ms (k / 16)) (k % 16)) (range_with_len 0 256)

-- the built-in font
abbrev pub built_in : List ℕ
built_in = rows_of masks

-- the font lights column i of row j of glyph g: the bit of weight 2 ^ (7 - i) of the byte at 16 g + j;
-- there are 16 glyphs, 8 columns and 16 rows
abbrev pub lit : List ℕ → ℕ → ℕ → ℕ → Bool
lit rows g i j = (nat_lt g 16 && (nat_lt i 8 && nat_lt j 16)) && slice_index rows (16 * g + j) / 2 ^ (7 - i) % 2 == 1
