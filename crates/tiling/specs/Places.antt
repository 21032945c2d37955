-- The pixels at the places of a tile. Assumes nothing.
use Rattle.std.specs.Prelude.{ℕ, ◌+◌, ◌*◌, ◌/◌, ◌%◌}
use Rattle.raster.specs.Sizes.{across}

-- the pixel at place k of tile t, on a sheet of that width
abbrev pub column_of : ℕ → ℕ → ℕ → ℕ
column_of width t k = 16 * (t % across width) + k % 16

abbrev pub row_of : ℕ → ℕ → ℕ → ℕ
row_of width t k = 16 * (t / across width) + k / 16
