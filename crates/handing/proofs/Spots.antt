-- The pixels at the spot of a tile. Assumes nothing.
use Rattle.std.proofs.Common.{◌≡◌, ℕ, ◌/◌, ◌%◌, ◌<◌, ◌&&◌, eqb, ◌∙◌, ap₂, arith}
use Rattle.raster.specs.Sizes.{across, tile_of}
use Rattle.raster.proofs.Tiles.{row_column}
use Rattle.handing.specs.declared.spot.Spot.{Spot}

-- they are those of the tile
pub spot_tile : (t width u v : ℕ) (spot : Spot) → spot.column ≡ t % across width → spot.row ≡ t / across width → u < width → (eqb (u / 16) spot.column && eqb (v / 16) spot.row) ≡ eqb t (tile_of width u v)
spot_tile t width u v spot c r l = ap₂ (λ a b. eqb (u / 16) a && eqb (v / 16) b) c r ∙ row_column t (across width) (v / 16) (u / 16) (omega (arith, l))
