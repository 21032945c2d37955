-- What handing a tile down does to a picture. Assumes nothing.
use Rattle.std.specs.Prelude.{◌≡◌, ℕ, false, List, ◌≢◌, slice_index}
use Rattle.raster.specs.Sizes.{tile_of, place}
use Rattle.surface.specs.Picture.{Picture, On, SameSides}

-- the pixels of tile t took the inks of their places; every other kept its taken ink, and did not begin to wait
pub record Tiled (t : ℕ) (inks : List ℕ) (p q : Picture) : Type 0 where
  pub sides : SameSides p q
  pub on : (u v : ℕ) → On p u v → tile_of p.wide u v ≡ t → q.taken u v ≡ slice_index inks (place u v)
  pub off : (u v : ℕ) → On p u v → (tile_of p.wide u v ≢ t) → q.taken u v ≡ p.taken u v
  pub calm : (u v : ℕ) → On p u v → (tile_of p.wide u v ≢ t) → p.waits u v ≡ false → q.waits u v ≡ false
