-- Tiles by their numbers, and the boxes that they meet. Assumes nothing.
use Rattle.std.specs.Prelude.{◌≡◌, ℕ, ◌+◌, ◌*◌, ◌/◌, ◌%◌, ◌<◌, min, max, Bool, true, ◌&&◌, nat_lt}
use Rattle.raster.specs.declared.shape.Bounds.{Bounds}
use Rattle.raster.specs.declared.shape.Shape.{Shape}
use Rattle.raster.specs.Shapes.{bounds_of, inside}
use Rattle.raster.specs.Sizes.{across, tile_of}

-- the box of tile t: a square of 16 pixels, cut off at the right and the lower edge of the sheet
abbrev pub tile_box : ℕ → ℕ → ℕ → Bounds
tile_box width height t = record {
  left = 16 * (t % across width);
  top = 16 * (t / across width);
  right = min (16 * (t % across width) + 16) width;
  bottom = min (16 * (t / across width) + 16) height;
}

-- two boxes have a pixel in common
abbrev pub share : Bounds → Bounds → Bool
share a b = nat_lt (max a.left b.left) (min a.right b.right) && nat_lt (max a.top b.top) (min a.bottom b.bottom)

-- tile t meets the bounding box of the shape
abbrev pub meets : ℕ → ℕ → ℕ → Shape → Bool
meets width height t s = share (tile_box width height t) (bounds_of s)

-- the same in words: a pixel of the sheet that lies in the tile lies in the bounding box
pub record Meets (width height t : ℕ) (s : Shape) : Type 0 where
  pub x : ℕ
  pub y : ℕ
  pub column : x < width
  pub row : y < height
  pub tile : tile_of width x y ≡ t
  pub box : inside (bounds_of s) x y ≡ true
