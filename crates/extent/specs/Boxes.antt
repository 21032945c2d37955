-- The plane box of a box of pixels. Assumes nothing.
use Rattle.std.specs.Prelude.{◌≡◌, ◌+◌, ◌<◌, ◌≤◌, Some, None, Option}
use Rattle.raster.specs.declared.shape.Bounds.{Bounds}
use Rattle.extent.specs.declared.plane_box.PlaneBox.{PlaneBox}

-- a bounding box with a pixel, within 256 columns and rows
pub record Within (b : Bounds) : Type 0 where
  pub columns : b.left < b.right
  pub wide : b.right ≤ 256
  pub rows : b.top < b.bottom
  pub high : b.bottom ≤ 256

-- its edges, of which a plane box includes the last
pub record Edges (b : Bounds) (e : PlaneBox) : Type 0 where
  pub left : e.left ≡ b.left
  pub top : e.top ≡ b.top
  pub right : e.right + 1 ≡ b.right
  pub bottom : e.bottom + 1 ≡ b.bottom

-- a box becomes a plane box exactly if it has a pixel and lies within 256 columns and rows
abbrev pub IsPlaneBox : Bounds → Option PlaneBox → Type 0
IsPlaneBox b (Some e) = Within b × Edges b e
IsPlaneBox b None = Within b → ⊥
