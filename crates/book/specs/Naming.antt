-- What the trees of a sheet store: its shapes by their boxes, and its spans by their frames, with their numbers as codes. Assumes
-- nothing.
use Rattle.std.specs.Prelude.{ℕ, zero, suc, ◌-◌, List, [], ◌∷◌, ◌++◌, Some, None, Option}
use mathlib.Core.List.{Perm}
use Rattle.raster.specs.Shapes.{bounds_of}
use Rattle.extent.specs.declared.plane_box.PlaneBox.{PlaneBox}
use Rattle.extent.specs.declared.interval.Interval.{Interval}
use Rattle.painting.specs.Drawing.{Drawing, Item, Turn}

-- the bounding box of a shape, with its last column and its last row
abbrev pub box_of : Item → PlaneBox
box_of item = record { left = (bounds_of item.shape).left; top = (bounds_of item.shape).top; right = (bounds_of item.shape).right - 1; bottom = (bounds_of item.shape).bottom - 1 }

-- the frames that a span holds
abbrev pub frames_of : Turn → Interval
frames_of t = record { first = t.from; last = t.to }

-- what stands at number n, as a pair
abbrev pub pair_at : {A E : Type 0} → (A → E) → Option A → ℕ → List (E × ℕ)
pair_at extent None n = []
pair_at extent (Some a) n = (extent a, n) ∷ []

-- what stands at the numbers below k, as pairs
unfoldable pub numbered : {A E : Type 0} → (A → E) → (ℕ → Option A) → ℕ → List (E × ℕ)
numbered extent f zero = []
numbered extent f (suc k) = pair_at extent (f k) k ++ numbered extent f k

-- the pairs of the one tree name each current shape with its bounding box, and those of the other each current span with its frames,
-- exactly once, in any order
pub record NamesEach (d : Drawing) (boxes : List (PlaneBox × ℕ)) (intervals : List (Interval × ℕ)) : Type 0 where
  pub shapes : Perm boxes (numbered box_of d.shapes 256)
  pub spans : Perm intervals (numbered frames_of d.spans 256)
