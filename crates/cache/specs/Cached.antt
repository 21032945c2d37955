-- The picture of a cache, and what its calls do to a picture. Assumes nothing.
use Rattle.std.specs.Prelude.{◌≡◌, ℕ, ◌+◌, cond, ◌&&◌, ◌||◌, List, is_some, Some, None, Option, ◌==◌, nat_le, nat_lt}
use Rattle.std.specs.Option.{unwrap_or}
use Rattle.raster.specs.Sizes.{tile_of, place}
use Rattle.surface.specs.Picture.{Picture, SameSides}
use Rattle.cache.specs.declared.slot.Slot.{Slot}
use Rattle.cache.specs.declared.store.Cache.{Cache}
use Rattle.cache.specs.Slots.{ink_at_lem, is_tile, held}
use Rattle.handing.specs.Given.{Given}

-- the ink that the slots have for pixel (x, y) of a surface of that width
abbrev pub held_for : List Slot → ℕ → ℕ → ℕ → Option ℕ
held_for slots wide x y = held slots (tile_of wide x y) (place x y)

-- a pixel's taken ink is its slot's, else the one taken below; it waits if a slot has an ink for it or it waits below; it
-- shows what it shows below
abbrev pub cached : List Slot → Picture → Picture
cached slots p = record {
  wide = p.wide;
  high = p.high;
  taken = λ x y. unwrap_or (held_for slots p.wide x y) (p.taken x y);
  shown = p.shown;
  waits = λ x y. is_some (held_for slots p.wide x y) || p.waits x y;
}

-- the picture of a cache over a surface of that view
abbrev pub picture : {S : Type 0} → (S → Picture) → Cache S → Picture
picture view c = cached c.slots (view c.below)

-- nothing was given: each pixel kept its taken ink, and none began to wait
abbrev pub Quiet : Picture → Picture → Type 0
Quiet p q = Given (λ u v. None) p q

-- what a slot has for the pixels of its tile
abbrev pub slot_inks : Slot → ℕ → ℕ → ℕ → Option ℕ
slot_inks s wide u v = cond (is_tile s.tile (tile_of wide u v)) (ink_at_lem s (place u v)) None

-- what a run gives
abbrev pub run_inks : ℕ → ℕ → ℕ → ℕ → ℕ → ℕ → Option ℕ
run_inks x y n ink u v = cond ((nat_le x u && nat_lt u (x + n)) && v == y) (Some ink) None

-- a new cache has the surface below as it was, and shows and takes what that does
pub record FreshCache (given below picture : Picture) : Type 0 where
  pub same : below ≡ given
  pub sides : SameSides given picture
  pub taken : (u v : ℕ) → picture.taken u v ≡ given.taken u v
  pub shown : (u v : ℕ) → picture.shown u v ≡ given.shown u v
  pub waits : (u v : ℕ) → picture.waits u v ≡ given.waits u v
