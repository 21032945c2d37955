-- What handing a tile down gives to the pixels of a picture. Assumes nothing.
use Rattle.std.specs.Prelude.{◌≡◌, ℕ, ◌/◌, false, cond, ◌&&◌, Option, None, ◌==◌, nat_le, nat_lt}
use Rattle.std.specs.Option.{unwrap_or}
use Rattle.raster.specs.Sizes.{place}
use Rattle.surface.specs.Picture.{Picture, On, SameSides}
use Rattle.handing.specs.declared.spot.Spot.{Spot}

-- each pixel took the ink that it was given; one that was given none kept its own, and did not begin to wait
pub record Given (ink : ℕ → ℕ → Option ℕ) (p q : Picture) : Type 0 where
  pub sides : SameSides p q
  pub taken : (u v : ℕ) → On p u v → q.taken u v ≡ unwrap_or (ink u v) (p.taken u v)
  pub calm : (u v : ℕ) → On p u v → ink u v ≡ None → p.waits u v ≡ false → q.waits u v ≡ false

-- what the inks of a tile at that spot give to the pixels of its places from k up to n
abbrev pub part_inks : (ℕ → Option ℕ) → Spot → ℕ → ℕ → ℕ → ℕ → Option ℕ
part_inks inks spot k n u v = cond ((u / 16 == spot.column && v / 16 == spot.row) && (nat_le k (place u v) && nat_lt (place u v) n)) (inks (place u v)) None

-- what they give to the pixels of all of its places
abbrev pub spot_inks : (ℕ → Option ℕ) → Spot → ℕ → ℕ → Option ℕ
spot_inks inks spot u v = cond (u / 16 == spot.column && v / 16 == spot.row) (inks (place u v)) None
