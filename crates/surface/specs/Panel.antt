-- What a byte surface holds, and what its calls do to its bytes. Assumes nothing.
use Rattle.std.specs.Prelude.{◌≡◌, ℕ, ◌*◌, ◌≤◌, List, length, drop, Ok, Err, Result, refl}
use Rattle.raster.specs.declared.refusal.Refusal.{Refusal}
use Rattle.raster.specs.Sizes.{Side}
use Rattle.surface.specs.Bytes.{place, pictured, filled, painted}
use Rattle.surface.specs.Picture.{Picture, Lawful}
use Rattle.surface.specs.declared.byte.ByteSurface.{ByteSurface}

-- all the bytes that were lent to it, those behind its pixels too
abbrev pub bytes_of : ByteSurface → List ℕ
bytes_of s = s.pixels.memory.now

abbrev pub picture_of : ByteSurface → Picture
picture_of s = pictured s.width s.height (bytes_of s)

pub picture_lawful : (s : ByteSurface) → Lawful (picture_of s)
picture_lawful s = record { narrow = s.narrow; low = s.low; still = λ x y on calm. refl }

-- so many bytes can hold a surface of these sides
pub record Holds (width height room : ℕ) : Type 0 where
  pub wide : Side width
  pub high : Side height
  pub enough : width * height ≤ room

-- a new surface over the bytes: all paper where they can hold it, else without a pixel; every other byte stays
pub record Made (bytes : List ℕ) (width height : ℕ) (s : ByteSurface) : Type 0 where
  pub held : Holds width height (length bytes) → (s.width ≡ width) × (s.height ≡ height) × (bytes_of s ≡ filled (width * height) 0 bytes)
  pub none : (Holds width height (length bytes) → ⊥) → (s.width ≡ 0) × (s.height ≡ 0) × (bytes_of s ≡ bytes)

-- a run gives the ink to the bytes of its pixels; a refused run alters no byte
abbrev pub RunBytes : ByteSurface → ℕ → ℕ → ℕ → ℕ → Result Unit Refusal → ByteSurface → Type 0
RunBytes s x y n ink (Ok u) t = bytes_of t ≡ painted (place s.width x y) n ink (bytes_of s)
RunBytes s x y n ink (Err e) t = bytes_of t ≡ bytes_of s

-- the bytes behind the last pixel's are as before
abbrev pub RestKept : ByteSurface → ByteSurface → Type 0
RestKept s t = drop (s.width * s.height) (bytes_of t) ≡ drop (s.width * s.height) (bytes_of s)

-- it still holds the same loan, so that the lender finds its bytes
abbrev pub SameLoan : ByteSurface → ByteSurface → Type 0
SameLoan s t = t.pixels.memory.ghost_name ≡ s.pixels.memory.ghost_name
