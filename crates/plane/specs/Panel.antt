-- What a plane surface holds, and what its calls do to its bytes. Assumes nothing.
use Rattle.std.specs.Prelude.{◌≡◌, ℕ, ◌*◌, ◌≤◌, List, length, drop, Ok, Err, Result, refl}
use Rattle.raster.specs.declared.refusal.Refusal.{Refusal}
use Rattle.raster.specs.Sizes.{Side}
use Rattle.surface.specs.Bytes.{filled}
use Rattle.surface.specs.Picture.{Picture, Lawful}
use Rattle.plane.specs.Layout.{plane_bytes_lem, pictured, painted}
use Rattle.plane.specs.declared.planes.PlaneSurface.{PlaneSurface}

-- all the bytes that were lent to it, those behind its planes too
abbrev pub bytes_of : PlaneSurface → List ℕ
bytes_of s = s.planes.memory.now

abbrev pub picture_of : PlaneSurface → Picture
picture_of s = pictured s.width s.height (bytes_of s)

pub picture_lawful : (s : PlaneSurface) → Lawful (picture_of s)
picture_lawful s = record { narrow = s.narrow; low = s.low; still = λ x y on calm. refl }

-- the bytes of the four planes
abbrev pub size_of : ℕ → ℕ → ℕ
size_of width height = 4 * plane_bytes_lem width height

-- so many bytes can hold a surface of these sides
pub record Holds (width height room : ℕ) : Type 0 where
  pub wide : Side width
  pub high : Side height
  pub enough : size_of width height ≤ room

-- a new surface over the bytes: all paper where they can hold it, else without a pixel; every other byte stays
pub record Made (bytes : List ℕ) (width height : ℕ) (s : PlaneSurface) : Type 0 where
  pub held : Holds width height (length bytes) → (s.width ≡ width) × (s.height ≡ height) × (bytes_of s ≡ filled (size_of width height) 0 bytes)
  pub none : (Holds width height (length bytes) → ⊥) → (s.width ≡ 0) × (s.height ≡ 0) × (bytes_of s ≡ bytes)

-- a run gives each plane its bit of the ink, at the run's pixels alone; a refused run alters no byte
abbrev pub RunBytes : PlaneSurface → ℕ → ℕ → ℕ → ℕ → Result Unit Refusal → PlaneSurface → Type 0
RunBytes s x y n ink (Ok u) t = bytes_of t ≡ painted s.width s.height x y n ink (bytes_of s)
RunBytes s x y n ink (Err e) t = bytes_of t ≡ bytes_of s

-- the bytes behind the planes are as before
abbrev pub RestKept : PlaneSurface → PlaneSurface → Type 0
RestKept s t = drop (size_of s.width s.height) (bytes_of t) ≡ drop (size_of s.width s.height) (bytes_of s)

-- it still holds the same loan, so that the lender finds its bytes
abbrev pub SameLoan : PlaneSurface → PlaneSurface → Type 0
SameLoan s t = t.planes.memory.ghost_name ≡ s.planes.memory.ghost_name
