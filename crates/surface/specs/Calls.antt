-- What each call of a surface answers, and what it does to the picture. Assumes nothing.
use Rattle.std.specs.Prelude.{◌≡◌, ℕ, ◌+◌, ◌<◌, ◌≤◌, false, Ok, Err, Result}
use Rattle.raster.specs.declared.refusal.Refusal.{Refusal}
use Rattle.raster.specs.Refusals.{number}
use Rattle.surface.specs.Picture.{Picture, On, SameSides}

-- size answers the sides
pub record Sized (p : Picture) (width height : ℕ) : Type 0 where
  pub wide : width ≡ p.wide
  pub high : height ≡ p.high

-- read answers the taken ink, and refuses with 30 exactly outside
abbrev pub Read : Picture → ℕ → ℕ → Result ℕ Refusal → Type 0
Read p x y (Ok ink) = On p x y × (ink ≡ p.taken x y)
Read p x y (Err e) = (On p x y → ⊥) × (number e ≡ 30)

-- (u, v) is one of the n pixels from (x, y) to the right
pub record OnRun (x y n u v : ℕ) : Type 0 where
  pub row : v ≡ y
  pub from : x ≤ u
  pub to : u < x + n

-- a run that is accepted: it has a pixel, an ink, and lies on the surface
pub record Accepts (p : Picture) (x y n ink : ℕ) : Type 0 where
  pub some : 0 < n
  pub limit : ink ≤ 15
  pub row : y < p.high
  pub end : x + n ≤ p.wide

-- the pixels of the run took the ink; every other kept its taken ink, and did not begin to wait
pub record Inked (p : Picture) (x y n ink : ℕ) (q : Picture) : Type 0 where
  pub sides : SameSides p q
  pub on : (u v : ℕ) → On p u v → OnRun x y n u v → q.taken u v ≡ ink
  pub off : (u v : ℕ) → On p u v → (OnRun x y n u v → ⊥) → q.taken u v ≡ p.taken u v
  pub calm : (u v : ℕ) → On p u v → (OnRun x y n u v → ⊥) → p.waits u v ≡ false → q.waits u v ≡ false

-- run refuses with 30 exactly where the run does not fit, and then alters nothing
abbrev pub Ran : Picture → ℕ → ℕ → ℕ → ℕ → Result Unit Refusal → Picture → Type 0
Ran p x y n ink (Ok u) q = Accepts p x y n ink × Inked p x y n ink q
Ran p x y n ink (Err e) q = (Accepts p x y n ink → ⊥) × (number e ≡ 30) × (q ≡ p)

-- settle leaves every taken ink, and no pixel waiting
pub record Settled (p q : Picture) : Type 0 where
  pub sides : SameSides p q
  pub taken : (x y : ℕ) → On p x y → q.taken x y ≡ p.taken x y
  pub calm : (x y : ℕ) → On p x y → q.waits x y ≡ false
