-- What painting does to a picture. Assumes nothing.
use Rattle.std.specs.Prelude.{◌≡◌, ℕ, Bool, true, false, ◌&&◌, ◌==◌}
use Rattle.raster.specs.Shapes.{of_the}
use Rattle.surface.specs.Picture.{Picture, On, SameSides}
use Rattle.painting.specs.Drawing.{Drawing, painting, Fresh}

-- the n pixels from (x, y) to the right
abbrev pub run_of : ℕ → ℕ → ℕ → ℕ → ℕ → Bool
run_of x y n u v = of_the n x u && v == y

-- the pixels of an area took the ink, and every other kept its own
pub record Laid (area : ℕ → ℕ → Bool) (ink : ℕ) (p q : Picture) : Type 0 where
  pub sides : SameSides p q
  pub on : (u v : ℕ) → On p u v → area u v ≡ true → q.taken u v ≡ ink
  pub off : (u v : ℕ) → On p u v → area u v ≡ false → q.taken u v ≡ p.taken u v

-- every pixel takes and shows the fresh painting's ink, and none waits
pub record Painted (d : Drawing) (p q : Picture) : Type 0 where
  pub sides : SameSides p q
  pub taken : (x y : ℕ) → On p x y → q.taken x y ≡ painting d x y
  pub shown : (x y : ℕ) → On p x y → q.shown x y ≡ painting d x y
  pub calm : (x y : ℕ) → On p x y → q.waits x y ≡ false
  pub words : (x y : ℕ) → On p x y → Fresh d x y (q.shown x y)
