-- The ruling ink of a shape, and the fresh painting. Assumes nothing.
use Rattle.std.specs.Prelude.{◌≡◌, ℕ, zero, suc, ◌<◌, Bool, true, cond, ◌&&◌, List, Some, None, Option, ◌==◌, nat_le}
use Rattle.std.specs.Option.{unwrap_or}
use Rattle.raster.specs.Shapes.{covers}
use Rattle.raster.specs.declared.shape.Shape.{Shape}

-- a shape with its own ink
pub record Item : Type 0 where
  pub shape : Shape
  pub ink : ℕ

-- the shape of that number has another ink from one frame to another
pub record Turn : Type 0 where
  pub shape : ℕ
  pub from : ℕ
  pub to : ℕ
  pub ink : ℕ

-- all that a painting depends on: there is a shape or nothing, and a span or nothing, at the numbers 0 to 255
pub record Drawing : Type 0 where
  pub font : List ℕ
  pub shapes : ℕ → Option Item
  pub spans : ℕ → Option Turn
  pub frame : ℕ

-- what f gives at the largest number below k at which it gives something, else d
unfoldable pub topmost : (ℕ → Option ℕ) → ℕ → ℕ → ℕ
topmost f d zero = d
topmost f d (suc k) = unwrap_or (f k) (topmost f d k)

-- the span names shape n and holds the frame
abbrev pub holds : Turn → ℕ → ℕ → Bool
holds s n frame = s.shape == n && (nat_le s.from frame && nat_le frame s.to)

-- the ink that a span gives to shape n, if it gives one
abbrev pub span_ink : Option Turn → ℕ → ℕ → Option ℕ
span_ink None n frame = None
span_ink (Some s) n frame = cond (holds s n frame) (Some s.ink) None

-- the ruling ink of shape n: that of its largest-numbered span at the frame, else its own
abbrev pub ruling : Drawing → ℕ → ℕ → ℕ
ruling d n own = topmost (λ s. span_ink (d.spans s) n d.frame) own 256

-- the ink that shape n gives to the pixel (x, y), if it covers it
abbrev pub shape_ink : Drawing → ℕ → ℕ → Option Item → ℕ → Option ℕ
shape_ink d x y None n = None
shape_ink d x y (Some p) n = cond (covers d.font p.shape x y) (Some (ruling d n p.ink)) None

-- the fresh painting: the ruling ink of the largest-numbered shape that covers the pixel, else 0
abbrev pub painting : Drawing → ℕ → ℕ → ℕ
painting d x y = topmost (λ n. shape_ink d x y (d.shapes n) n) 0 256

-- span s names shape n and holds the drawing's frame
pub record Rules (d : Drawing) (n s : ℕ) (span : Turn) : Type 0 where
  pub number : s < 256
  pub given : d.spans s ≡ Some span
  pub holding : holds span n d.frame ≡ true

-- the ruling ink in words: of the ruling spans the largest-numbered decides, and the shape's own ink if there is none
pub record RulingInk (d : Drawing) (n own ink : ℕ) : Type 0 where
  pub top : (s : ℕ) (span : Turn) → Rules d n s span → ((m : ℕ) (other : Turn) → s < m → Rules d n m other → ⊥) → ink ≡ span.ink
  pub bare : ((s : ℕ) (span : Turn) → Rules d n s span → ⊥) → ink ≡ own

-- shape n covers the pixel
pub record Covered (d : Drawing) (x y n : ℕ) (item : Item) : Type 0 where
  pub number : n < 256
  pub given : d.shapes n ≡ Some item
  pub covering : covers d.font item.shape x y ≡ true

-- the fresh painting in words: of the covering shapes the largest-numbered decides, and 0 stands where there is none
pub record Fresh (d : Drawing) (x y ink : ℕ) : Type 0 where
  pub top : (n : ℕ) (item : Item) → Covered d x y n item → ((m : ℕ) (other : Item) → n < m → Covered d x y m other → ⊥) → RulingInk d n item.ink ink
  pub bare : ((n : ℕ) (item : Item) → Covered d x y n item → ⊥) → ink ≡ 0
