-- What a call can change of a shape, and the tiles that this touches. Assumes nothing.
use Rattle.std.specs.Prelude.{◌≡◌, ℕ, Bool, true, false, not, ◌&&◌, ◌||◌, Some, None, Option, ◌==◌}
use Rattle.std.specs.Option.{option_map}
use Rattle.raster.specs.declared.shape.Shape.{Shape}
use Rattle.raster.specs.declared.shape.Shape.TheVariants.{Box, Line, Figure}
use Rattle.painting.specs.Drawing.{Drawing, Item, ruling}
use Rattle.book.specs.Tests.{some_below}
use Rattle.book.specs.Tiles.{meets}

-- a shape with its own ink and its ruling ink
pub record Look : Type 0 where
  pub shape : Shape
  pub own : ℕ
  pub ruled : ℕ

-- how what stands at number n looks
abbrev pub look_of : Drawing → ℕ → Item → Look
look_of d n item = record { shape = item.shape; own = item.ink; ruled = ruling d n item.ink }

abbrev pub look : Drawing → ℕ → Option Look
look d n = option_map (look_of d n) (d.shapes n)

-- from one drawing to the other the shape of number n changes: its shape, its own ink or its ruling ink differs
abbrev pub Changed : Drawing → Drawing → ℕ → Type 0
Changed d e n = look d n ≡ look e n → ⊥

-- the test for it
abbrev pub same_shape : Shape → Shape → Bool
same_shape (Box a) (Box b) = (a.x == b.x && a.y == b.y) && (a.w == b.w && a.h == b.h)
same_shape (Box a) (Line b) = false
same_shape (Box a) (Figure b) = false
same_shape (Line a) (Box b) = false
same_shape (Line a) (Line b) = (a.x0 == b.x0 && a.y0 == b.y0) && (a.x1 == b.x1 && a.y1 == b.y1)
same_shape (Line a) (Figure b) = false
same_shape (Figure a) (Box b) = false
same_shape (Figure a) (Line b) = false
same_shape (Figure a) (Figure b) = (a.x == b.x && a.y == b.y) && a.glyph == b.glyph

abbrev pub same_look : Option Look → Option Look → Bool
same_look None None = true
same_look None (Some b) = false
same_look (Some a) None = false
same_look (Some a) (Some b) = same_shape a.shape b.shape && (a.own == b.own && a.ruled == b.ruled)

abbrev pub changes : Drawing → Drawing → ℕ → Bool
changes d e n = not (same_look (look d n) (look e n))

-- tile t meets the bounding box of what stands at a number, if something does
abbrev pub meets_item : ℕ → ℕ → ℕ → Option Item → Bool
meets_item width height t None = false
meets_item width height t (Some item) = meets width height t item.shape

-- tile t meets the bounding box, before or after, of the shape of number n, and that shape changes
abbrev pub touched_by : ℕ → ℕ → Drawing → Drawing → ℕ → ℕ → Bool
touched_by width height d e t n = changes d e n && (meets_item width height t (d.shapes n) || meets_item width height t (e.shapes n))

-- so it does with the shape of some number
abbrev pub touched : ℕ → ℕ → Drawing → Drawing → ℕ → Bool
touched width height d e t = some_below (touched_by width height d e t) 256

-- the ruling ink of what stands at n differs from one drawing to the other
abbrev pub reinked : Drawing → Drawing → ℕ → Option Item → Bool
reinked d e n None = false
reinked d e n (Some item) = not (ruling d n item.ink == ruling e n item.ink)

-- what number n touches, where the shapes stay
abbrev pub reinked_touches : ℕ → ℕ → ℕ → Drawing → Drawing → ℕ → Bool
reinked_touches width height t d e n = reinked d e n (d.shapes n) && meets_item width height t (d.shapes n)
