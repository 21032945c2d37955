-- What holds of the bookkeeping at all times. Assumes nothing.
use Rattle.std.specs.Prelude.{◌≡◌, ℕ, ◌<◌, ◌≤◌, true, is_some, Some, None}
use Rattle.raster.specs.Shapes.{drawable, on_sheet}
use Rattle.raster.specs.Sizes.{Side}
use Rattle.painting.specs.Drawing.{Drawing, Item, Turn}
use Rattle.book.specs.Book.{Book}

-- a shape with its ink that a sheet of that size takes
pub record Fits (width height : ℕ) (item : Item) : Type 0 where
  pub figures : drawable item.shape ≡ true
  pub ink : item.ink ≤ 15
  pub box : on_sheet width height item.shape ≡ true

-- a span that names a shape which is there
pub record RulesOne (d : Drawing) (turn : Turn) : Type 0 where
  pub shape : is_some (d.shapes turn.shape) ≡ true
  pub frames : turn.from ≤ turn.to
  pub ink : turn.ink ≤ 15

-- an open sheet has its sides; shapes and spans stand at numbers below 256, the shapes lie on the sheet, the spans name shapes that are
-- there, and the marked tiles have numbers below 256
pub record Sound (b : Book) : Type 0 where
  pub wide : b.opened ≡ true → Side b.wide
  pub high : b.opened ≡ true → Side b.high
  pub above : (n : ℕ) → 256 ≤ n → (b.drawing.shapes n ≡ None) × (b.drawing.spans n ≡ None)
  pub shapes : (n : ℕ) (item : Item) → b.drawing.shapes n ≡ Some item → Fits b.wide b.high item
  pub spans : (s : ℕ) (turn : Turn) → b.drawing.spans s ≡ Some turn → RulesOne b.drawing turn
  pub marks : (t : ℕ) → b.marks t ≡ true → t < 256
