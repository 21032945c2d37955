-- The rules that a sheet keeps in every past. Assumes nothing.
use Rattle.std.specs.Prelude.{◌≡◌, ℕ, ◌<◌, true, false, ◌⊎◌, List, ◌∷◌, Some, None}
use Rattle.raster.specs.Sizes.{tile_of}
use Rattle.surface.specs.Picture.{Picture}
use Rattle.painting.specs.Drawing.{Item, Fresh}
use Rattle.book.specs.Tiles.{Meets}
use Rattle.book.specs.Looks.{Changed}
use Rattle.book.specs.Book.{Book, refreshing}
use Rattle.book.specs.Past.{Event, Past, Step, Latest, listed}

-- tile t meets the bounding box of the shape of number n
pub record Reaches (b : Book) (n t : ℕ) : Type 0 where
  pub item : Item
  pub given : b.drawing.shapes n ≡ Some item
  pub meeting : Meets b.wide b.high t item.shape

-- a call changed a shape, and tile t meets its bounding box before or after the call
pub record Cause (t : ℕ) (e : Event) : Type 0 where
  pub number : ℕ
  pub limit : number < 256
  pub changed : Changed e.before.drawing e.left.drawing number
  pub reached : Reaches e.before number t ⊎ Reaches e.left number t

-- one of the calls did
pub data Disturbed (t : ℕ) : List Event → Type 0 where
  by : {e : Event} {log : List Event} → Cause t e → Disturbed t (e ∷ log)
  earlier : {e : Event} {log : List Event} → Disturbed t log → Disturbed t (e ∷ log)

-- an accepted refresh after the past of the log, which left the book b and the picture p and reported the tiles ts.
-- Every pixel shows the ink of the fresh painting of the current shapes, spans and frame. Outside the reported tiles each shows what it
-- showed after the last accepted refresh or open before, and each reported tile meets the bounding box, before or after some call since
-- then, of a shape that this call changed
pub record KeepsTheRules (log : List Event) (b : Book) (ts : List ℕ) (p : Picture) : Type 0 where
  pub fresh : (x y : ℕ) → x < b.wide → y < b.high → Fresh b.drawing x y (p.shown x y)
  pub last : Event
  pub since : List Event
  pub latest : Latest log last since
  pub kept : (x y : ℕ) → x < b.wide → y < b.high → listed ts (tile_of b.wide x y) ≡ false → p.shown x y ≡ last.seen.shown x y
  pub caused : (t : ℕ) → listed ts t ≡ true → Disturbed t since

-- every accepted refresh keeps them, whatever the past
abbrev pub EachRefreshKeepsTheRules : Type 0
EachRefreshKeepsTheRules =
    (log : List Event) (b b' : Book) (p q : Picture) (wide high room : ℕ) (ts : List ℕ)
    → Past log b p → Step b p (refreshing wide high room) None b' q ts → KeepsTheRules log b' ts q
