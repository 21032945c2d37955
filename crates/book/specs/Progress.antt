-- A refresh under way, tile by tile. Assumes nothing.
use Rattle.std.specs.Prelude.{◌≡◌, ℕ, ◌<◌, true, false, List, ◌≢◌}
use Rattle.raster.specs.Sizes.{tile_of}
use Rattle.surface.specs.Picture.{Picture, On, SameSides}
use Rattle.painting.specs.Drawing.{painting}
use Rattle.book.specs.Book.{Book}
use Rattle.book.specs.Past.{listed, Climbs}

-- tile t was given the fresh painting, and all other taken inks kept
pub record TileGiven (b : Book) (t : ℕ) (p q : Picture) : Type 0 where
  pub sides : SameSides p q
  pub on : (x y : ℕ) → On p x y → tile_of b.wide x y ≡ t → q.taken x y ≡ painting b.drawing x y
  pub off : (x y : ℕ) → On p x y → (tile_of b.wide x y ≢ t) → q.taken x y ≡ p.taken x y

-- the tiles below k are done: those of ts were given the fresh painting, and in the other marked ones it alters nothing
pub record DoneBelow (b : Book) (p : Picture) (k : ℕ) (ts : List ℕ) (q : Picture) : Type 0 where
  pub sides : SameSides p q
  pub rising : Climbs ts
  pub below : (t : ℕ) → listed ts t ≡ true → t < k
  pub marked : (t : ℕ) → listed ts t ≡ true → b.marks t ≡ true
  pub complete : (x y : ℕ) → On p x y → tile_of b.wide x y < k → b.marks (tile_of b.wide x y) ≡ true → listed ts (tile_of b.wide x y) ≡ false → painting b.drawing x y ≡ p.taken x y
  pub given : (x y : ℕ) → On p x y → listed ts (tile_of b.wide x y) ≡ true → q.taken x y ≡ painting b.drawing x y
  pub kept : (x y : ℕ) → On p x y → listed ts (tile_of b.wide x y) ≡ false → q.taken x y ≡ p.taken x y
