-- What a call does to the bookkeeping and to its surface's picture, and whole pasts of a sheet. Assumes nothing.
use Rattle.std.specs.Prelude.{◌≡◌, ℕ, ◌<◌, Bool, true, false, ◌||◌, List, [], ◌∷◌, length, Some, None, Option, ◌==◌, slice_index}
use Rattle.raster.specs.Sizes.{tile_of}
use Rattle.surface.specs.Picture.{Picture, On, SameSides}
use Rattle.painting.specs.Drawing.{painting}
use Rattle.book.specs.Book.{Book, Call, opening, adding, changing, removing, spanning, unspanning, turning, refreshing, blank, refusal, next}

-- t is one of the tiles
abbrev pub listed : List ℕ → ℕ → Bool
listed [] t = false
listed (k ∷ ts) t = k == t || listed ts t

-- each number is above those before it
abbrev pub Climbs : List ℕ → Type 0
Climbs ts = (i j : ℕ) → i < j → j < length ts → slice_index ts i < slice_index ts j

-- all of the surface was painted with ink 0, and settled
pub record Cleared (p q : Picture) : Type 0 where
  pub sides : SameSides p q
  pub taken : (x y : ℕ) → On p x y → q.taken x y ≡ 0
  pub shown : (x y : ℕ) → On p x y → q.shown x y ≡ 0
  pub calm : (x y : ℕ) → On p x y → q.waits x y ≡ false

-- the reported tiles were given the fresh painting, all other taken inks kept, and the surface settled. Marked tiles are reported only,
-- by rising number, and each of them in which the fresh painting alters a taken ink
pub record Repainted (b : Book) (p : Picture) (ts : List ℕ) (q : Picture) : Type 0 where
  pub sides : SameSides p q
  pub rising : Climbs ts
  pub marked : (t : ℕ) → listed ts t ≡ true → b.marks t ≡ true
  pub complete : (x y : ℕ) → On p x y → b.marks (tile_of b.wide x y) ≡ true → listed ts (tile_of b.wide x y) ≡ false → painting b.drawing x y ≡ p.taken x y
  pub given : (x y : ℕ) → On p x y → listed ts (tile_of b.wide x y) ≡ true → q.taken x y ≡ painting b.drawing x y
  pub kept : (x y : ℕ) → On p x y → listed ts (tile_of b.wide x y) ≡ false → q.taken x y ≡ p.taken x y
  pub shown : (x y : ℕ) → On p x y → q.shown x y ≡ q.taken x y
  pub calm : (x y : ℕ) → On p x y → q.waits x y ≡ false

-- nothing was done to the surface, and nothing reported
pub record Untouched (p : Picture) (ts : List ℕ) (q : Picture) : Type 0 where
  pub picture : q ≡ p
  pub report : ts ≡ []

-- what a call with that refusal, or none, does to the picture, and what it reports
abbrev pub Effect : Book → Picture → Call → Option ℕ → List ℕ → Picture → Type 0
Effect b p c (Some number) ts q = Untouched p ts q
Effect b p (opening width height rooms wide high) None ts q = Cleared p q × (ts ≡ [])
Effect b p (adding n s ink) None ts q = Untouched p ts q
Effect b p (changing n s ink) None ts q = Untouched p ts q
Effect b p (removing n) None ts q = Untouched p ts q
Effect b p (spanning s n from to ink) None ts q = Untouched p ts q
Effect b p (unspanning s) None ts q = Untouched p ts q
Effect b p (turning frame) None ts q = Untouched p ts q
Effect b p (refreshing wide high room) None ts q = Repainted b p ts q

-- an open and a refresh see the sides of their surface
abbrev pub Sees : Picture → Call → Type 0
Sees p (opening width height rooms wide high) = (wide ≡ p.wide) × (high ≡ p.high)
Sees p (adding n s ink) = Unit {0}
Sees p (changing n s ink) = Unit {0}
Sees p (removing n) = Unit {0}
Sees p (spanning s n from to ink) = Unit {0}
Sees p (unspanning s) = Unit {0}
Sees p (turning frame) = Unit {0}
Sees p (refreshing wide high room) = (wide ≡ p.wide) × (high ≡ p.high)

-- the call c, made at the book b with a surface of the picture p, is refused with a number or accepted, and leaves the book b' and the
-- picture q, and reports the tiles ts
pub record Step (b : Book) (p : Picture) (c : Call) (said : Option ℕ) (b' : Book) (q : Picture) (ts : List ℕ) : Type 0 where
  pub sees : Sees p c
  pub answers : said ≡ refusal b c
  pub leaves : b' ≡ next b c
  pub paints : Effect b p c said ts q

-- a quiet while: once the sheet is open, nobody but its calls gives its surface inks. Before that anything may happen to it
pub record Quiet (b : Book) (p q : Picture) : Type 0 where
  pub sides : b.opened ≡ true → SameSides p q
  pub taken : b.opened ≡ true → (x y : ℕ) → On p x y → q.taken x y ≡ p.taken x y

-- a call, with the book before and after it, and what was seen on the surface after it
pub record Event : Type 0 where
  pub before : Book
  pub call : Call
  pub said : Option ℕ
  pub left : Book
  pub report : List ℕ
  pub seen : Picture

-- the sheet was made blank, and then the calls of the log were made, the latest first, with one surface; now its book is b, and the
-- surface's picture is p
pub data Past : List Event → Book → Picture → Type 0 where
  made : {p : Picture} → Past [] blank p
  meanwhile : {log : List Event} {b : Book} {p q : Picture} → Past log b p → Quiet b p q → Past log b q
  called : {log : List Event} {b b' : Book} {p q : Picture} {c : Call} {said : Option ℕ} {ts : List ℕ} → Past log b p → Step b p c said b' q ts
      → Past (record { before = b; call = c; said = said; left = b'; report = ts; seen = q } ∷ log) b' q

-- an accepted open or refresh
abbrev pub repaints : Call → Option ℕ → Bool
repaints c (Some number) = false
repaints (opening width height rooms wide high) None = true
repaints (adding n s ink) None = false
repaints (changing n s ink) None = false
repaints (removing n) None = false
repaints (spanning s n from to ink) None = false
repaints (unspanning s) None = false
repaints (turning frame) None = false
repaints (refreshing wide high room) None = true

-- e is the last accepted open or refresh of the log, and since are the calls after it
pub data Latest : List Event → Event → List Event → Type 0 where
  here : {e : Event} {log : List Event} → repaints e.call e.said ≡ true → Latest (e ∷ log) e []
  later : {d e : Event} {log since : List Event} → repaints d.call d.said ≡ false → Latest log e since → Latest (d ∷ log) e (d ∷ since)
