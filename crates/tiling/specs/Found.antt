-- What a list of numbers, in any order and as often as it likes, makes of the shapes and spans at these numbers: the ruling
-- inks by the spans listed, and the inks of a tile by the shapes listed. Assumes nothing.
use Rattle.std.specs.Prelude.{◌≡◌, ℕ, ◌<◌, ◌≤◌, true, cond, List, Some, None, Option, slice_index}
use Rattle.std.specs.Option.{option_map}
use Rattle.raster.specs.Shapes.{covers}
use Rattle.painting.specs.declared.scene.Placed.{Placed}
use Rattle.painting.specs.declared.scene.Span.{Span}
use Rattle.painting.specs.Drawing.{Drawing, Item, Turn, topmost, span_ink, ruling}
use Rattle.painting.specs.Scenes.{item, turn, at_number}
use Rattle.book.specs.Tiles.{meets}
use Rattle.book.specs.Past.{listed}

-- what stands at n, if n is listed
abbrev pub if_listed : {A : Type 0} → List ℕ → (ℕ → Option A) → ℕ → Option A
if_listed found f n = cond (listed found n) (f n) None

-- the drawing has the shapes of a table
abbrev pub ShapesOf : List (Option Placed) → Drawing → Type 0
ShapesOf table d = (n : ℕ) → n < 256 → d.shapes n ≡ option_map item (at_number table n)

-- the drawing has the spans of a table
abbrev pub SpansOf : List (Option Span) → Drawing → Type 0
SpansOf table d = (s : ℕ) → s < 256 → d.spans s ≡ option_map turn (at_number table s)

-- the ink that a shape gets from its own; 0 where there is no shape
abbrev pub shape_or_none : Option Item → (ℕ → ℕ) → ℕ
shape_or_none None f = 0
shape_or_none (Some p) f = f p.ink

-- the ruling ink of the shape at n, 0 where there is none
abbrev pub ruling_at : Drawing → ℕ → ℕ
ruling_at d n = shape_or_none (d.shapes n) (ruling d n)

-- the same from tables, by the spans below k that are listed
abbrev pub ruled_below : List (Option Placed) → List (Option Span) → ℕ → List ℕ → ℕ → ℕ → ℕ
ruled_below shapes spans frame found k n = shape_or_none (option_map item (at_number shapes n)) (λ own. topmost (if_listed found (λ s. span_ink (option_map turn (at_number spans s)) n frame)) own k)

abbrev pub ruled : List (Option Placed) → List (Option Span) → ℕ → List ℕ → ℕ → ℕ
ruled shapes spans frame found n = ruled_below shapes spans frame found 256 n

-- each span that holds the drawing's frame is listed
abbrev pub SpansListed : Drawing → List ℕ → Type 0
SpansListed d found = (s : ℕ) (span : Turn) → s < 256 → d.spans s ≡ Some span → span.from ≤ d.frame → d.frame ≤ span.to → listed found s ≡ true

-- inks has the ruling ink of each shape at its number
abbrev pub RulingInks : Drawing → List ℕ → Type 0
RulingInks d inks = (n : ℕ) → n < 256 → slice_index inks n ≡ ruling_at d n

-- the ink that a shape gives to the pixel (x, y), if there is one and it covers it
abbrev pub cover_ink : List ℕ → Option Item → ℕ → ℕ → ℕ → Option ℕ
cover_ink font None ink x y = None
cover_ink font (Some p) ink x y = cond (covers font p.shape x y) (Some ink) None

-- the ink of the pixel (x, y) by the shapes below k that are listed, each in the ink at its number: the largest-numbered
-- that covers it decides, and 0 stands where none does
abbrev pub laid_below : List ℕ → List (Option Placed) → List ℕ → List ℕ → ℕ → ℕ → ℕ → ℕ
laid_below font shapes inks found k x y = topmost (if_listed found (λ n. cover_ink font (option_map item (at_number shapes n)) (slice_index inks n) x y)) 0 k

abbrev pub laid : List ℕ → List (Option Placed) → List ℕ → List ℕ → ℕ → ℕ → ℕ
laid font shapes inks found x y = laid_below font shapes inks found 256 x y

-- each shape whose bounding box meets tile t of a sheet with those sides is listed
abbrev pub ShapesListed : Drawing → ℕ → ℕ → ℕ → List ℕ → Type 0
ShapesListed d width height t found = (n : ℕ) (p : Item) → n < 256 → d.shapes n ≡ Some p → meets width height t p.shape ≡ true → listed found n ≡ true
