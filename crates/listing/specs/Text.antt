-- The text of a line: a word, and figures with a space before each. Assumes nothing.
use Rattle.std.specs.Prelude.{◌≡◌, ℕ, ◌≤◌, List, [], ◌∷◌, ◌++◌, Some, None, codes, decimal, Option, ◌≢◌}
use Rattle.std.specs.List.{AllByRecursion}
use Rattle.raster.specs.declared.shape.Shape.TheVariants as shape
use Rattle.listing.specs.declared.line.Line.{Line}
use Rattle.listing.specs.declared.line.Line.TheVariants as line

-- the word that a line begins with
abbrev pub word : Line → List ℕ
word (line.Sheet w h) = codes "sheet"
word (line.Shape n (shape.Box r) ink) = codes "box"
word (line.Shape n (shape.Line e) ink) = codes "line"
word (line.Shape n (shape.Figure c) ink) = codes "figure"
word (line.Span s n from to ink) = codes "span"
word (line.Frame f) = codes "frame"

-- its figures, in order
abbrev pub figures : Line → List ℕ
figures (line.Sheet w h) = w ∷ h ∷ []
figures (line.Shape n (shape.Box r) ink) = n ∷ r.x ∷ r.y ∷ r.w ∷ r.h ∷ ink ∷ []
figures (line.Shape n (shape.Line e) ink) = n ∷ e.x0 ∷ e.y0 ∷ e.x1 ∷ e.y1 ∷ ink ∷ []
figures (line.Shape n (shape.Figure c) ink) = n ∷ c.x ∷ c.y ∷ c.glyph ∷ ink ∷ []
figures (line.Span s n from to ink) = s ∷ n ∷ from ∷ to ∷ ink ∷ []
figures (line.Frame f) = f ∷ []

-- before each figure stands a space, code 32; decimal n has no leading zero
abbrev pub spaced : List ℕ → List ℕ
spaced [] = []
spaced (n ∷ ns) = 32 ∷ (decimal n ++ spaced ns)

-- the whole line
abbrev pub text : Line → List ℕ
text l = word l ++ spaced (figures l)

-- a figure is at most 65,535
abbrev pub Small : List ℕ → Type 0
Small ns = AllByRecursion (λ n. n ≤ 65535) ns

-- bytes are read as the line of which they are the text, and refused if there is none
abbrev pub Parsed : List ℕ → Option Line → Type 0
Parsed bytes (Some l) = Small (figures l) × (bytes ≡ text l)
Parsed bytes None = (l : Line) → Small (figures l) → bytes ≢ text l
