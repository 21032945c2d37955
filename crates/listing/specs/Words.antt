-- How a line is taken apart: its first word, then what follows it. Assumes nothing.
use Rattle.std.specs.Prelude.{◌≡◌, ℕ, List, ◌++◌, Some, None, codes, Option, ◌≢◌}
use Rattle.std.specs.Borrow.{Bor}
use Rattle.raster.specs.declared.shape.Shape.TheVariants as shape
use Rattle.listing.specs.declared.line.Line.{Line}
use Rattle.listing.specs.declared.line.Line.TheVariants as line
use Rattle.listing.specs.declared.word.Word.{Word}
use Rattle.listing.specs.declared.word.Word.TheVariants as words
use Rattle.listing.specs.Text.{figures, spaced, Small}

-- how each word is spelled
abbrev pub spelled : Word → List ℕ
spelled words.Sheet = codes "sheet"
spelled words.Box = codes "box"
spelled words.Line = codes "line"
spelled words.Figure = codes "figure"
spelled words.Span = codes "span"
spelled words.Frame = codes "frame"

-- the word of a line
abbrev pub word_of : Line → Word
word_of (line.Sheet w h) = words.Sheet
word_of (line.Shape n (shape.Box r) ink) = words.Box
word_of (line.Shape n (shape.Line e) ink) = words.Line
word_of (line.Shape n (shape.Figure c) ink) = words.Figure
word_of (line.Span s n from to ink) = words.Span
word_of (line.Frame f) = words.Frame

-- a word and the rest are read exactly if the bytes begin with a word
abbrev pub First : List ℕ → Option (Word × Bor (List ℕ)) → Type 0
First bytes (Some p) = bytes ≡ spelled p.0 ++ p.1.now
First bytes None = (w : Word) (rest : List ℕ) → bytes ≢ spelled w ++ rest

-- a line is read after its word exactly if the bytes there are the text of its figures
abbrev pub After : Word → List ℕ → Option Line → Type 0
After w bytes (Some l) = (word_of l ≡ w) × Small (figures l) × (bytes ≡ spaced (figures l))
After w bytes None = (l : Line) → word_of l ≡ w → Small (figures l) → bytes ≢ spaced (figures l)
