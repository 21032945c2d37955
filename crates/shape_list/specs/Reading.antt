-- What a line of text does to a list of shapes. Assumes nothing.
use Rattle.std.specs.Prelude.{◌≡◌, ℕ, List, Some, None, Ok, Err, Option, Result}
use Rattle.raster.specs.Refusals.{number}
use Rattle.raster.specs.Sizes.{Side}
use Rattle.listing.specs.declared.line.Line.{Line}
use Rattle.listing.specs.declared.line.Line.TheVariants as line
use Rattle.listing.specs.Text.{text, figures, Small}
use Rattle.shape_list.specs.declared.fault.Fault.{Fault}
use Rattle.shape_list.specs.declared.fault.Fault.TheVariants.{Form, Refused}
use Rattle.list_book.specs.declared.list.ShapeList.{ShapeList}
use Rattle.list_book.specs.Book.{Book, blank, place_refusal, placing, span_refusal, spanning, turning}
use Rattle.list_book.specs.Views.{book}

-- the bytes are the text of the line
abbrev pub Says : List ℕ → Line → Type 0
Says bytes l = Small (figures l) × (bytes ≡ text l)

-- the number that refuses a line after the first, if one does
abbrev pub line_refusal : Book → Line → Option ℕ
line_refusal b (line.Sheet w h) = None
line_refusal b (line.Shape n s ink) = place_refusal b n s ink
line_refusal b (line.Span s n from to ink) = span_refusal b s n from to ink
line_refusal b (line.Frame f) = None

-- what the line leaves, if it is taken in
abbrev pub after_line : Book → Line → Book
after_line b (line.Sheet w h) = b
after_line b (line.Shape n s ink) = placing b n s ink
after_line b (line.Span s n from to ink) = spanning b s n from to ink
after_line b (line.Frame f) = turning b f

-- a sheet line stands first, and only there
abbrev pub Later : Line → Type 0
Later (line.Sheet w h) = ⊥
Later (line.Shape n s ink) = Unit {0}
Later (line.Span s n from to ink) = Unit {0}
Later (line.Frame f) = Unit {0}

-- a line in its place is taken in unless a number refuses it; what is refused leaves all as it was
abbrev pub Applied : Book → Line → Result Unit Fault → Book → Type 0
Applied b l (Ok u) b' = Later l × (line_refusal b l ≡ None) × (b' ≡ after_line b l)
Applied b l (Err Form) b' = (Later l → ⊥) × (b' ≡ b)
Applied b l (Err (Refused e)) b' = Later l × (line_refusal b l ≡ Some (number e)) × (b' ≡ b)

-- bytes that are the text of a line in its place are taken in as that line is
abbrev pub Taken : Book → List ℕ → Result Line Fault → Book → Type 0
Taken b bytes (Ok l) b' = Says bytes l × Later l × (line_refusal b l ≡ None) × (b' ≡ after_line b l)
Taken b bytes (Err Form) b' = ((l : Line) → Says bytes l → Later l → ⊥) × (b' ≡ b)
Taken b bytes (Err (Refused e)) b' = ((l : Line) × Says bytes l × Later l × (line_refusal b l ≡ Some (number e))) × (b' ≡ b)

-- the first line is a sheet line with sides of 1 to 256, and begins a blank list
abbrev pub Started : List ℕ → Result ShapeList Fault → Type 0
Started bytes (Ok l) = (w : ℕ) × (h : ℕ) × Says bytes (line.Sheet w h) × Side w × Side h × (book l ≡ blank w h)
Started bytes (Err Form) = (w h : ℕ) → Says bytes (line.Sheet w h) → ⊥
Started bytes (Err (Refused e)) = (w : ℕ) × (h : ℕ) × Says bytes (line.Sheet w h) × (Side w × Side h → ⊥) × (number e ≡ 3)
