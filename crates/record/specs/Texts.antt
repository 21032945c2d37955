-- The text of a record. Assumes nothing.
use Rattle.std.specs.Prelude.{ℕ, List, ◌++◌, codes, decimal}
use Rattle.raster.specs.declared.shape.Shape.{Shape}
use Rattle.raster.specs.declared.shape.Shape.TheVariants as shape
use Rattle.raster.specs.Refusals.{number}
use Rattle.listing.specs.declared.line.Line.{Line}
use Rattle.listing.specs.declared.line.Line.TheVariants as line
use Rattle.shape_list.specs.declared.fault.Fault.{Fault}
use Rattle.shape_list.specs.declared.fault.Fault.TheVariants as fault

-- a record's word for the kind of a shape
abbrev pub kind_word : Shape → List ℕ
kind_word (shape.Box b) = codes "box"
kind_word (shape.Line l) = codes "line"
kind_word (shape.Figure f) = codes "figure"

-- the word between two spaces
abbrev pub kind_text : Shape → List ℕ
kind_text s = codes " " ++ (kind_word s ++ codes " ")

-- the record of line k: shape n, with its ink, covers p pixels
abbrev pub shape_text : ℕ → ℕ → Shape → ℕ → ℕ → List ℕ
shape_text k n s ink p = decimal k ++ (kind_text s ++ (decimal n ++ (codes ": " ++ (decimal p ++ (codes " pixels, ink " ++ decimal ink)))))

-- the record of line k, whose shape covers p pixels
abbrev pub line_text : ℕ → Line → ℕ → List ℕ
line_text k (line.Sheet w h) p = decimal k ++ (codes " sheet " ++ (decimal w ++ (codes " x " ++ decimal h)))
line_text k (line.Shape n s ink) p = shape_text k n s ink p
line_text k (line.Span s n from to ink) p = decimal k ++ (codes " span " ++ (decimal s ++ (codes ": shape " ++ (decimal n ++ (codes ", frames " ++ (decimal from ++ (codes " to " ++ (decimal to ++ (codes ", ink " ++ decimal ink)))))))))
line_text k (line.Frame f) p = decimal k ++ (codes " frame " ++ decimal f)

-- what is said of a line that was not taken
abbrev pub fault_text : ℕ → Fault → List ℕ
fault_text k fault.Form = codes "line " ++ (decimal k ++ codes ": not a line of a sheet")
fault_text k (fault.Refused e) = codes "line " ++ (decimal k ++ (codes ": refused " ++ decimal (number e)))
