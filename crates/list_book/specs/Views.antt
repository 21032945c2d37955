-- A list's bookkeeping, and what its calls return as refusals. Assumes nothing.
use Rattle.std.specs.Prelude.{◌≡◌, ℕ, List, Some, None, Ok, Err, Option, Result}
use Rattle.std.specs.Option.{option_map}
use Rattle.raster.specs.declared.refusal.Refusal.{Refusal}
use Rattle.raster.specs.Refusals.{number}
use Rattle.raster.specs.Sizes.{Side}
use Rattle.painting.specs.Drawing.{Drawing}
use Rattle.painting.specs.Scenes.{at_number, item, turn}
use Rattle.list_book.specs.declared.list.ShapeList.{ShapeList}
use Rattle.list_book.specs.Book.{Book, blank}

abbrev pub book : ShapeList → Book
book l = record {
  wide = l.size.width;
  high = l.size.height;
  shapes = λ n. option_map item (at_number l.shapes n);
  spans = λ s. option_map turn (at_number l.spans s);
  frame = l.frame;
}

-- what there is to paint, with a font
abbrev pub drawn : List ℕ → Book → Drawing
drawn font b = record { font = font; shapes = b.shapes; spans = b.spans; frame = b.frame }

-- the number of a refusal, if there was one
abbrev pub refused : Result Unit Refusal → Option ℕ
refused (Ok u) = None
refused (Err e) = Some (number e)

-- a list is made blank; 3 refuses a side outside 1 to 256
abbrev pub Made : ℕ → ℕ → Result ShapeList Refusal → Type 0
Made w h (Ok l) = (Side w × Side h) × (book l ≡ blank w h)
Made w h (Err e) = (Side w × Side h → ⊥) × (number e ≡ 3)
