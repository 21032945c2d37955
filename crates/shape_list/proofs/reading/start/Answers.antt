use Rattle.std.proofs.Common.{◌≡◌, ℕ, List, None, Option, subst, rules}
use Rattle.listing.specs.declared.line.Line.{Line}
use Rattle.listing.specs.declared.line.Line.TheVariants.{Sheet}
use Rattle.listing.specs.Text.{Parsed}
use Rattle.shape_list.specs.Reading.{Says}
use Rattle.shape_list.proofs.reading.start.Goals as goal

-- no line, so no sheet line
none : (bytes : List ℕ) (line : Option Line) → Parsed bytes line → line ≡ None → (w h : ℕ) → Says bytes (Sheet w h) → ⊥
none bytes line p e w h s = let q = subst (Parsed bytes) e p in q (Sheet w h) s.0 s.1

pub returns-in_err-width : goal.returns-in_err-width
returns-in_err-width c = let gone = none _ _ c.parse.ensures c.in_err-width.ensures.ok_part in search rules
