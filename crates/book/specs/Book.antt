-- The bookkeeping of a sheet: what each call answers, and what it leaves. Assumes nothing.
use Rattle.std.specs.Prelude.{ℕ, Bool, true, false, not, ◌&&◌, ◌||◌, is_some, Some, None, Option, ◌==◌, nat_le, nat_lt}
use Rattle.raster.specs.declared.shape.Shape.{Shape}
use Rattle.raster.specs.Fonts.{built_in}
use Rattle.raster.specs.Shapes.{drawable, on_sheet}
use Rattle.painting.specs.Drawing.{Drawing, Item, Turn}
use Rattle.book.specs.Tests.{unless, left_by, put, some_below}
use Rattle.book.specs.Looks.{touched}

-- blank or open, the size, what there is to paint, and the tiles that are marked
pub record Book : Type 0 where
  pub opened : Bool
  pub wide : ℕ
  pub high : ℕ
  pub drawing : Drawing
  pub marks : ℕ → Bool

-- nothing at every number
abbrev pub bare : Drawing
bare = record { font = built_in; shapes = λ n. None; spans = λ s. None; frame = 0 }

-- a new sheet's
abbrev pub blank : Book
blank = record { opened = false; wide = 0; high = 0; drawing = bare; marks = λ t. false }

-- how many rows the tables have: those of the shapes and the spans, and the node rows of their trees
pub record Rooms : Type 0 where
  pub shapes : ℕ
  pub spans : ℕ
  pub shape_nodes : ℕ
  pub span_nodes : ℕ

-- the calls, with their figures. An open and a refresh also see the sides of their surface, an open how many rows there are, and a
-- refresh how many entries its report has
pub data Call : Type 0 where
  opening : (width height : ℕ) → Rooms → (wide high : ℕ) → Call
  adding : (n : ℕ) → Shape → (ink : ℕ) → Call
  changing : (n : ℕ) → Shape → (ink : ℕ) → Call
  removing : (n : ℕ) → Call
  spanning : (s n from to ink : ℕ) → Call
  unspanning : (s : ℕ) → Call
  turning : (frame : ℕ) → Call
  refreshing : (wide high room : ℕ) → Call

abbrev pub side : ℕ → Bool
side n = nat_le 1 n && nat_le n 256

-- each table has 256 rows
abbrev pub enough : Rooms → Bool
enough r = (nat_le 256 r.shapes && nat_le 256 r.spans) && (nat_le 256 r.shape_nodes && nat_le 256 r.span_nodes)

abbrev pub names : Option Turn → ℕ → Bool
names None n = false
names (Some t) n = t.shape == n

-- a span names shape n
abbrev pub named : Drawing → ℕ → Bool
named d n = some_below (λ s. names (d.spans s) n) 256

-- a shape with its ink: 9 for bad figures or ink, 10 where it leaves the sheet
abbrev pub shape_refusal : ℕ → ℕ → Shape → ℕ → Option ℕ
shape_refusal width height s ink = unless (drawable s && nat_le ink 15) 9 (unless (on_sheet width height s) 10 None)

-- a span: 6 for either number above 255, 7 for a used number, 8 for a shape that is not there, 12 for frames in the wrong order, 9
-- for the ink
abbrev pub span_refusal : (ℕ → Option Item) → (ℕ → Option Turn) → ℕ → ℕ → ℕ → ℕ → ℕ → Option ℕ
span_refusal shapes spans s n from to ink =
    unless (nat_lt s 256 && nat_lt n 256) 6 (unless (not (is_some (spans s))) 7 (unless (is_some (shapes n)) 8 (unless (nat_le from to) 12 (unless (nat_le ink 15) 9 None))))

-- the number that refuses a call, if one does
abbrev pub refusal : Book → Call → Option ℕ
refusal b (opening width height rooms wide high) =
    unless (not b.opened) 2 (unless (side width && side height) 3 (unless (enough rooms) 4 (unless (width == wide && height == high) 5 None)))
refusal b (adding n s ink) =
    unless b.opened 1 (unless (nat_lt n 256) 6 (unless (not (is_some (b.drawing.shapes n))) 7 (shape_refusal b.wide b.high s ink)))
refusal b (changing n s ink) =
    unless b.opened 1 (unless (nat_lt n 256) 6 (unless (is_some (b.drawing.shapes n)) 8 (shape_refusal b.wide b.high s ink)))
refusal b (removing n) =
    unless b.opened 1 (unless (nat_lt n 256) 6 (unless (is_some (b.drawing.shapes n)) 8 (unless (not (named b.drawing n)) 11 None)))
refusal b (spanning s n from to ink) =
    unless b.opened 1 (span_refusal b.drawing.shapes b.drawing.spans s n from to ink)
refusal b (unspanning s) =
    unless b.opened 1 (unless (nat_lt s 256) 6 (unless (is_some (b.drawing.spans s)) 8 None))
refusal b (turning frame) =
    unless b.opened 1 None
refusal b (refreshing wide high room) =
    unless b.opened 1 (unless (b.wide == wide && b.high == high) 5 (unless (nat_le 256 room) 13 None))

-- a drawing with something else, or nothing, at number n, with another span, or none, at number s, and at another frame
abbrev pub with_shape : Drawing → ℕ → Option Item → Drawing
with_shape d n o = record { font = d.font; shapes = put d.shapes n o; spans = d.spans; frame = d.frame }

abbrev pub with_span : Drawing → ℕ → Option Turn → Drawing
with_span d s o = record { font = d.font; shapes = d.shapes; spans = put d.spans s o; frame = d.frame }

abbrev pub with_frame : Drawing → ℕ → Drawing
with_frame d f = record { font = d.font; shapes = d.shapes; spans = d.spans; frame = f }

-- there is another drawing, and the tiles are marked that meet the bounding box, before or after, of a shape that this changes
abbrev pub redrawn : Book → Drawing → Book
redrawn b d = record { opened = b.opened; wide = b.wide; high = b.high; drawing = d; marks = λ t. b.marks t || touched b.wide b.high b.drawing d t }

-- what a call leaves, if it is accepted
abbrev pub after : Book → Call → Book
after b (opening width height rooms wide high) = record { opened = true; wide = width; high = height; drawing = bare; marks = λ t. false }
after b (adding n s ink) = redrawn b (with_shape b.drawing n (Some (record { shape = s; ink = ink })))
after b (changing n s ink) = redrawn b (with_shape b.drawing n (Some (record { shape = s; ink = ink })))
after b (removing n) = redrawn b (with_shape b.drawing n None)
after b (spanning s n from to ink) = redrawn b (with_span b.drawing s (Some (record { shape = n; from = from; to = to; ink = ink })))
after b (unspanning s) = redrawn b (with_span b.drawing s None)
after b (turning frame) = redrawn b (with_frame b.drawing frame)
after b (refreshing wide high room) = record { opened = b.opened; wide = b.wide; high = b.high; drawing = b.drawing; marks = λ t. false }

-- what a call leaves
abbrev pub next : Book → Call → Book
next b c = left_by (refusal b c) b (after b c)
