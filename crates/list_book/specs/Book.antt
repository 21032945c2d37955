-- The bookkeeping of a list of shapes: what each call answers, and what it leaves. Assumes nothing.
use Rattle.std.specs.Prelude.{ℕ, Bool, true, false, cond, not, ◌&&◌, is_some, Some, None, Option, ◌==◌, nat_le, nat_lt}
use Rattle.raster.specs.declared.shape.Shape.{Shape}
use Rattle.raster.specs.Shapes.{drawable, on_sheet}
use Rattle.painting.specs.Drawing.{Item, Turn}

-- the sides, and at the numbers 0 to 255 a shape with its ink or nothing, and a span or nothing
pub record Book : Type 0 where
  pub wide : ℕ
  pub high : ℕ
  pub shapes : ℕ → Option Item
  pub spans : ℕ → Option Turn
  pub frame : ℕ

-- nothing at every number
abbrev pub blank : ℕ → ℕ → Book
blank w h = record { wide = w; high = h; shapes = λ n. None; spans = λ s. None; frame = 0 }

-- a call is refused by the number of the first test that fails
abbrev pub unless : Bool → ℕ → Option ℕ → Option ℕ
unless true number rest = rest
unless false number rest = Some number

-- f, but a at n
abbrev pub put : {A : Type 0} → (ℕ → A) → ℕ → A → ℕ → A
put f n a k = cond (k == n) a (f k)

-- what a call leaves: after a refusal, what was there
abbrev pub left_by : Option ℕ → Book → Book → Book
left_by None old new = new
left_by (Some number) old new = old

-- placing: 6 for a number above 255, 9 for bad figures or ink, 10 for a shape that leaves the sheet
abbrev pub place_refusal : Book → ℕ → Shape → ℕ → Option ℕ
place_refusal b n s ink = unless (nat_lt n 256) 6 (unless (drawable s && nat_le ink 15) 9 (unless (on_sheet b.wide b.high s) 10 None))

-- the shape and its ink stand at n, in the place of what was there
abbrev pub placing : Book → ℕ → Shape → ℕ → Book
placing b n s ink = record { wide = b.wide; high = b.high; shapes = put b.shapes n (Some (record { shape = s; ink = ink })); spans = b.spans; frame = b.frame }

-- a span: 6 for either number above 255, 7 for a used number, 8 for a shape that is not there, 12 for frames in the
-- wrong order, 9 for the ink
abbrev pub span_refusal : Book → ℕ → ℕ → ℕ → ℕ → ℕ → Option ℕ
span_refusal b s n from to ink =
    unless (nat_lt s 256 && nat_lt n 256) 6 (unless (not (is_some (b.spans s))) 7 (unless (is_some (b.shapes n)) 8 (unless (nat_le from to) 12 (unless (nat_le ink 15) 9 None))))

abbrev pub spanning : Book → ℕ → ℕ → ℕ → ℕ → ℕ → Book
spanning b s n from to ink = record { wide = b.wide; high = b.high; shapes = b.shapes; spans = put b.spans s (Some (record { shape = n; from = from; to = to; ink = ink })); frame = b.frame }

abbrev pub turning : Book → ℕ → Book
turning b f = record { wide = b.wide; high = b.high; shapes = b.shapes; spans = b.spans; frame = f }
