-- Looks that are the same, and what the look of a shape gives to a pixel. Assumes nothing.
use Rattle.std.proofs.Common.{◌≡◌, ℕ, true, cond, eqb, List, Some, None, Option, sym, refl, ap, ◌∙◌}
use Rattle.std.proofs.lemmas.Bool.{and_parts, and_from, eqb-true, eq-eqb, false≢true}
use Rattle.std.specs.Option.{option_map}
use Rattle.raster.specs.declared.shape.Shape.{Shape}
use Rattle.raster.specs.declared.shape.Shape.TheVariants.{Box, Line, Figure}
use Rattle.raster.specs.Shapes.{covers}
use Rattle.painting.specs.Drawing.{Drawing, Item, shape_ink}
use Rattle.book.specs.Looks.{Look, look, look_of, same_shape, same_look}

-- the test of shapes finds equal shapes, and only these
pub same_shape_equal : (a b : Shape) → same_shape a b ≡ true → a ≡ b
same_shape_equal (Box a) (Box b) e =
    let p = and_parts _ _ e in
    let q = and_parts _ _ p.0 in
    let r = and_parts _ _ p.1 in
    let px = eqb-true a.x b.x q.0 in
    let py = eqb-true a.y b.y q.1 in
    let pw = eqb-true a.w b.w r.0 in
    let ph = eqb-true a.h b.h r.1 in
    λ i. Box (record { x = px i; y = py i; w = pw i; h = ph i })
same_shape_equal (Box a) (Line b) e = absurd (false≢true e)
same_shape_equal (Box a) (Figure b) e = absurd (false≢true e)
same_shape_equal (Line a) (Box b) e = absurd (false≢true e)
same_shape_equal (Line a) (Line b) e =
    let p = and_parts _ _ e in
    let q = and_parts _ _ p.0 in
    let r = and_parts _ _ p.1 in
    let px = eqb-true a.x0 b.x0 q.0 in
    let py = eqb-true a.y0 b.y0 q.1 in
    let pw = eqb-true a.x1 b.x1 r.0 in
    let ph = eqb-true a.y1 b.y1 r.1 in
    λ i. Line (record { x0 = px i; y0 = py i; x1 = pw i; y1 = ph i })
same_shape_equal (Line a) (Figure b) e = absurd (false≢true e)
same_shape_equal (Figure a) (Box b) e = absurd (false≢true e)
same_shape_equal (Figure a) (Line b) e = absurd (false≢true e)
same_shape_equal (Figure a) (Figure b) e =
    let p = and_parts _ _ e in
    let q = and_parts _ _ p.0 in
    let px = eqb-true a.x b.x q.0 in
    let py = eqb-true a.y b.y q.1 in
    let pg = eqb-true a.glyph b.glyph p.1 in
    λ i. Figure (record { x = px i; y = py i; glyph = pg i })

pub itself : (n : ℕ) → eqb n n ≡ true
itself n = eq-eqb n n refl

same_shape_self : (a : Shape) → same_shape a a ≡ true
same_shape_self (Box a) = and_from _ _ (and_from _ _ (itself a.x) (itself a.y)) (and_from _ _ (itself a.w) (itself a.h))
same_shape_self (Line a) = and_from _ _ (and_from _ _ (itself a.x0) (itself a.y0)) (and_from _ _ (itself a.x1) (itself a.y1))
same_shape_self (Figure a) = and_from _ _ (and_from _ _ (itself a.x) (itself a.y)) (itself a.glyph)

pub equal_same_shape : (a b : Shape) → a ≡ b → same_shape a b ≡ true
equal_same_shape a b e = ap (same_shape a) (sym e) ∙ same_shape_self a

-- so does the test of looks
pub same_look_equal : (a b : Option Look) → same_look a b ≡ true → a ≡ b
same_look_equal None None e = refl
same_look_equal None (Some b) e = absurd (false≢true e)
same_look_equal (Some a) None e = absurd (false≢true e)
same_look_equal (Some a) (Some b) e =
    let p = and_parts _ _ e in
    let q = and_parts _ _ p.1 in
    let s = same_shape_equal a.shape b.shape p.0 in
    let o = eqb-true a.own b.own q.0 in
    let r = eqb-true a.ruled b.ruled q.1 in
    λ i. Some (record { shape = s i; own = o i; ruled = r i })

same_look_self : (a : Option Look) → same_look a a ≡ true
same_look_self None = refl
same_look_self (Some a) = and_from _ _ (same_shape_self a.shape) (and_from _ _ (itself a.own) (itself a.ruled))

pub equal_same_look : (a b : Option Look) → a ≡ b → same_look a b ≡ true
equal_same_look a b e = ap (same_look a) (sym e) ∙ same_look_self a

-- what a look gives to the pixel (x, y)
abbrev pub look_ink : List ℕ → Option Look → ℕ → ℕ → Option ℕ
look_ink font None x y = None
look_ink font (Some l) x y = cond (covers font l.shape x y) (Some l.ruled) None

-- it is all that the painting takes from the number
pub shape_ink_look : (d : Drawing) (x y n : ℕ) → shape_ink d x y (d.shapes n) n ≡ look_ink d.font (look d n) x y
shape_ink_look d x y n = go (d.shapes n)
  where
    go : (o : Option Item) → shape_ink d x y o n ≡ look_ink d.font (option_map (look_of d n) o) x y
    go None = refl
    go (Some item) = refl
