-- What an accepted call has passed, test by test. Assumes nothing.
use Rattle.std.proofs.Common.{◌≡◌, ℕ, ◌<◌, ◌≤◌, true, false, not, ◌&&◌, eqb, ltb, leb, is_some, Some, None, Option, sym, refl}
use Rattle.std.proofs.lemmas.Bool.{and_parts, leb-true, ltb-true, eqb-true, not-true, false≢true}
use Rattle.raster.specs.declared.shape.Shape.{Shape}
use Rattle.raster.specs.Shapes.{drawable, on_sheet}
use Rattle.raster.specs.Sizes.{Side}
use Rattle.painting.specs.Drawing.{Item, Turn}
use Rattle.book.specs.Book.{Book, Rooms, opening, adding, changing, removing, spanning, unspanning, turning, refreshing, side, enough, named, shape_refusal, refusal}
use Rattle.book.specs.Sound.{Fits}
use Rattle.book.proofs.Refusing.{unless_none}

pub used : {A : Type 0} (o : Option A) → is_some o ≡ true → (a : A) × (o ≡ Some a)
used None e = absurd (false≢true e)
used (Some a) e = (a, refl)

pub unused : {A : Type 0} (o : Option A) → is_some o ≡ false → o ≡ None
unused None e = refl
unused (Some a) e = absurd (false≢true (sym e))

pub side_tested : (n : ℕ) → side n ≡ true → Side n
side_tested n e = let p = and_parts (leb 1 n) (leb n 256) e in record { some = leb-true 1 n p.0; limit = leb-true n 256 p.1 }

pub fits_tested : (width height : ℕ) (s : Shape) (ink : ℕ) → shape_refusal width height s ink ≡ None → Fits width height (record { shape = s; ink = ink })
fits_tested width height s ink e =
    let a = unless_none (drawable s && leb ink 15) 9 _ e in
    let p = and_parts (drawable s) (leb ink 15) a.0 in
    record { figures = p.0; ink = leb-true ink 15 p.1; box = (unless_none (on_sheet width height s) 10 None a.1).0 }

pub record Opened (b : Book) (width height : ℕ) (rooms : Rooms) (wide high : ℕ) : Type 0 where
  pub blank : b.opened ≡ false
  pub column : Side width
  pub row : Side height
  pub rows : enough rooms ≡ true
  pub same_width : width ≡ wide
  pub same_height : height ≡ high

pub accepted_open : (b : Book) (width height : ℕ) (rooms : Rooms) (wide high : ℕ) → refusal b (opening width height rooms wide high) ≡ None → Opened b width height rooms wide high
accepted_open b width height rooms wide high e =
    let a = unless_none (not b.opened) 2 _ e in
    let c = unless_none (side width && side height) 3 _ a.1 in
    let d = unless_none (enough rooms) 4 _ c.1 in
    let f = unless_none (eqb width wide && eqb height high) 5 None d.1 in
    let p = and_parts (side width) (side height) c.0 in
    let q = and_parts (eqb width wide) (eqb height high) f.0 in
    record {
      blank = not-true b.opened a.0;
      column = side_tested width p.0;
      row = side_tested height p.1;
      rows = d.0;
      same_width = eqb-true width wide q.0;
      same_height = eqb-true height high q.1;
    }

pub record Added (b : Book) (n : ℕ) (s : Shape) (ink : ℕ) : Type 0 where
  pub opened : b.opened ≡ true
  pub number : n < 256
  pub free : b.drawing.shapes n ≡ None
  pub fits : Fits b.wide b.high (record { shape = s; ink = ink })

pub accepted_add : (b : Book) (n : ℕ) (s : Shape) (ink : ℕ) → refusal b (adding n s ink) ≡ None → Added b n s ink
accepted_add b n s ink e =
    let a = unless_none b.opened 1 _ e in
    let c = unless_none (ltb n 256) 6 _ a.1 in
    let d = unless_none (not (is_some (b.drawing.shapes n))) 7 _ c.1 in
    record { opened = a.0; number = ltb-true n 256 c.0; free = unused (b.drawing.shapes n) (not-true _ d.0); fits = fits_tested b.wide b.high s ink d.1 }

pub record Replaced (b : Book) (n : ℕ) (s : Shape) (ink : ℕ) : Type 0 where
  pub opened : b.opened ≡ true
  pub number : n < 256
  pub old : Item
  pub given : b.drawing.shapes n ≡ Some old
  pub fits : Fits b.wide b.high (record { shape = s; ink = ink })

pub accepted_change : (b : Book) (n : ℕ) (s : Shape) (ink : ℕ) → refusal b (changing n s ink) ≡ None → Replaced b n s ink
accepted_change b n s ink e =
    let a = unless_none b.opened 1 _ e in
    let c = unless_none (ltb n 256) 6 _ a.1 in
    let d = unless_none (is_some (b.drawing.shapes n)) 8 _ c.1 in
    let u = used (b.drawing.shapes n) d.0 in
    record { opened = a.0; number = ltb-true n 256 c.0; old = u.0; given = u.1; fits = fits_tested b.wide b.high s ink d.1 }

pub record Removed (b : Book) (n : ℕ) : Type 0 where
  pub opened : b.opened ≡ true
  pub number : n < 256
  pub old : Item
  pub given : b.drawing.shapes n ≡ Some old
  pub unnamed : named b.drawing n ≡ false

pub accepted_remove : (b : Book) (n : ℕ) → refusal b (removing n) ≡ None → Removed b n
accepted_remove b n e =
    let a = unless_none b.opened 1 _ e in
    let c = unless_none (ltb n 256) 6 _ a.1 in
    let d = unless_none (is_some (b.drawing.shapes n)) 8 _ c.1 in
    let u = used (b.drawing.shapes n) d.0 in
    record { opened = a.0; number = ltb-true n 256 c.0; old = u.0; given = u.1; unnamed = not-true _ (unless_none (not (named b.drawing n)) 11 None d.1).0 }

pub record Spanned (b : Book) (s n from to ink : ℕ) : Type 0 where
  pub opened : b.opened ≡ true
  pub number : s < 256
  pub shape : n < 256
  pub free : b.drawing.spans s ≡ None
  pub item : Item
  pub given : b.drawing.shapes n ≡ Some item
  pub frames : from ≤ to
  pub limit : ink ≤ 15

pub accepted_span : (b : Book) (s n from to ink : ℕ) → refusal b (spanning s n from to ink) ≡ None → Spanned b s n from to ink
accepted_span b s n from to ink e =
    let a = unless_none b.opened 1 _ e in
    let c = unless_none (ltb s 256 && ltb n 256) 6 _ a.1 in
    let d = unless_none (not (is_some (b.drawing.spans s))) 7 _ c.1 in
    let f = unless_none (is_some (b.drawing.shapes n)) 8 _ d.1 in
    let g = unless_none (leb from to) 12 _ f.1 in
    let h = unless_none (leb ink 15) 9 None g.1 in
    let p = and_parts (ltb s 256) (ltb n 256) c.0 in
    let u = used (b.drawing.shapes n) f.0 in
    record {
      opened = a.0;
      number = ltb-true s 256 p.0;
      shape = ltb-true n 256 p.1;
      free = unused (b.drawing.spans s) (not-true _ d.0);
      item = u.0;
      given = u.1;
      frames = leb-true from to g.0;
      limit = leb-true ink 15 h.0;
    }

pub record Unspanned (b : Book) (s : ℕ) : Type 0 where
  pub opened : b.opened ≡ true
  pub number : s < 256
  pub old : Turn
  pub given : b.drawing.spans s ≡ Some old

pub accepted_unspan : (b : Book) (s : ℕ) → refusal b (unspanning s) ≡ None → Unspanned b s
accepted_unspan b s e =
    let a = unless_none b.opened 1 _ e in
    let c = unless_none (ltb s 256) 6 _ a.1 in
    let u = used (b.drawing.spans s) (unless_none (is_some (b.drawing.spans s)) 8 None c.1).0 in
    record { opened = a.0; number = ltb-true s 256 c.0; old = u.0; given = u.1 }

pub accepted_turn : (b : Book) (frame : ℕ) → refusal b (turning frame) ≡ None → b.opened ≡ true
accepted_turn b frame e = (unless_none b.opened 1 None e).0

pub record Refreshed (b : Book) (wide high room : ℕ) : Type 0 where
  pub opened : b.opened ≡ true
  pub same_width : b.wide ≡ wide
  pub same_height : b.high ≡ high
  pub entries : 256 ≤ room

pub accepted_refresh : (b : Book) (wide high room : ℕ) → refusal b (refreshing wide high room) ≡ None → Refreshed b wide high room
accepted_refresh b wide high room e =
    let a = unless_none b.opened 1 _ e in
    let c = unless_none (eqb b.wide wide && eqb b.high high) 5 _ a.1 in
    let d = unless_none (leb 256 room) 13 None c.1 in
    let p = and_parts (eqb b.wide wide) (eqb b.high high) c.0 in
    record { opened = a.0; same_width = eqb-true b.wide wide p.0; same_height = eqb-true b.high high p.1; entries = leb-true 256 room d.0 }
