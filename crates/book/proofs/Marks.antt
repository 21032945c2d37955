-- Where a tile is not touched by a change of the drawing, its painting stays; where it is, a shape changed. Assumes nothing.
use Rattle.std.proofs.Common.{◌≡◌, ℕ, ◌<◌, true, false, ◌⊎◌, Some, None, Option, sym, refl, ap, ◌∙◌, ⊎_elim}
use Rattle.std.proofs.lemmas.Bool.{and_parts, and_cases, cond-false, or_parts, or_cases, not-true, not-false, both_ways, false≢true}
use Rattle.raster.specs.Sizes.{tile_of}
use Rattle.raster.specs.Shapes.{covers}
use Rattle.painting.specs.Drawing.{Drawing, Item, shape_ink, painting}
use Rattle.painting.proofs.Topmost.{topmost_same}
use Rattle.book.specs.Looks.{look, Changed, same_look, changes, meets_item, touched_by, touched}
use Rattle.book.specs.Book.{Book}
use Rattle.book.specs.Rules.{Reaches}
use Rattle.book.proofs.Below.{some_below_which, some_below_never}
use Rattle.book.proofs.Tiles.{apart_bare, meets_words}
use Rattle.book.proofs.Looks.{same_look_equal, equal_same_look, look_ink, shape_ink_look}

-- the painting of a pixel depends only on what each number gives to it
pub painting_same : (d e : Drawing) (x y : ℕ) → ((n : ℕ) → n < 256 → shape_ink d x y (d.shapes n) n ≡ shape_ink e x y (e.shapes n) n) → painting d x y ≡ painting e x y
painting_same d e x y h = topmost_same (λ n. shape_ink d x y (d.shapes n) n) (λ n. shape_ink e x y (e.shapes n) n) 0 256 h

-- a number whose bounding box does not meet the tile gives nothing to its pixels
pub apart_none : (d : Drawing) (width height x y n : ℕ) (o : Option Item) → x < width → y < height → meets_item width height (tile_of width x y) o ≡ false → shape_ink d x y o n ≡ None
apart_none d width height x y n None hx hy h = refl
apart_none d width height x y n (Some item) hx hy h = cond-false (covers d.font item.shape x y) _ _ (apart_bare d.font width height x y item.shape hx hy h)

-- a number that does not touch the tile gives the same to its pixels as before
pub untouched_number : (d e : Drawing) (width height x y n : ℕ) → x < width → y < height → e.font ≡ d.font → touched_by width height d e (tile_of width x y) n ≡ false
    → shape_ink e x y (e.shapes n) n ≡ shape_ink d x y (d.shapes n) n
untouched_number d e width height x y n hx hy f h = ⊎_elim
    (λ same. shape_ink_look e x y n ∙ ap (λ l. look_ink e.font l x y) (sym (same_look_equal (look d n) (look e n) (not-false (same_look (look d n) (look e n)) same))) ∙ ap (λ font. look_ink font (look d n) x y) f ∙ sym (shape_ink_look d x y n))
    (λ apart. let p = or_parts (meets_item width height (tile_of width x y) (d.shapes n)) (meets_item width height (tile_of width x y) (e.shapes n)) apart in
    apart_none e width height x y n (e.shapes n) hx hy p.1 ∙ sym (apart_none d width height x y n (d.shapes n) hx hy p.0))
    (and_cases (changes d e n) _ h)

-- and where no number touches it, its painting stays
pub untouched_painting : (d e : Drawing) (width height x y : ℕ) → x < width → y < height → e.font ≡ d.font → touched width height d e (tile_of width x y) ≡ false → painting e x y ≡ painting d x y
untouched_painting d e width height x y hx hy f h =
    painting_same e d x y (λ n l. untouched_number d e width height x y n hx hy f (some_below_never (touched_by width height d e (tile_of width x y)) 256 h n l))

-- a touched tile has a changed shape whose bounding box it meets
pub touched_which : (d e : Drawing) (width height t : ℕ) → touched width height d e t ≡ true
    → (n : ℕ) × (n < 256) × Changed d e n × ((meets_item width height t (d.shapes n) ≡ true) ⊎ (meets_item width height t (e.shapes n) ≡ true))
touched_which d e width height t h =
    let r = some_below_which (touched_by width height d e t) 256 h in
    let p = and_parts (changes d e r.0) _ r.2 in
    (r.0, r.1, (λ same. both_ways (same_look (look d r.0) (look e r.0)) (not-true _ p.0) (equal_same_look _ _ same)), or_cases _ _ p.1)

pub meets_reaches : (b : Book) (n t : ℕ) → meets_item b.wide b.high t (b.drawing.shapes n) ≡ true → Reaches b n t
meets_reaches b n t h = go (b.drawing.shapes n) refl h
  where
    go : (o : Option Item) → b.drawing.shapes n ≡ o → meets_item b.wide b.high t o ≡ true → Reaches b n t
    go None e m = absurd (false≢true m)
    go (Some item) e m = record { item = item; given = e; meeting = meets_words b.wide b.high t item.shape m }
