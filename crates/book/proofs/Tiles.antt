-- A shape's pixels lie in its bounding box, and a tile meets that box where it has one of its pixels. Assumes nothing.
use Rattle.std.proofs.Common.{◌≡◌, ℕ, ◌+◌, ◌-◌, ◌*◌, ◌/◌, ◌%◌, ◌<◌, ◌≤◌, min, max, true, false, ◌&&◌, ltb, leb, List, sym, ap, ◌∙◌, ap₂, ⊎_elim, arith}
use lib.Arith.{digits_lt}
use Rattle.std.proofs.lemmas.Nat.{div-add-mod', div-mul-add, mod-mul-add}
use Rattle.std.proofs.lemmas.Bool.{and_parts, and_from, leb-true, ltb-true, le-leb, lt-ltb, cases_Bool, both_ways, and_right}
use Rattle.std.proofs.lemmas.Bool.Decides.{nat_tests}
use Rattle.raster.specs.declared.shape.Bounds.{Bounds}
use Rattle.raster.specs.declared.shape.Shape.{Shape}
use Rattle.raster.specs.declared.shape.Shape.TheVariants.{Box, Line, Figure}
use Rattle.raster.specs.Fonts.{lit}
use Rattle.raster.specs.Shapes.{covers, bounds_of, inside}
use Rattle.raster.specs.Sizes.{across, tile_of}
use Rattle.raster.proofs.Shapes.{line_inside}
use Rattle.book.specs.Tiles.{tile_box, share, meets, Meets}

-- what a shape covers lies in its bounding box
pub covers_inside : (font : List ℕ) (s : Shape) (x y : ℕ) → covers font s x y ≡ true → inside (bounds_of s) x y ≡ true
covers_inside font (Box b) x y e = e
covers_inside font (Line l) x y e = line_inside l x y e
covers_inside font (Figure f) x y e =
    let p = and_parts (leb f.x x && leb f.y y) (lit font f.glyph (x - f.x) (y - f.y)) e in
    let q = and_parts (ltb f.glyph 16 && (ltb (x - f.x) 8 && ltb (y - f.y) 16)) _ p.1 in
    cell f.x f.y x y p.0 (and_parts (ltb f.glyph 16) _ q.0).1
  where
    cell : (a b x y : ℕ) → (leb a x && leb b y) ≡ true → (ltb (x - a) 8 && ltb (y - b) 16) ≡ true → ((leb a x && ltb x (a + 8)) && (leb b y && ltb y (b + 16))) ≡ true
    cell a b x y d e = grind (arith, nat_tests)

-- a pixel inside a box, by its numbers
pub record In (b : Bounds) (x y : ℕ) : Type 0 where
  pub left : b.left ≤ x
  pub right : x < b.right
  pub top : b.top ≤ y
  pub bottom : y < b.bottom

pub inside_in : (b : Bounds) (x y : ℕ) → inside b x y ≡ true → In b x y
inside_in b x y e =
    let p = and_parts (leb b.left x && ltb x b.right) (leb b.top y && ltb y b.bottom) e in
    let c = and_parts (leb b.left x) (ltb x b.right) p.0 in
    let r = and_parts (leb b.top y) (ltb y b.bottom) p.1 in
    record { left = leb-true _ _ c.0; right = ltb-true _ _ c.1; top = leb-true _ _ r.0; bottom = ltb-true _ _ r.1 }

pub in_inside : (b : Bounds) (x y : ℕ) → In b x y → inside b x y ≡ true
in_inside b x y i =
    and_from _ _ (and_from _ _ (le-leb _ _ i.left) (lt-ltb x b.right i.right)) (and_from _ _ (le-leb _ _ i.top) (lt-ltb y b.bottom i.bottom))

-- two boxes share a pixel
pub shares : (a b : Bounds) (x y : ℕ) → In a x y → In b x y → share a b ≡ true
shares a b x y i j = and_from _ _
    (lt-ltb (max a.left b.left) (min a.right b.right) (omega arith))
    (lt-ltb (max a.top b.top) (min a.bottom b.bottom) (omega arith))

pub shared : (a b : Bounds) → share a b ≡ true → In a (max a.left b.left) (max a.top b.top) × In b (max a.left b.left) (max a.top b.top)
shared a b e =
    let p = and_parts (ltb (max a.left b.left) (min a.right b.right)) (ltb (max a.top b.top) (min a.bottom b.bottom)) e in
    let c : max a.left b.left < min a.right b.right = ltb-true _ _ p.0 in
    let r : max a.top b.top < min a.bottom b.bottom = ltb-true _ _ p.1 in
    (record { left = omega arith; right = omega arith; top = omega arith; bottom = omega arith }, record { left = omega arith; right = omega arith; top = omega arith; bottom = omega arith })

-- the pixels of a tile's box are those of the sheet with its number
pub tile_column : (width x y : ℕ) → x < width → tile_of width x y % across width ≡ x / 16
tile_column width x y h = mod-mul-add (y / 16) (across width) (x / 16) (omega arith)

pub tile_row : (width x y : ℕ) → x < width → tile_of width x y / across width ≡ y / 16
tile_row width x y h = div-mul-add (y / 16) (across width) (x / 16) (omega arith)

pub tile_in : (width height x y : ℕ) → x < width → y < height → In (tile_box width height (tile_of width x y)) x y
tile_in width height x y hx hy =
    let c = tile_column width x y hx in
    let r = tile_row width x y hx in
    record { left = omega (arith, c); right = omega (arith, c, hx); top = omega (arith, r); bottom = omega (arith, r, hy) }

pub in_tile : (width height t x y : ℕ) → In (tile_box width height t) x y → (x < width) × (y < height) × (tile_of width x y ≡ t)
in_tile width height t x y i =
    let c : x / 16 ≡ t % across width = omega (arith, i.left, i.right) in
    let r : y / 16 ≡ t / across width = omega (arith, i.top, i.bottom) in
    (omega (arith, i.right), omega (arith, i.bottom), ap₂ (λ a b. a * across width + b) r c ∙ div-add-mod' t (across width))

-- a tile meets a bounding box exactly in the words' sense
pub meets_words : (width height t : ℕ) (s : Shape) → meets width height t s ≡ true → Meets width height t s
meets_words width height t s e =
    let p = shared (tile_box width height t) (bounds_of s) e in
    let q = in_tile width height t _ _ p.0 in
    record { x = max (tile_box width height t).left (bounds_of s).left; y = max (tile_box width height t).top (bounds_of s).top; column = q.0; row = q.1; tile = q.2; box = in_inside (bounds_of s) _ _ p.1 }

pub words_meets : (width height x y : ℕ) (s : Shape) → x < width → y < height → inside (bounds_of s) x y ≡ true → meets width height (tile_of width x y) s ≡ true
words_meets width height x y s hx hy e = shares (tile_box width height (tile_of width x y)) (bounds_of s) x y (tile_in width height x y hx hy) (inside_in (bounds_of s) x y e)

-- a shape covers no pixel of a tile that its bounding box does not meet
pub apart_bare : (font : List ℕ) (width height x y : ℕ) (s : Shape) → x < width → y < height → meets width height (tile_of width x y) s ≡ false → covers font s x y ≡ false
apart_bare font width height x y s hx hy h = ⊎_elim
    (λ e. absurd (both_ways (meets width height (tile_of width x y) s) h (words_meets width height x y s hx hy (covers_inside font s x y e))))
    (λ e. e)
    (cases_Bool (covers font s x y))

-- a pixel's tile has a number below 256
pub tile_small : (width x y : ℕ) → width ≤ 256 → x < width → y < 256 → tile_of width x y < 256
tile_small width x y w hx hy =
    let l : y / 16 * ((width + 15) / 16) + x / 16 < 16 * ((width + 15) / 16) = digits_lt {q = y / 16} {m = 16} (omega arith) (omega arith) in
    omega (arith, l)

-- so has a tile that meets a bounding box
pub meets_small : (width height t : ℕ) (s : Shape) → width ≤ 256 → height ≤ 256 → meets width height t s ≡ true → t < 256
meets_small width height t s w h e =
    let m = meets_words width height t s e in
    let l = tile_small width m.x m.y w m.column (omega arith) in
    omega (arith, l, m.tile)

pub meets_below : (width height t : ℕ) (s : Shape) → width ≤ 256 → height ≤ 256 → (ltb t 256 && meets width height t s) ≡ meets width height t s
meets_below width height t s w h = ⊎_elim
    (λ e. ap (λ v. v && meets width height t s) (lt-ltb t 256 (meets_small width height t s w h e)))
    (λ e. and_right (ltb t 256) (meets width height t s) e ∙ sym e)
    (cases_Bool (meets width height t s))
