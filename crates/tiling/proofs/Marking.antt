-- Marking numbers one after the other, and tiles row by row. Assumes nothing.
use Rattle.std.proofs.Common.{◌≡◌, ℕ, zero, suc, ◌+◌, ◌*◌, ◌/◌, ◌%◌, ◌<◌, ◌≤◌, min, max, Bool, true, false, ◌&&◌, ◌||◌, eqb, ltb, leb, List, [], ◌∷◌, length, get_or, take, replicate, sym, refl, ap, ◌∙◌, ap₂, add-one, arith}
use Rattle.std.proofs.lemmas.Bool.Decides.{nat_tests}
use Rattle.raster.specs.declared.shape.Bounds.{Bounds}
use Rattle.raster.proofs.Tiles.{row_column}
use Rattle.raster.specs.Sizes.{across}
use Rattle.book.specs.Tiles.{tile_box, share}
use Rattle.book.specs.Past.{listed}

-- what is the same everywhere
pub replicate_read : {A : Type 0} (a : A) (n k : ℕ) → get_or (replicate n a) k a ≡ a
replicate_read a zero k = refl
replicate_read a (suc n) zero = refl
replicate_read a (suc n) (suc k) = replicate_read a n k

-- one number more of a list
pub listed_more : (ns : List ℕ) (i k : ℕ) → i < length ns → listed (take (i + 1) ns) k ≡ (listed (take i ns) k || eqb k (get_or ns i 0))
listed_more ns i k h = ap (λ n. listed (take n ns) k) (add-one i) ∙ go ns i h
  where
    turned : (a b : ℕ) → (eqb a b || false) ≡ eqb b a
    turned a b = grind (arith, nat_tests)

    or_assoc : (a b c : Bool) → (a || (b || c)) ≡ ((a || b) || c)
    or_assoc true b c = refl
    or_assoc false b c = refl

    go : (ms : List ℕ) (j : ℕ) → j < length ms → listed (take (suc j) ms) k ≡ (listed (take j ms) k || eqb k (get_or ms j 0))
    go [] j l = absurd (omega arith)
    go (m ∷ ms) zero l = turned m k
    go (m ∷ ms) (suc j) l = ap (λ b. eqb m k || b) (go ms j (omega arith)) ∙ or_assoc (eqb m k) (listed (take j ms) k) (eqb k (get_or ms j 0))

-- (the number is small and was listed) or (it is small and comes next)
pub small_more : (small was next : Bool) → ((small && was) || (small && next)) ≡ (small && (was || next))
small_more true was next = refl
small_more false was next = refl

-- marked besides, in an area
pub marked_like : (was small area other : Bool) → area ≡ other → (was || (small && area)) ≡ (was || (small && other))
marked_like was small area other e = ap (λ b. was || (small && b)) e

pub marked_more : (was small area next both before after : Bool) → both ≡ (area || next) → after ≡ (before || (small && next)) → before ≡ (was || (small && area)) → after ≡ (was || (small && both))
marked_more was small area next both before after e p q = p ∙ ap (λ b. b || (small && next)) q ∙ go was
  where
    go : (b : Bool) → ((b || (small && area)) || (small && next)) ≡ (b || (small && both))
    go true = refl
    go false = small_more small area next ∙ sym (ap (λ v. small && v) e)

-- one tile more of a row of tiles
pub columns_more : (t across row column from : ℕ) → column < across → from ≤ column
    → (eqb row (t / across) && (leb from (t % across) && ltb (t % across) (column + 1))) ≡ ((eqb row (t / across) && (leb from (t % across) && ltb (t % across) column)) || eqb t (row * across + column))
columns_more t across row column from h k = go (t / across) (t % across) ∙ ap (λ b. (eqb row (t / across) && (leb from (t % across) && ltb (t % across) column)) || b) (row_column t across row column h)
  where
    go : (q m : ℕ) → (eqb row q && (leb from m && ltb m (column + 1))) ≡ ((eqb row q && (leb from m && ltb m column)) || (eqb column m && eqb row q))
    go q m = grind (arith, nat_tests)

-- one row of tiles more
pub rows_more : (columns : Bool) (q top row : ℕ) → top ≤ row → (columns && (leb top q && ltb q (row + 1))) ≡ ((columns && (leb top q && ltb q row)) || (eqb row q && columns))
rows_more true q top row h = grind (arith, nat_tests)
rows_more false q top row h = grind (arith, nat_tests)

-- along one side: the tiles from that of low up to that of the last number before high and the edge
side_tiles : (m edge low high end : ℕ) → end ≡ min high edge → low < end → (leb (low / 16) m && ltb m ((end + 15) / 16)) ≡ ltb (max (16 * m) low) (min (min (16 * m + 16) edge) high)
side_tiles m edge low high end e h = grind (arith, nat_tests)

pub tiles_meet : (width height t right bottom : ℕ) (b : Bounds) → right ≡ min b.right width → bottom ≡ min b.bottom height → b.left < right → b.top < bottom
    → ((leb (b.left / 16) (t % across width) && ltb (t % across width) ((right + 15) / 16)) && (leb (b.top / 16) (t / across width) && ltb (t / across width) ((bottom + 15) / 16))) ≡ share (tile_box width height t) b
tiles_meet width height t right bottom b e f h k = ap₂ (λ x y. x && y) (side_tiles (t % across width) width b.left b.right right e h) (side_tiles (t / across width) height b.top b.bottom bottom f k)
