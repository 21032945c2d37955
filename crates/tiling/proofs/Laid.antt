-- The inks of a tile by the shapes that are listed. Assumes nothing.
use Rattle.std.proofs.Common.{◌≡◌, ℕ, ◌+◌, ◌*◌, ◌/◌, ◌%◌, ◌<◌, Bool, true, false, cond, ◌&&◌, ◌⊎◌, ltb, List, get_or, Some, None, Option, unwrap_or, sym, refl, ap, ◌∙◌, ap₂, ⊎_elim, arith}
use Rattle.std.specs.Option.{option_map}
use Rattle.raster.specs.Shapes.{covers}
use Rattle.raster.specs.Sizes.{across, tile_of, place}
use Rattle.raster.proofs.Tiles.{tile_parts}
use Rattle.handing.specs.declared.spot.Spot.{Spot}
use Rattle.painting.specs.declared.scene.Placed.{Placed}
use Rattle.painting.specs.Drawing.{Drawing, Item, ruling, shape_ink, painting}
use Rattle.painting.specs.Scenes.{item, at_number}
use Rattle.painting.proofs.Topmost.{topmost_none, topmost_more, topmost_same}
use Rattle.book.specs.Tiles.{meets}
use Rattle.book.specs.Past.{listed}
use Rattle.book.proofs.Found.{found_ink, painting_found}
use Rattle.tiling.specs.Places.{column_of, row_of}
use Rattle.tiling.specs.Found.{if_listed, ShapesOf, ShapesListed, RulingInks, shape_or_none, ruling_at, cover_ink, laid_below, laid}
use Rattle.tiling.proofs.Ruled.{listed_here, picked}

pub laid_none : (font : List ℕ) (shapes : List (Option Placed)) (inks found : List ℕ) (x y : ℕ) → 0 ≡ laid_below font shapes inks found 0 x y
laid_none font shapes inks found x y = sym (topmost_none _ 0)

-- one number more: what was picked there covers the pixel or does not, or nothing was picked
pub laid_more : (font : List ℕ) (shapes : List (Option Placed)) (inks found : List ℕ) (n width t k : ℕ) (spot : Spot) (b : Bool) (placed : Option Placed) (before after : ℕ)
    → spot.column ≡ t % across width → spot.row ≡ t / across width → n < 256 → b ≡ (ltb n 256 && listed found n) → placed ≡ cond b (at_number shapes n) None
    → ((placed ≡ None) × (after ≡ before)) ⊎ ((r : Placed) × (placed ≡ Some r) × (after ≡ cond (covers font r.shape (16 * spot.column + k % 16) (16 * spot.row + k / 16)) (get_or inks n 0) before))
    → before ≡ laid_below font shapes inks found n (column_of width t k) (row_of width t k) → after ≡ laid_below font shapes inks found (n + 1) (column_of width t k) (row_of width t k)
laid_more font shapes inks found n width t k spot b placed before after c d h e p q r =
    ⊎_elim none some q ∙ ap₂ unwrap_or here r ∙ sym (topmost_more f 0 n)
  where
    x : ℕ
    x = column_of width t k

    y : ℕ
    y = row_of width t k

    f : ℕ → Option ℕ
    f = if_listed found (λ m. cover_ink font (option_map item (at_number shapes m)) (get_or inks m 0) x y)

    here : cover_ink font (option_map item placed) (get_or inks n 0) x y ≡ f n
    here = ap (λ o. cover_ink font (option_map item o) (get_or inks n 0) x y) p
        ∙ picked item (λ o. cover_ink font o (get_or inks n 0) x y) b (at_number shapes n) refl
        ∙ ap (λ t. cond t (cover_ink font (option_map item (at_number shapes n)) (get_or inks n 0) x y) None) (listed_here found n b h e)

    covered : (u : Bool) (ink : ℕ) → cond u ink before ≡ unwrap_or (cond u (Some ink) None) before
    covered true ink = refl
    covered false ink = refl

    none : (placed ≡ None) × (after ≡ before) → after ≡ unwrap_or (cover_ink font (option_map item placed) (get_or inks n 0) x y) before
    none z = z.1 ∙ ap (λ o. unwrap_or (cover_ink font (option_map item o) (get_or inks n 0) x y) before) (sym z.0)

    some : (r : Placed) × (placed ≡ Some r) × (after ≡ cond (covers font r.shape (16 * spot.column + k % 16) (16 * spot.row + k / 16)) (get_or inks n 0) before) → after ≡ unwrap_or (cover_ink font (option_map item placed) (get_or inks n 0) x y) before
    some z = z.2 ∙ ap₂ (λ v w. cond (covers font z.0.shape (16 * v + k % 16) (16 * w + k / 16)) (get_or inks n 0) before) c d
        ∙ covered (covers font z.0.shape x y) (get_or inks n 0)
        ∙ ap (λ o. unwrap_or (cover_ink font (option_map item o) (get_or inks n 0) x y) before) (sym z.1)

-- the ruling ink of a shape that covers
cover_shape : (d : Drawing) (n x y : ℕ) (o : Option Item) → cover_ink d.font o (shape_or_none o (ruling d n)) x y ≡ shape_ink d x y o n
cover_shape d n x y None = refl
cover_shape d n x y (Some p) = refl

-- where every shape that meets the tile is listed, each in its ruling ink, this is the fresh painting
pub laid_whole : (font : List ℕ) (shapes : List (Option Placed)) (inks found : List ℕ) (d : Drawing) (width height t : ℕ) → d.font ≡ font → ShapesOf shapes d → RulingInks d inks → ShapesListed d width height t found
    → (x y : ℕ) → x < width → y < height → tile_of width x y ≡ t → laid font shapes inks found x y ≡ painting d x y
laid_whole font shapes inks found d width height t e has-shapes ruled all x y h k tile =
    topmost_same _ (found_ink (listed found) (λ n. shape_ink d x y (d.shapes n) n)) 0 256 (λ n l. ap (λ o. cond (listed found n) o None) (one n l))
    ∙ painting_found d width height x y (listed found) h k (λ n p l g m. all n p l g (sym (ap (λ v. meets width height v p.shape) tile) ∙ m))
  where
    one : (n : ℕ) → n < 256 → cover_ink font (option_map item (at_number shapes n)) (get_or inks n 0) x y ≡ shape_ink d x y (d.shapes n) n
    one n l = ap₂ (λ o v. cover_ink font o v x y) (sym (has-shapes n l)) (ruled n l)
        ∙ ap (λ rows. cover_ink rows (d.shapes n) (ruling_at d n) x y) (sym e)
        ∙ cover_shape d n x y (d.shapes n)

-- the pixel at the place of a pixel of the tile
pub column_back : (width t x y : ℕ) → x < width → tile_of width x y ≡ t → column_of width t (place x y) ≡ x
column_back width t x y h e = let p = tile_parts width x y t h e in omega (arith, p.0)

pub row_back : (width t x y : ℕ) → x < width → tile_of width x y ≡ t → row_of width t (place x y) ≡ y
row_back width t x y h e = let p = tile_parts width x y t h e in omega (arith, p.1)
