-- A tile whose places were all handed down. Assumes nothing.
use Rattle.std.proofs.Common.{◌≡◌, ℕ, ◌/◌, ◌%◌, ◌<◌, cond, ◌&&◌, eqb, List, get_or, Some, None, unwrap_or, sym, ap, ◌∙◌, arith}
use Rattle.std.proofs.lemmas.Bool.{eq-eqb, ne_eqb}
use Rattle.raster.specs.Sizes.{across, tile_of, place}
use Rattle.surface.specs.Picture.{Picture, On}
use Rattle.painting.specs.Drawing.{painting}
use Rattle.book.specs.Book.{Book}
use Rattle.book.specs.Progress.{TileGiven}
use Rattle.handing.specs.declared.spot.Spot.{Spot}
use Rattle.handing.specs.Given.{Given, spot_inks}
use Rattle.handing.proofs.Spots.{spot_tile}
use Rattle.tiling.specs.Tiled.{Tiled}

-- where every place of a tile has its ink, handing it down at the tile's spot gives each pixel of the tile its ink
pub given_tiled : (t width : ℕ) (spot : Spot) (inks : List ℕ) (p q : Picture) → width ≡ p.wide → spot.column ≡ t % across width → spot.row ≡ t / across width → Given (spot_inks (λ k. Some (get_or inks k 0)) spot) p q → Tiled t inks p q
given_tiled t width spot inks p q w c r g = record {
  sides = g.sides;
  on = λ u v o e. g.taken u v o ∙ ap (λ b. unwrap_or (cond b (Some (get_or inks (place u v) 0)) None) (p.taken u v)) (here u v o ∙ eq-eqb t _ (sym e));
  off = λ u v o n. g.taken u v o ∙ ap (λ i. unwrap_or i (p.taken u v)) (nothing u v o n);
  calm = λ u v o n. g.calm u v o (nothing u v o n);
}
  where
    here : (u v : ℕ) → On p u v → (eqb (u / 16) spot.column && eqb (v / 16) spot.row) ≡ eqb t (tile_of p.wide u v)
    here u v o = spot_tile t width u v spot c r (omega (arith, o.column, w)) ∙ ap (λ m. eqb t (tile_of m u v)) w

    nothing : (u v : ℕ) → On p u v → (tile_of p.wide u v ≡ t → ⊥) → cond (eqb (u / 16) spot.column && eqb (v / 16) spot.row) (Some (get_or inks (place u v) 0)) None ≡ None
    nothing u v o n = ap (λ b. cond b (Some (get_or inks (place u v) 0)) None) (here u v o ∙ ne_eqb t _ (λ e. n (sym e)))

-- a tile whose inks are the fresh painting's was given it
pub tiled_given : (b : Book) (t : ℕ) (inks : List ℕ) (p q : Picture) → p.wide ≡ b.wide → p.high ≡ b.high
    → ((x y : ℕ) → x < b.wide → y < b.high → tile_of b.wide x y ≡ t → get_or inks (place x y) 0 ≡ painting b.drawing x y)
    → Tiled t inks p q → TileGiven b t p q
tiled_given b t inks p q w h fresh s = record {
  sides = s.sides;
  on = λ x y o e. s.on x y o (wide x y ∙ e) ∙ fresh x y (omega (arith, o.column, w)) (omega (arith, o.row, h)) e;
  off = λ x y o n. s.off x y o (λ e. n (sym (wide x y) ∙ e));
}
  where
    wide : (x y : ℕ) → tile_of p.wide x y ≡ tile_of b.wide x y
    wide x y = ap (λ m. tile_of m x y) w
