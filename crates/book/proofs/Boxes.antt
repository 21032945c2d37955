-- Plane boxes of shapes and of tiles: they meet where the tile meets the shape. Assumes nothing.
use Rattle.std.proofs.Common.{◌≡◌, ℕ, ◌+◌, ◌-◌, ◌*◌, ◌/◌, ◌%◌, ◌<◌, ◌≤◌, min, max, true, ◌&&◌, ltb, leb, refl, ap₂, arith}
use Rattle.std.proofs.lemmas.Nat.{div_below, mod_below}
use Rattle.std.proofs.lemmas.Bool.{and_parts, leb-true, ltb-true}
use Rattle.std.proofs.lemmas.Bool.Decides.{nat_tests}
use Rattle.raster.specs.declared.shape.Bounds.{Bounds}
use Rattle.raster.specs.declared.shape.Shape.{Shape}
use Rattle.raster.specs.declared.shape.Shape.TheVariants.{Box, Line, Figure}
use Rattle.raster.specs.Shapes.{bounds_of, drawable}
use Rattle.raster.specs.Sizes.{across, Side}
use Rattle.extent.specs.Axis.{touches}
use Rattle.extent.specs.Boxes.{Within, Edges}
use Rattle.extent.specs.declared.plane_box.PlaneBox.{PlaneBox}
use Rattle.painting.specs.Drawing.{Item}
use Rattle.book.specs.Tiles.{tile_box, share, meets}
use Rattle.book.specs.Naming.{box_of}
use Rattle.book.specs.Sound.{Fits}

-- the box of a shape that can be drawn has a pixel
drawable_some : (s : Shape) → drawable s ≡ true → ((bounds_of s).left < (bounds_of s).right) × ((bounds_of s).top < (bounds_of s).bottom)
drawable_some (Box b) e =
    let p = and_parts (ltb 0 b.w) (ltb 0 b.h) e in
    let w = ltb-true 0 b.w p.0 in
    let h = ltb-true 0 b.h p.1 in
    (omega (arith, w), omega (arith, h))
drawable_some (Line l) e = (omega arith, omega arith)
drawable_some (Figure f) e = (omega arith, omega arith)

-- a shape that fits on the sheet has a plane box
pub fits_within : (width height : ℕ) (item : Item) → width ≤ 256 → height ≤ 256 → Fits width height item → Within (bounds_of item.shape)
fits_within width height item w h f =
    let d = drawable_some item.shape f.figures in
    let p = and_parts (leb (bounds_of item.shape).right width) (leb (bounds_of item.shape).bottom height) f.box in
    let r = leb-true (bounds_of item.shape).right width p.0 in
    let b = leb-true (bounds_of item.shape).bottom height p.1 in
    record { columns = d.0; wide = omega (arith, r); rows = d.1; high = omega (arith, b) }

-- and that box is the one of its edges
pub edges_box : (item : Item) (e : PlaneBox) → Edges (bounds_of item.shape) e → e ≡ box_of item
edges_box item e g =
    let r : e.right ≡ (bounds_of item.shape).right - 1 = omega (arith, g.right) in
    let b : e.bottom ≡ (bounds_of item.shape).bottom - 1 = omega (arith, g.bottom) in
    λ i. record { left = g.left i; top = g.top i; right = r i; bottom = b i }

pub box_edges : (item : Item) → Within (bounds_of item.shape) → Edges (bounds_of item.shape) (box_of item)
box_edges item w = record { left = refl; top = refl; right = omega (arith, w.columns); bottom = omega (arith, w.rows) }

-- two boxes with pixels share one exactly if their plane boxes meet
pub share_touches : (a b : Bounds) (e f : PlaneBox) → Within a → Within b → Edges a e → Edges b f
    → (touches f.left f.right e.left e.right && touches f.top f.bottom e.top e.bottom) ≡ share a b
share_touches a b e f wa wb ea eb = ap₂ ◌&&◌
    (axis a.left a.right b.left b.right e.left e.right f.left f.right wa.columns wb.columns ea.left ea.right eb.left eb.right)
    (axis a.top a.bottom b.top b.bottom e.top e.bottom f.top f.bottom wa.rows wb.rows ea.top ea.bottom eb.top eb.bottom)
  where
    axis : (al ar bl br el er fl fr : ℕ) → al < ar → bl < br → el ≡ al → er + 1 ≡ ar → fl ≡ bl → fr + 1 ≡ br → touches fl fr el er ≡ ltb (max al bl) (min ar br)
    axis al ar bl br el er fl fr h k p q r s = grind (arith, nat_tests)

-- the tiles of a sheet have plane boxes
pub tile_within : (width height t : ℕ) → Side width → Side height → t < (height + 15) / 16 * across width → Within (tile_box width height t)
tile_within width height t w h l =
    let c : t % across width < across width = mod_below t (across width) (omega arith) in
    let r : t / across width < (height + 15) / 16 = div_below t (across width) ((height + 15) / 16) (omega arith) l in
    record { columns = omega arith; wide = omega arith; rows = omega arith; high = omega arith }

-- a stored box that meets a tile's is one of a shape that meets the tile
pub found_meets : (width height t : ℕ) (item : Item) (e : PlaneBox) → Within (tile_box width height t) → Within (bounds_of item.shape) → Edges (tile_box width height t) e
    → (touches (box_of item).left (box_of item).right e.left e.right && touches (box_of item).top (box_of item).bottom e.top e.bottom) ≡ meets width height t item.shape
found_meets width height t item e wt ws et = share_touches (tile_box width height t) (bounds_of item.shape) e (box_of item) wt ws et (box_edges item ws)
