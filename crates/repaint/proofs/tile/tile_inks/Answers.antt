use Rattle.std.proofs.Common.{◌≡◌, ℕ, ◌+◌, ◌*◌, ◌/◌, ◌%◌, ◌<◌, cond, get_or, ap, inl, inr, ◌∙◌, ap₂, arith}
use Rattle.raster.specs.Shapes.{covers}
use Rattle.raster.specs.Sizes.{place}
use Rattle.tiling.specs.Places.{column_of, row_of}
use Rattle.tiling.specs.Found.{laid, laid_below}
use Rattle.tiling.proofs.Laid.{laid_none, laid_more, laid_whole, column_back, row_back}
use Rattle.repaint.proofs.tile.tile_inks.Goals as goal
use Rattle.repaint.proofs.tile.tile_inks.Goals.{in-Some, in_default}

pub loop-n-init : goal.loop-n-init
loop-n-init c k h = c.paper-tile.ensures k ∙ laid_none c.args.font.now.rows c.args.shapes.now c.args.inks.now.values c.args.found.now _ _

pub loop-n-preserved : goal.loop-n-preserved
loop-n-preserved c k h =
    let a = c.args in
    let s = c.of-spot.result in
    let before = get_or c.loop-n.tile.values k 0 in
    laid_more a.font.now.rows a.shapes.now a.inks.now.values a.found.now c.loop-n.n a.width a.t k s _ c.pick.result before _ c.of-spot.ensures.0 c.of-spot.ensures.1 (omega arith) (c.of-listed.ensures c.loop-n.n) c.pick.ensures
    (elim c.match-pick.branch [
      | in-Some w ↦ inr (w.in-Some.placed, w.in-Some.is, ap (λ i. get_or i.values k 0) w.tile-is ∙ w.lay.ensures k h ∙ ap (λ v. cond (covers a.font.now.rows w.in-Some.placed.shape (16 * s.column + k % 16) (16 * s.row + k / 16)) v before) w.at.ensures)
      | in_default w ↦ inl (w.in_default.is, ap (λ i. get_or i.values k 0) w.tile-is)
    ])
    (c.loop-n.invariant k h)

pub returns : goal.returns
returns c =
    let a = c.args in
    let value : (k : ℕ) → k < 256 → get_or c.loop-n.tile.values k 0 ≡ laid a.font.now.rows a.shapes.now a.inks.now.values a.found.now (column_of a.width a.t k) (row_of a.width a.t k) = λ k h.
    c.loop-n.invariant k h ∙ ap (λ n. laid_below a.font.now.rows a.shapes.now a.inks.now.values a.found.now n (column_of a.width a.t k) (row_of a.width a.t k)) (omega arith) in
    record {
      value = value;
      whole = λ d height e has-shapes ruled all x y h k tile.
          value (place x y) (omega arith)
          ∙ ap₂ (laid a.font.now.rows a.shapes.now a.inks.now.values a.found.now) (column_back a.width a.t x y h tile) (row_back a.width a.t x y h tile)
          ∙ laid_whole a.font.now.rows a.shapes.now a.inks.now.values a.found.now d a.width height a.t e has-shapes ruled all x y h k tile;
    }
