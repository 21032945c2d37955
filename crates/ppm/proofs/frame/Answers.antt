use Rattle.std.proofs.Common.{◌++◌, length, sym, ap, ◌∙◌, ap₂, append_assoc, append-nil}
use Rattle.ppm.specs.Frames.{head_bytes, row_bytes_lem, rows_bytes}
use Rattle.ppm.proofs.Rows.{length_front}
use Rattle.ppm.proofs.Whole.{front_written, front_over, rows_none, rows_more}
use Rattle.ppm.proofs.frame.Goals as goal

pub slice_bounds-extend_from_slice-end : goal.slice_bounds-extend_from_slice-end
slice_bounds-extend_from_slice-end g c =
    let m = c.put_head-length.ensures in
    m.answer ∙ sym (ap length (front_over _ _ m.answer m.after))

pub loop-y-init : goal.loop-y-init
loop-y-init g c =
    let p = g.S.Surface.view c.args.surface.now in
    let s = c.in-Ok.ensures.1 in
    let m = c.put_head-length.ensures in
    c.in_ok-extend_from_slice.ensures.items
    ∙ ap₂ ◌++◌ c.new-bytes.ensures.items (front_over _ _ m.answer m.after)
    ∙ ap₂ head_bytes (s.0 ∙ c.size-width.ensures.wide) (s.1 ∙ c.size-width.ensures.high)
    ∙ sym (append-nil (head_bytes p.wide p.high))
    ∙ ap (λ xs. head_bytes p.wide p.high ++ xs) (sym (rows_none p))

pub loop-y-preserved : goal.loop-y-preserved
loop-y-preserved g c =
    let p = g.S.Surface.view c.args.surface.now in
    let head = head_bytes p.wide p.high in
    let m = c.in-Ok-row.ensures in
    c.in_ok-extend_from_slice-2.ensures.items
    ∙ ap₂ ◌++◌ c.loop-y.invariant (front_written _ (row_bytes_lem p c.loop-y.y) _ c.in-Ok-row.length m.bytes (m.answer ∙ sym (length_front p c.loop-y.y p.wide)))
    ∙ append_assoc head (rows_bytes p c.loop-y.y) (row_bytes_lem p c.loop-y.y)
    ∙ ap (λ xs. head ++ xs) (sym (rows_more p c.loop-y.y))
