use Rattle.std.proofs.Common.{◌*◌, ap, ◌∙◌, arith}
use Rattle.ppm.specs.Frames.{front_bytes, ink_bytes, over}
use Rattle.ppm.proofs.Writes.{over_part}
use Rattle.ppm.proofs.Rows.{front_none, front_written, length_ink, row_made}
use Rattle.ppm.proofs.row.Goals as goal

pub loop-x-init : goal.loop-x-init
loop-x-init g c = front_none _ _ _

pub loop-x-preserved : goal.loop-x-preserved
loop-x-preserved g c =
    let ink = c.in_ok-read.field-0 in
    front_written (g.S.Surface.view c.args.surface.now) c.args.y c.loop-x.x c.args.output.now c.loop-x.invariant
    (over_part c.loop-x.output (3 * c.loop-x.x) _ (ink_bytes ink) _ (c.copy_from_slice.ensures.after ∙ c.ink_colour-colour.ensures) (omega (arith, length_ink ink)))
    c.in_ok-read.ensures.1

pub returns : goal.returns
returns g c = row_made (g.S.Surface.view c.args.surface.now) c.args.y c.args.output.now (omega arith) (omega arith) (omega arith)
    (c.loop-x.invariant ∙ ap (λ n. over c.args.output.now 0 (front_bytes (g.S.Surface.view c.args.surface.now) c.args.y n)) (omega arith))
