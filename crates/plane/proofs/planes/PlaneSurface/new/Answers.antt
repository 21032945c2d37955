use Rattle.std.proofs.Common.{◌≡◌, ◌*◌, ◌++◌, drop, rules}
use Rattle.std.proofs.lemmas.Grind.{common_steps}
use Rattle.surface.specs.Bytes.{filled}
use Rattle.plane.specs.Layout.{plane_bytes_lem}
use Rattle.plane.proofs.Inking.{filled_clear}
use Rattle.plane.proofs.planes.PlaneSurface.new.Goals as goal

pub invariant_of-result-2 : goal.invariant_of-result-2
invariant_of-result-2 c =
    let bytes : c.fill.new.self ++ drop (4 * c.plane_bytes.result) c.args.memory.now ≡ filled (4 * plane_bytes_lem c.args.width c.args.height) 0 c.args.memory.now = search (rules, common_steps) in
    record { narrow = search rules; low = search rules; room = search rules; spare = filled_clear c.args.width c.args.height c.args.memory.now _ bytes }
