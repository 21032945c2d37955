use Rattle.std.proofs.Common.{ℕ, ◌+◌, ◌*◌, ◌/◌, ◌%◌, ◌^◌, ◌≤◌, List, sym, ap, ◌∙◌, arith}
use Rattle.plane.specs.Layout.{bits_written}
use Rattle.plane.proofs.Layers.{planes_none, planes_more, row_ends}
use Rattle.plane.proofs.planes.memory.write_planes.Goals as goal

pub loop-k-init : goal.loop-k-init
loop-k-init c = sym (planes_none c.args.bits c.args.from c.args.n c.args.ink c.args.bytes.now)

pub write_bits-requires : goal.write_bits-requires
write_bits-requires c =
    let last : c.loop-k.k * c.args.bits + c.args.bits ≤ 4 * c.args.bits = row_ends c.loop-k.k 4 c.args.bits (omega arith) in
    record { order = omega arith; room = omega arith; small = omega arith; one = omega arith }

pub loop-k-preserved : goal.loop-k-preserved
loop-k-preserved c =
    let start = c.loop-k.k * c.args.bits + c.args.from in
    c.write_bits.ensures
    ∙ ap (λ (b : List ℕ). bits_written start (start + c.args.n) (c.args.ink / 2 ^ c.loop-k.k % 2) b) c.loop-k.invariant
    ∙ sym (planes_more c.loop-k.k c.args.bits c.args.from c.args.n c.args.ink c.args.bytes.now)
