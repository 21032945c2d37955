use Rattle.std.proofs.Common.{◌≡◌, ℕ, ◌+◌, ◌/◌, ap, ◌∙◌, arith}
use Rattle.plane.specs.Layout.{bits_written}
use Rattle.plane.proofs.Written.{patched, loop_none, loop_more, loop_all}
use Rattle.plane.proofs.planes.memory.write_bits.Goals as goal

pub loop-i-init : goal.loop-i-init
loop-i-init c = loop_none c.args.from c.args.to c.args.bit c.args.bytes.now c.requires.order c.requires.room

pub loop-i-preserved : goal.loop-i-preserved
loop-i-preserved c =
    loop_more c.args.from c.args.to c.args.bit c.args.bytes.now c.loop-i.bytes c.loop-i.i _ _ _ (omega arith) (omega arith) c.loop-i.invariant c.saturating_sub-lo.ensures c.min-hi.ensures c.write_byte.ensures

pub returns : goal.returns
returns c =
    let end : c.loop-i.i ≡ (c.args.to + 7) / 8 = omega arith in
    c.loop-i.invariant ∙ ap (λ (i : ℕ). patched i (bits_written c.args.from c.args.to c.args.bit c.args.bytes.now) c.args.bytes.now) end ∙ loop_all c.args.from c.args.to c.args.bit c.args.bytes.now c.requires.order
