use Rattle.std.proofs.Common.{◌-◌, ◌^◌, ◌≤◌, arith, pow_mono}
use Rattle.plane.proofs.Bits.{written_small, written_at}
use Rattle.plane.proofs.planes.memory.write_byte.Goals as goal

pub overflow_sub-mask : goal.overflow_sub-mask
overflow_sub-mask c =
    let le : 2 ^ (8 - c.args.hi) ≤ 2 ^ (8 - c.args.lo) = pow_mono (omega arith) in
    omega (arith, le)

pub overflow_cast-result-2 : goal.overflow_cast-result-2
overflow_cast-result-2 c =
    omega (
      arith,
      written_at c.args.lo c.args.hi c.args.bit c.args.old _ _ c.above-high.ensures c.above-low.ensures,
      written_small c.args.lo c.args.hi c.args.bit c.args.old c.requires.order c.requires.end c.requires.one (omega arith),
    )

pub returns : goal.returns
returns c = written_at c.args.lo c.args.hi c.args.bit c.args.old _ _ c.above-high.ensures c.above-low.ensures
