use Rattle.std.proofs.Common.{rules}
use Rattle.quadratic.specs.Split.{growths, growth}
use Rattle.split.specs.Nine.{extent_at}
use Rattle.split.proofs.Made.{made}
use Rattle.split.proofs.nine.Nine.growths.Goals as goal

pub returns : goal.returns
unfolding growths growth
returns g c = made _ _ (λ k. growth g.M.Measured.measure g.M.Extent.joined c.args.of.now (extent_at c.args.self.now k)) (λ i y q e. search rules) 0 _ 9 c.from_fn.ensures.items
