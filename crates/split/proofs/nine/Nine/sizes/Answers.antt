use Rattle.std.proofs.Common.{rules}
use Rattle.quadratic.specs.Split.{sizes}
use Rattle.split.specs.Nine.{extent_at}
use Rattle.split.proofs.Made.{made}
use Rattle.split.proofs.nine.Nine.sizes.Goals as goal

pub returns : goal.returns
unfolding sizes
returns g c = made _ _ (λ k. g.M.Measured.measure (extent_at c.args.self.now k)) (λ i y q e. search rules) 0 _ 9 c.from_fn.ensures.items
