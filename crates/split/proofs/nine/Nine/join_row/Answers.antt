use Rattle.std.proofs.Common.{rules}
use Rattle.split.specs.Nine.{extent_at, join_row_lem}
use Rattle.split.proofs.Made.{made}
use Rattle.split.proofs.nine.Nine.join_row.Goals as goal

pub returns : goal.returns
unfolding join_row_lem
returns g c = made _ _ (λ k. g.M.Measured.measure (g.M.Extent.joined (extent_at c.args.self.now c.args.i) (extent_at c.args.self.now k))) (λ i y q e. search rules) 0 _ 9 c.from_fn.ensures.items
