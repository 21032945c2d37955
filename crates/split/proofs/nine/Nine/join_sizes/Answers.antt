use Rattle.std.proofs.Common.{◌≡◌, ℕ, rules, [], ap, map, ◌∙◌, refl}
use Rattle.std.specs.List.{range_with_len}
use Rattle.quadratic.specs.Split.{join_sizes_lem}
use Rattle.split.specs.Nine.{extent_at, join_row_lem}
use Rattle.split.specs.Table.{table}
use Rattle.split.proofs.Made.{made}
use Rattle.split.proofs.nine.Nine.join_sizes.Goals as goal

rows : {E : Type 0} (size : E → ℕ) (join : E → E → E) (x : ℕ → E) → table (map (join_row_lem size join x) (range_with_len 0 9)) ≡ join_sizes_lem size join x
unfolding join_sizes_lem join_row_lem table
rows size join x = refl

pub returns : goal.returns
returns g c =
    let x = extent_at c.args.self.now in
    ap table (made _ _ (join_row_lem g.M.Measured.measure g.M.Extent.joined x) (λ i y q e. search rules) [] _ 9 c.from_fn.ensures.items) ∙ rows g.M.Measured.measure g.M.Extent.joined x
