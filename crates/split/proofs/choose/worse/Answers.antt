use Rattle.quadratic.specs.Split.{worse}
use Rattle.split.proofs.Tables.{table_at}
use Rattle.split.proofs.choose.worse.Goals as goal

pub returns : goal.returns
unfolding worse
returns c =
    let here = table_at c.args.joins c.args.pair.0 c.args.pair.1 c.requires.pair.0 c.requires.pair.1 in
    let there = table_at c.args.joins c.args.best.0 c.args.best.1 c.requires.best.0 c.requires.best.1 in
    cc
