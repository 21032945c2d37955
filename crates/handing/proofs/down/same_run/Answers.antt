use Rattle.std.proofs.Common.{◌≡◌, ◌+◌, ◌-◌, ◌%◌, arith, rules}
use Rattle.std.proofs.lemmas.Iterator.{first_from_Range}
use Rattle.handing.proofs.Runs.{same_until}
use Rattle.handing.proofs.down.same_run.Goals as goal

pub returns-clause-same : goal.returns-clause-same
returns-clause-same g c j from to =
    let inks = g.T.Tile.inks c.args.tile.now in
    let k = c.args.k in
    same_until inks k (16 - k % 16) _ (λ n. Unit {0})
    (first_from_Range _ _ _ _ (λ n. Unit {0}) (λ n. inks (k + n) ≡ inks k) c.find.ensures.ran (λ x q e. tt) (λ x q e. search rules))
    j
    from
    (omega (arith, c.unwrap_or.ensures))
