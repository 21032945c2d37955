use Rattle.std.proofs.Common.{◌∷◌, rules, tests}
use Rattle.std.proofs.lemmas.Iterator.{YieldsList-from_slice, items_from_drains}
use Rattle.std.proofs.lemmas.Iterator.Consumers.{YieldsList-from_enumerate, YieldsList-at}
use Rattle.node_rows.proofs.Picks.{chosen}
use Rattle.rtree.proofs.pick.choose.Goals as goal

pub returns-clause-is : goal.returns-clause-is
returns-clause-is g c =
    let r = c.in-Some.ensures.ran in
    let road = YieldsList-from_enumerate (YieldsList-at c.enumerate.ensures.source (YieldsList-from_slice c.args.row.now c.iter.ensures.rest)) c.enumerate.ensures.count in
    let d = r.5 in
    chosen g.M.Measured.measure g.M.Extent.joined c.args.e c.args.row.now _ _ (λ x k f h. search (rules, tests)) r.0 r.1 (items_from_drains (r.0 ∷ r.1) (d.1.0, d.1.1, λ _. (d.0, d.1.2)) road) r.3 r.2 r.6 (r.4, _) r.7
