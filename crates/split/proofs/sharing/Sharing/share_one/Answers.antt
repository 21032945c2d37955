use Rattle.std.proofs.Common.{Some, None, ap, ◌∙◌}
use Rattle.quadratic.specs.Split.{shared_one}
use Rattle.quadratic.proofs.Turns.{goes_next}
use Rattle.split.specs.Nine.{extent_at}
use Rattle.split.specs.Sharing.{groups_of}
use Rattle.split.proofs.Letters.{free_alike, next_alike}
use Rattle.split.proofs.sharing.Sharing.share_one.Goals as goal

pub give-requires-clause-free : goal.give-requires-clause-free
give-requires-clause-free g c = free_alike c.args.self.letters c.in-Some.i c.in-Some.ensures.rule.free.1

pub returns-in-Some : goal.returns-in-Some
unfolding shared_one
returns-in-Some g c =
    let x = extent_at c.args.nine.now in
    let s = groups_of c.args.self in
    c.give.ensures ∙ ap (shared_one g.M.Measured.measure g.M.Extent.joined x s)
    (goes_next g.M.Measured.measure g.M.Extent.joined x s (Some c.in-Some.i) c.growths-a.result c.growths-b.result c.growths-a.ensures c.growths-b.ensures
    (c.in-Some.ensures.chosen ∙ next_alike c.growths-a.result c.growths-b.result c.args.self.letters 9))

pub returns-in-None : goal.returns-in-None
unfolding shared_one
returns-in-None g c =
    let x = extent_at c.args.nine.now in
    let s = groups_of c.args.self in
    ap (shared_one g.M.Measured.measure g.M.Extent.joined x s)
    (goes_next g.M.Measured.measure g.M.Extent.joined x s None c.growths-a.result c.growths-b.result c.growths-a.ensures c.growths-b.ensures
    (c.in-None.ensures.chosen ∙ next_alike c.growths-a.result c.growths-b.result c.args.self.letters 9))
