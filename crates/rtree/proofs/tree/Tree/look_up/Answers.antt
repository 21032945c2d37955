use Rattle.std.proofs.Common.{◌≤◌, length, arith}
use Rattle.node_rows.proofs.Standings.{standing_out}
use Rattle.node_rows.proofs.Found.{finds_all}
use Rattle.node_rows.proofs.Few.{finds_reached}
use Rattle.rtree.specs.Held.{tree_of, pairs_of}
use Rattle.rtree.proofs.tree.Tree.look_up.Goals as goal

pub returns : goal.returns
returns g c =
    let self = c.args.self.now in
    let query = c.args.query.now in
    let test = g.Q.Query.passing query in
    let s = standing_out self.standing in
    let look = c.look_up in
    let room : length (pairs_of self) ≤ length c.args.list.now = omega (arith, s.count, s.few) in
    record {
      rows = omega arith;
      room = omega arith;
      walked = finds_reached test self.root.height (tree_of self) c.args.list.now look.new.list look.result room look.ensures.count look.ensures.wrote;
      all = λ w. finds_all g.E.Extent.covering test (g.met.Q.Query.upward query) self.root.height (tree_of self) w.tight c.args.list.now look.new.list look.result room look.ensures.count look.ensures.wrote;
    }
