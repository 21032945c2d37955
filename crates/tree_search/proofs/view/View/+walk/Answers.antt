use Rattle.std.proofs.Common.{◌≡◌, suc, ◌-◌, ◌<◌, [], ◌∷◌, get_or, length, sym, ap, ◌∙◌, subst, arith}
use Rattle.node_rows.specs.Rows.{row}
use Rattle.node_rows.specs.Walks.{codes_below}
use Rattle.node_rows.proofs.Found.{put_none, codes_missed, codes_leaf, codes_inner, walked_more}
use Rattle.tree_search.proofs.view.View.+walk.Goals as goal
use Rattle.tree_search.proofs.view.View.+walk.Goals.{then-passes+then-height-eq0, then-passes+else-height-eq0, else-passes}

pub loop-item-preserved : goal.loop-item-preserved
loop-item-preserved g t c =
    let places = c.args.self.now.places.now in
    let counts = c.args.self.now.counts.now in
    let f = row places counts in
    let h = c.args.height in
    let at = c.args.at in
    let i = c.loop-item.item-index in
    let d = c.item-item.result in
    let test = g.Q.Query.passing c.args.query.now in
    let is = c.entries-item-items.ensures in
    let l : i < length (f at) = subst (λ xs. i < length xs) is c.loop-item-test.true in
    let e : d ≡ get_or (f at) i d = subst (λ xs. d ≡ get_or xs i d) is c.item-item.is in
    let before = c.loop-item.found in
    let after = c.if-passes.found in
    let turn = walked_more f test h at i d l e c.args.found.now.list.now before.list.now after.list.now c.args.found.now.count before.count after.count in
    elim c.if-passes.branch [
      | then-passes+then-height-eq0 w ↦ record {
        put = turn (d.code ∷ []) (codes_leaf f test h d w.if-height-eq0.true (sym w.if-passes.ensures)) c.loop-item.invariant.put
            record { count = ap (λ z. z.count) w.found-is ∙ w.push.ensures.count; wrote = ap (λ z. z.list.now) w.found-is ∙ w.push.ensures.wrote };
        lent = ap (λ z. z.list.ghost_name) w.found-is ∙ w.push.ensures.lent ∙ c.loop-item.invariant.lent;
      }
      | then-passes+else-height-eq0 w ↦ record {
        put =
            let s : h ≡ suc (h - 1) = omega (arith, w.if-height-eq0.false) in
            turn (codes_below test places counts (h - 1) d.code) (codes_inner f test h (h - 1) d s (sym w.if-passes.ensures)) c.loop-item.invariant.put
            record { count = ap (λ z. z.count) w.found-is ∙ w.walk.ensures.count; wrote = ap (λ z. z.list.now) w.found-is ∙ w.walk.ensures.wrote };
        lent = ap (λ z. z.list.ghost_name) w.found-is ∙ w.walk.ensures.lent ∙ c.loop-item.invariant.lent;
      }
      | else-passes w ↦ record {
        put =
            let none = put_none before.list.now before.count before.within in
            turn [] (codes_missed f test h d (sym w.if-passes.ensures)) c.loop-item.invariant.put
            record { count = ap (λ z. z.count) w.found-is ∙ none.count; wrote = ap (λ z. z.list.now) w.found-is };
        lent = ap (λ z. z.list.ghost_name) w.found-is ∙ c.loop-item.invariant.lent;
      }
    ]
