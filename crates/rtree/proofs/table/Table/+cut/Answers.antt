use Rattle.std.proofs.Common.{length, sym, subst, refl, ap, ◌∙◌, arith}
use Rattle.guttman.specs.Laws.{Joining}
use Rattle.node_rows.specs.Removal.{WasCut}
use Rattle.node_rows.proofs.Children.{child_placed}
use Rattle.node_rows.proofs.Removing.{cut_leaf_none, was_cut_leaf}
use Rattle.node_rows.proofs.Turning.{turn_of, missed_all, turn_child, turn_placed, turn_filled, turn_pairs, missed_apart, missed_below, turn_inside, turn_off, turn_left, turn_room, turn_found}
use Rattle.rtree.proofs.Tables.{ready}
use Rattle.rtree.proofs.table.Table.+cut.Goals as goal
use Rattle.rtree.proofs.table.Table.+cut.Goals.{then-covers+else-cut, else-covers}

pub returns-then-node-eq0-clause-found : goal.returns-then-node-eq0-clause-found
returns-then-node-eq0-clause-found g t c z =
    let self = c.args.self.now in
    let pair = c.args.pair.now in
    let node = c.args.node in
    let waiting = c.args.waiting.now in
    let after = c.cut_leaf.new.self in
    let found = c.cut_leaf.ensures.found z in
    subst (WasCut self.places.now self.counts after.places.now after.counts g.M.Measured.measure g.M.Extent.joined g.M.Extent.covering pair.extent pair.code node.height node.row waiting.pairs.now) (sym c.requires.none)
    (was_cut_leaf g.M.Measured.measure g.M.Extent.joined g.M.Extent.covering pair.extent pair.code self.places.now self.counts node.height node.row c.if-node-eq0.true _ waiting.pairs.now refl found.0 found.1)

pub returns-then-node-eq0-clause-missing : goal.returns-then-node-eq0-clause-missing
returns-then-node-eq0-clause-missing g t c z =
    let self = c.args.self.now in
    let pair = c.args.pair.now in
    let node = c.args.node in
    let missing = c.cut_leaf.ensures.missing z in
    (cut_leaf_none g.M.Measured.measure g.M.Extent.joined g.M.Extent.covering pair.extent pair.code self.places.now self.counts node.height node.row c.if-node-eq0.true missing.0, missing.1, missing.2, c.requires.none)

pub overflow_cast-child : goal.overflow_cast-child
overflow_cast-child g t c =
    let pair = c.args.pair.now in
    let inv = c.loop-i.invariant in
    let turn = turn_of (ready c.args.self.now) c.requires.placed c.if-node-eq0.false inv.same inv.counted c.loop-i-test.true c.entry-item.ensures in
    let kid = turn_child g.M.Measured.measure g.M.Extent.joined g.M.Extent.covering pair.extent pair.code turn in
    let p = child_placed kid in
    omega (arith, p.there)

pub cut-requires : goal.cut-requires
cut-requires g t c κs within =
    let pair = c.args.pair.now in
    let inv = c.loop-i.invariant in
    let turn = turn_of (ready c.args.self.now) c.requires.placed c.if-node-eq0.false inv.same inv.counted c.loop-i-test.true c.entry-item.ensures in
    let size = g.M.Measured.measure in
    let join = g.M.Extent.joined in
    let covering = g.M.Extent.covering in
    let few = turn_pairs size join covering pair.extent pair.code turn in (
      omega (arith, c.decreases, c.if-node-eq0.false),
      (
        within.0,
        (
          within.1,
          (
            turn_placed size join covering pair.extent pair.code turn,
            (
              turn_filled size join covering pair.extent pair.code turn c.requires.filled,
              (inv.none, omega (arith, few, c.requires.room, inv.kept.1)),
            ),
          ),
        ),
      ),
    )

pub settle-requires : goal.settle-requires
settle-requires g t c =
    let pair = c.args.pair.now in
    let inv = c.loop-i.invariant in
    let turn = turn_of (ready c.args.self.now) c.requires.placed c.if-node-eq0.false inv.same inv.counted c.loop-i-test.true c.entry-item.ensures in
    let size = g.M.Measured.measure in
    let join = g.M.Extent.joined in
    let covering = g.M.Extent.covering in
    let law = g.met.M.Extent in
    let laws : Joining join covering = record { reflexive = law.reflexive; transitive = law.transitive; left = law.above_left; right = law.above_right; least = law.least } in
    let found = c.cut.ensures.found c.if-cut.true in
    record {
      inside = turn_inside size join covering pair.extent pair.code turn found;
      placed = λ _. turn_left size join covering pair.extent pair.code turn found laws law.antisymmetric c.requires.filled;
      off = λ _. turn_off size join covering pair.extent pair.code turn found;
      room = turn_room size join covering pair.extent pair.code turn found laws law.antisymmetric c.requires.filled (length c.cut.new.waiting.pairs.now) (omega (arith, c.requires.room, inv.kept.1, c.cut.ensures.kept.1));
    }

pub returns-then-cut-clause-found : goal.returns-then-cut-clause-found
returns-then-cut-clause-found g t c _ =
    let pair = c.args.pair.now in
    let inv = c.loop-i.invariant in
    let turn = turn_of (ready c.args.self.now) c.requires.placed c.if-node-eq0.false inv.same inv.counted c.loop-i-test.true c.entry-item.ensures in
    turn_found g.M.Measured.measure g.M.Extent.joined g.M.Extent.covering pair.extent pair.code turn
    (c.cut.ensures.found c.if-cut.true) inv.missed (sym c.covers.ensures ∙ c.if-covers.true) c.settle.ensures.few c.settle.ensures.enough

pub loop-i-preserved : goal.loop-i-preserved
loop-i-preserved g t c =
    let pair = c.args.pair.now in
    let inv = c.loop-i.invariant in
    let turn = turn_of (ready c.args.self.now) c.requires.placed c.if-node-eq0.false inv.same inv.counted c.loop-i-test.true c.entry-item.ensures in
    let size = g.M.Measured.measure in
    let join = g.M.Extent.joined in
    let covering = g.M.Extent.covering in
    elim c.if-covers.branch [
      | then-covers+else-cut w ↦
          let missing = w.cut.ensures.missing w.if-cut.false in
          record {
            missed = missed_below size join covering pair.extent pair.code turn inv.missed (sym c.covers.ensures ∙ w.if-covers.true) missing.0;
            same = ap (λ z. z.places.now) w.self-is ∙ missing.1 ∙ inv.same;
            counted = ap (λ z. z.counts) w.self-is ∙ missing.2 ∙ inv.counted;
            none = ap (λ z. z.many) w.waiting-is ∙ missing.3;
            lent = (ap (λ z. z.places.ghost_name) w.self-is ∙ w.cut.ensures.lent.0 ∙ inv.lent.0, ap (λ z. length z.places.now) w.self-is ∙ w.cut.ensures.lent.1 ∙ inv.lent.1);
            kept = (ap (λ z. z.pairs.ghost_name) w.waiting-is ∙ w.cut.ensures.kept.0 ∙ inv.kept.0, ap (λ z. length z.pairs.now) w.waiting-is ∙ w.cut.ensures.kept.1 ∙ inv.kept.1);
          }
      | else-covers w ↦ record {
        missed = missed_apart size join covering pair.extent pair.code turn inv.missed (sym c.covers.ensures ∙ w.if-covers.false);
        same = ap (λ z. z.places.now) w.self-is ∙ inv.same;
        counted = ap (λ z. z.counts) w.self-is ∙ inv.counted;
        none = ap (λ z. z.many) w.waiting-is ∙ inv.none;
        lent = (ap (λ z. z.places.ghost_name) w.self-is ∙ inv.lent.0, ap (λ z. length z.places.now) w.self-is ∙ inv.lent.1);
        kept = (ap (λ z. z.pairs.ghost_name) w.waiting-is ∙ inv.kept.0, ap (λ z. length z.pairs.now) w.waiting-is ∙ inv.kept.1);
      }
    ]

pub returns-clause-missing : goal.returns-clause-missing
returns-clause-missing g t c _ =
    let pair = c.args.pair.now in
    let inv = c.loop-i.invariant in
    (missed_all g.M.Measured.measure g.M.Extent.joined g.M.Extent.covering pair.extent pair.code (ready c.args.self.now) c.requires.placed c.if-node-eq0.false c.loop-i.i c.loop-i-test.false inv.missed, inv.same, inv.counted, inv.none)
