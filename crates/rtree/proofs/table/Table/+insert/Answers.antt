use Rattle.std.proofs.Common.{◌≡◌, ℕ, suc, ◌-◌, List, [], ◌∷◌, sym, refl, ap, ◌∙◌, slice_set, arith, subst₂}
use mathlib.Core.Path.{subst₃}
use Rattle.extent.specs.declared.entry.Entry.{Entry}
use Rattle.node_rows.specs.Rows.{row}
use Rattle.node_rows.specs.Nodes.{Dealt, Inserted}
use Rattle.node_rows.proofs.Children.{child_placed, live_count, live_both}
use Rattle.node_rows.proofs.Refines.{inserted_leaf, inserted_one, inserted_two}
use Rattle.rtree.proofs.Tables.{ready, child}
use Rattle.rtree.proofs.table.Table.+insert.Goals as goal

pub returns-then-node-eq0-clause-inserted : goal.returns-then-node-eq0-clause-inserted
returns-then-node-eq0-clause-inserted g t c =
    inserted_leaf g.M.Measured.measure g.M.Extent.joined (ready c.args.self.now) c.args.node.height c.if-node-eq0.true c.deal.ensures.dealt

pub overflow_cast-child : goal.overflow_cast-child
overflow_cast-child g t c =
    let p = child_placed (child c.args.self.now c.chosen-i.result c.entry.result c.if-node-eq0.false c.requires.placed c.chosen-i.ensures.below c.entry.ensures) in
    omega (arith, p.there)

pub insert-split-requires : goal.insert-split-requires
insert-split-requires g t c κs within =
    let h = c.args.node.height in
    let s : h ≡ suc (h - 1) = omega (arith, c.if-node-eq0.false) in
    let d = child c.args.self.now c.chosen-i.result c.entry.result c.if-node-eq0.false c.requires.placed c.chosen-i.ensures.below c.entry.ensures in
    (omega (arith, c.decreases, s), (within.0, (within.1, (child_placed d, omega (arith, c.requires.some, s)))))

pub bounds-requires-in-Some : goal.bounds-requires-in-Some
bounds-requires-in-Some g t c =
    let I = c.in-Some.ensures.inserted in
    let after = c.insert-split.new.self in
    live_count c.in-Some.new I.ready (live_both (row after.places.now after.counts) (c.args.node.height - 1) c.entry.result.code c.in-Some.new I.kept.live).1

pub returns-in-None-clause-inserted : goal.returns-in-None-clause-inserted
returns-in-None-clause-inserted g t c =
    let size = g.M.Measured.measure in
    let join = g.M.Extent.joined in
    let self = c.args.self.now in
    let d = child self c.chosen-i.result c.entry.result c.if-node-eq0.false c.requires.placed c.chosen-i.ensures.below c.entry.ensures in
    let I = c.in-None.ensures.inserted in
    let rs : List ℕ = c.entry.result.code ∷ [] in
    subst₂ (λ z w. Inserted self.places.now self.counts z w size join c.args.node.height c.args.node.row _ c.args.entry) (sym (c.write.ensures.stored ∙ ap (slice_set _ _) c.above-renewed.ensures)) (sym c.write.ensures.counted)
    (inserted_one size join d c.args.entry c.chosen-i.ensures.is I.ready rs I.kept I.memory c.bounds.result (c.bounds.ensures c.args.entry.extent) refl I.is I.spares)

pub returns-in-Some-clause-inserted : goal.returns-in-Some-clause-inserted
returns-in-Some-clause-inserted g t c =
    let size = g.M.Measured.measure in
    let join = g.M.Extent.joined in
    let d = child c.args.self.now c.chosen-i.result c.entry.result c.if-node-eq0.false c.requires.placed c.chosen-i.ensures.below c.entry.ensures in
    let I = c.in-Some.ensures.inserted in
    let new = c.in-Some.new in
    let rs : List ℕ = c.entry.result.code ∷ new ∷ [] in
    let after = c.deal-in-Some.new.self in
    let D : List (Entry g.row.M.Denot) → List ℕ → Entry g.row.M.Denot → Type 0 = λ z w e. Dealt z w after.places.now after.counts size join c.args.node.row c.deal-in-Some.result e in
    inserted_two size join d c.args.entry c.chosen-i.ensures.is I.ready rs I.kept I.memory c.bounds.result (c.bounds.ensures c.args.entry.extent)
    new c.bounds-in-Some.result refl (c.bounds-in-Some.ensures c.args.entry.extent) I.is I.spares after.places.now after.counts c.deal-in-Some.result
    (subst₃ D (c.write-in-Some.ensures.stored ∙ ap (slice_set _ _) c.above-renewed.ensures) c.write-in-Some.ensures.counted c.above-other.ensures c.deal-in-Some.ensures.dealt)
