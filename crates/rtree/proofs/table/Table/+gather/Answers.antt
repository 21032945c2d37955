use Rattle.std.proofs.Common.{◌≡◌, ℕ, ◌+◌, ◌-◌, ◌*◌, ◌<◌, ◌≤◌, List, length, get_or, set, sym, refl, ap, ◌∙◌, subst, arith}
use mathlib.Core.Path.{subst₃}
use Rattle.extent.specs.declared.entry.Entry.{Entry}
use Rattle.guttman.specs.Shape.{pairs}
use Rattle.node_rows.specs.Rows.{row, below, used}
use Rattle.node_rows.specs.Nodes.{Placed}
use Rattle.node_rows.specs.Removal.{Freed, Gathered}
use Rattle.node_rows.proofs.RowSet.{get_or_row, count_row}
use Rattle.node_rows.proofs.Children.{child_placed}
use Rattle.node_rows.proofs.Gathering.{Walked, walked_none, walked_leaf, walked_leaf_room, walked_all, walked_placed, walked_inner, walked_room}
use Rattle.rtree.specs.declared.table.Table.{Table}
use Rattle.rtree.proofs.Tables.{ready, child}
use Rattle.rtree.proofs.table.Table.+gather.Goals as goal
use Rattle.rtree.proofs.table.Table.+gather.Goals.{then-node-eq0, else-node-eq0}

pub loop-i-init : goal.loop-i-init
loop-i-init g t c =
    let self = c.args.self.now in
    let waiting = c.args.waiting.now in
    record {
      walked = walked_none self.places.now self.counts c.args.node.height c.args.node.row waiting.pairs.now waiting.many;
      same = refl;
      lent = (refl, refl);
      kept = (refl, refl);
    }

-- there is room for the pair of the next entry of a leaf
module _ {E : Type 0} (t : Table E) (h at : ℕ) (again : List (Entry E)) (n i : ℕ) (counts₁ : List ℕ) (again₁ : List (Entry E)) (n₁ : ℕ) (d : Entry E) (there : at < 256)
    (within : i < get_or t.counts at 0) (read : d ≡ get_or t.places.now (8 * at + i) d) (walked : Walked t.places.now t.counts h at again n i counts₁ again₁ n₁) (leaf : h ≡ 0)
    (room : n + length (pairs h (below (row t.places.now t.counts) h at)) ≤ length again₁) where
  inside : i < length (row t.places.now t.counts at)
  inside = let z = count_row t.places.now t.counts (ready t) at there in omega arith

  same : get_or (row t.places.now t.counts at) i d ≡ d
  same = get_or_row t.places.now t.counts at i d within ∙ sym read

  free : n₁ < length again₁
  free = walked_leaf_room t.places.now t.counts h at again n i counts₁ again₁ n₁ (length again₁) d leaf inside same walked room

  more : Walked t.places.now t.counts h at again n (i + 1) counts₁ (set again₁ n₁ d) (n₁ + 1)
  more = walked_leaf t.places.now t.counts h at again n i counts₁ again₁ n₁ d leaf inside same free walked

pub push-requires : goal.push-requires
push-requires g t c =
    let now = c.loop-i.waiting in
    let inv = c.loop-i.invariant in
    let d = c.entry-item.result in
    let read = c.entry-item.ensures ∙ ap (λ ps. get_or ps (8 * c.args.node.row + c.loop-i.i) d) inv.same in
    free c.args.self.now c.args.node.height c.args.node.row c.args.waiting.now.pairs.now c.args.waiting.now.many c.loop-i.i c.loop-i.self.counts now.pairs.now now.many d c.requires.placed.there
    c.loop-i-test.true read inv.walked c.if-node-eq0.true (omega (arith, c.requires.room, inv.kept.1))

pub overflow_cast-child : goal.overflow_cast-child
overflow_cast-child g t c =
    let d = c.entry-item.result in
    let read = c.entry-item.ensures ∙ ap (λ ps. get_or ps (8 * c.args.node.row + c.loop-i.i) d) c.loop-i.invariant.same in
    let p = child_placed (child c.args.self.now c.loop-i.i d c.if-node-eq0.false c.requires.placed c.loop-i-test.true read) in
    omega (arith, p.there)

pub gather-requires : goal.gather-requires
gather-requires g t c κs within =
    let d = c.entry-item.result in
    let inv = c.loop-i.invariant in
    let counts = c.loop-i.self.counts in
    let waiting = c.loop-i.waiting in
    let k = c.args.node.height - 1 in
    let read = c.entry-item.ensures ∙ ap (λ ps. get_or ps (8 * c.args.node.row + c.loop-i.i) d) inv.same in
    let kid = child c.args.self.now c.loop-i.i d c.if-node-eq0.false c.requires.placed c.loop-i-test.true read in
    let old : List (Entry g.row.M.Denot) → Type 0 = λ ps. Placed (row ps counts) k d.code × (waiting.many + length (pairs k (below (row ps counts) k d.code)) ≤ length waiting.pairs.now) in
    (omega (arith, c.decreases, c.if-node-eq0.false), (within, subst old (sym inv.same) (walked_placed kid inv.walked, walked_room kid inv.walked (omega (arith, c.requires.room, inv.kept.1)))))

pub loop-i-preserved : goal.loop-i-preserved
loop-i-preserved g t c =
    let self = c.args.self.now in
    let again = c.args.waiting.now in
    let h = c.args.node.height in
    let at = c.args.node.row in
    let i = c.loop-i.i in
    let d = c.entry-item.result in
    let now = c.loop-i.self in
    let inv = c.loop-i.invariant in
    let read = c.entry-item.ensures ∙ ap (λ ps. get_or ps (8 * at + i) d) inv.same in
    let W : List ℕ → List (Entry g.row.M.Denot) → ℕ → Type 0 = λ x y z. Walked self.places.now self.counts h at again.pairs.now again.many (i + 1) x y z in
    elim c.if-node-eq0.branch [
      | then-node-eq0 w ↦
          let put = w.push.ensures in
          record {
            walked = subst₃ W (ap (λ z. z.counts) (sym w.self-is)) (sym (ap (λ z. z.pairs.now) w.waiting-is ∙ put.wrote)) (sym (ap (λ z. z.many) w.waiting-is ∙ put.counted))
                (more self h at again.pairs.now again.many i now.counts c.loop-i.waiting.pairs.now c.loop-i.waiting.many d c.requires.placed.there
                c.loop-i-test.true read inv.walked w.if-node-eq0.true (omega (arith, c.requires.room, inv.kept.1)));
            same = ap (λ z. z.places.now) w.self-is ∙ inv.same;
            lent = (ap (λ z. z.places.ghost_name) w.self-is ∙ inv.lent.0, ap (λ z. length z.places.now) w.self-is ∙ inv.lent.1);
            kept = (ap (λ z. z.pairs.ghost_name) w.waiting-is ∙ put.lent.0 ∙ inv.kept.0, ap (λ z. length z.pairs.now) w.waiting-is ∙ put.lent.1 ∙ inv.kept.1);
          }
      | else-node-eq0 w ↦
          let kid = child self i d w.if-node-eq0.false c.requires.placed c.loop-i-test.true read in
          let below-it = w.gather.ensures in
          let freed = subst (λ ps. Freed now.counts w.gather.new.self.counts (used (row ps now.counts) (h - 1) d.code)) inv.same below-it.freed in
          let gathered = subst (λ ps. Gathered c.loop-i.waiting.pairs.now c.loop-i.waiting.many w.gather.new.waiting.pairs.now w.gather.new.waiting.many (pairs (h - 1) (below (row ps now.counts) (h - 1) d.code))) inv.same below-it.gathered in
          record {
            walked = subst₃ W (ap (λ z. z.counts) (sym w.self-is)) (ap (λ z. z.pairs.now) (sym w.waiting-is)) (ap (λ z. z.many) (sym w.waiting-is)) (walked_inner kid inv.walked freed gathered);
            same = ap (λ z. z.places.now) w.self-is ∙ below-it.same ∙ inv.same;
            lent = (ap (λ z. z.places.ghost_name) w.self-is ∙ below-it.lent.0 ∙ inv.lent.0, ap (λ z. length z.places.now) w.self-is ∙ below-it.lent.1 ∙ inv.lent.1);
            kept = (ap (λ z. z.pairs.ghost_name) w.waiting-is ∙ below-it.kept.0 ∙ inv.kept.0, ap (λ z. length z.pairs.now) w.waiting-is ∙ below-it.kept.1 ∙ inv.kept.1);
          }
    ]

pub returns : goal.returns
returns g t c =
    let self = c.args.self.now in
    let again = c.args.waiting.now in
    let now = c.loop-i.self in
    let at = c.args.node.row in
    let n = count_row self.places.now self.counts (ready self) at c.requires.placed.there in
    let all = walked_all self.places.now self.counts c.args.node.height at again.pairs.now again.many c.loop-i.i now.counts c.loop-i.waiting.pairs.now c.loop-i.waiting.many
    (omega (arith, c.loop-i-test.false)) (omega (arith, c.requires.placed.there, now.wide)) c.loop-i.invariant.walked in
    record { same = c.loop-i.invariant.same; freed = all.0; gathered = all.1; lent = c.loop-i.invariant.lent; kept = c.loop-i.invariant.kept }
