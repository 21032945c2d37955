use Rattle.std.proofs.Common.{refl, inr, arith}
use Rattle.guttman.specs.Shape.{least_root}
use Rattle.guttman.specs.Laws.{Joining}
use Rattle.node_rows.specs.Nodes.{Ready}
use Rattle.node_rows.proofs.Standings.{standing_out, standing_room, standing_added, added_pairs, added_tight}
use Rattle.rtree.proofs.tree.Tree.insert.Goals as goal

pub returns-then-self-ge-MOST : goal.returns-then-self-ge-MOST
returns-then-self-ge-MOST g c =
    let self = c.args.self.now in
    let s = standing_out self.standing in
    record { answer = (inr (omega arith, omega (arith, s.few), refl), refl); lent = refl }

pub add-self-requires : goal.add-self-requires
add-self-requires g c =
    let self = c.args.self.now in
    let s = standing_out self.standing in
    let ready : Ready self.rows.places.now self.rows.counts = record { long = omega arith; wide = self.wide; within = self.within } in
    let room = standing_room least_root (λ h. omega arith) ready s in
    record { ready = ready; placed = s.placed; some = room.1; low = let d = room.0 in omega arith }

pub invariant_of-self : goal.invariant_of-self
invariant_of-self g c =
    let s = standing_out c.args.self.now.standing in
    let added = c.add-self.ensures.added in
    record {
      wide = added.ready.wide;
      within = added.ready.within;
      standing = ∣ standing_added g.E.Measured.measure g.E.Extent.joined least_root (λ h. omega arith) (λ h. omega arith) s added c.if-self-ge-MOST.false ∣₁;
    }

pub returns : goal.returns
returns g c =
    let size = g.E.Measured.measure in
    let join = g.E.Extent.joined in
    let covering = g.E.Extent.covering in
    let law = g.met.E.Extent in
    let laws : Joining join covering = record { reflexive = law.reflexive; transitive = law.transitive; left = law.above_left; right = law.above_right; least = law.least } in
    let s = standing_out c.args.self.now.standing in
    let added = c.add-self.ensures.added in
    let after = standing_added size join least_root (λ h. omega arith) (λ h. omega arith) s added c.if-self-ge-MOST.false in
    record {
      answer = record {
        rows = omega arith;
        room = c.if-self-ge-MOST.false;
        tree = added.is;
        stored = refl;
        pair = added_pairs size join least_root (λ h. omega arith) (λ h. omega arith) s added;
        formed = λ w. record { shape = after.shape; tight = added_tight size join least_root (λ h. omega arith) (λ h. omega arith) s added covering laws w.tight };
        apart = added.apart;
        long = c.add-self.ensures.long;
        memory = added.memory;
      };
      lent = c.add-self.ensures.lent;
    }
