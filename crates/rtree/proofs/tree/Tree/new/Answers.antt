use Rattle.std.proofs.Common.{◌*◌, take, drop, refl, ap, arith}
use Rattle.guttman.specs.Shape.{least_root}
use Rattle.node_rows.specs.Rows.{row}
use Rattle.node_rows.proofs.Standings.{standing_new}
use Rattle.rtree.proofs.tree.Tree.new.Goals as goal

pub invariant_of-result : goal.invariant_of-result
invariant_of-result g c =
    let places = c.new.result.places.now in
    let zero = c.new.ensures.zero in
    record {
      wide = c.new.ensures.wide;
      within = λ q. omega (arith, zero q);
      standing = ∣ standing_new least_root (row places c.new.result.counts) refl (λ q. ap (λ n. take n (drop (8 * q) places)) (zero q)) ∣₁;
    }
