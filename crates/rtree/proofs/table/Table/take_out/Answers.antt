use Rattle.std.proofs.Common.{◌-◌, get_or, set, sym, subst₂, ap, arith}
use Rattle.node_rows.specs.Removal.{TakenOut}
use Rattle.node_rows.proofs.Removing.{taken_out}
use Rattle.rtree.proofs.Tables.{ready}
use Rattle.rtree.proofs.table.Table.take_out.Goals as goal

pub returns-clause-taken : goal.returns-clause-taken
returns-clause-taken g c =
    let self = c.args.self.now in
    let at = c.args.at in
    let last = get_or self.counts at 0 - 1 in
    subst₂ (λ z w. TakenOut self.places.now self.counts z w at c.args.i) (sym c.write.ensures.stored) (sym (ap (λ z. set z at last) c.write.ensures.counted))
    (taken_out self.places.now self.counts at c.args.i last c.entry-moved.result (ready self) (omega arith) c.requires (omega arith) c.entry-moved.ensures)
