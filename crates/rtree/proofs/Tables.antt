-- What a table of rows states, as the relations between rows take it, and a child read in it. Assumes nothing.
use Rattle.std.proofs.Common.{◌≡◌, ℕ, ◌+◌, ◌-◌, ◌*◌, ◌<◌, get_or, arith}
use Rattle.extent.specs.declared.entry.Entry.{Entry}
use Rattle.node_rows.specs.Rows.{row}
use Rattle.node_rows.specs.Nodes.{Ready, Placed}
use Rattle.node_rows.proofs.Children.{Child}
use Rattle.rtree.specs.declared.table.Table.{Table}

module _ {E : Type 0} (t : Table E) where
  pub ready : Ready t.places.now t.counts
  ready = record { long = t.long; wide = t.wide; within = t.within }

  -- what was read at place i of the row of an inner node
  pub child : {h at : ℕ} (i : ℕ) (d : Entry E) → (h ≡ 0 → ⊥) → Placed (row t.places.now t.counts) h at → i < get_or t.counts at 0 → d ≡ get_or t.places.now (8 * at + i) d
      → Child t.places.now t.counts h (h - 1) at i d
  child {h} {at} i d some placed within read = record { inner = omega arith; within = within; read = read; ready = ready; placed = placed }
