-- What a table holds. Assumes nothing.
use Rattle.std.specs.Prelude.{ℕ, List}
use Rattle.extent.specs.declared.entry.Entry.{Entry}
use Rattle.node_rows.specs.Rows.{row}
use Rattle.rtree.specs.declared.table.Table.{Table}

-- the entries of each of its rows
abbrev pub rows_in : {E : Type 0} → Table E → ℕ → List (Entry E)
rows_in t = row t.places.now t.counts
