-- The nine extents that are shared out: those of a row's entries, and in each place after them one more. Assumes nothing.
use Rattle.std.specs.Prelude.{ℕ, List, map, slice_index_or}
use Rattle.std.specs.List.{range_with_len}
use Rattle.extent.specs.declared.entry.Entry.{Entry}
use Rattle.split.specs.declared.nine.Nine.{Nine}

abbrev pub nine : {E : Type 0} → List (Entry E) → E → ℕ → E
nine es last i = slice_index_or (map (λ e. e.extent) es) i last

-- the same, of the row and the extent that the code keeps together
abbrev pub extent_at : {E : Type 0} → Nine E → ℕ → E
extent_at n = nine n.row.now n.last

-- the sizes of the joins of the extent at place i with each of the nine
unfoldable pub join_row_lem : {E : Type 0} → (E → ℕ) → (E → E → E) → (ℕ → E) → ℕ → List ℕ
join_row_lem size join x i = map (λ j. size (join (x i) (x j))) (range_with_len 0 9)
