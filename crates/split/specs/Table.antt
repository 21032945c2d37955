-- A table of nine by nine as one list, row after row: the number in row i at place j stands at place 9 i + j. Assumes nothing.
use Rattle.std.specs.Prelude.{ℕ, ◌/◌, ◌%◌, List, [], map, slice_index, slice_index_or}
use Rattle.std.specs.List.{range_with_len}

unfoldable pub table : List (List ℕ) → List ℕ
table rows = map (λ m. slice_index (slice_index_or rows (m / 9) []) (m % 9)) (range_with_len 0 81)
