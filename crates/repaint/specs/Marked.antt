-- Which numbers are marked. Assumes nothing.
use Rattle.std.specs.Prelude.{ℕ, Bool, false, ◌&&◌, nat_lt, slice_index_or}
use Rattle.repaint.specs.declared.marks.Marks.{Marks}

-- n is marked; no number above 255 is
abbrev pub marked : Marks → ℕ → Bool
marked m n = nat_lt n 256 && slice_index_or m.flags n false
