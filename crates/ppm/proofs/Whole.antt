-- A whole frame, part by part. Assumes nothing.
use Rattle.std.proofs.Common.{◌≡◌, ℕ, ◌+◌, List, [], ◌++◌, length, take, sym, refl, ap, ◌∙◌, ap₂}
use Rattle.std.proofs.Math.Seq.{take-append_seam}
use Rattle.std.proofs.lemmas.List.{flat_map_more}
use Rattle.std.specs.List.{range_with_len, flat_map}
use Rattle.surface.specs.Picture.{Picture}
use Rattle.ppm.specs.Frames.{row_bytes_lem, over, rows_bytes}
use Rattle.ppm.proofs.Writes.{over_front}
use Rattle.ppm.proofs.Rows.{counting_more}

-- the front of what was written
pub front_written : (part bytes rest : List ℕ) (n : ℕ) → part ≡ bytes ++ rest → n ≡ length bytes → take n part ≡ bytes
front_written part bytes rest n e l = ap₂ take l e ∙ take-append_seam bytes rest

-- the front that was written over a list
pub front_over : (old bytes : List ℕ) {part : List ℕ} {n : ℕ} → n ≡ length bytes → part ≡ over old 0 bytes → take n part ≡ bytes
front_over old bytes l e = front_written _ bytes _ _ (e ∙ over_front old bytes) l

pub rows_none : (p : Picture) → rows_bytes p 0 ≡ []
unfolding rows_bytes
rows_none p = refl

pub rows_more : (p : Picture) (n : ℕ) → rows_bytes p (n + 1) ≡ rows_bytes p n ++ row_bytes_lem p n
unfolding rows_bytes
rows_more p n = ap (flat_map (row_bytes_lem p)) (counting_more n) ∙ sym (flat_map_more (row_bytes_lem p) [] (range_with_len 0 n) n)
