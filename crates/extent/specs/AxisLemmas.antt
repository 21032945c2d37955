-- A join is no shorter than its parts, along each axis and so in size. Assumes nothing.
use Rattle.std.specs.Prelude.{ℕ, ◌*◌, ◌≤◌, min, max}
use Rattle.std.proofs.Common.{arith}
use Rattle.std.proofs.lemmas.Nat.{mul-le}
use Rattle.extent.specs.Axis.{extent_of}

pub axis_grows : (a b c d : ℕ) → extent_of a b ≤ extent_of (min a c) (max b d)
axis_grows a b c d = omega arith

pub area_grows : (a b c d e f g h : ℕ) → extent_of a b * extent_of e f ≤ extent_of (min a c) (max b d) * extent_of (min e g) (max f h)
area_grows a b c d e f g h = mul-le (extent_of a b) (extent_of e f) _ _ (axis_grows a b c d) (axis_grows e f g h)
