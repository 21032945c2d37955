-- An axis with ends, both included: it runs from first to last, and holds nothing if first is above last. Assumes nothing.
use Rattle.std.specs.Prelude.{ℕ, ◌+◌, ◌-◌, Bool, ◌&&◌, nat_le}

-- the axis a to b covers the axis c to d
abbrev pub spans : ℕ → ℕ → ℕ → ℕ → Bool
spans a b c d = nat_le a c && nat_le d b

-- the axis a to b meets the axis c to d
abbrev pub touches : ℕ → ℕ → ℕ → ℕ → Bool
touches a b c d = nat_le a d && nat_le c b

-- how many numbers the axis a to b holds
abbrev pub extent_of : ℕ → ℕ → ℕ
extent_of a b = b + 1 - a
