-- How figures are read from the front of some bytes. Assumes nothing.
use Rattle.std.specs.Prelude.{◌≡◌, ℕ, ◌<◌, ◌≤◌, List, ◌++◌, length, Some, None, decimal, Option, ◌≢◌, slice_index}
use Rattle.std.specs.Borrow.{Bor}
use Rattle.std.specs.Int.{IsInRange}
use Rattle.std.specs.Str.Parse.{digits_value}
use Rattle.listing.specs.Text.{spaced, Small}

-- the first n bytes are digits
abbrev pub Numeric : List ℕ → ℕ → Type 0
Numeric bytes n = (k : ℕ) → k < n → IsInRange 48 57 (slice_index bytes k)

-- no digit comes first
abbrev pub Ended : List ℕ → Type 0
Ended bytes = IsInRange 48 57 (slice_index bytes 0) → ⊥

-- the first n bytes are digits, and the next is none
pub record DigitsFront (bytes : List ℕ) (n : ℕ) : Type 0 where
  pub within : n ≤ length bytes
  pub digits : Numeric bytes n
  pub ended : IsInRange 48 57 (slice_index bytes n) → ⊥

-- the bytes are digits, and a rest that begins with none
pub record Parts (bytes ds rest : List ℕ) : Type 0 where
  pub whole : bytes ≡ ds ++ rest
  pub digits : Numeric ds (length ds)
  pub ended : Ended rest

-- the number that the digits write, if it is at most 65,535
abbrev pub NumberOf : List ℕ → Option ℕ → Type 0
NumberOf digits (Some n) = (digits_value 10 digits ≡ n) × (n ≤ 65535)
NumberOf digits None = 65535 < digits_value 10 digits

-- the bytes are those before, the digits of n, and a rest that begins with no digit
pub record Front (before bytes : List ℕ) (n : ℕ) (rest : List ℕ) : Type 0 where
  pub small : n ≤ 65535
  pub text : bytes ≡ before ++ (decimal n ++ rest)
  pub ended : Ended rest

-- a number and the rest are read exactly if there are such
abbrev pub Reads : List ℕ → List ℕ → Option (ℕ × Bor (List ℕ)) → Type 0
Reads before bytes (Some p) = Front before bytes p.0 p.1.now
Reads before bytes None = (n : ℕ) (rest : List ℕ) → Front before bytes n rest → ⊥

-- n figures are read exactly if the bytes are the text of n figures
abbrev pub FiguresOf : ℕ → List ℕ → Option (List ℕ) → Type 0
FiguresOf n bytes (Some ns) = (length ns ≡ n) × Small ns × (bytes ≡ spaced ns)
FiguresOf n bytes None = (ns : List ℕ) → length ns ≡ n → Small ns → bytes ≢ spaced ns
