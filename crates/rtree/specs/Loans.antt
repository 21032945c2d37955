-- What a call keeps of the memory that a struct has on loan. Assumes nothing.
use Rattle.std.specs.Prelude.{◌≡◌, List, length}
use Rattle.std.specs.Borrow.{MutBor}

-- the same places are lent, and as many
abbrev pub SameLoan : {X : Type 0} → MutBor (List X) → MutBor (List X) → Type 0
SameLoan places places' = (places'.ghost_name ≡ places.ghost_name) × (length places'.now ≡ length places.now)
