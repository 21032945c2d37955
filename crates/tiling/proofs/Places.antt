-- Inks at 256 places, one of them written. Assumes nothing.
use Rattle.std.proofs.Common.{ℕ, zero, suc, ◌≤◌, List, [], ◌∷◌, get_or, set}

-- all stay below a limit
pub set_small : (xs : List ℕ) (i v limit : ℕ) → v ≤ limit → ((k : ℕ) → get_or xs k 0 ≤ limit) → (k : ℕ) → get_or (set xs i v) k 0 ≤ limit
set_small [] i v limit h all k = all k
set_small (x ∷ xs) zero v limit h all zero = h
set_small (x ∷ xs) zero v limit h all (suc k) = all (suc k)
set_small (x ∷ xs) (suc i) v limit h all zero = all zero
set_small (x ∷ xs) (suc i) v limit h all (suc k) = set_small xs i v limit h (λ j. all (suc j)) k
