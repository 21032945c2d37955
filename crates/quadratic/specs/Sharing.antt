-- What holds of the letters of nine entries, whatever their extents. The letter 65 is 'A' and 66 is 'B'. Assumes nothing.
use Rattle.std.specs.Prelude.{◌≡◌, ℕ, ◌+◌, ◌<◌, ◌≤◌, cond, ◌⊎◌, List, [], ◌∷◌, map, length, ◌==◌}
use Rattle.std.specs.List.{AllByRecursion}
use Rattle.quadratic.specs.Choosing.{NextOf, Seeds}
use Rattle.quadratic.specs.Split.{remaining, sizes, join_sizes_lem, growths, seeds, next, shared}

-- how many of the letters are v
abbrev pub tally : ℕ → List ℕ → ℕ
tally v [] = 0
tally v (l ∷ ls) = cond (l == v) 1 0 + tally v ls

-- one of the two letters
abbrev pub Lettered : ℕ → Type 0
Lettered l = (l ≡ 65) ⊎ (l ≡ 66)

-- nine are shared out: each is in one group, and either group has at least three
pub record SharedOut (ls : List ℕ) : Type 0 where
  pub nine : length ls ≡ 9
  pub grouped : AllByRecursion Lettered ls
  pub three_in_a : 3 ≤ tally 65 ls
  pub three_in_b : 3 ≤ tally 66 ls

-- the letters, where each entry that has none yet gets the letter v
abbrev pub filled : ℕ → List ℕ → List ℕ
filled v ls = map (λ l. cond (l == 0) v l) ls

-- as soon as the count of a group plus the remaining is three, all of them go to it
pub record RestToOne {E : Type 0} (size : E → ℕ) (join : E → E → E) (x : ℕ → E) (ls : List ℕ) : Type 0 where
  pub to_a : (n : ℕ) → n ≤ 7 → (shared size join x n).na + remaining (shared size join x n).na (shared size join x n).nb ≡ 3 → ls ≡ filled 65 (shared size join x n).letters
  pub to_b : (n : ℕ) → n ≤ 7 → (shared size join x n).nb + remaining (shared size join x n).na (shared size join x n).nb ≡ 3 → ls ≡ filled 66 (shared size join x n).letters

-- the seeds are the first of the pairs that are worst together, and in each turn the entry goes next whose growths differ most, the first
-- such
pub record ByTheRule {E : Type 0} (size : E → ℕ) (join : E → E → E) (x : ℕ → E) : Type 0 where
  pub worst_pair : Seeds (sizes size join x) (join_sizes_lem size join x) 81 (seeds size join x).0 (seeds size join x).1
  pub goes_next : (n : ℕ) → n < 7 → NextOf (growths size join x (shared size join x n).a) (growths size join x (shared size join x n).b) (shared size join x n).letters 9 (next size join x (shared size join x n))
