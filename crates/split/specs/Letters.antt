-- The letters as numbers, as the definition of the split has them. Assumes nothing.
use Rattle.std.specs.Prelude.{ℕ, List, map, Some, None, Option}
use Rattle.split.specs.declared.letter.Letter.{Letter}
use Rattle.split.specs.declared.letter.Letter.TheVariants.{A, B}

abbrev pub code_of : Letter → ℕ
code_of A = 65
code_of B = 66

-- the letters so far, with 0 for an entry that has none yet
abbrev pub code_so_far : Option Letter → ℕ
code_so_far None = 0
code_so_far (Some l) = code_of l

abbrev pub codes : List (Option Letter) → List ℕ
codes ls = map code_so_far ls

-- the same of letters of any kind, with 1 for each
abbrev pub mark : {L : Type 0} → Option L → ℕ
mark None = 0
mark (Some l) = 1

abbrev pub marks : {L : Type 0} → List (Option L) → List ℕ
marks ls = map mark ls
