use Rattle.std.proofs.Common.{ℕ, ◌<◌, List, ◌++◌, ◌≢◌, get_or}
use Rattle.listing.specs.declared.word.Word.TheVariants as words
use Rattle.listing.specs.Words.{spelled}
use Rattle.listing.proofs.parse.first_word.Given as goal

abbrev pub invariant-loop-word : goal.invariant-loop-word
invariant-loop-word l = (k : ℕ) → k < l.word-index → (rest : List ℕ) → l.bytes ≢ spelled (get_or l.word-items k words.Sheet) ++ rest
