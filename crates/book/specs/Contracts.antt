-- What the calls of a sheet promise, by what they return. b is the book before a call and b' after it, p and q are the pictures of its
-- surface, r is what it returns. Assumes nothing.
use Rattle.std.specs.Prelude.{◌≡◌, ℕ, ◌≤◌, List, [], length, take, drop, Some, None, Ok, Err, Option, Result}
use Rattle.raster.specs.declared.refusal.Refusal.{Refusal}
use Rattle.raster.specs.Refusals.{number}
use Rattle.surface.specs.Picture.{Picture}
use Rattle.book.specs.Book.{Book, Rooms, Call, opening, refreshing}
use Rattle.book.specs.Past.{Event, Past, Step}
use Rattle.book.specs.Rules.{KeepsTheRules}

-- the number of a refusal, if there was one
abbrev pub refused : {A : Type 0} → Result A Refusal → Option ℕ
refused (Ok a) = None
refused (Err e) = Some (number e)

-- an open, with so many rows
abbrev pub Opens : Book → Picture → ℕ → ℕ → Rooms → Result Unit Refusal → Book → Picture → Type 0
Opens b p width height rooms r b' q = Step b p (opening width height rooms p.wide p.high) (refused r) b' q []

-- a call that has no surface: whatever its picture is, it stays
abbrev pub Edits : Book → Call → Result Unit Refusal → Book → Type 0
Edits b c r b' = (p : Picture) → Step b p c (refused r) b' p []

-- the tiles that a refresh wrote into its report
abbrev pub reported : Result ℕ Refusal → List ℕ → List ℕ
reported (Ok n) report = take n report
reported (Err e) report = []

-- later entries of the report remain, and after a refusal all of them
abbrev pub RestRemains : Result ℕ Refusal → List ℕ → List ℕ → Type 0
RestRemains (Ok n) old new = (n ≤ length old) × (drop n new ≡ drop n old)
RestRemains (Err e) old new = new ≡ old

-- a refresh, whose report held the list old and then new
pub record Refreshes (b : Book) (p : Picture) (old : List ℕ) (r : Result ℕ Refusal) (b' : Book) (q : Picture) (new : List ℕ) : Type 0 where
  pub step : Step b p (refreshing p.wide p.high (length old)) (refused r) b' q (reported r new)
  pub rest : RestRemains r old new

-- an accepted refresh keeps the rules in the past of the log
abbrev pub RulesAfter : List Event → Result ℕ Refusal → Book → Picture → List ℕ → Type 0
RulesAfter log (Ok n) b q report = KeepsTheRules log b (take n report) q
RulesAfter log (Err e) b q report = Unit {0}

-- so it does in every past that leads to the book b and the picture p
abbrev pub ShowsNoStaleInk : Book → Picture → Result ℕ Refusal → Book → Picture → List ℕ → Type 0
ShowsNoStaleInk b p r b' q report = (log : List Event) → Past log b p → RulesAfter log r b' q report
