-- The number of each refusal. Assumes nothing.
use Rattle.std.specs.Prelude.{◌≡◌, ℕ, Bool, true, false, Ok, Err, Result}
use Rattle.basics.specs.declared.refusal.Refusal.{Refusal}
use Rattle.basics.specs.declared.refusal.Refusal.TheVariants.{Blank, Opened, Sides, Rows, Size, Number, Used, Unused, Figures, Outside, Named, Frames, Report, Full, Missing, List, Surface, Room}

abbrev pub number : Refusal → ℕ
number Blank = 1
number Opened = 2
number Sides = 3
number Rows = 4
number Size = 5
number Number = 6
number Used = 7
number Unused = 8
number Figures = 9
number Outside = 10
number Named = 11
number Frames = 12
number Report = 13
number Full = 14
number Missing = 15
number List = 16
number Surface = 30
number Room = 32

-- accepted exactly where the test holds, and else refused with that number
abbrev pub Tested : Bool → ℕ → Result Unit Refusal → Type 0
Tested test n (Ok u) = test ≡ true
Tested test n (Err e) = (test ≡ false) × (number e ≡ n)
