-- Inks and their colours. Assumes nothing.
use Rattle.std.specs.Prelude.{◌≡◌, ℕ, ◌-◌, ◌*◌, ◌/◌, ◌%◌, ◌<◌, ◌≤◌, Ok, Err, Result}
use Rattle.basics.specs.declared.ink.Ink.{Ink}
use Rattle.basics.specs.declared.ink.colour.Colour.{Colour}
use Rattle.basics.specs.declared.refusal.Refusal.{Refusal}
use Rattle.basics.specs.Refusals.{number}

-- an ink is a number up to 15; 9 refuses any other
abbrev pub InkOf : ℕ → Result Ink Refusal → Type 0
InkOf v (Ok i) = (v ≤ 15) × (i.value ≡ v)
InkOf v (Err e) = (15 < v) × (number e ≡ 9)

-- a colour's part, by the ink's bit e of weight 8 and the part's own bit b
abbrev pub shade : ℕ → ℕ → ℕ
shade e b = 255 - 170 * b - 85 * e

-- the own bits of red, green and blue have the weights 4, 2 and 1
abbrev pub red_of : ℕ → ℕ
red_of k = shade (k / 8 % 2) (k / 4 % 2)

abbrev pub green_of : ℕ → ℕ
green_of k = shade (k / 8 % 2) (k / 2 % 2)

abbrev pub blue_of : ℕ → ℕ
blue_of k = shade (k / 8 % 2) (k / 1 % 2)

-- a colour is that of an ink
abbrev pub ColourOf : ℕ → Colour → Type 0
ColourOf ink c = (c.red ≡ red_of ink) × (c.green ≡ green_of ink) × (c.blue ≡ blue_of ink)
