-- The sides of a sheet, and its tiles. Assumes nothing.
use Rattle.std.specs.Prelude.{◌≡◌, ℕ, ◌+◌, ◌*◌, ◌/◌, ◌%◌, ◌≤◌, Ok, Err, Result}
use Rattle.basics.specs.declared.size.Size.{Size}
use Rattle.basics.specs.declared.refusal.Refusal.{Refusal}
use Rattle.basics.specs.Refusals.{number}

-- a side has 1 to 256 pixels
pub record Side (n : ℕ) : Type 0 where
  pub some : 1 ≤ n
  pub limit : n ≤ 256

-- two sides make a size; 3 refuses where one is none
abbrev pub SizeOf : ℕ → ℕ → Result Size Refusal → Type 0
SizeOf w h (Ok s) = (Side w × Side h) × ((s.width ≡ w) × (s.height ≡ h))
SizeOf w h (Err e) = (Side w × Side h → ⊥) × (number e ≡ 3)

-- how many tiles stand side by side: tiles are squares of 16 pixels, of which the last may reach past the sheet
abbrev pub across : ℕ → ℕ
across width = (width + 15) / 16

-- the number of the tile of pixel (x, y): row by row, from the left
abbrev pub tile_of : ℕ → ℕ → ℕ → ℕ
tile_of width x y = y / 16 * across width + x / 16

-- the place of pixel (x, y) in its tile: row by row, 16 to a row
abbrev pub place : ℕ → ℕ → ℕ
place x y = 16 * (y % 16) + x % 16
