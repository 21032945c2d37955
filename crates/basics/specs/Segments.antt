-- The segment rule: which pixels of a glyph's cell the bits of its mask light. Assumes nothing.
use Rattle.std.specs.Prelude.{ℕ, zero, suc, ◌+◌, ◌-◌, ◌/◌, ◌%◌, ◌^◌, Bool, cond, ◌&&◌, ◌||◌, List, [], ◌∷◌, ◌==◌, nat_le}

-- the masks of the glyphs 0 to 15
abbrev pub masks : List ℕ
masks = 63 ∷ 6 ∷ 91 ∷ 79 ∷ 102 ∷ 109 ∷ 125 ∷ 7 ∷ 127 ∷ 111 ∷ 64 ∷ 128 ∷ 121 ∷ 115 ∷ 56 ∷ 62 ∷ []

-- the mask has the bit of that weight
abbrev pub has : ℕ → ℕ → Bool
has mask weight = mask / weight % 2 == 1

abbrev pub from_to : ℕ → ℕ → ℕ → Bool
from_to low high n = nat_le low n && nat_le n high

-- bits 1, 64 and 8 light columns 2 to 5 of rows 1, 7 and 13
abbrev pub bars : ℕ → ℕ → ℕ → Bool
bars mask i j = from_to 2 5 i && ((has mask 1 && j == 1) || ((has mask 64 && j == 7) || (has mask 8 && j == 13)))

-- an upper bit lights rows 2 to 6 of a column, and a lower one rows 8 to 12
abbrev pub posts : ℕ → ℕ → ℕ → ℕ → Bool
posts mask upper lower j = (has mask upper && from_to 2 6 j) || (has mask lower && from_to 8 12 j)

-- bit 128 lights rows 13 and 14 of column 7
abbrev pub point : ℕ → ℕ → ℕ → Bool
point mask i j = has mask 128 && (i == 7 && from_to 13 14 j)

-- the mask lights column i of row j; the posts of columns 1 and 6 have the bits 32 and 16, and 2 and 4
abbrev pub lights : ℕ → ℕ → ℕ → Bool
lights mask i j = bars mask i j || ((i == 1 && posts mask 32 16 j) || ((i == 6 && posts mask 2 4 j) || point mask i j))

-- the weights of the first n columns that a row lights; column i has the weight 2 ^ (7 - i)
abbrev pub weights : (ℕ → Bool) → ℕ → ℕ
weights lit zero = 0
weights lit (suc n) = weights lit n + cond (lit n) (2 ^ (7 - n)) 0

-- the byte of row j under a mask
abbrev pub row_byte : ℕ → ℕ → ℕ
row_byte mask j = weights (λ i. lights mask i j) 8
