-- A picture in characters. Assumes nothing.
use Rattle.std.specs.Prelude.{ℕ, ◌+◌, ◌%◌, cond, List, [], map, ◌==◌, nat_lt}
use Rattle.std.specs.List.{range_with_len}
use Rattle.surface.specs.Picture.{Picture}

-- an ink as a character: a point for 0, else one lowercase hexadecimal digit
abbrev pub digit_of : ℕ → ℕ
digit_of n = cond (n == 0) 46 (cond (nat_lt n 10) (48 + n) (87 + n))

-- of a number above 15, that of its lowest four bits
abbrev pub letter_of : ℕ → ℕ
letter_of ink = digit_of (ink % 16)

-- row y of a picture in characters, where it has that row
abbrev pub row_text : Picture → ℕ → List ℕ
row_text p y = cond (nat_lt y p.high) (map (λ x. letter_of (p.taken x y)) (range_with_len 0 p.wide)) []
