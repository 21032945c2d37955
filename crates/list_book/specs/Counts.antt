-- How many pixels of a sheet an area has. Assumes nothing.
use Rattle.std.specs.Prelude.{ℕ, zero, suc, ◌+◌, Bool, cond}

-- how many numbers below n pass the test
unfoldable pub tally : (ℕ → Bool) → ℕ → ℕ
tally test zero = 0
tally test (suc n) = tally test n + cond (test n) 1 0

-- how many pixels of w columns and h rows lie in the area
unfoldable pub pixels_in : (ℕ → ℕ → Bool) → ℕ → ℕ → ℕ
pixels_in area w zero = 0
pixels_in area w (suc h) = pixels_in area w h + tally (λ x. area x h) w
