-- What a surface holds and shows: its sides, and three facts for each of its pixels. What the functions
-- give outside the sides means nothing. Assumes nothing.
use Rattle.std.specs.Prelude.{◌≡◌, ℕ, ◌<◌, ◌≤◌, Bool, false}

pub record Picture : Type 0 where
  pub wide : ℕ
  pub high : ℕ
  -- the ink that the pixel was last given
  pub taken : ℕ → ℕ → ℕ
  -- the ink that it shows
  pub shown : ℕ → ℕ → ℕ
  -- whether it may still show another than the taken one
  pub waits : ℕ → ℕ → Bool

-- (x, y) is one of the picture's pixels
pub record On (p : Picture) (x y : ℕ) : Type 0 where
  pub column : x < p.wide
  pub row : y < p.high

-- the sides are at most 256, and a pixel that does not wait shows its taken ink
pub record Lawful (p : Picture) : Type 0 where
  pub narrow : p.wide ≤ 256
  pub low : p.high ≤ 256
  pub still : (x y : ℕ) → On p x y → p.waits x y ≡ false → p.shown x y ≡ p.taken x y

-- q has the sides of p
pub record SameSides (p q : Picture) : Type 0 where
  pub wide : q.wide ≡ p.wide
  pub high : q.high ≡ p.high
