-- What head and row answer, and what they leave in the output, which held old before and holds new after. Assumes nothing.
use Rattle.std.specs.Prelude.{◌≡◌, ℕ, ◌*◌, ◌<◌, ◌≤◌, ◌⊎◌, List, [], ◌++◌, length, drop, Ok, Err, Result}
use Rattle.raster.specs.declared.refusal.Refusal.{Refusal}
use Rattle.raster.specs.Refusals.{number}
use Rattle.raster.specs.Sizes.{Side}
use Rattle.surface.specs.Picture.{Picture}
use Rattle.ppm.specs.Frames.{head_bytes, row_bytes_lem, frame_bytes}

-- both sides are sides, there is room for the longest head, and the head of n bytes stands before what is kept
pub record HeadMade (w h : ℕ) (old : List ℕ) (n : ℕ) (new : List ℕ) : Type 0 where
  pub sides : Side w × Side h
  pub room : 15 ≤ length old
  pub answer : n ≡ length (head_bytes w h)
  pub least : 11 ≤ n
  pub most : n ≤ 15
  pub bytes : new ≡ head_bytes w h ++ drop n old

-- 3 refuses a side outside 1 to 256, then 32 an output of fewer than 15 bytes
abbrev pub HeadRefused : ℕ → ℕ → List ℕ → ℕ → Type 0
HeadRefused w h old k = ((Side w × Side h → ⊥) × (k ≡ 3)) ⊎ ((Side w × Side h) × (length old < 15) × (k ≡ 32))

-- head makes the head and answers n, or refuses and leaves the output as it was
abbrev pub Headed : ℕ → ℕ → List ℕ → Result ℕ Refusal → List ℕ → Type 0
Headed w h old (Ok n) new = HeadMade w h old n new
Headed w h old (Err e) new = HeadRefused w h old (number e) × (new ≡ old)

-- the surface has the row, there is room for it, and its n bytes stand before what is kept
pub record RowMade (p : Picture) (y : ℕ) (old : List ℕ) (n : ℕ) (new : List ℕ) : Type 0 where
  pub there : y < p.high
  pub room : 3 * p.wide ≤ length old
  pub answer : n ≡ 3 * p.wide
  pub bytes : new ≡ row_bytes_lem p y ++ drop n old

-- 10 refuses a row that the surface does not have, then 32 an output of fewer than 3 bytes a pixel
abbrev pub RowRefused : Picture → ℕ → List ℕ → ℕ → Type 0
RowRefused p y old k = ((p.high ≤ y) × (k ≡ 10)) ⊎ ((y < p.high) × (length old < 3 * p.wide) × (k ≡ 32))

-- row makes the row and answers n, or refuses and leaves the output as it was
abbrev pub Rowed : Picture → ℕ → List ℕ → Result ℕ Refusal → List ℕ → Type 0
Rowed p y old (Ok n) new = RowMade p y old n new
Rowed p y old (Err e) new = RowRefused p y old (number e) × (new ≡ old)

-- the frame of a picture whose sides are sides, and nothing of any other
pub record Framed (p : Picture) (bytes : List ℕ) : Type 0 where
  pub whole : Side p.wide → Side p.high → bytes ≡ frame_bytes p
  pub empty : (Side p.wide × Side p.high → ⊥) → bytes ≡ []
