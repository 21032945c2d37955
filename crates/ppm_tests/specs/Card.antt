-- The picture of a card. Assumes nothing.
use Rattle.std.specs.Prelude.{◌≡◌, ℕ, ◌+◌, ◌*◌, false, List, slice_index, refl}
use Rattle.std.proofs.Common.{arith}
use Rattle.surface.specs.Picture.{Picture, Lawful}
use Rattle.ppm_tests.specs.declared.card.Card.{Card}

-- 3 by 2 pixels, row after row
abbrev pub pictured : Card → Picture
pictured c = record {
  wide = 3;
  high = 2;
  taken = λ x y. slice_index c.inks (3 * y + x);
  shown = λ x y. slice_index c.inks (3 * y + x);
  waits = λ x y. false;
}

-- it is small, and shows each ink at once
pub pictured_lawful : (c : Card) → Lawful (pictured c)
pictured_lawful c = record { narrow = omega arith; low = omega arith; still = λ x y _ _. refl }
