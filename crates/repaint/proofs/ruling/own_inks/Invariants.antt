use Rattle.std.proofs.Common.{◌≡◌, ℕ, ◌<◌, ◌≤◌, length, get_or}
use Rattle.std.specs.Option.{option_map}
use Rattle.painting.specs.Scenes.{item, at_number}
use Rattle.tiling.specs.Found.{shape_or_none}
use Rattle.repaint.proofs.ruling.own_inks.Given as goal

abbrev pub invariant-loop-number : goal.invariant-loop-number
invariant-loop-number l = record {
  own : (k : ℕ) → k < length l.yielded → get_or l.inks.values k 0 ≡ shape_or_none (option_map item (at_number l.shapes k)) (λ own. own);
  left : (k : ℕ) → length l.yielded ≤ k → get_or l.inks.values k 0 ≡ 0;
}
