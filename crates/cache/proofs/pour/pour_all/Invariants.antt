use Rattle.std.proofs.Common.{◌≡◌, ℕ, ◌<◌, length, None}
use Rattle.cache.specs.Slots.{tile_at, Apart}
use Rattle.cache.specs.Cached.{cached}
use Rattle.handing.specs.Given.{Given}
use Rattle.cache.proofs.pour.pour_all.Given as goal

abbrev pub invariant-loop-slot : goal.invariant-loop-slot
invariant-loop-slot g l = record {
  quiet : Given (λ u v. None) (cached l.initial.slot-items (g.S.Surface.view l.initial.below)) (cached l.slot-items (g.S.Surface.view l.below));
  free : (i : ℕ) → i < l.slot-index → tile_at l.slot-items i ≡ None;
  four : length l.slot-items ≡ 4;
  apart : Apart l.slot-items;
}
