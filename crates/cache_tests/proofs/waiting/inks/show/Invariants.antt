use Rattle.std.proofs.Common.{◌≡◌, ℕ, ◌<◌}
use Rattle.cache_tests.specs.Waiting.{pixel}
use Rattle.cache_tests.proofs.waiting.inks.show.Given as goal

abbrev pub invariant-loop-pixel : goal.invariant-loop-pixel
invariant-loop-pixel l = record {
  taken : (k : ℕ) → (pixel l.pixel-items k).taken ≡ (pixel l.initial.pixel-items k).taken;
  shown : (k : ℕ) → k < l.pixel-index → (pixel l.pixel-items k).shown ≡ (pixel l.initial.pixel-items k).taken;
}
