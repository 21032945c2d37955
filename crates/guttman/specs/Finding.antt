-- What a walk down a tree comes to that goes below an entry only where its extent passes a test. Assumes nothing.
use Rattle.std.specs.Prelude.{◌≡◌, ℕ, zero, suc, Bool, true, cond, List, [], ◌∷◌, filter}
use Rattle.std.specs.List.{flat_map}
use Rattle.guttman.specs.Trees.{Item, Tree}

module _ {E : Type 0} (test : E → Bool) where
  -- what it comes to at an entry and under it, and in a tree
  abbrev pub reached_at : (h : ℕ) → E × Item E h → List (E × ℕ)
  reached_at zero p = cond (test p.0) (p ∷ []) []
  reached_at (suc h) p = cond (test p.0) (flat_map (reached_at h) p.1) []

  abbrev pub reached : (h : ℕ) → Tree E h → List (E × ℕ)
  reached h t = flat_map (reached_at h) t

  -- the pairs whose extent passes, in their order
  abbrev pub passing : List (E × ℕ) → List (E × ℕ)
  passing ps = filter (λ p. test p.0) ps

-- what covers an extent that passes the test passes it too
abbrev pub Upward : {E : Type 0} → (E → E → Bool) → (E → Bool) → Type 0
Upward {E} covering test = (c a : E) → covering c a ≡ true → test a ≡ true → test c ≡ true
