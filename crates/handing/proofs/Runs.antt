-- The places of a tile along a run. Assumes nothing.
use Rattle.std.proofs.Common.{◌≡◌, ℕ, ◌+◌, ◌-◌, ◌<◌, ◌≤◌, Some, None, Option, unwrap_or, ap, ◌∙◌, ⊎_elim, arith}
use Rattle.std.specs.Option.{MatchOption}
use Rattle.std.proofs.lemmas.Bool.{cases_eq}

-- the places up to the first that differs from place k, or up to the end of the row where none does, are as place k is
pub same_until : (inks : ℕ → Option ℕ) (k room : ℕ) (found : Option ℕ) (Other : ℕ → Type 0)
    → MatchOption found ((m : ℕ) → 1 ≤ m → m < room → inks (k + m) ≡ inks k) (λ n. (1 ≤ n) × (n < room) × Other n × ((m : ℕ) → 1 ≤ m → m < n → inks (k + m) ≡ inks k))
    → (j : ℕ) → k ≤ j → j < k + unwrap_or found room → inks j ≡ inks k
same_until inks k room found Other h j from to = go found h to
  where
    back : k + (j - k) ≡ j
    back = omega arith

    at : (n : ℕ) → j < k + n → ((m : ℕ) → 1 ≤ m → m < n → inks (k + m) ≡ inks k) → inks j ≡ inks k
    at n l all = ⊎_elim (λ e. ap inks e) (λ e. ap inks (omega (arith, back)) ∙ all (j - k) (omega (arith, e)) (omega arith)) (cases_eq j k)

    go : (o : Option ℕ) → MatchOption o ((m : ℕ) → 1 ≤ m → m < room → inks (k + m) ≡ inks k) (λ n. (1 ≤ n) × (n < room) × Other n × ((m : ℕ) → 1 ≤ m → m < n → inks (k + m) ≡ inks k)) → j < k + unwrap_or o room → inks j ≡ inks k
    go None all l = at room l all
    go (Some n) p l = at n l p.3
