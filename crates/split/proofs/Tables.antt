-- Where a number of a table stands, and the worst pair when the pairs are gone through row by row. Assumes nothing.
use Rattle.std.proofs.Common.{◌≡◌, ℕ, zero, suc, ◌+◌, ◌*◌, ◌/◌, ◌%◌, ◌<◌, ◌≤◌, true, false, cond, ltb, List, [], get_or, sym, refl, ap, ap₂, ◌∙◌, arith}
use Rattle.std.proofs.lemmas.List.FromFn.{get_or-map-range_with_len}
use Rattle.std.proofs.lemmas.Bool.{le-ltb, lt-ltb}
use Rattle.quadratic.specs.Split.{worse, keep_worse, seeds_before}
use Rattle.split.specs.Table.{table}

pub table_at : (rows : List (List ℕ)) (i j : ℕ) → i < 9 → j < 9 → get_or (table rows) (9 * i + j) 0 ≡ get_or (get_or rows i []) j 0
unfolding table
table_at rows i j low small =
    let row : (9 * i + j) / 9 ≡ i = omega arith in
    let place : (9 * i + j) % 9 ≡ j = omega arith in
    get_or-map-range_with_len (λ m. get_or (get_or rows (m / 9) []) (m % 9) 0) 0 81 (9 * i + j) (9 * i + j) 0 (omega arith) (omega arith)
    ∙ ap₂ (λ k l. get_or (get_or rows k []) l 0) row place

module _ (sizes joins : List ℕ) where
  -- one place more of row i
  seeds_more : (i j : ℕ) (best : ℕ × ℕ) → j < 9 → best ≡ seeds_before sizes joins (9 * i + j) → cond (ltb i j) (cond (worse sizes joins (i, j) best) (i, j) best) best ≡ seeds_before sizes joins (9 * i + (j + 1))
  unfolding seeds_before keep_worse
  seeds_more i j best small is =
      let row : i ≡ (9 * i + j) / 9 = omega arith in
      let place : j ≡ (9 * i + j) % 9 = omega arith in
      let after : suc (9 * i + j) ≡ 9 * i + (j + 1) = omega arith in
      ap₂ (λ k l. cond (ltb k l) (cond (worse sizes joins (k, l) best) (k, l) best) best) row place ∙ ap (keep_worse sizes joins (9 * i + j)) is ∙ ap (seeds_before sizes joins) after

  -- the places of row i up to its own have no pairs
  pub seeds_skipped : (i j : ℕ) → i < 9 → j ≤ i + 1 → seeds_before sizes joins (9 * i) ≡ seeds_before sizes joins (9 * i + j)
  seeds_skipped i zero low h = ap (seeds_before sizes joins) (omega arith)
  seeds_skipped i (suc j) low h =
      let e = le-ltb i j (omega arith) in
      let after : 9 * i + (j + 1) ≡ 9 * i + suc j = omega arith in
      let best = seeds_before sizes joins (9 * i + j) in
      seeds_skipped i j low (omega arith) ∙ sym (ap (λ t. cond t (cond (worse sizes joins (i, j) best) (i, j) best) best) e) ∙ seeds_more i j best (omega arith) refl ∙ ap (seeds_before sizes joins) after

  module _ (i j : ℕ) (best : ℕ × ℕ) (order : i < j) (small : j < 9) (is : best ≡ seeds_before sizes joins (9 * i + j)) where
    seeds_compared : cond (worse sizes joins (i, j) best) (i, j) best ≡ seeds_before sizes joins (9 * i + (j + 1))
    seeds_compared = sym (ap (λ t. cond t (cond (worse sizes joins (i, j) best) (i, j) best) best) (lt-ltb i j order)) ∙ seeds_more i j best small is

    pub seeds_taken : worse sizes joins (i, j) best ≡ true → ◌≡◌ {A = ℕ × ℕ} (i, j) (seeds_before sizes joins (9 * i + (j + 1)))
    seeds_taken e = sym (ap (λ t. cond t (i, j) best) e) ∙ seeds_compared

    pub seeds_kept : worse sizes joins (i, j) best ≡ false → best ≡ seeds_before sizes joins (9 * i + (j + 1))
    seeds_kept e = sym (ap (λ t. cond t (i, j) best) e) ∙ seeds_compared
