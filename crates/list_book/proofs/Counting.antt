-- Counts along the numbers from 0 on. Assumes nothing.
use Rattle.std.proofs.Common.{◌≡◌, ℕ, zero, suc, ◌+◌, ◌*◌, ◌≤◌, Bool, true, false, cond, map, refl, sym, ap, ◌∙◌, add-one, zero-add, arith}
use Rattle.std.specs.List.{range_with_len, sum_by, count_by}
use Rattle.std.proofs.lemmas.List.{map-id}
use Rattle.std.proofs.lemmas.List.FromFn.{sum_by-map-range_with_len_more}
use Rattle.list_book.specs.Counts.{tally, pixels_in}

-- how many of the numbers below n pass the test
pub tally_listed : (test : ℕ → Bool) (n : ℕ) → count_by test (range_with_len 0 n) ≡ tally test n
unfolding tally
tally_listed test n = ap (count_by test) (sym (map-id (range_with_len 0 n))) ∙ go n
  where
    go : (n : ℕ) → count_by test (map (λ k. k) (range_with_len 0 n)) ≡ tally test n
    go zero = refl
    go (suc n) =
        ap (λ m. count_by test (map (λ k. k) (range_with_len 0 m))) (sym (add-one n))
        ∙ sum_by-map-range_with_len_more (λ k. cond (test k) 1 0) (λ k. k) 0 n n (zero-add n)
        ∙ ap (λ m. m + cond (test n) 1 0) (go n)

-- and how many pixels the rows below h have together
pub rows_listed : (area : ℕ → ℕ → Bool) (w h : ℕ) → sum_by (λ y. tally (λ x. area x y) w) (range_with_len 0 h) ≡ pixels_in area w h
unfolding pixels_in
rows_listed area w h = ap (sum_by row) (sym (map-id (range_with_len 0 h))) ∙ go h
  where
    row : ℕ → ℕ
    row y = tally (λ x. area x y) w

    go : (h : ℕ) → sum_by row (map (λ k. k) (range_with_len 0 h)) ≡ pixels_in area w h
    go zero = refl
    go (suc h) =
        ap (λ m. sum_by row (map (λ k. k) (range_with_len 0 m))) (sym (add-one h))
        ∙ sum_by-map-range_with_len_more row (λ k. k) 0 h h (zero-add h)
        ∙ ap (λ n. n + row h) (go h)

-- a row has no more than its width
pub tally_le : (test : ℕ → Bool) (n : ℕ) → tally test n ≤ n
unfolding tally
tally_le test zero = omega arith
tally_le test (suc n) = let h = tally_le test n in let b = one (test n) in omega arith
  where
    one : (b : Bool) → cond b 1 0 ≤ 1
    one true = omega arith
    one false = omega arith

pub pixels_in_le : (area : ℕ → ℕ → Bool) (w h : ℕ) → w ≤ 256 → pixels_in area w h ≤ 256 * h
unfolding pixels_in
pixels_in_le area w zero e = omega arith
pixels_in_le area w (suc h) e = omega (arith, pixels_in_le area w h e, tally_le (λ x. area x h) w)
