-- There is room in 256 rows for a tree of at most 256 pairs, for what is cut off beside it, and for what the next insertion adds.
-- Assumes nothing.
use Rattle.std.proofs.Common.{◌≡◌, ℕ, zero, suc, ◌+◌, ◌-◌, ◌*◌, ◌^◌, ◌<◌, ◌≤◌, List, [], ◌∷◌, length, sum_by, ap, ◌∙◌, inl, inr, mul-le-mul_right, suc-mul, mul-zero, zero-mul, mul-add, arith}
use native.Mathlib.Nat.{pow-succ', pow-le-pow_right}
use Rattle.std.specs.List.{AllByRecursion}
use Rattle.std.proofs.ByRecursion.{All-weaker}
use Rattle.std.proofs.lemmas.List.Sums.{sum_by-cons}
use Rattle.std.proofs.lemmas.Bool.{cases_lt}
use Rattle.guttman.specs.Trees.{Item, Tree}
use Rattle.guttman.specs.Shape.{least_root, slack_root, pairs, nodes_of, nodes, Filled, Shaped}
use Rattle.guttman.specs.Deletion.{Loose, loose_nodes}
use Rattle.guttman.proofs.Counting.{nodes_root_pairs, nodes_slack_pairs, leaf_nodes, five_deep, six_deep}

-- a bound for each of a list is a bound for the sum
sum_above : {X : Type 0} (f : X → ℕ) (k m : ℕ) (xs : List X) → AllByRecursion (λ x. m ≤ k * f x) xs → length xs * m ≤ k * sum_by f xs
sum_above f k m [] w = let z = zero-mul m in omega arith
sum_above f k m (x ∷ xs) w =
    let ih = sum_above f k m xs w.1 in
    let a = w.0 in
    let l = suc-mul (length xs) m in
    let s : k * sum_by f (x ∷ xs) ≡ k * f x + k * sum_by f xs = ap (λ n. k * n) (sum_by-cons f x xs) ∙ mul-add k (f x) (sum_by f xs) in
    omega arith

sum_below : {X : Type 0} (f : X → ℕ) (k m : ℕ) (xs : List X) → AllByRecursion (λ x. k * f x ≤ m) xs → k * sum_by f xs ≤ length xs * m
sum_below f k m [] w = let z = mul-zero k in omega arith
sum_below f k m (x ∷ xs) w =
    let ih = sum_below f k m xs w.1 in
    let a = w.0 in
    let l = suc-mul (length xs) m in
    let s : k * sum_by f (x ∷ xs) ≡ k * f x + k * sum_by f xs = ap (λ n. k * n) (sum_by-cons f x xs) ∙ mul-add k (f x) (sum_by f xs) in
    omega arith

module _ {E : Type 0} where
  -- under an entry there are at least as many nodes as if each had three entries
  pub nodes_fewest : (h : ℕ) (p : E × Item E h) → Filled h p → 3 ^ h ≤ 2 * nodes_of h p + 1
  nodes_fewest zero p w = omega arith
  nodes_fewest (suc h) p w =
      let m = 3 ^ h - 1 in
      let s = sum_above (nodes_of h) 2 m p.1 (All-weaker (Filled h) (λ q. m ≤ 2 * nodes_of h q) (λ q f. let n = nodes_fewest h q f in omega arith) p.1 w.1) in
      let t : 3 * m ≤ length p.1 * m = mul-le-mul_right m w.0.0 in
      let e = pow-succ' 3 h in
      omega arith

  -- and at most as many as if each had eight
  pub nodes_most : (h : ℕ) (p : E × Item E h) → Filled h p → 7 * nodes_of h p + 1 ≤ 8 ^ h
  nodes_most zero p w = omega arith
  nodes_most (suc h) p w =
      let m = 8 ^ h - 1 in
      let s = sum_below (nodes_of h) 7 m p.1 (All-weaker (Filled h) (λ q. 7 * nodes_of h q ≤ m) (λ q f. let n = nodes_most h q f in omega arith) p.1 w.1) in
      let t : length p.1 * m ≤ 8 * m = mul-le-mul_right m w.0.1 in
      let e = pow-succ' 8 h in
      let z : 0 ≤ h = omega arith in
      let one : 8 ^ 0 ≤ 8 ^ h = pow-le-pow_right (omega arith) z in
      omega arith

  -- a tree above three other levels has at least fourteen nodes
  pub fourteen_nodes : (h : ℕ) (t : Tree E h) → 3 ≤ h → Shaped (slack_root h) h t → 14 ≤ nodes h t
  fourteen_nodes zero t deep w = absurd (omega arith)
  fourteen_nodes (suc h) [] deep w = absurd (let a = w.0.0 in omega arith)
  fourteen_nodes (suc h) (p ∷ t) deep w =
      let n = nodes_fewest (suc h) p w.1.0 in
      let e : 3 ^ 3 ≤ 3 ^ suc h = pow-le-pow_right (omega arith) deep in
      let s = sum_by-cons (nodes_of {E = E} (suc h)) p t in
      omega arith

  -- and above at most two at most 73
  pub seventy_three_nodes : (h : ℕ) (t : Tree E h) → h ≤ 2 → length t ≤ 8 → AllByRecursion (Filled h) t → nodes h t ≤ 73
  seventy_three_nodes h t low few w =
      let e : 8 ^ h ≤ 8 ^ 2 = pow-le-pow_right (omega arith) low in
      let s = sum_below (nodes_of h) 1 9 t (All-weaker (Filled h) (λ q. 1 * nodes_of h q ≤ 9) (λ q f. let n = nodes_most h q f in omega arith) t w) in
      omega arith

  -- an insertion into a tree of fewer than 256 pairs
  pub room_once : (h : ℕ) (t : Tree E h) → Shaped (least_root h) h t → length (pairs h t) ≤ 256 → nodes h t + (h + 2) ≤ 134
  room_once zero t w few = omega (arith, leaf_nodes t)
  room_once (suc h) t w few = let n = nodes_root_pairs (suc h) t w.1 in let a = w.0.0 in let d = five_deep (suc h) t w few in omega arith

  -- an insertion into u while loose, with s what was t, lies beside it
  pub room_again : (h : ℕ) (t s : Tree E h) (loose : List (Loose E)) → Shaped (least_root h) h t → length (pairs h t) ≤ 256 → Shaped (slack_root h) h s → nodes h s + loose_nodes loose ≡ nodes h t
      → (k : ℕ) (u : Tree E k) → Shaped (slack_root k) k u → length (pairs k u) < 256 → (nodes k u + loose_nodes loose) + (k + 2) ≤ 256
  room_again h t s loose w few v same k u x less =
      let a = nodes_slack_pairs k u x in
      let b = six_deep k u x (omega arith) in
      let r = room_once h t w few in
      elim (cases_lt h 3) [
        | inl low ↦ let n = seventy_three_nodes h t (omega arith) w.0.1 w.1 in omega arith
        | inr deep ↦ let n = fourteen_nodes h s deep v in omega arith
      ]
