-- How many nodes a tree has for its pairs, and how deep it is. Assumes nothing.
use Rattle.std.proofs.Common.{◌≡◌, ℕ, zero, suc, ◌+◌, ◌*◌, ◌^◌, ◌≤◌, List, [], ◌∷◌, length, sum_by, refl, ap, ◌∙◌, inl, inr, mul-le-mul_right, suc-mul, zero-mul, arith, length-append}
use native.Mathlib.Nat.{pow-succ', pow-le-pow_right}
use Rattle.std.specs.List.{flat_map, AllByRecursion}
use Rattle.std.proofs.lemmas.List.Sums.{sum_by-cons}
use Rattle.std.proofs.lemmas.Bool.{cases_lt}
use Rattle.guttman.specs.Trees.{Item, Tree}
use Rattle.guttman.specs.Shape.{least_root, slack_root, leaves, pairs, nodes_of, nodes, Filled, Shaped}

power_from : (k h : ℕ) → k ≤ h → 3 ^ k ≤ 3 ^ h
power_from k h l = pow-le-pow_right (omega arith) l

module _ {E : Type 0} where
  -- twice the nodes under some entries, and one for each entry, is at most the pairs, if it is so for each
  entries_pairs : (h : ℕ) → ((p : E × Item E h) → Filled h p → 2 * nodes_of h p + 1 ≤ length (leaves h p)) → (es : List (E × Item E h)) → AllByRecursion (Filled h) es
      → 2 * sum_by (nodes_of h) es + length es ≤ length (flat_map (leaves h) es)
  entries_pairs h each [] w = omega arith
  entries_pairs h each (p ∷ es) w =
      let ih = entries_pairs h each es w.1 in
      let a = each p w.0 in
      let s = sum_by-cons (nodes_of {E = E} h) p es in
      let l = length-append (leaves h p) (flat_map (leaves h) es) in
      omega arith

  -- twice the nodes under an entry are fewer than its pairs
  pub nodes_below_pairs : (h : ℕ) (p : E × Item E h) → Filled h p → 2 * nodes_of h p + 1 ≤ length (leaves h p)
  nodes_below_pairs zero p w = omega arith
  nodes_below_pairs (suc h) p w =
      let s = entries_pairs h (nodes_below_pairs h) p.1 w.1 in
      let a = w.0.0 in
      omega arith

  -- in a tree it depends on the entries of the root
  pub nodes_root_pairs : (h : ℕ) (t : Tree E h) → AllByRecursion (Filled h) t → 2 * nodes h t + length t ≤ length (pairs h t) + 2
  nodes_root_pairs h t w = let s = entries_pairs h (nodes_below_pairs h) t w in omega arith

  pub leaf_nodes : (t : Tree E 0) → nodes 0 t ≡ 1
  leaf_nodes t = ap (λ n. 1 + n) (none t)
    where
      none : (t : Tree E 0) → sum_by (nodes_of 0) t ≡ 0
      none [] = refl
      none (p ∷ t) = sum_by-cons (nodes_of {E = E} 0) p t ∙ omega (arith, none t)

  -- at most half as many nodes as pairs
  pub nodes_half_pairs : (h : ℕ) (t : Tree E h) → Shaped (least_root h) h t → 2 ≤ length (pairs h t) → 2 * nodes h t ≤ length (pairs h t)
  nodes_half_pairs zero t w some = omega (arith, leaf_nodes t)
  nodes_half_pairs (suc h) t w some = let s = nodes_root_pairs (suc h) t w.1 in let a = w.0.0 in omega arith

  -- while the root above other nodes may have one entry
  pub nodes_slack_pairs : (h : ℕ) (t : Tree E h) → Shaped (slack_root h) h t → 2 * nodes h t ≤ length (pairs h t) + 2
  nodes_slack_pairs zero t w = omega (arith, leaf_nodes t)
  nodes_slack_pairs (suc h) t w = let s = nodes_root_pairs (suc h) t w.1 in let a = w.0.0 in omega arith

  pub nodes_slack_pairs_inner : (h : ℕ) (t : Tree E (suc h)) → Shaped 1 (suc h) t → 2 * nodes (suc h) t ≤ length (pairs (suc h) t) + 1
  nodes_slack_pairs_inner h t w = let s = nodes_root_pairs (suc h) t w.1 in let a = w.0.0 in omega arith

  -- ---- how deep

  entries_deep : (h : ℕ) → ((p : E × Item E h) → Filled h p → 3 ^ h ≤ length (leaves h p)) → (es : List (E × Item E h)) → AllByRecursion (Filled h) es → length es * 3 ^ h ≤ length (flat_map (leaves h) es)
  entries_deep h each [] w = let z = zero-mul (3 ^ h) in omega arith
  entries_deep h each (p ∷ es) w =
      let ih = entries_deep h each es w.1 in
      let a = each p w.0 in
      let s = suc-mul (length es) (3 ^ h) in
      let l = length-append (leaves h p) (flat_map (leaves h) es) in
      omega arith

  -- each level has three times the pairs of the one below it
  pub pairs_deep : (h : ℕ) (p : E × Item E h) → Filled h p → 3 ^ h ≤ length (leaves h p)
  pairs_deep zero p w = omega arith
  pairs_deep (suc h) p w =
      let s = entries_deep h (pairs_deep h) p.1 w.1 in
      let m : 3 * 3 ^ h ≤ length p.1 * 3 ^ h = mul-le-mul_right (3 ^ h) w.0.0 in
      let e = pow-succ' 3 h in
      omega arith

  pub root_deep : (h low : ℕ) (t : Tree E h) → Shaped low h t → low * 3 ^ h ≤ length (pairs h t)
  root_deep h low t w =
      let s = entries_deep h (pairs_deep h) t w.1 in
      let m : low * 3 ^ h ≤ length t * 3 ^ h = mul-le-mul_right (3 ^ h) w.0.0 in
      omega arith

  -- a tree of at most 256 pairs is at most five nodes deep
  pub five_deep : (h : ℕ) (t : Tree E h) → Shaped (least_root h) h t → length (pairs h t) ≤ 256 → h ≤ 4
  five_deep zero t w few = omega arith
  five_deep (suc h) t w few =
      elim (cases_lt (suc h) 5) [
        | inl l ↦ omega arith
        | inr l ↦ absurd (let r = root_deep (suc h) 2 t w in let p = power_from 5 (suc h) l in omega arith)
      ]

  pub six_deep : (h : ℕ) (t : Tree E h) → Shaped (slack_root h) h t → length (pairs h t) ≤ 256 → h ≤ 5
  six_deep zero t w few = omega arith
  six_deep (suc h) t w few =
      elim (cases_lt (suc h) 6) [
        | inl l ↦ omega arith
        | inr l ↦ absurd (let r = root_deep (suc h) 1 t w in let p = power_from 6 (suc h) l in omega arith)
      ]
