-- A walk comes to no more pairs than a tree stores, so that a list with a place for each of these has room. Assumes nothing.
use Rattle.std.proofs.Common.{◌≡◌, ℕ, zero, suc, ◌+◌, ◌≤◌, min, Bool, List, [], ◌∷◌, ◌++◌, length, drop, ap, ◌∙◌, arith, length-append}
use lib.ListN.{length-map}
use lib.Seq.{sets, sets-eq}
use Rattle.std.specs.List.{flat_map}
use Rattle.std.proofs.lemmas.Bool.{cond_both}
use Rattle.guttman.specs.Trees.{Item, Tree}
use Rattle.guttman.specs.Shape.{leaves, pairs}
use Rattle.guttman.specs.Finding.{reached_at, reached}
use Rattle.node_rows.specs.Walks.{codes, Finds}

module _ {E : Type 0} (test : E → Bool) where
  joined_fewer : {X Y : Type 0} (f g : X → List Y) → ((x : X) → length (f x) ≤ length (g x)) → (xs : List X) → length (flat_map f xs) ≤ length (flat_map g xs)
  joined_fewer f g h [] = omega arith
  joined_fewer f g h (x ∷ xs) = let a = h x in let b = joined_fewer f g h xs in omega (arith, length-append (f x) (flat_map f xs), length-append (g x) (flat_map g xs))

  fewer_at : (h : ℕ) (p : E × Item E h) → length (reached_at test h p) ≤ length (leaves h p)
  fewer_at zero p = cond_both (test p.0) (p ∷ []) [] (λ z. length z ≤ 1) (λ _. omega arith) (λ _. omega arith)
  fewer_at (suc h) p =
      cond_both (test p.0) (flat_map (reached_at test h) p.1) [] (λ z. length z ≤ length (flat_map (leaves h) p.1)) (λ _. joined_fewer (reached_at test h) (leaves h) (fewer_at h) p.1) (λ _. omega arith)

  pub length_reached : (h : ℕ) (t : Tree E h) → length (reached test h t) ≤ length (pairs h t)
  length_reached h t = joined_fewer (reached_at test h) (leaves h) (fewer_at h) t

  -- what the walk writes
  pub finds_reached : (h : ℕ) (t : Tree E h) (l m : List ℕ) (n : ℕ) → length (pairs h t) ≤ length l → n ≡ min (length (codes (reached test h t))) (length l) → m ≡ sets l 0 (codes (reached test h t))
      → Finds (reached test h t) l n m
  finds_reached h t l m n room count wrote =
      let few = length_reached h t in
      let long = length-map (reached test h t) (λ p. p.1) in
      let fits : 0 + length (codes (reached test h t)) ≤ length l = omega arith in
      let last : 0 + length (codes (reached test h t)) ≡ n = omega arith in
      record { count = omega arith; list = wrote ∙ sets-eq (codes (reached test h t)) l 0 fits ∙ ap (λ k. codes (reached test h t) ++ drop k l) last }
