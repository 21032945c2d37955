-- A walk that goes below an entry only where its extent passes comes to every pair that passes. Assumes nothing.
use Rattle.std.proofs.Common.{◌≡◌, ℕ, zero, suc, Bool, true, false, cond, [], sym, refl, ap, ◌∙◌, arith}
use Rattle.std.specs.List.{flat_map, AllByRecursion}
use Rattle.std.proofs.ByRecursion.{All-weaker}
use Rattle.guttman.specs.Trees.{Item, Tree}
use Rattle.guttman.specs.Shape.{leaves, pairs, Exact, Tight}
use Rattle.guttman.specs.Finding.{reached_at, reached, passing, Upward}
use Rattle.guttman.proofs.Lists.{kept_by_joined, kept_by_none, joined_same, all_unmap, all_both, all_joined}

module _ {E : Type 0} (covering : E → E → Bool) where
  module _ (test : E → Bool) (upward : Upward covering test) where
    -- what covers fails only if all that it covers fails
    missed : (c a : E) → covering c a ≡ true → test c ≡ false → test a ≡ false
    missed c a k f = elim (test a) as (λ b. test a ≡ b → test a ≡ false) [ true ↦ λ e. absurd (let z : true ≡ false = sym (upward c a k e) ∙ f in let n : ◌≡◌ {A = ℕ} 1 0 = ap (λ b. cond {A = ℕ} b 1 0) z in omega arith) | false ↦ λ e. e ] refl

    -- under an exact entry that fails no pair passes
    pub none_under : (h : ℕ) (p : E × Item E h) → Exact covering h p → test p.0 ≡ false → AllByRecursion (λ q. test q.0 ≡ false) (leaves h p)
    none_under zero p x f = (f, tt)
    none_under (suc h) p x f =
        all_joined (λ q. test q.0 ≡ false) (λ r. (test r.0 ≡ false) × Exact covering h r) (leaves h) (λ r k. none_under h r k.1 k.0) p.1
        (all_both (λ r. test r.0 ≡ false) (Exact covering h) p.1
        (All-weaker (λ r. covering p.0 r.0 ≡ true) (λ r. test r.0 ≡ false) (λ r k. missed p.0 r.0 k f) p.1 (all_unmap (λ a. covering p.0 a ≡ true) (λ r. r.0) p.1 x.0.above))
        x.1)

    reached_at_passing : (h : ℕ) (p : E × Item E h) → Exact covering h p → reached_at test h p ≡ passing test (leaves h p)
    reached_at_passing zero p x = refl
    reached_at_passing (suc h) p x =
        elim (test p.0) as (λ b. test p.0 ≡ b → cond b (flat_map (reached_at test h) p.1) [] ≡ passing test (flat_map (leaves h) p.1)) [
          | true ↦ λ e. joined_same (Exact covering h) (reached_at test h) (λ q. passing test (leaves h q)) (λ q y. reached_at_passing h q y) p.1 x.1 ∙ sym (kept_by_joined (λ q. test q.0) (leaves h) p.1)
          | false ↦ λ e. sym (kept_by_none (λ q. test q.0) (flat_map (leaves h) p.1) (none_under (suc h) p x e))
        ] refl

    -- in a tree whose extents are exact the walk comes to just the pairs that pass
    pub reached_passing : (h : ℕ) (t : Tree E h) → Tight covering h t → reached test h t ≡ passing test (pairs h t)
    reached_passing h t x =
        joined_same (Exact covering h) (reached_at test h) (λ q. passing test (leaves h q)) (λ q y. reached_at_passing h q y) t x ∙ sym (kept_by_joined (λ q. test q.0) (leaves h) t)
