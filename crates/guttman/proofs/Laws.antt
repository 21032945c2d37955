-- The laws of trees, as they are stated. Assumes nothing.
use Rattle.std.proofs.Common.{◌≡◌, ℕ, zero, suc, ◌<◌, Bool, length, arith}
use Rattle.guttman.specs.Trees.{Tree}
use Rattle.guttman.specs.Shape.{least_root, pairs, nodes, Shaped}
use Rattle.guttman.specs.Laws.{Joining, InsertionKeeps, ChoiceSoonest, FindingMissesNone, HalfAsManyNodes, FiveDeep}
use Rattle.guttman.proofs.Choosing.{choose_soonest}
use Rattle.guttman.proofs.Gaining.{inserted_pairs}
use Rattle.guttman.proofs.Shaping.{low_some, inserted_shaped}
use Rattle.guttman.proofs.Tightening.{inserted_tight}
use Rattle.guttman.proofs.Finding.{reached_passing}
use Rattle.guttman.proofs.Counting.{nodes_half_pairs, nodes_root_pairs, leaf_nodes, five_deep}

pub least_root_some : (h : ℕ) → 0 < h → 0 < least_root h
least_root_some h z = low_some least_root (λ h. omega arith) h z

module _ {E : Type 0} (size : E → ℕ) (join : E → E → E) (covering : E → E → Bool) (laws : Joining join covering) where
  pub insertion_keeps : InsertionKeeps size join covering
  insertion_keeps h t e c w = (
    record {
      shape = inserted_shaped size join least_root (λ h. omega arith) (λ h. omega arith) h t e c w.shape;
      tight = inserted_tight size join covering laws h (least_root h) t e c (least_root_some h) w.shape w.tight;
    },
    inserted_pairs size join h (least_root h) t e c (least_root_some h) w.shape,
  )

pub choice_soonest : {E : Type 0} (size : E → ℕ) (join : E → E → E) → ChoiceSoonest size join
choice_soonest size join xs e some = choose_soonest size join xs e some

pub finding_misses_none : {E : Type 0} (covering : E → E → Bool) → FindingMissesNone covering
finding_misses_none covering test upward h t w = reached_passing covering test upward h t w.tight

pub half_as_many_nodes : (E : Type 0) → HalfAsManyNodes E
half_as_many_nodes E h t w = (nodes_half_pairs h t w, one h t w)
  where
    one : (h : ℕ) (t : Tree E h) → Shaped (least_root h) h t → length (pairs h t) < 2 → nodes h t ≡ 1
    one zero t w few = leaf_nodes t
    one (suc h) t w few = absurd (let s = nodes_root_pairs (suc h) t w.1 in let a = w.0.0 in omega arith)

pub five_nodes_deep : (E : Type 0) → FiveDeep E
five_nodes_deep E h t w few = five_deep h t w few
