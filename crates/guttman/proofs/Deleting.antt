-- The laws of deletion, as they are stated. Assumes nothing.
use Rattle.std.proofs.Common.{◌≡◌, ℕ, Bool, true, List, ◌∷◌, Some, None, Option, sym, refl, ap, subst}
use mathlib.Core.List.Permᴰ
use mathlib.Core.List.{Permᴰ}
use Rattle.std.specs.List.{ContainsAt as Has}
use Rattle.std.proofs.ByRecursion.{all-has, all_has_itself}
use Rattle.quadratic.proofs.Perms.{perm_same, perm_all}
use Rattle.guttman.specs.Trees.{Tree}
use Rattle.guttman.specs.Shape.{pairs, WellFormed}
use Rattle.guttman.specs.Deletion.{Loose, loose_pairs, AfterDeletion, lowered, inserted_all}
use Rattle.guttman.specs.Cutting.{Remains, cut, mended}
use Rattle.guttman.specs.Laws.{Joining, DeletionKeeps, Answered, DeletionAnswers, Halfway, CutHalfway}
use Rattle.guttman.proofs.Losing.{cut_pairs, cut_nodes}
use Rattle.guttman.proofs.Remaining.{cut_slack, cut_tight}
use Rattle.guttman.proofs.Restoring.{lowered_pairs, lowered_shaped, lowered_tight, inserted_all_shaped, inserted_all_pairs, inserted_all_tight}
use Rattle.guttman.proofs.Cutting.{cut_cuts, cut_misses}

pub cut_halfway : {E : Type 0} (covering : E → E → Bool) → CutHalfway covering
cut_halfway covering h t s e c loose w k =
    let sl = cut_slack covering e c h t s loose k w.shape in
    record { all = cut_pairs covering e c h t s loose k; as_many = cut_nodes covering e c h t s loose k; shape = sl.0; tight = cut_tight covering e c h t s loose k w.tight; short = sl.1 }

module _ {E : Type 0} (size : E → ℕ) (join : E → E → E) (covering : E → E → Bool) (laws : Joining join covering) where
  -- what was cut off is inserted again, in any order, and the root gives way
  pub again_keeps : (h : ℕ) (t s : Tree E h) (e : E) (c : ℕ) (loose : List (Loose E)) (order : List (E × ℕ)) → Halfway covering e c h t s loose → Permᴰ order (loose_pairs loose) → (u : (k : ℕ) × Tree E k)
      → u ≡ lowered (inserted_all size join (h, s) order).0 (inserted_all size join (h, s) order).1
      → WellFormed covering u.0 u.1 × Permᴰ (pairs h t) ((e, c) ∷ pairs u.0 u.1)
  again_keeps h t s e c loose order w p u is =
      let v = inserted_all size join (h, s) order in
      let shape = inserted_all_shaped size join order (h, s) w.shape in
      let tight = inserted_all_tight size join covering laws order (h, s) w.shape w.tight in
      subst (λ (u : (k : ℕ) × Tree E k). WellFormed covering u.0 u.1 × Permᴰ (pairs h t) ((e, c) ∷ pairs u.0 u.1)) (sym is) (
        record { shape = lowered_shaped v.0 v.1 shape; tight = lowered_tight covering v.0 v.1 tight },
        Permᴰ.trans w.all (Permᴰ.cons refl (Permᴰ.symm (Permᴰ.trans (perm_same (lowered_pairs v.0 v.1))
            (Permᴰ.trans (inserted_all_pairs size join order (h, s) w.shape) (Permᴰ.append_left (pairs h s) p))))),
      )

  pub deletion_keeps : DeletionKeeps size join covering
  deletion_keeps h t e c u w d = again_keeps h t d.rest e c d.loose d.order (cut_halfway covering h t d.rest e c d.loose w d.cut) d.again u d.is

  module _ (antisymmetric : (a b : E) → covering a b ≡ true → covering b a ≡ true → a ≡ b) where
    -- what is left, and in the order in which it was noted what was cut off, is one deletion
    mended_deleted : (h : ℕ) (t : Tree E h) (e : E) (c : ℕ) (r : Remains E h) → cut size join covering e c h t ≡ Some r
        → AfterDeletion size join covering e c h t (lowered (inserted_all size join (h, r.0) (loose_pairs r.1)).0 (inserted_all size join (h, r.0) (loose_pairs r.1)).1)
    mended_deleted h t e c r z = record {
      rest = r.0;
      loose = r.1;
      cut = cut_cuts size join covering laws antisymmetric e c h t r z;
      order = loose_pairs r.1;
      again = Permᴰ.refl (loose_pairs r.1);
      is = refl;
    }

    -- a pair that was cut out was there
    cut_has : (h : ℕ) (t : Tree E h) (e : E) (c : ℕ) (r : Remains E h) → cut size join covering e c h t ≡ Some r → Has (pairs h t) (e, c)
    cut_has h t e c r z =
        (perm_all (Has (pairs h t)) (cut_pairs covering e c h t r.0 r.1 (cut_cuts size join covering laws antisymmetric e c h t r z)) (all_has_itself (pairs h t))).0

    answered : (h : ℕ) (t : Tree E h) (e : E) (c : ℕ) → WellFormed covering h t → (o : Option (Remains E h)) → cut size join covering e c h t ≡ o → Answered size join covering e c h t
    answered h t e c w None z = record {
      stored = λ has. absurd (all-has (λ q. q ≡ (e, c) → ⊥) (pairs h t) (e, c) (cut_misses size join covering laws antisymmetric e c h t w.tight z) has refl);
      absent = λ _. ap (mended size join h) z;
    }
    answered h t e c w (Some r) z = record {
      stored = λ _. (lowered (inserted_all size join (h, r.0) (loose_pairs r.1)).0 (inserted_all size join (h, r.0) (loose_pairs r.1)).1, ap (mended size join h) z, mended_deleted h t e c r z);
      absent = λ missing. absurd (missing (cut_has h t e c r z));
    }

    pub deletion_answers : DeletionAnswers size join covering
    deletion_answers h t e c w = answered h t e c w (cut size join covering e c h t) refl
