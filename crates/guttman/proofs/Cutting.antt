-- Cutting a pair out in the way that is computed is cutting it out, and finds it if it is there. Assumes nothing.
use Rattle.std.proofs.Common.{◌≡◌, ℕ, zero, suc, ◌<◌, Bool, true, false, cond, not, ◌&&◌, eqb, ltb, [], ◌∷◌, ◌++◌, length, get_or, set, Some, None, Option, sym, refl, ap, ◌∙◌, subst, arith}
use mathlib.Core.List.Permᴰ
use lib.ListN.{length-map}
use Rattle.std.specs.List.{prefix_len, AllByRecursion}
use Rattle.std.proofs.ByRecursion.{All-weaker}
use Rattle.std.proofs.lemmas.Bool.{and_parts, and_from, eqb-true, eq-eqb, ltb-true, ltb-false, not-false, not-true, both_ways, cond_both}
use Rattle.quadratic.proofs.Perms.{others, perm_at, perm_set, perm_last}
use Rattle.guttman.specs.Trees.{Item, Tree, extents, bound}
use Rattle.guttman.specs.Shape.{leaves, pairs, Exact, Tight}
use Rattle.guttman.specs.Laws.{Joining}
use Rattle.guttman.specs.Deletion.{CutOut}
use Rattle.guttman.specs.Cutting.{without, first_some, Remains, is_pair, cut_leaf, cut_at, cut_inner, cut}
use Rattle.guttman.proofs.Lists.{all_both, all_joined}
use Rattle.guttman.proofs.Finding.{none_under}
use Rattle.guttman.proofs.Joins.{bound_joins}
use Rattle.guttman.proofs.Leaving.{some_under, perm_without, leading_stops, leading_whole, first_some_at, first_some_none}

module _ {E : Type 0} (size : E → ℕ) (join : E → E → E) (covering : E → E → Bool) (laws : Joining join covering)
    (antisymmetric : (a b : E) → covering a b ≡ true → covering b a ≡ true → a ≡ b) (e : E) (c : ℕ) where
  is_pair_same : (p : E × ℕ) → is_pair covering e c p ≡ true → p ≡ (e, c)
  is_pair_same p h =
      let k = and_parts (covering p.0 e && covering e p.0) (eqb p.1 c) h in
      let m = and_parts (covering p.0 e) (covering e p.0) k.0 in
      ap (λ x. (x, p.1)) (antisymmetric p.0 e m.0 m.1) ∙ ap (λ n. (e, n)) (eqb-true p.1 c k.1)

  is_pair_itself : is_pair covering e c (e, c) ≡ true
  is_pair_itself = and_from (covering e e && covering e e) (eqb c c) (and_from (covering e e) (covering e e) (laws.reflexive e) (laws.reflexive e)) (eq-eqb c c refl)

  -- ---- it is cut out

  leaf_cuts : (t : Tree E 0) (i : ℕ) → (i < length t → get_or t i (e, c) ≡ (e, c)) → (r : Remains E 0) → cut_leaf t i ≡ Some r → CutOut covering e c 0 t r.0 r.1
  leaf_cuts t i is r z =
      elim (ltb i (length t)) as (λ b. ltb i (length t) ≡ b → cond b (Some (without t i, [])) None ≡ Some r → CutOut covering e c 0 t r.0 r.1) [
        | true ↦ λ l z.
            let q : (without t i, []) ≡ r = cc in
            let m = ltb-true i (length t) l in
            subst (λ (r : Remains E 0). CutOut covering e c 0 t r.0 r.1) q (Permᴰ.trans (perm_without t i (e, c) m) (Permᴰ.cons (is m) (Permᴰ.refl (without t i))), refl)
        | false ↦ λ l z. absurd (let n : ◌≡◌ {A = ℕ} 0 1 = cc in omega arith)
      ] refl z

  at_cuts : (h : ℕ) (t : Tree E (suc h)) (i : ℕ) (r : Remains E h) → i < length t → CutOut covering e c h (get_or t i (e, [])).1 r.0 r.1
      → CutOut covering e c (suc h) t (cut_at size join e h t i r).0 (cut_at size join e h t i r).1
  at_cuts h t i r l k =
      let node = r.0 in
      let x = bound size join e (extents node) in
      let n = length-map node (λ p. p.0) in
      cond_both (ltb (length node) 3) (without t i, r.1 ++ ((h, node) ∷ [])) (set t i (x, node), r.1) (λ (s : Remains E (suc h)). CutOut covering e c (suc h) t s.0 s.1)
      (λ b. let few = ltb-true (length node) 3 b in record {
        through = get_or t i (e, []);
        others = without t i;
        node = node;
        below = r.1;
        before = perm_without t i (e, []) l;
        cut = k;
        stays = λ many. absurd (omega arith);
        goes = λ _. (Permᴰ.refl (without t i), perm_last r.1 (h, node));
      })
      (λ b. let many = ltb-false (length node) 3 b in record {
        through = get_or t i (e, []);
        others = others t i;
        node = node;
        below = r.1;
        before = perm_at t i (e, []) l;
        cut = k;
        stays = λ _. (x, bound_joins size join covering laws e (extents node) (omega arith), perm_set t i (x, node) l, refl);
        goes = λ few. absurd (omega arith);
      })

  -- the walk below an entry
  abbrev below : (h : ℕ) → E × Tree E h → Option (Remains E h)
  below h p = cond (covering p.0 e) (cut size join covering e c h p.1) None

  inner_cuts : (h : ℕ) (t : Tree E (suc h)) (o : Option (ℕ × Remains E h)) → first_some (below h) t ≡ o
      → ((p : Tree E h) (s : Remains E h) → cut size join covering e c h p ≡ Some s → CutOut covering e c h p s.0 s.1)
      → (r : Remains E (suc h)) → cut_inner size join e h t o ≡ Some r → CutOut covering e c (suc h) t r.0 r.1
  inner_cuts h t None is ih r z = absurd (let n : ◌≡◌ {A = ℕ} 0 1 = cc in omega arith)
  inner_cuts h t (Some s) is ih r z =
      let q : cut_at size join e h t s.0 s.1 ≡ r = cc in
      let at_i = first_some_at (below h) t s is in
      let p = get_or t s.0 (e, []) in
      subst (λ (r : Remains E (suc h)). CutOut covering e c (suc h) t r.0 r.1) q
      (at_cuts h t s.0 s.1 at_i.0 (ih p.1 s.1 (some_under (covering p.0 e) (cut size join covering e c h p.1) s.1 (at_i.1 (e, [])))))

  pub cut_cuts : (h : ℕ) (t : Tree E h) (r : Remains E h) → cut size join covering e c h t ≡ Some r → CutOut covering e c h t r.0 r.1
  cut_cuts zero t r z =
      let p : E × ℕ → Bool = λ q. not (is_pair covering e c q) in
      let i = prefix_len p t in
      leaf_cuts t i (λ l. is_pair_same (get_or t i (e, c)) (not-false (is_pair covering e c (get_or t i (e, c))) (leading_stops p t (e, c) l))) r z
  cut_cuts (suc h) t r z = inner_cuts h t (first_some (below h) t) refl (cut_cuts h) r z

  -- ---- it is found

  abbrev Other : E × ℕ → Type 0
  Other q = q ≡ (e, c) → ⊥

  leaf_misses : (t : Tree E 0) → cut size join covering e c 0 t ≡ None → AllByRecursion Other t
  leaf_misses t z =
      let p : E × ℕ → Bool = λ q. not (is_pair covering e c q) in
      let i = prefix_len p t in
      elim (ltb i (length t)) as (λ b. ltb i (length t) ≡ b → cond {A = Option (Remains E 0)} b (Some (without t i, [])) None ≡ None → AllByRecursion Other t) [
        | true ↦ λ l z. absurd (let n : ◌≡◌ {A = ℕ} 0 1 = cc in omega arith)
        | false ↦ λ l z.
            All-weaker (λ q. p q ≡ true) Other
            (λ q k same. both_ways (is_pair covering e c q) (not-true (is_pair covering e c q) k) (subst (λ y. is_pair covering e c y ≡ true) (sym same) is_pair_itself))
            t (leading_whole p t (ltb-false i (length t) l))
      ] refl z

  inner_none : (h : ℕ) (t : Tree E (suc h)) (o : Option (ℕ × Remains E h)) → cut_inner size join e h t o ≡ None → o ≡ None
  inner_none h t None z = refl
  inner_none h t (Some s) z = absurd (let n : ◌≡◌ {A = ℕ} 0 1 = cc in omega arith)

  -- under an entry whose extent does not cover e the pair does not stand
  uncovered : (h : ℕ) (p : E × Item E h) → Exact covering h p → covering p.0 e ≡ false → AllByRecursion Other (leaves h p)
  uncovered h p x f =
      All-weaker (λ q. covering q.0 e ≡ false) Other (λ q k same. both_ways (covering q.0 e) k (subst (λ y. covering y.0 e ≡ true) (sym same) (laws.reflexive e)))
      (leaves h p) (none_under covering (λ a. covering a e) (λ b a k l. laws.transitive b a e k l) h p x f)

  pub cut_misses : (h : ℕ) (t : Tree E h) → Tight covering h t → cut size join covering e c h t ≡ None → AllByRecursion Other (pairs h t)
  cut_misses zero t x z = all_joined Other Other (leaves 0) (λ q k. (k, tt)) t (leaf_misses t z)
  cut_misses (suc h) t x z =
      all_joined Other (λ p. Exact covering (suc h) p × (below h p ≡ None)) (leaves (suc h))
      (λ p k. elim (covering p.0 e) as (λ b. covering p.0 e ≡ b → cond b (cut size join covering e c h p.1) None ≡ None → AllByRecursion Other (leaves (suc h) p)) [
        | true ↦ λ l z. cut_misses h p.1 k.0.1 z
        | false ↦ λ l z. uncovered (suc h) p k.0 l
      ] refl k.1)
      t (all_both (Exact covering (suc h)) (λ p. below h p ≡ None) t x (first_some_none (below h) t (inner_none h t (first_some (below h) t) z)))
