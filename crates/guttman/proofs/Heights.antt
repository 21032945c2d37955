-- What is cut off lies one above the other: the first is a leaf, and each next one is a node higher. Assumes nothing.
use Rattle.std.proofs.Common.{◌≡◌, ℕ, zero, suc, ◌+◌, ◌≤◌, Bool, true, false, cond, not, ltb, [], ◌∷◌, ◌++◌, length, get_or, set, Some, None, Option, sym, refl, ap, ◌∙◌, subst, zero-add, arith, length-set}
use Rattle.std.specs.List.{range_with_len, prefix_len, AllByRecursion}
use Rattle.std.proofs.lemmas.List.{map-id, map_push, length_push}
use Rattle.std.proofs.ByRecursion.{All-get_or}
use Rattle.std.proofs.lemmas.List.FromFn.{map-range_with_len_more}
use Rattle.std.proofs.lemmas.Bool.{ltb-true, cond_both}
use Rattle.guttman.specs.Trees.{Tree, extents, bound}
use Rattle.guttman.specs.Shape.{Filled}
use Rattle.guttman.specs.Deletion.{Loose}
use Rattle.guttman.specs.Cutting.{without, first_some, Remains, is_pair, cut_leaf, cut_at, cut_inner, cut, Climbing}
use Rattle.guttman.proofs.Leaving.{some_under, first_some_at}

counting_more : (n : ℕ) → range_with_len 0 (n + 1) ≡ range_with_len 0 n ++ (n ∷ [])
counting_more n = sym (map-id (range_with_len 0 (n + 1))) ∙ map-range_with_len_more (λ (x : ℕ). x) 0 n n (zero-add n) ∙ ap (λ z. z ++ (n ∷ [])) (map-id (range_with_len 0 n))

module _ {E : Type 0} (size : E → ℕ) (join : E → E → E) (covering : E → E → Bool) (e : E) (c : ℕ) where
  leaf_climbs : (t : Tree E 0) (i : ℕ) (r : Remains E 0) → cut_leaf t i ≡ Some r → Climbing 0 t r
  leaf_climbs t i r z =
      elim (ltb i (length t)) as (λ b. cond b (Some (without t i, [])) None ≡ Some r → Climbing 0 t r) [
        | true ↦ λ z. let q : (without t i, []) ≡ r = cc in subst (Climbing 0 t) q (record { numbered = refl; within = omega arith; lost = λ _. refl })
        | false ↦ λ z. absurd (let n : ◌≡◌ {A = ℕ} 0 1 = cc in omega arith)
      ] z

  at_climbs : (h : ℕ) (t : Tree E (suc h)) (i : ℕ) (r : Remains E h) → 3 ≤ length (get_or t i (e, [])).1 → Climbing h (get_or t i (e, [])).1 r
      → Climbing (suc h) t (cut_at size join e h t i r)
  at_climbs h t i r full k =
      let up : Loose E → ℕ = λ o. o.0 in
      let x = bound size join e (extents r.0) in
      let n = length_push r.1 (h, r.0) in
      cond_both (ltb (length r.0) 3) (without t i, r.1 ++ ((h, r.0) ∷ [])) (set t i (x, r.0), r.1) (Climbing (suc h) t)
      (λ b. let few = ltb-true (length r.0) 3 b in
      let all : length r.1 ≡ h = k.lost (omega arith) in
      record {
        numbered =
            map_push up r.1 (h, r.0) ∙ ap (λ z. z ++ (h ∷ [])) k.numbered ∙ ap (λ z. range_with_len 0 (length r.1) ++ (z ∷ [])) (sym all)
            ∙ sym (counting_more (length r.1)) ∙ ap (range_with_len 0) (sym n);
        within = omega arith;
        lost = λ _. omega arith;
      })
      (λ b. let m = length-set t i (x, r.0) in let w = k.within in record { numbered = k.numbered; within = omega arith; lost = λ l. absurd (omega arith) })

  inner_climbs : (h : ℕ) (t : Tree E (suc h)) (o : Option (ℕ × Remains E h)) → first_some (λ p. cond (covering p.0 e) (cut size join covering e c h p.1) None) t ≡ o
      → ((p : Tree E h) (s : Remains E h) → AllByRecursion (Filled h) p → cut size join covering e c h p ≡ Some s → Climbing h p s)
      → (r : Remains E (suc h)) → AllByRecursion (Filled (suc h)) t → cut_inner size join e h t o ≡ Some r → Climbing (suc h) t r
  inner_climbs h t None is ih r w z = absurd (let n : ◌≡◌ {A = ℕ} 0 1 = cc in omega arith)
  inner_climbs h t (Some s) is ih r w z =
      let q : cut_at size join e h t s.0 s.1 ≡ r = cc in
      let at_i = first_some_at (λ (p : E × Tree E h). cond (covering p.0 e) (cut size join covering e c h p.1) None) t s is in
      let p = get_or t s.0 (e, []) in
      let f = All-get_or (Filled (suc h)) t s.0 (e, []) at_i.0 w in
      subst (Climbing (suc h) t) q
      (at_climbs h t s.0 s.1 f.0.0 (ih p.1 s.1 f.1 (some_under (covering p.0 e) (cut size join covering e c h p.1) s.1 (at_i.1 (e, [])))))

  pub cut_climbs : (h : ℕ) (t : Tree E h) (r : Remains E h) → AllByRecursion (Filled h) t → cut size join covering e c h t ≡ Some r → Climbing h t r
  cut_climbs zero t r w z = leaf_climbs t (prefix_len (λ p. not (is_pair covering e c p)) t) r z
  cut_climbs (suc h) t r w z = inner_climbs h t (first_some (λ p. cond (covering p.0 e) (cut size join covering e c h p.1) None) t) refl (cut_climbs h) r w z
