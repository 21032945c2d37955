-- The choice in one row, entry after entry. Assumes nothing.
use Rattle.std.proofs.Common.{◌≡◌, ℕ, suc, ◌+◌, Bool, true, false, cond, nat_lt, List, [], ◌∷◌, length, get_or, map, sym, refl, ap, ◌∙◌, subst, zero-add, arith, Bor}
use denote.Param.Members.{Mut}
use lib.ListN.{length-map}
use Rattle.std.specs.Fn.{CalledAt}
use Rattle.std.specs.Iterator.{KeyTurn}
use Rattle.std.specs.List.{range_with_len, best_of, enumerate_from, FoldsTo, AllByRecursion}
use Rattle.std.specs.Ordering.{nat_cmp, ordering_then, min_by_ordering}
use Rattle.std.proofs.lemmas.Bool.Decides.{nat_tests}
use Rattle.quadratic.specs.Split.{growth}
use Rattle.extent.specs.declared.entry.Entry.{Entry}
use Rattle.guttman.specs.Trees.{sooner, choose}
use Rattle.guttman.proofs.Lists.{all_unmap}
use Rattle.node_rows.specs.Nodes.{extents_in}

-- of two pairs of numbers, the least; of equals the first
least : {A : Type 0} (g s h t : ℕ) (a b : A) → min_by_ordering (ordering_then (nat_cmp g h) (nat_cmp s t)) a b ≡ cond (cond (nat_lt h g) true (cond (nat_lt g h) false (nat_lt t s))) b a
least g s h t a b = grind (arith, nat_tests)

module _ {E : Type 0} (size : E → ℕ) (join : E → E → E) (e : E) where
  -- by what the choice goes
  abbrev pub weight : E → ℕ × ℕ
  weight x = (growth size join x e, size x)

  module _ (es : List (Entry E)) where
    abbrev at : ℕ → E
    at i = get_or (extents_in es) i e

    abbrev beats : ℕ → ℕ → Bool
    beats i k = sooner size join e (at i) (at k)

    -- the entry is that at its place
    abbrev Lies : ℕ × Bor (Entry E) → Type 0
    Lies p = p.1.now.extent ≡ at p.0

    lie : (xs : List (Entry E)) (n : ℕ) → ((i : ℕ) → get_or (extents_in xs) i e ≡ at (n + i)) → AllByRecursion (λ (q : ℕ × Entry E). q.1.extent ≡ at q.0) (enumerate_from n xs)
    lie [] n h = tt
    lie (x ∷ xs) n h =
        (let z : n + 0 ≡ n = omega arith in h 0 ∙ ap at z, lie xs (n + 1) (λ i. let z : n + suc i ≡ n + 1 + i = omega arith in h (suc i) ∙ ap at z))

    places : (xs : List (Entry E)) (n : ℕ) → map (λ (q : ℕ × Entry E). q.0) (enumerate_from n xs) ≡ range_with_len n (length xs)
    places [] n = refl
    places (x ∷ xs) n = ap (λ l. n ∷ l) (places xs (n + 1))

    abbrev pub read : ℕ × Bor (Entry E) → ℕ × Entry E
    read p = (p.0, p.1.now)

    placed : (ps : List (ℕ × Bor (Entry E))) → map (λ p. p.0) ps ≡ map (λ (q : ℕ × Entry E). q.0) (map read ps)
    placed [] = refl
    placed (p ∷ ps) = ap (λ l. p.0 ∷ l) (placed ps)

    module _ {F : Type 0} (g : Mut F (Bor (ℕ × Bor (Entry E)) × Unit {0}) (ℕ × ℕ)) (f : F)
        (called : (x : ℕ × Bor (Entry E)) (k : ℕ × ℕ) (f' : F) → CalledAt g f x k f' → (f' ≡ f) × (k ≡ weight x.1.now.extent)) where
      abbrev State : Type 0
      State = (F × (ℕ × ℕ)) × (ℕ × Bor (Entry E))

      abbrev Sound : State → Type 0
      Sound p = (p.0.1 ≡ weight p.1.1.now.extent) × Lies p.1 × (p.0.0 ≡ f)

      turned : (b : Bool) (p : State) (z : ℕ × Bor (Entry E)) (k : ℕ × ℕ) (j : State) → Sound p → k ≡ weight z.1.now.extent → Lies z
          → j.0.0 ≡ f → j.0.1 ≡ cond b k p.0.1 → j.1 ≡ cond b z p.1 → Sound j × (j.1.0 ≡ cond b z.0 p.1.0)
      turned true p z k j s w l v a c = ((a ∙ w ∙ ap (λ x. weight x.1.now.extent) (sym c), subst Lies (sym c) l, v), ap (λ x. x.0) c)
      turned false p z k j s w l v a c = ((a ∙ s.0 ∙ ap (λ x. weight x.1.now.extent) (sym c), subst Lies (sym c) s.1, v), ap (λ x. x.0) c)

      picked : (zs : List (ℕ × Bor (Entry E))) → AllByRecursion Lies zs → (p q : State) → Sound p
          → FoldsTo {P = State} (KeyTurn min_by_ordering min_by_ordering g (λ x y. ordering_then (nat_cmp x.0 y.0) (nat_cmp x.1 y.1))) p zs q
          → q.1.0 ≡ best_of beats p.1.0 (map (λ z. z.0) zs)
      unfolding sooner
      picked [] h p q s r = ap (λ x. x.1.0) (sym r)
      picked (z ∷ zs) h p q s r =
          let j = r.0 in
          let t = r.1 in
          let w = called z t.0 j.0.0 (subst (λ v. CalledAt g v z t.0 j.0.0) s.2 t.2) in
          let o = sym t.3 ∙ (λ i. ordering_then (nat_cmp (s.0 i).0 (w.1 i).0) (nat_cmp (s.0 i).1 (w.1 i).1)) in
          let x = p.1.1.now.extent in
          let y = z.1.now.extent in
          let b = sooner size join e y x in
          let u = turned b p z t.0 j s w.1 h.0 w.0
          (t.4 ∙ ap (λ o. min_by_ordering o p.0.1 t.0) o ∙ least (growth size join x e) (size x) (growth size join y e) (size y) p.0.1 t.0)
          (t.5 ∙ ap (λ o. min_by_ordering o p.1 z) o ∙ least (growth size join x e) (size x) (growth size join y e) (size y) p.1 z) in
          picked zs h.1 j q u.0 r.2
          ∙ ap (λ i. best_of beats i (map (λ z. z.0) zs)) (u.1 ∙ (λ i. cond (sooner size join e (h.0 i) (s.1 i)) z.0 p.1.0))

      first : (xs : List (Entry E)) (n : ℕ) (z : ℕ × Entry E) (zs : List (ℕ × Entry E)) → z ∷ zs ≡ enumerate_from n xs → z.0 ≡ n
      first [] n z zs c = let l = ap length c in absurd (omega arith)
      first (x ∷ xs) n z zs c = ap (λ l. (get_or l 0 z).0) c

      from : (b : Bool) (n : ℕ) → n ≡ 0 → n ≡ cond b n 0
      from true n z = refl
      from false n z = z

      -- the item that a walk over the numbered entries keeps lies where the choice says
      pub chosen : (p : ℕ × Bor (Entry E)) (ps : List (ℕ × Bor (Entry E))) → map read (p ∷ ps) ≡ enumerate_from 0 es → (f' : F) (k : ℕ × ℕ) → CalledAt g f p k f' → (q : State)
          → FoldsTo {P = State} (KeyTurn min_by_ordering min_by_ordering g (λ x y. ordering_then (nat_cmp x.0 y.0) (nat_cmp x.1 y.1))) ((f', k), p) ps q
          → q.1.0 ≡ choose size join (extents_in es) e
      unfolding choose
      chosen p ps l f' k h q r =
          let all = all_unmap (λ (q : ℕ × Entry E). q.1.extent ≡ at q.0) read (p ∷ ps)
          (subst (AllByRecursion (λ (q : ℕ × Entry E). q.1.extent ≡ at q.0)) (sym l) (lie es 0 (λ i. ap at (sym (zero-add i))))) in
          let w = called p k f' h in
          picked ps all.1 ((f', k), p) q (w.1, all.0, w.0) r
          ∙ ap (λ i. best_of beats i (map (λ z. z.0) ps)) (from (beats p.0 0) p.0 (first es 0 (read p) (map read ps) l))
          ∙ ap (best_of beats 0) (placed (p ∷ ps) ∙ ap (map (λ (q : ℕ × Entry E). q.0)) l ∙ places es 0)
          ∙ ap (λ n. best_of beats 0 (range_with_len 0 n)) (sym (length-map es (λ z. z.extent)))
