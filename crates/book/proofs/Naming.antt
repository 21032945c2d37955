-- The pairs of a tree stay those of the shapes, or the spans, as one comes or goes; what is found among them. Assumes nothing.
use Rattle.std.proofs.Common.{◌≡◌, ℕ, zero, suc, ◌<◌, ◌≤◌, Bool, true, false, cond, ◌&&◌, ◌||◌, eqb, ltb, List, [], ◌∷◌, ◌++◌, map, length, Some, None, filter, Option, sym, refl, ap, ◌∙◌, subst, ⊎_elim, arith, length-append}
use mathlib.Core.Bool.{Bool-set}
use mathlib.Core.List.Perm
use mathlib.Core.List.Permᴰ
use mathlib.Core.List.{Perm, Permᴰ}
use mathlib.Core.Logic.{∥∥₁_elim}
use native.Mathlib.Nat.{ℕ_set}
use Rattle.std.proofs.lemmas.Bool.{cases_eq, cond-true, eq-eqb, ne_eqb}
use Rattle.std.proofs.lemmas.Bool.Decides.{nat_tests}
use Rattle.book.specs.Tests.{put}
use Rattle.book.specs.Past.{listed}
use Rattle.book.specs.Naming.{pair_at, numbered}
use Rattle.book.proofs.Below.{put_here, put_there}

-- the numbers of the pairs whose extent passes a test
abbrev pub passing_numbers : {E : Type 0} → (E → Bool) → List (E × ℕ) → List ℕ
passing_numbers test ps = map (λ p. p.1) (filter (λ p. test p.0) ps)

module _ {A E : Type 0} (extent : A → E) where
  pub numbered_same : (f g : ℕ → Option A) (k : ℕ) → ((n : ℕ) → n < k → f n ≡ g n) → numbered extent f k ≡ numbered extent g k
  unfolding numbered
  numbered_same f g zero h = refl
  numbered_same f g (suc k) h = ap (λ o. pair_at extent o k ++ numbered extent f k) (h k (omega arith)) ∙ ap (λ ps. pair_at extent (g k) k ++ ps) (numbered_same f g k (λ n l. h n (omega arith)))

  pub numbered_none : (k : ℕ) → numbered extent (λ n. None) k ≡ []
  unfolding numbered
  numbered_none zero = refl
  numbered_none (suc k) = numbered_none k

  perm_same : {xs ys : List (E × ℕ)} → xs ≡ ys → Permᴰ xs ys
  perm_same {xs} e = subst (Permᴰ xs) e (Permᴰ.refl xs)

  -- something comes to an unused number
  pub numbered_gained : (f : ℕ → Option A) (n k : ℕ) (a : A) → n < k → f n ≡ None → Permᴰ (numbered extent (put f n (Some a)) k) ((extent a, n) ∷ numbered extent f k)
  unfolding numbered
  numbered_gained f n zero a l e = absurd (omega arith)
  numbered_gained f n (suc k) a l e = ⊎_elim
      (λ q. perm_same
      (ap (λ o. pair_at extent o k ++ numbered extent (put f n (Some a)) k) (cond-true (eqb k n) (Some a) (f k) (eq-eqb k n (sym q)))
      ∙ ap (λ m. (extent a, m) ∷ numbered extent (put f n (Some a)) k) (sym q)
      ∙ ap (λ ps. (extent a, n) ∷ ps) (numbered_same (put f n (Some a)) f k (λ m h. put_there f n (Some a) m (λ z. omega (arith, z, q))) ∙ sym (ap (λ o. pair_at extent o k ++ numbered extent f k) (ap f (sym q) ∙ e)))))
      (λ q. Permᴰ.trans
      (perm_same (ap (λ o. pair_at extent o k ++ numbered extent (put f n (Some a)) k) (put_there f n (Some a) k (λ z. q (sym z)))))
      (Permᴰ.trans (Permᴰ.append_left (pair_at extent (f k) k) (numbered_gained f n k a (omega (arith, q)) e)) (Permᴰ.middle (extent a, n) (pair_at extent (f k) k) (numbered extent f k))))
      (cases_eq n k)

  -- something leaves its number
  pub numbered_lost : (f : ℕ → Option A) (n k : ℕ) (a : A) → n < k → f n ≡ Some a → Permᴰ (numbered extent f k) ((extent a, n) ∷ numbered extent (put f n None) k)
  numbered_lost f n k a l e = Permᴰ.trans
      (perm_same (numbered_same f (put (put f n None) n (Some a)) k (λ m h. ⊎_elim
      (λ q. ap f q ∙ e ∙ sym (cond-true (eqb m n) (Some a) (put f n None m) (eq-eqb m n q)))
      (λ q. sym (put_there (put f n None) n (Some a) m q ∙ put_there f n None m q))
      (cases_eq m n))))
      (numbered_gained (put f n None) n k a l (put_here f n None))

  pair_short : (o : Option A) (n : ℕ) → length (pair_at extent o n) ≤ 1
  pair_short None n = omega arith
  pair_short (Some a) n = omega arith

  -- there are as many pairs as numbers at most, and fewer where a number is unused
  pub numbered_length : (f : ℕ → Option A) (k : ℕ) → length (numbered extent f k) ≤ k
  unfolding numbered
  numbered_length f zero = omega arith
  numbered_length f (suc k) = omega (arith, length-append (pair_at extent (f k) k) (numbered extent f k), pair_short (f k) k, numbered_length f k)

  pub numbered_room : (f : ℕ → Option A) (n k : ℕ) → n < k → f n ≡ None → length (numbered extent f k) < k
  unfolding numbered
  numbered_room f n zero l e = absurd (omega arith)
  numbered_room f n (suc k) l e = ⊎_elim
      (λ q. let z : length (pair_at extent (f k) k) ≡ 0 = ap (λ o. length (pair_at extent o k)) (ap f (sym q) ∙ e) in omega (arith, length-append (pair_at extent (f k) k) (numbered extent f k), z, numbered_length f k))
      (λ q. omega (arith, length-append (pair_at extent (f k) k) (numbered extent f k), pair_short (f k) k, numbered_room f n k (omega (arith, q)) e))
      (cases_eq n k)

  passing_cons : (test : E → Bool) (p : E × ℕ) (ps : List (E × ℕ)) (n : ℕ) → listed (passing_numbers test (p ∷ ps)) n ≡ ((test p.0 && eqb p.1 n) || listed (passing_numbers test ps) n)
  passing_cons test p ps n = go (test p.0) refl
    where
      go : (b : Bool) → test p.0 ≡ b → listed (passing_numbers test (p ∷ ps)) n ≡ ((b && eqb p.1 n) || listed (passing_numbers test ps) n)
      go true e = ap (λ v. listed (map (λ q. q.1) (cond v (p ∷ filter (λ q. test q.0) ps) (filter (λ q. test q.0) ps))) n) e
      go false e = ap (λ v. listed (map (λ q. q.1) (cond v (p ∷ filter (λ q. test q.0) ps) (filter (λ q. test q.0) ps))) n) e

  -- they are the same for the same pairs in another order
  pub passing_shuffled : (test : E → Bool) (n : ℕ) {ps qs : List (E × ℕ)} → Permᴰ ps qs → listed (passing_numbers test ps) n ≡ listed (passing_numbers test qs) n
  passing_shuffled test n Permᴰ.nil = refl
  passing_shuffled test n (Permᴰ.cons {a} {b} {l₁} {l₂} e p) =
      passing_cons test a l₁ n ∙ ap (λ v. (test v.0 && eqb v.1 n) || listed (passing_numbers test l₁) n) e ∙ ap (λ v. (test b.0 && eqb b.1 n) || v) (passing_shuffled test n p) ∙ sym (passing_cons test b l₂ n)
  passing_shuffled test n (Permᴰ.swap {a} {b} {a'} {b'} {l} e h) =
      passing_cons test a (b ∷ l) n ∙ ap (λ v. at a || v) (passing_cons test b l n)
      ∙ or_swap (at a) (at b) (listed (passing_numbers test l) n)
      ∙ ap (λ v. at v || (at a || listed (passing_numbers test l) n)) h ∙ ap (λ v. at a' || (at v || listed (passing_numbers test l) n)) e
      ∙ sym (passing_cons test a' (b' ∷ l) n ∙ ap (λ v. at a' || v) (passing_cons test b' l n))
    where
      at : E × ℕ → Bool
      at p = test p.0 && eqb p.1 n

      or_swap : (x y z : Bool) → (x || (y || z)) ≡ (y || (x || z))
      or_swap true true z = refl
      or_swap true false z = refl
      or_swap false true z = refl
      or_swap false false z = refl
  passing_shuffled test n (Permᴰ.trans p q) = passing_shuffled test n p ∙ passing_shuffled test n q

  -- whether what stands at a number passes
  abbrev pub passes : (E → Bool) → Option A → Bool
  passes test None = false
  passes test (Some a) = test (extent a)

  passing_numbered : (test : E → Bool) (f : ℕ → Option A) (n k : ℕ) → listed (passing_numbers test (numbered extent f k)) n ≡ (ltb n k && passes test (f n))
  unfolding numbered
  passing_numbered test f n zero = grind (arith, nat_tests)
  passing_numbered test f n (suc k) = here (f k) refl ∙ ap (λ v. (passes test (f k) && eqb k n) || v) (passing_numbered test f n k) ∙ ⊎_elim
      (λ e. joined (ap (λ m. passes test (f m)) e))
      (λ e. apart e)
      (cases_eq k n)
    where
      here : (o : Option A) → f k ≡ o → listed (passing_numbers test (pair_at extent (f k) k ++ numbered extent f k)) n ≡ ((passes test (f k) && eqb k n) || listed (passing_numbers test (numbered extent f k)) n)
      here None e = ap (λ v. listed (passing_numbers test (pair_at extent v k ++ numbered extent f k)) n) e ∙ sym (ap (λ v. (passes test v && eqb k n) || listed (passing_numbers test (numbered extent f k)) n) e)
      here (Some a) e =
          ap (λ v. listed (passing_numbers test (pair_at extent v k ++ numbered extent f k)) n) e ∙ passing_cons test (extent a, k) (numbered extent f k) n
          ∙ sym (ap (λ v. (passes test v && eqb k n) || listed (passing_numbers test (numbered extent f k)) n) e)

      joined : passes test (f k) ≡ passes test (f n) → ((passes test (f k) && eqb k n) || (ltb n k && passes test (f n))) ≡ (ltb n (suc k) && passes test (f n))
      joined h = ap (λ v. (v && eqb k n) || (ltb n k && passes test (f n))) h ∙ rest (passes test (f n))
        where
          rest : (v : Bool) → ((v && eqb k n) || (ltb n k && v)) ≡ (ltb n (suc k) && v)
          rest v = grind (arith, nat_tests)

      apart : (k ≡ n → ⊥) → ((passes test (f k) && eqb k n) || (ltb n k && passes test (f n))) ≡ (ltb n (suc k) && passes test (f n))
      apart h = ap (λ v. (passes test (f k) && v) || (ltb n k && passes test (f n))) (ne_eqb k n h) ∙ rest (passes test (f k)) (passes test (f n))
        where
          rest : (u v : Bool) → ((u && false) || (ltb n k && v)) ≡ (ltb n (suc k) && v)
          rest u v = grind (arith, nat_tests)

  -- a list of pairs that names each, as something comes, goes or is replaced
  pub named_gained : (f : ℕ → Option A) (n k : ℕ) (a : A) (ps qs : List (E × ℕ)) → n < k → f n ≡ None → Perm ps (numbered extent f k) → Perm qs ((extent a, n) ∷ ps) → Perm qs (numbered extent (put f n (Some a)) k)
  named_gained f n k a ps qs l e h q = Perm.trans q (Perm.trans (Perm.cons (extent a, n) h) (Perm.symm ∣ numbered_gained f n k a l e ∣₁))

  pub named_lost : (f : ℕ → Option A) (n k : ℕ) (a : A) (ps qs : List (E × ℕ)) → n < k → f n ≡ Some a → Perm ps (numbered extent f k) → Perm ps ((extent a, n) ∷ qs) → Perm qs (numbered extent (put f n None) k)
  named_lost f n k a ps qs l e h q = Perm.cons_inv {a = (extent a, n)} (Perm.trans (Perm.symm q) (Perm.trans h ∣ numbered_lost f n k a l e ∣₁))

  pub named_changed : (f : ℕ → Option A) (n k : ℕ) (a b : A) (ps rs qs : List (E × ℕ)) → n < k → f n ≡ Some a → Perm ps (numbered extent f k) → Perm ps ((extent a, n) ∷ rs) → Perm qs ((extent b, n) ∷ rs)
      → Perm qs (numbered extent (put f n (Some b)) k)
  named_changed f n k a b ps rs qs l e h was is =
      let there = named_gained (put f n None) n k b rs qs l (put_here f n None) (named_lost f n k a ps rs l e h was) is in
      let same : numbered extent (put (put f n None) n (Some b)) k ≡ numbered extent (put f n (Some b)) k = numbered_same (put (put f n None) n (Some b)) (put f n (Some b)) k (λ m _. ⊎_elim
      (λ q. cond-true (eqb m n) (Some b) (put f n None m) (eq-eqb m n q) ∙ sym (cond-true (eqb m n) (Some b) (f m) (eq-eqb m n q)))
      (λ q. put_there (put f n None) n (Some b) m q ∙ put_there f n None m q ∙ sym (put_there f n (Some b) m q))
      (cases_eq m n)) in
      subst (Perm qs) same there

  -- what stands at a number is stored
  pub named_stored : (f : ℕ → Option A) (n k : ℕ) (a : A) (ps : List (E × ℕ)) → n < k → f n ≡ Some a → Perm ps (numbered extent f k) → Perm ps ((extent a, n) ∷ numbered extent (put f n None) k)
  named_stored f n k a ps l e h = Perm.trans h ∣ numbered_lost f n k a l e ∣₁

  perm_length : {xs ys : List (E × ℕ)} → Permᴰ xs ys → length xs ≡ length ys
  perm_length Permᴰ.nil = refl
  perm_length (Permᴰ.cons e p) = ap suc (perm_length p)
  perm_length (Permᴰ.swap e h) = refl
  perm_length (Permᴰ.trans p q) = perm_length p ∙ perm_length q

  -- there is room for one more where a number is unused
  pub named_room : (f : ℕ → Option A) (n k : ℕ) (ps : List (E × ℕ)) → n < k → f n ≡ None → Perm ps (numbered extent f k) → length ps < k
  named_room f n k ps l e h =
      let same : length ps ≡ length (numbered extent f k) = ∥∥₁_elim h (ℕ_set (length ps) (length (numbered extent f k))) perm_length in
      omega (arith, same, numbered_room f n k l e)

  -- what is found is exactly what passes
  pub named_found : (test : E → Bool) (f : ℕ → Option A) (n k : ℕ) (ps : List (E × ℕ)) → Perm ps (numbered extent f k) → listed (passing_numbers test ps) n ≡ (ltb n k && passes test (f n))
  named_found test f n k ps h =
      ∥∥₁_elim h (Bool-set (listed (passing_numbers test ps) n) (listed (passing_numbers test (numbered extent f k)) n)) (passing_shuffled test n) ∙ passing_numbered test f n k
