-- The computed choices are those of the rule, and the rule allows no other. Assumes nothing.
use Rattle.std.proofs.Common.{◌≡◌, ℕ, zero, suc, ◌+◌, ◌*◌, ◌/◌, ◌%◌, ◌<◌, ◌≤◌, cond, eqb, ltb, List, get_or, Some, None, Option, refl, ap, subst, subst₂, inl, inr, arith}
use Rattle.std.proofs.lemmas.Bool.{cases_lt, cases_order, eq-eqb, ne_eqb, eqb-true, eqb-false, ltb-true, ltb-false, cond_both}
use Rattle.quadratic.specs.Choosing.{pull, Next, NextOf, Pair, at_most, below, Seeds}
use Rattle.quadratic.specs.Split.{remaining, letter_for, worse, keep_worse, seeds_before, keep_pulled, next_before}

-- a number below i + 1 is below i, or is i
below_or_at : (P : ℕ → Type 0) (i j : ℕ) → j < suc i → (j < i → P j) → P i → P j
below_or_at P i j l before at =
    elim (cases_lt j i) [
      | inl m ↦ before m
      | inr m ↦ let e : i ≡ j = omega arith in subst P e at
    ]

module _ (ga gb sa sb na nb : ℕ) where
  pub letter_all_a : na + remaining na nb ≡ 3 → letter_for ga gb sa sb na nb ≡ 65
  unfolding letter_for
  letter_all_a e =
      let t = eq-eqb (na + remaining na nb) 3 e in
      simp t

  pub letter_all_b : (na + remaining na nb ≡ 3 → ⊥) → nb + remaining na nb ≡ 3 → letter_for ga gb sa sb na nb ≡ 66
  unfolding letter_for
  letter_all_b n e =
      let f = ne_eqb (na + remaining na nb) 3 n in
      let t = eq-eqb (nb + remaining na nb) 3 e in
      simp (f, t)

module _ (ga gb ls : List ℕ) where
  -- no other entry goes next
  next_passed : (i k : ℕ) → Next ga gb ls i k → (get_or ls i 0 ≡ 0 → pull ga gb i ≤ pull ga gb k) → Next ga gb ls (suc i) k
  next_passed i k h here =
      let f = h.free in
      let l = f.0 in
      record {
        free = (omega arith, f.1);
        most = λ j g. below_or_at (λ j. get_or ls j 0 ≡ 0 → pull ga gb j ≤ pull ga gb k) i j g.0 (λ m e. h.most j (m, e)) here g.1;
        first = λ j m g. h.first j m (omega arith, g.1);
      }

  -- the new entry goes next
  next_found : (i : ℕ) → get_or ls i 0 ≡ 0 → ((j : ℕ) → j < i → get_or ls j 0 ≡ 0 → pull ga gb j < pull ga gb i) → Next ga gb ls (suc i) i
  next_found i e before = record {
    free = (omega arith, e);
    most = λ j g. below_or_at (λ j. get_or ls j 0 ≡ 0 → pull ga gb j ≤ pull ga gb i) i j g.0 (λ m e. let b = before j m e in omega arith) (λ _. omega arith) g.1;
    first = λ j m g. before j m g.1;
  }

  next_more : (i : ℕ) (best : Option ℕ) → NextOf ga gb ls i best → NextOf ga gb ls (suc i) (keep_pulled ga gb ls i best)
  unfolding keep_pulled
  next_more i None h =
      cond_both (eqb (get_or ls i 0) 0) (Some i) None (NextOf ga gb ls (suc i))
      (λ e. next_found i (eqb-true (get_or ls i 0) 0 e) (λ j m z. absurd (h j (m, z))))
      (λ e j f. below_or_at (λ j. get_or ls j 0 ≡ 0 → ⊥) i j f.0 (λ m z. h j (m, z)) (eqb-false (get_or ls i 0) 0 e) f.1)
  next_more i (Some k) h =
      cond_both (eqb (get_or ls i 0) 0) (cond (ltb (pull ga gb k) (pull ga gb i)) (Some i) (Some k)) (Some k) (NextOf ga gb ls (suc i))
      (λ e. cond_both (ltb (pull ga gb k) (pull ga gb i)) (Some i) (Some k) (NextOf ga gb ls (suc i))
      (λ t. next_found i (eqb-true (get_or ls i 0) 0 e) (λ j m z. let p = h.most j (m, z) in let q = ltb-true (pull ga gb k) (pull ga gb i) t in omega arith))
      (λ t. next_passed i k h (λ _. ltb-false (pull ga gb k) (pull ga gb i) t)))
      (λ e. next_passed i k h (λ z. absurd (eqb-false (get_or ls i 0) 0 e z)))

  pub next_is : (n : ℕ) → NextOf ga gb ls n (next_before ga gb ls n)
  unfolding next_before
  next_is zero = λ j f. let p = f.0 in absurd (omega arith)
  next_is (suc i) = next_more i (next_before ga gb ls i) (next_is i)

  pub next_alone : (n : ℕ) (a b : Option ℕ) → NextOf ga gb ls n a → NextOf ga gb ls n b → a ≡ b
  next_alone n None None h k = refl
  next_alone n None (Some j) h k = absurd (h j k.free)
  next_alone n (Some i) None h k = absurd (k i h.free)
  next_alone n (Some i) (Some j) h k =
      elim (cases_order i j) [
        | inl e ↦ ap Some e
        | inr (inl m) ↦ let p = k.first i m h.free in let q = h.most j k.free in absurd (omega arith)
        | inr (inr m) ↦ let p = h.first j m k.free in let q = k.most i h.free in absurd (omega arith)
      ]

module _ (sizes joins : List ℕ) where
  pair_more : (P : ℕ → ℕ → Type 0) (m k l : ℕ) → Pair (suc m) k l → (Pair m k l → P k l) → P (m / 9) (m % 9) → P k l
  pair_more P m k l h before at =
      let o = h.order in
      let n = h.nine in
      let b = h.before in
      elim (cases_lt (9 * k + l) m) [
        | inl z ↦ before (record { order = o; nine = n; before = z })
        | inr z ↦
            let e : m / 9 ≡ k = omega arith in
            let f : m % 9 ≡ l = omega arith in
            subst₂ P e f at
      ]

  pair_longer : (m k l : ℕ) → Pair m k l → Pair (suc m) k l
  pair_longer m k l h = let b = h.before in record { order = h.order; nine = h.nine; before = omega arith }

  -- the best pair stays, where the new one is none or is not worse
  seeds_passed : (m i j : ℕ) → Seeds sizes joins m i j → (m / 9 < m % 9 → at_most sizes joins (m / 9) (m % 9) i j) → Seeds sizes joins (suc m) i j
  seeds_passed m i j h here =
      let b = h.pair.before in
      record {
        pair = pair_longer m i j h.pair;
        most = λ k l p. pair_more (λ k l. k < l → at_most sizes joins k l i j) m k l p (λ q _. h.most k l q) here p.order;
        first = λ k l p z. h.first k l (record { order = p.order; nine = p.nine; before = omega arith }) z;
      }

  -- the new pair is the worst
  seeds_found : (m : ℕ) → m / 9 < m % 9 → ((k l : ℕ) → Pair m k l → below sizes joins k l (m / 9) (m % 9)) → Seeds sizes joins (suc m) (m / 9) (m % 9)
  seeds_found m o before = record {
    pair = record { order = o; nine = omega arith; before = omega arith };
    most = λ k l p. pair_more (λ k l. at_most sizes joins k l (m / 9) (m % 9)) m k l p (λ q. let b = before k l q in omega arith) (omega arith);
    first = λ k l p z. before k l (record { order = p.order; nine = p.nine; before = omega arith });
  }

  seeds_more : (m : ℕ) (best : ℕ × ℕ) → Seeds sizes joins m best.0 best.1 → Seeds sizes joins (suc m) (keep_worse sizes joins m best).0 (keep_worse sizes joins m best).1
  unfolding keep_worse worse
  seeds_more m best h =
      cond_both (ltb (m / 9) (m % 9)) (cond (worse sizes joins (m / 9, m % 9) best) (m / 9, m % 9) best) best (λ z. Seeds sizes joins (suc m) z.0 z.1)
      (λ e. cond_both (worse sizes joins (m / 9, m % 9) best) (m / 9, m % 9) best (λ z. Seeds sizes joins (suc m) z.0 z.1)
      (λ t. seeds_found m (ltb-true (m / 9) (m % 9) e) (λ k l p. let q = h.most k l p in let w = ltb-true _ _ t in omega arith))
      (λ t. seeds_passed m best.0 best.1 h (λ _. ltb-false _ _ t)))
      (λ e. seeds_passed m best.0 best.1 h (λ o. let n = ltb-false (m / 9) (m % 9) e in absurd (omega arith)))

  seeds_start : Seeds sizes joins 2 (seeds_before sizes joins 2).0 (seeds_before sizes joins 2).1
  unfolding seeds_before keep_worse
  seeds_start =
      cond_both {A = ℕ × ℕ} (worse sizes joins (0, 1) (0, 1)) (0, 1) (0, 1) (λ z. Seeds sizes joins 2 z.0 z.1) (λ _. alone) (λ _. alone)
    where
      alone : Seeds sizes joins 2 0 1
      alone = record {
        pair = record { order = omega arith; nine = omega arith; before = omega arith };
        most = λ k l p.
            let o = p.order in
            let b = p.before in
            let e : 0 ≡ k = omega arith in
            let f : 1 ≡ l = omega arith in
            subst₂ (λ k l. at_most sizes joins k l 0 1) e f (omega arith);
        first = λ k l p z. let o = p.order in absurd (omega arith);
      }

  pub seeds_are : (n : ℕ) → Seeds sizes joins (suc (suc n)) (seeds_before sizes joins (suc (suc n))).0 (seeds_before sizes joins (suc (suc n))).1
  unfolding seeds_before
  seeds_are zero = seeds_start
  seeds_are (suc n) = seeds_more (suc (suc n)) (seeds_before sizes joins (suc (suc n))) (seeds_are n)

  pub seeds_alone : (n i j k l : ℕ) → Seeds sizes joins n i j → Seeds sizes joins n k l → ◌≡◌ {A = ℕ × ℕ} (i, j) (k, l)
  seeds_alone n i j k l h g =
      let o = h.pair in
      let q = g.pair in
      elim (cases_order (9 * i + j) (9 * k + l)) [
        | inl e ↦
            let a : i ≡ k = omega arith in
            let b : j ≡ l = omega arith in
            cc
        | inr (inl m) ↦ let a = g.first i j o m in let b = h.most k l q in absurd (omega arith)
        | inr (inr m) ↦ let a = h.first k l q m in let b = g.most i j o in absurd (omega arith)
      ]
