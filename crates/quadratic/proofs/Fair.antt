-- However the extents lie, each of the nine gets a letter, and each letter goes to at least three. Assumes nothing.
use Rattle.std.proofs.Common.{◌≡◌, ℕ, zero, suc, ◌+◌, ◌<◌, ◌≤◌, Bool, true, false, cond, eqb, ◌⊎◌, List, [], ◌∷◌, length, get_or, set, replicate, Some, None, Option, sym, refl, ap, ◌∙◌, subst, inl, inr, arith, length-set, get_or-set_other}
use Rattle.std.specs.List.{AllByRecursion}
use Rattle.std.proofs.ByRecursion.{All-set}
use Rattle.std.proofs.lemmas.List.{get_or-replicate}
use Rattle.std.proofs.lemmas.Bool.{both_ways, eq-eqb}
use Rattle.quadratic.specs.Choosing.{NextOf}
use Rattle.quadratic.specs.Sharing.{tally, Lettered, SharedOut}
use Rattle.quadratic.specs.Split.{Groups, remaining, seeds, started, next, goes_to_a, given, shared_one, shared, split9, sizes, join_sizes_lem, growths}
use Rattle.quadratic.proofs.Chosen.{letter_all_a, letter_all_b, next_is, seeds_are}
use Rattle.quadratic.proofs.Tally.{tally_set, tally_some}

-- no letter yet, or one of the two
abbrev Letter : ℕ → Type 0
Letter l = (l ≡ 0) ⊎ Lettered l

-- what is kept: A has as many entries as letters, so has B, as many have no letter as remain, and either group can still come to three
pub record Fair (ls : List ℕ) (na nb : ℕ) : Type 0 where
  pub nine : length ls ≡ 9
  pub letters : AllByRecursion Letter ls
  pub in_a : tally 65 ls ≡ na
  pub in_b : tally 66 ls ≡ nb
  pub in_none : tally 0 ls ≡ remaining na nb
  pub most : na + nb ≤ 9
  pub three_a : 3 ≤ na + remaining na nb
  pub three_b : 3 ≤ nb + remaining na nb

-- an entry gets its letter
module _ (ls : List ℕ) (i : ℕ) (nine : length ls ≡ 9) (l : i < 9) (none : get_or ls i 0 ≡ 0) where
  tally_new : (v w : ℕ) → tally v (set ls i w) + cond (eqb 0 v) 1 0 ≡ tally v ls + cond (eqb w v) 1 0
  tally_new v w = subst (λ z. tally v (set ls i w) + cond (eqb z v) 1 0 ≡ tally v ls + cond (eqb w v) 1 0) none (tally_set v ls i w (omega arith))

  fair_a : (na nb : ℕ) → Fair ls na nb → (nb + remaining na nb ≡ 3 → ⊥) → Fair (set ls i 65) (na + 1) nb
  fair_a na nb f room =
      let z = tally_new 0 65 in
      let a = tally_new 65 65 in
      let b = tally_new 66 65 in
      let fa = f.in_a in let fb = f.in_b in let fz = f.in_none in let fm = f.most in let ta = f.three_a in let tb = f.three_b in
      record {
        nine = length-set ls i 65 ∙ nine;
        letters = All-set Letter ls i 65 (inr (inl refl)) f.letters;
        in_a = omega arith;
        in_b = omega arith;
        in_none = omega arith;
        most = omega arith;
        three_a = omega arith;
        three_b = omega arith;
      }

  fair_b : (na nb : ℕ) → Fair ls na nb → (na + remaining na nb ≡ 3 → ⊥) → Fair (set ls i 66) na (nb + 1)
  fair_b na nb f room =
      let z = tally_new 0 66 in
      let a = tally_new 65 66 in
      let b = tally_new 66 66 in
      let fa = f.in_a in let fb = f.in_b in let fz = f.in_none in let fm = f.most in let ta = f.three_a in let tb = f.three_b in
      record {
        nine = length-set ls i 66 ∙ nine;
        letters = All-set Letter ls i 66 (inr (inr refl)) f.letters;
        in_a = omega arith;
        in_b = omega arith;
        in_none = omega arith;
        most = omega arith;
        three_a = omega arith;
        three_b = omega arith;
      }

fair_none : Fair (replicate 9 0) 0 0
fair_none = record {
  nine = refl;
  letters = (inl refl, (inl refl, (inl refl, (inl refl, (inl refl, (inl refl, (inl refl, (inl refl, (inl refl, tt)))))))));
  in_a = refl;
  in_b = refl;
  in_none = refl;
  most = omega arith;
  three_a = omega arith;
  three_b = omega arith;
}

fair_start : (i j : ℕ) → i < j → j < 9 → Fair (set (set (replicate 9 0) i 65) j 66) 1 1
fair_start i j l lj =
    let r : List ℕ = replicate 9 0 in
    let z : get_or r i 0 ≡ 0 = get_or-replicate 9 i 0 0 (omega arith) in
    let zj : get_or (set r i 65) j 0 ≡ 0 = get_or-set_other r i j 65 0 (λ e. omega arith) ∙ get_or-replicate 9 j 0 0 lj in
    let one = fair_a r i refl (omega arith) z 0 0 fair_none (λ e. omega arith) in
    fair_b (set r i 65) j one.nine lj zj 1 0 one (λ e. omega arith)

-- letters without the number 0
lettered : (ls : List ℕ) → AllByRecursion Letter ls → tally 0 ls ≡ 0 → AllByRecursion Lettered ls
lettered [] h e = tt
lettered (l ∷ ls) h e =
    elim h.0 [
      | inl z ↦ let o : ◌≡◌ {A = ℕ} (cond (eqb l 0) 1 0) 1 = ap (λ b. cond {A = ℕ} b 1 0) (eq-eqb l 0 z) in absurd (omega arith)
      | inr p ↦ (p, lettered ls h.1 (omega arith))
    ]

module _ {E : Type 0} (size : E → ℕ) (join : E → E → E) (x : ℕ → E) where
  pub seeds_pair : ((seeds size join x).0 < (seeds size join x).1) × ((seeds size join x).1 < 9)
  unfolding seeds
  seeds_pair = let p = (seeds_are (sizes size join x) (join_sizes_lem size join x) 79).pair in (p.order, p.nine)

  -- while one has no letter, some entry goes next
  pub next_free : (g : Groups E) → length g.letters ≡ 9 → 0 < tally 0 g.letters → (i : ℕ) × (next size join x g ≡ Some i) × (i < 9) × (get_or g.letters i 0 ≡ 0)
  unfolding next
  next_free g nine some = by (next size join x g) refl (next_is (growths size join x g.a) (growths size join x g.b) g.letters 9)
    where
      by : (o : Option ℕ) → next size join x g ≡ o → NextOf (growths size join x g.a) (growths size join x g.b) g.letters 9 o
          → (i : ℕ) × (next size join x g ≡ Some i) × (i < 9) × (get_or g.letters i 0 ≡ 0)
      by (Some i) e h = (i, e, h.free.0, h.free.1)
      by None e h = let k = tally_some 0 g.letters some in let m = k.1 in absurd (h k.0 (omega arith, k.2))

  abbrev Good : Groups E → Type 0
  Good g = Fair g.letters g.na g.nb

  fair_given : (g : Groups E) (i : ℕ) → Good g → i < 9 → get_or g.letters i 0 ≡ 0 → (t : Bool)
      → (t ≡ true → g.nb + remaining g.na g.nb ≡ 3 → ⊥) → (t ≡ false → g.na + remaining g.na g.nb ≡ 3 → ⊥) → Good (given size join x g i t)
  unfolding given
  fair_given g i f l z true a b = fair_a g.letters i f.nine l z g.na g.nb f (a refl)
  fair_given g i f l z false a b = fair_b g.letters i f.nine l z g.na g.nb f (b refl)

  -- where all that remain go to one group, the next entry does
  pub all_to_a : (g : Groups E) (i : ℕ) → g.na + remaining g.na g.nb ≡ 3 → goes_to_a size join x g i ≡ true
  unfolding goes_to_a
  all_to_a g i e = eq-eqb _ 65 (letter_all_a _ _ _ _ g.na g.nb e)

  pub all_to_b : (g : Groups E) (i : ℕ) → g.na + g.nb ≤ 9 → g.nb + remaining g.na g.nb ≡ 3 → goes_to_a size join x g i ≡ false
  unfolding goes_to_a
  all_to_b g i h e = ap (λ l. eqb l 65) (letter_all_b _ _ _ _ g.na g.nb (λ z. omega arith) e)

  pub fair_next : (g : Groups E) → Good g → 0 < remaining g.na g.nb → Good (shared_one size join x g (next size join x g))
  unfolding shared_one
  fair_next g f some =
      let z = f.in_none in
      let m = f.most in
      let n = next_free g f.nine (omega arith) in
      let i = n.0 in
      let t = goes_to_a size join x g i in
      subst (λ o. Good (shared_one size join x g o)) (sym n.1)
      (fair_given g i f n.2 n.3 t
      (λ e h. both_ways t (all_to_b g i m h) e)
      (λ e h. both_ways t e (all_to_a g i h)))

  counts_given : (g : Groups E) (i : ℕ) (t : Bool) → (given size join x g i t).na + (given size join x g i t).nb ≡ (g.na + g.nb) + 1
  unfolding given
  counts_given g i true = omega arith
  counts_given g i false = omega arith

  -- each turn shares one out
  pub counts_next : (g : Groups E) → Good g → 0 < remaining g.na g.nb
      → (shared_one size join x g (next size join x g)).na + (shared_one size join x g (next size join x g)).nb ≡ (g.na + g.nb) + 1
  unfolding shared_one
  counts_next g f some =
      let z = f.in_none in
      let n = next_free g f.nine (omega arith) in
      subst (λ o. (shared_one size join x g o).na + (shared_one size join x g o).nb ≡ (g.na + g.nb) + 1) (sym n.1) (counts_given g n.0 (goes_to_a size join x g n.0))

  pub shared_fair : (n : ℕ) → n ≤ 7 → Good (shared size join x n) × ((shared size join x n).na + (shared size join x n).nb ≡ 2 + n)
  unfolding shared started
  shared_fair zero h = (fair_start (seeds size join x).0 (seeds size join x).1 seeds_pair.0 seeds_pair.1, refl)
  shared_fair (suc n) h =
      let ih = shared_fair n (omega arith) in
      let s = ih.1 in
      let c = counts_next (shared size join x n) ih.0 (omega arith) in
      (fair_next (shared size join x n) ih.0 (omega arith), omega arith)

  -- nine letters, three to six of them A, and the others B
  pub split9_fair : (length (split9 size join x) ≡ 9) × (3 ≤ tally 65 (split9 size join x)) × (tally 65 (split9 size join x) ≤ 6) × AllByRecursion Lettered (split9 size join x)
  unfolding split9
  split9_fair =
      let s = shared_fair 7 (omega arith) in
      let f = s.0 in
      let n = s.1 in
      let a = f.in_a in let z = f.in_none in let p = f.three_a in let q = f.three_b in
      (f.nine, omega arith, omega arith, lettered (shared size join x 7).letters f.letters (omega arith))

  pub shared_out : SharedOut (split9 size join x)
  unfolding split9
  shared_out =
      let s = shared_fair 7 (omega arith) in
      let f = s.0 in
      let n = s.1 in
      let a = f.in_a in let b = f.in_b in let p = f.three_a in let q = f.three_b in
      let r = split9_fair in
      record { nine = r.0; grouped = r.3; three_in_a = r.1; three_in_b = omega arith }
