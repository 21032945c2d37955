-- How many rows are not in use. Assumes nothing.
use Rattle.std.proofs.Common.{◌≡◌, ℕ, zero, suc, ◌+◌, ◌<◌, ◌≤◌, List, [], ◌∷◌, length, get_or, set, refl, ap, ◌∙◌, inl, inr, arith, length-set, get_or-set_other}
use Rattle.std.proofs.lemmas.Bool.{cases_eq}
use Rattle.node_rows.specs.Nodes.{Off, spare, idle}

-- a count that is set: one row fewer is left at most, and none fewer where the row was in use
pub spare_set : (ns : List ℕ) (i v : ℕ) → spare ns ≤ spare (set ns i v) + 1
spare_set [] i v = omega arith
spare_set (zero ∷ ns) zero v = omega arith
spare_set (suc n ∷ ns) zero v = omega arith
spare_set (n ∷ ns) (suc i) v = let h = spare_set ns i v in omega arith

pub spare_kept : (ns : List ℕ) (i v : ℕ) → 0 < get_or ns i 0 → spare ns ≤ spare (set ns i v)
spare_kept [] i v h = omega arith
spare_kept (zero ∷ ns) zero v h = omega arith
spare_kept (suc n ∷ ns) zero v h = omega arith
spare_kept (n ∷ ns) (suc i) v h = let k = spare_kept ns i v h in omega arith

idle_one : (n : ℕ) → idle n ≤ 1
idle_one zero = omega arith
idle_one (suc n) = omega arith

spare_more : (ns : List ℕ) (i v : ℕ) → spare (set ns i v) ≤ spare ns + 1
spare_more [] i v = omega arith
spare_more (n ∷ ns) zero v = let a = idle_one v in omega arith
spare_more (n ∷ ns) (suc i) v = let h = spare_more ns i v in omega arith

-- ---- the counts are as they were but at one row: one row fewer is left at most

spare_all : (ns ms : List ℕ) → length ns ≡ length ms → ((q : ℕ) → q < length ns → idle (get_or ns q 0) ≤ idle (get_or ms q 0)) → spare ns ≤ spare ms
spare_all [] [] e h = omega arith
spare_all [] (m ∷ ms) e h = absurd (omega arith)
spare_all (n ∷ ns) [] e h = absurd (omega arith)
spare_all (n ∷ ns) (m ∷ ms) e h =
    let a = h 0 (omega arith) in
    let ih = spare_all ns ms (omega arith) (λ q l. h (suc q) (omega arith)) in
    omega arith

pub spare_off : (ns ms : List ℕ) (to : ℕ) → length ns ≡ length ms → ((q : ℕ) → q < length ns → (q ≡ to → ⊥) → idle (get_or ns q 0) ≤ idle (get_or ms q 0)) → spare ns ≤ spare ms + 1
spare_off [] [] to e h = omega arith
spare_off [] (m ∷ ms) to e h = absurd (omega arith)
spare_off (n ∷ ns) [] to e h = absurd (omega arith)
spare_off (n ∷ ns) (m ∷ ms) zero e h =
    let ih = spare_all ns ms (omega arith) (λ q l. h (suc q) (omega arith) (λ z. omega arith)) in
    let a = idle_one n in
    omega arith
spare_off (n ∷ ns) (m ∷ ms) (suc to) e h =
    let a = h 0 (omega arith) (λ z. omega arith) in
    let ih = spare_off ns ms to (omega arith) (λ q l ne. h (suc q) (omega arith) (λ z. ne (omega arith))) in
    omega arith

-- ---- rows that are not among those in use are left

spare_every : (ns : List ℕ) → ((q : ℕ) → get_or ns q 0 ≡ 0) → length ns ≤ spare ns
spare_every [] h = omega arith
spare_every (n ∷ ns) h = let e : idle n ≡ 1 = ap idle (h 0) in let ih = spare_every ns (λ q. h (suc q)) in omega arith

get_or_set_none : (ns : List ℕ) (r : ℕ) → get_or (set ns r 0) r 0 ≡ 0
get_or_set_none [] r = refl
get_or_set_none (n ∷ ns) zero = refl
get_or_set_none (n ∷ ns) (suc r) = get_or_set_none ns r

pub spare_outside : (rs ns : List ℕ) → ((q : ℕ) → Off q rs → get_or ns q 0 ≡ 0) → length ns ≤ spare ns + length rs
spare_outside [] ns h = let k = spare_every ns (λ q. h q tt) in omega arith
spare_outside (r ∷ rs) ns h =
    let ih = spare_outside rs (set ns r 0) (λ q o. elim (cases_eq q r) [
      | inl e ↦ ap (λ k. get_or (set ns r 0) k 0) e ∙ get_or_set_none ns r
      | inr e ↦ get_or-set_other ns r q 0 0 e ∙ h q (e, o)
    ]) in
    let a = spare_more ns r 0 in
    let l = length-set ns r 0 in
    omega arith
