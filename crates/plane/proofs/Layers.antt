-- Laws of planes in which a run was written.
use Rattle.std.proofs.Common.{◌≡◌, ℕ, zero, suc, ◌+◌, ◌*◌, ◌/◌, ◌%◌, ◌^◌, ◌<◌, ◌≤◌, ◌⊎◌, List, length, drop, sym, refl, ap, ◌∙◌, inl, inr, ⊎_elim, add-mul, add-one, arith}
use Rattle.std.proofs.lemmas.Nat.{mul-le}
use Rattle.std.proofs.lemmas.Bool.{cases_order}
use Rattle.plane.specs.Layout.{bits_written, planes_written}
use Rattle.plane.proofs.Written.{length_written, bit_in, bit_in_on, bit_in_off, drop_written}

pub planes_none : (bits from n ink : ℕ) (xs : List ℕ) → planes_written 0 bits from n ink xs ≡ xs
unfolding planes_written
planes_none bits from n ink xs = refl

pub planes_more : (k bits from n ink : ℕ) (xs : List ℕ) → planes_written (k + 1) bits from n ink xs ≡ bits_written (k * bits + from) (k * bits + from + n) (ink / 2 ^ k % 2) (planes_written k bits from n ink xs)
unfolding planes_written
planes_more k bits from n ink xs = rw add-one

pub length_planes : (m bits from n ink : ℕ) (xs : List ℕ) → length (planes_written m bits from n ink xs) ≡ length xs
unfolding planes_written
length_planes zero bits from n ink xs = refl
length_planes (suc m) bits from n ink xs = length_written _ _ _ _ ∙ length_planes m bits from n ink xs

-- each row of so many places ends before the next begins
pub row_ends : (m k bits : ℕ) → m < k → m * bits + bits ≤ k * bits
row_ends m k bits lt = omega (arith, mul-le (m + 1) bits k bits (omega arith) (omega arith), add-mul m 1 bits)

-- a place of another plane is none of the run's
planes_apart : (bits from n m k r : ℕ) → r < bits → from + n ≤ bits → (k < m) ⊎ (m < k) → (k * bits + r < m * bits + from) ⊎ (m * bits + from + n ≤ k * bits + r)
planes_apart bits from n m k r on end (inl above) = inl (omega (arith, row_ends k m bits above))
planes_apart bits from n m k r on end (inr below) = inr (omega (arith, row_ends m k bits below))

-- a place off the run keeps its bit
pub planes_off : (m bits from n ink : ℕ) (xs : List ℕ) (k r : ℕ) → from + n ≤ bits → r < bits → k * bits + r < 8 * length xs → (r < from) ⊎ (from + n ≤ r) → bit_in (planes_written m bits from n ink xs) (k * bits + r) ≡ bit_in xs (k * bits + r)
unfolding planes_written
planes_off zero bits from n ink xs k r end on room off = refl
planes_off (suc m) bits from n ink xs k r end on room off =
    let apart : (k * bits + r < m * bits + from) ⊎ (m * bits + from + n ≤ k * bits + r) =
    ⊎_elim (λ same. let e : k * bits ≡ m * bits = ap (λ (j : ℕ). j * bits) same in ⊎_elim (λ before. inl (omega arith)) (λ behind. inr (omega arith)) off)
    (planes_apart bits from n m k r on end)
    (cases_order k m) in
    bit_in_off (m * bits + from) (m * bits + from + n) (ink / 2 ^ m % 2) (planes_written m bits from n ink xs) (k * bits + r) (omega arith) (omega arith) (omega (arith, length_planes m bits from n ink xs)) apart
    ∙ planes_off m bits from n ink xs k r end on room off

-- a place on the run has its plane's bit of the ink
pub planes_on : (m bits from n ink : ℕ) (xs : List ℕ) (k r : ℕ) → k < m → from + n ≤ bits → k * bits + r < 8 * length xs → from ≤ r → r < from + n → bit_in (planes_written m bits from n ink xs) (k * bits + r) ≡ ink / 2 ^ k % 2
unfolding planes_written
planes_on zero bits from n ink xs k r of end room le lt = absurd (omega arith)
planes_on (suc m) bits from n ink xs k r of end room le lt =
    let in-room : k * bits + r < 8 * length (planes_written m bits from n ink xs) = omega (arith, length_planes m bits from n ink xs) in
    ⊎_elim
    (λ same.
    let e : k * bits ≡ m * bits = ap (λ (j : ℕ). j * bits) same in
    bit_in_on (m * bits + from) (m * bits + from + n) (ink / 2 ^ m % 2) (planes_written m bits from n ink xs) (k * bits + r) (omega arith) in-room (omega arith) (omega arith) ∙ ap (λ (j : ℕ). ink / 2 ^ j % 2) (sym same))
    (λ other.
    bit_in_off (m * bits + from) (m * bits + from + n) (ink / 2 ^ m % 2) (planes_written m bits from n ink xs) (k * bits + r) (omega arith) (omega arith) in-room (planes_apart bits from n m k r (omega arith) end other)
    ∙ planes_on m bits from n ink xs k r (⊎_elim (λ lower. lower) (λ higher. absurd (omega arith)) other) end room le lt)
    (cases_order k m)

-- the bytes behind the planes stay
pub drop_planes : (m bits from n ink : ℕ) (xs : List ℕ) (k : ℕ) → from + n ≤ bits → m * bits ≤ 8 * k → drop k (planes_written m bits from n ink xs) ≡ drop k xs
unfolding planes_written
drop_planes zero bits from n ink xs k end le = refl
drop_planes (suc m) bits from n ink xs k end le =
    let next : m * bits + bits ≤ 8 * k = omega (arith, row_ends m (suc m) bits (omega arith)) in
    drop_written (m * bits + from) (m * bits + from + n) (ink / 2 ^ m % 2) (planes_written m bits from n ink xs) k (omega arith) (omega arith)
    ∙ drop_planes m bits from n ink xs k end (omega arith)
