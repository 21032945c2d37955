-- Laws of the bits of a byte.
use Rattle.std.proofs.Common.{◌≡◌, ℕ, ◌+◌, ◌-◌, ◌*◌, ◌/◌, ◌%◌, ◌^◌, ◌<◌, ◌≤◌, Bool, true, eqb, sym, refl, ap, ◌∙◌, mul_assoc, add-mul, arith, pow_pos, pow_mono, pow-add}
use native.Mathlib.Nat.{mul-sub}
use lib.Arith.{digits_lt}
use lib.Pow.{mod-mod-pow}
use Rattle.std.proofs.lemmas.Nat.{mod_below, shr-shr, shr_high, mod_low, div_below, field_of, mul-le}
use Rattle.std.proofs.lemmas.Bool.{eqb-true}
use Rattle.raster.proofs.Table.{every, every_at}
use Rattle.plane.specs.Layout.{bit_of, byte_written}

-- the part that is written and what is below it lie under the weight of the part above
pub parts_below : (high low bit below : ℕ) → low ≤ high → bit ≤ 1 → below < low → bit * (high - low) + below < high
parts_below high low bit below le one less = omega (arith, mul-le bit (high - low) 1 (high - low) one (omega arith))

-- so do those of a byte
written_below : (lo hi bit byte : ℕ) → lo ≤ hi → bit ≤ 1 → bit * (2 ^ (8 - lo) - 2 ^ (8 - hi)) + byte % 2 ^ (8 - hi) < 2 ^ (8 - lo)
written_below lo hi bit byte order one =
    parts_below (2 ^ (8 - lo)) (2 ^ (8 - hi)) bit (byte % 2 ^ (8 - hi)) (pow_mono (omega arith)) one (mod_below byte (2 ^ (8 - hi)) (pow_pos (8 - hi)))

-- a byte that is written is a byte
pub written_small : (lo hi bit byte : ℕ) → lo ≤ hi → hi ≤ 8 → bit ≤ 1 → byte < 256 → byte_written lo hi bit byte < 256
unfolding byte_written
written_small lo hi bit byte order end one small =
    let whole : 2 ^ lo * 2 ^ (8 - lo) ≡ 256 = let e : lo + (8 - lo) ≡ 8 = omega arith in sym (pow-add 2 lo (8 - lo)) ∙ ap (λ (k : ℕ). 2 ^ k) e in
    let top : byte / 2 ^ (8 - lo) < 2 ^ lo = div_below byte (2 ^ (8 - lo)) (2 ^ lo) (pow_pos (8 - lo)) (omega (arith, whole)) in
    omega (arith, whole, digits_lt top (written_below lo hi bit byte order one))

-- the weights may stand by other names
pub written_at : (lo hi bit byte high low : ℕ) → high ≡ 2 ^ (8 - lo) → low ≡ 2 ^ (8 - hi) → byte / high * high + bit * (high - low) + byte % low ≡ byte_written lo hi bit byte
unfolding byte_written
written_at lo hi bit byte high low e f = rw (e, f)

-- the bit at a place is that of what lies below any higher place
bit_top : (n q : ℕ) → n / 2 ^ q % 2 ≡ n % 2 ^ (1 + q) / 2 ^ q
bit_top n q = sym (field_of n 1 q)

bit_mod_add : (n q j : ℕ) → n / 2 ^ q % 2 ≡ (n % 2 ^ (j + (1 + q))) / 2 ^ q % 2
bit_mod_add n q j = bit_top n q ∙ ap (λ (m : ℕ). m / 2 ^ q) (sym (mod-mod-pow n j (1 + q))) ∙ sym (bit_top (n % 2 ^ (j + (1 + q))) q)

bit_mod : (n q d : ℕ) → q < d → n / 2 ^ q % 2 ≡ (n % 2 ^ d) / 2 ^ q % 2
bit_mod n q d less =
    let e : d - (1 + q) + (1 + q) ≡ d = omega arith in
    bit_mod_add n q (d - (1 + q)) ∙ ap (λ (k : ℕ). n % 2 ^ k / 2 ^ q % 2) e

-- a quotient by a power of two is that by a smaller one, divided further
div_further : (n j p : ℕ) → j ≤ p → n / 2 ^ p ≡ n / 2 ^ j / 2 ^ (p - j)
div_further n j p le =
    let e : j + (p - j) ≡ p = omega arith in
    ap (λ (k : ℕ). n / 2 ^ k) (sym e) ∙ sym (shr-shr n j (p - j))

-- above what is written
written_above : (lo hi bit byte : ℕ) → lo ≤ hi → bit ≤ 1 → byte_written lo hi bit byte / 2 ^ (8 - lo) ≡ byte / 2 ^ (8 - lo)
unfolding byte_written
written_above lo hi bit byte order one =
    let e : byte_written lo hi bit byte ≡ byte / 2 ^ (8 - lo) * 2 ^ (8 - lo) + (bit * (2 ^ (8 - lo) - 2 ^ (8 - hi)) + byte % 2 ^ (8 - hi)) = omega arith in
    rw e (shr_high (byte / 2 ^ (8 - lo)) (8 - lo) _ (written_below lo hi bit byte order one))

-- a product by a weight, taken apart
gather : (a d c bit r : ℕ) → a * (d * c) + bit * (d * c - c) + r ≡ (a * d + bit * (d - 1)) * c + r
gather a d c bit r =
    let s : (d - 1) * c ≡ d * c - c = omega (arith, mul-sub c d 1) in
    rw (add-mul, mul_assoc a d c, mul_assoc bit (d - 1) c, s)

-- the written byte, by the weight below what is written
written_split : (lo hi bit byte : ℕ) → lo ≤ hi → hi ≤ 8 → byte_written lo hi bit byte ≡ (byte / 2 ^ (8 - lo) * 2 ^ (hi - lo) + bit * (2 ^ (hi - lo) - 1)) * 2 ^ (8 - hi) + byte % 2 ^ (8 - hi)
unfolding byte_written
written_split lo hi bit byte order end =
    let e : hi - lo + (8 - hi) ≡ 8 - lo = omega arith in
    let p : 2 ^ (8 - lo) ≡ 2 ^ (hi - lo) * 2 ^ (8 - hi) = ap (λ (k : ℕ). 2 ^ k) (sym e) ∙ pow-add 2 (hi - lo) (8 - hi) in
    ap (λ (w : ℕ). byte / 2 ^ (8 - lo) * w + bit * (w - 2 ^ (8 - hi)) + byte % 2 ^ (8 - hi)) p ∙ gather (byte / 2 ^ (8 - lo)) (2 ^ (hi - lo)) (2 ^ (8 - hi)) bit (byte % 2 ^ (8 - hi))

low_small : (hi byte : ℕ) → byte % 2 ^ (8 - hi) < 2 ^ (8 - hi)
low_small hi byte = mod_below byte (2 ^ (8 - hi)) (pow_pos (8 - hi))

written_mod : (lo hi bit byte : ℕ) → lo ≤ hi → hi ≤ 8 → byte_written lo hi bit byte % 2 ^ (8 - hi) ≡ byte % 2 ^ (8 - hi)
written_mod lo hi bit byte order end = rw (written_split lo hi bit byte order end) (mod_low _ (8 - hi) _ (low_small hi byte))

written_div : (lo hi bit byte : ℕ) → lo ≤ hi → hi ≤ 8 → byte_written lo hi bit byte / 2 ^ (8 - hi) ≡ byte / 2 ^ (8 - lo) * 2 ^ (hi - lo) + bit * (2 ^ (hi - lo) - 1)
written_div lo hi bit byte order end = rw (written_split lo hi bit byte order end) (shr_high _ (8 - hi) _ (low_small hi byte))

-- each of so many low bits of a byte is the bit
ones_test : ℕ → ℕ → ℕ → Bool
ones_test d q bit = eqb (bit * (2 ^ d - 1) / 2 ^ q % 2) bit

ones_tested : every (λ d. every (λ q. every (ones_test d q) 2) d) 9 ≡ true
unfolding ones_test
ones_tested = refl

ones_bit : (d q bit : ℕ) → d ≤ 8 → q < d → bit ≤ 1 → bit * (2 ^ d - 1) / 2 ^ q % 2 ≡ bit
unfolding ones_test
ones_bit d q bit end less one =
    let of-d : every (λ j. every (ones_test d j) 2) d ≡ true = every_at (λ k. every (λ j. every (ones_test k j) 2) k) 9 ones_tested d (omega arith) in
    let of-q : every (ones_test d q) 2 ≡ true = every_at (λ j. every (ones_test d j) 2) d of-d q less in
    eqb-true _ _ (every_at (ones_test d q) 2 of-q bit (omega arith))

ones_small : (d bit : ℕ) → bit ≤ 1 → bit * (2 ^ d - 1) < 2 ^ d
ones_small d bit one = omega (arith, mul-le bit (2 ^ d - 1) 1 (2 ^ d - 1) one (omega arith), pow_pos d)

-- the bits before those that are written
pub bit_before : (lo hi bit byte i : ℕ) → lo ≤ hi → hi ≤ 8 → bit ≤ 1 → i < lo → bit_of (byte_written lo hi bit byte) i ≡ bit_of byte i
bit_before lo hi bit byte i order end one less =
    let le : 8 - lo ≤ 7 - i = omega arith in
    ap (λ (n : ℕ). n % 2) (div_further (byte_written lo hi bit byte) (8 - lo) (7 - i) le ∙ ap (λ (n : ℕ). n / 2 ^ (7 - i - (8 - lo))) (written_above lo hi bit byte order one) ∙ sym (div_further byte (8 - lo) (7 - i) le))

-- the bits behind them
pub bit_behind : (lo hi bit byte i : ℕ) → lo ≤ hi → hi ≤ i → i < 8 → bit_of (byte_written lo hi bit byte) i ≡ bit_of byte i
bit_behind lo hi bit byte i order from less =
    let lt : 7 - i < 8 - hi = omega arith in
    bit_mod (byte_written lo hi bit byte) (7 - i) (8 - hi) lt ∙ ap (λ (n : ℕ). n / 2 ^ (7 - i) % 2) (written_mod lo hi bit byte order (omega arith)) ∙ sym (bit_mod byte (7 - i) (8 - hi) lt)

-- the bits that are written
pub bit_within : (lo hi bit byte i : ℕ) → hi ≤ 8 → bit ≤ 1 → lo ≤ i → i < hi → bit_of (byte_written lo hi bit byte) i ≡ bit
bit_within lo hi bit byte i end one from to =
    let order : lo ≤ hi = omega arith in
    let le : 8 - hi ≤ 7 - i = omega arith in
    let lt : 7 - i - (8 - hi) < hi - lo = omega arith in
    let q = 7 - i - (8 - hi) in
    ap (λ (n : ℕ). n % 2) (div_further (byte_written lo hi bit byte) (8 - hi) (7 - i) le ∙ ap (λ (n : ℕ). n / 2 ^ q) (written_div lo hi bit byte order end))
    ∙ bit_mod _ q (hi - lo) lt
    ∙ ap (λ (n : ℕ). n / 2 ^ q % 2) (mod_low (byte / 2 ^ (8 - lo)) (hi - lo) _ (ones_small (hi - lo) bit one))
    ∙ ones_bit (hi - lo) q bit (omega arith) lt one
