-- Laws of a list of bytes in which some bits were written.
use Rattle.std.proofs.Common.{◌≡◌, ℕ, zero, suc, ◌+◌, ◌-◌, ◌*◌, ◌/◌, ◌%◌, ◌^◌, ◌<◌, ◌≤◌, min, ◌⊎◌, List, [], ◌∷◌, ◌++◌, length, get_or, take, drop, set, sym, refl, ap, ◌∙◌, inl, inr, ⊎_elim, append_assoc, arith}
use Rattle.std.proofs.lemmas.Nat.{shr_split}
use Rattle.std.proofs.lemmas.List.{ext_get_or, length-take-le, length-drop, get_or-take, get_or-drop, take-append-drop, take_more, drop_more, set_at, get_or_at}
use Rattle.plane.specs.Layout.{bit_of, byte_written, bits_written}
use Rattle.plane.proofs.Bits.{bit_before, bit_within, bit_behind}

sub_self : (n : ℕ) → n - n ≡ 0
sub_self n = omega arith

-- where no bit is written, the byte stays
written_none : (lo bit byte : ℕ) → byte_written lo lo bit byte ≡ byte
unfolding byte_written
written_none lo bit byte =
    let none : bit * (2 ^ (8 - lo) - 2 ^ (8 - lo)) ≡ 0 = omega (arith, ap (λ (k : ℕ). bit * k) (sub_self (2 ^ (8 - lo)))) in
    omega (arith, none, shr_split byte (8 - lo))

pub length_written : (from to bit : ℕ) (xs : List ℕ) → length (bits_written from to bit xs) ≡ length xs
unfolding bits_written
length_written from to bit [] = refl
length_written from to bit (x ∷ xs) = ap suc (length_written (from - 8) (to - 8) bit xs)

-- byte j: the bits of the list that lie in it are written
pub get_or_written : (from to bit : ℕ) (xs : List ℕ) (j : ℕ) → j < length xs → get_or (bits_written from to bit xs) j 0 ≡ byte_written (min 8 (from - 8 * j)) (min 8 (to - 8 * j)) bit (get_or xs j 0)
unfolding bits_written
get_or_written from to bit [] j h = absurd (omega arith)
get_or_written from to bit (x ∷ xs) zero h =
    let e : from - 8 * 0 ≡ from = omega arith in
    let f : to - 8 * 0 ≡ to = omega arith in
    rw (e, f)
get_or_written from to bit (x ∷ xs) (suc j) h =
    let e : from - 8 - 8 * j ≡ from - 8 * suc j = omega arith in
    let f : to - 8 - 8 * j ≡ to - 8 * suc j = omega arith in
    get_or_written (from - 8) (to - 8) bit xs j (omega arith) ∙ rw (e, f)

-- a byte before or behind those bits stays
pub get_d_kept : (from to bit : ℕ) (xs : List ℕ) (j : ℕ) → from ≤ to → j < length xs → (8 * j + 8 ≤ from) ⊎ (to ≤ 8 * j) → get_or (bits_written from to bit xs) j 0 ≡ get_or xs j 0
get_d_kept from to bit xs j order h apart =
    let e : min 8 (to - 8 * j) ≡ min 8 (from - 8 * j) = ⊎_elim (λ before. omega arith) (λ behind. omega arith) apart in
    get_or_written from to bit xs j h ∙ ap (λ (hi : ℕ). byte_written (min 8 (from - 8 * j)) hi bit (get_or xs j 0)) e ∙ written_none (min 8 (from - 8 * j)) bit (get_or xs j 0)

take_same : (i : ℕ) (xs ys : List ℕ) → length ys ≡ length xs → i ≤ length xs → ((j : ℕ) → j < i → get_or ys j 0 ≡ get_or xs j 0) → take i ys ≡ take i xs
take_same i xs ys len le same =
    ext_get_or 0 (take i ys) (take i xs) (length-take-le i ys (omega arith) ∙ sym (length-take-le i xs le))
    (λ j h. let lt : j < i = omega (arith, length-take-le i ys (omega arith)) in get_or-take i ys j 0 lt ∙ same j lt ∙ sym (get_or-take i xs j 0 lt))

drop_same : (i : ℕ) (xs ys : List ℕ) → length ys ≡ length xs → ((j : ℕ) → i ≤ j → j < length xs → get_or ys j 0 ≡ get_or xs j 0) → drop i ys ≡ drop i xs
drop_same i xs ys len same =
    ext_get_or 0 (drop i ys) (drop i xs) (length-drop i ys ∙ ap (λ (n : ℕ). n - i) len ∙ sym (length-drop i xs))
    (λ j h. get_or-drop i ys j 0 ∙ same (i + j) (omega arith) (omega (arith, length-drop i ys)) ∙ sym (get_or-drop i xs j 0))

-- the first i bytes of one list, and the others of another
abbrev pub patched : ℕ → List ℕ → List ℕ → List ℕ
patched i ys xs = take i ys ++ drop i xs

patched_more : (i : ℕ) (xs ys : List ℕ) → length ys ≡ length xs → i < length xs → set (patched i ys xs) i (get_or ys i 0) ≡ patched (i + 1) ys xs
patched_more i xs ys len h =
    ap (λ (zs : List ℕ). set (take i ys ++ zs) i (get_or ys i 0)) (drop_more xs i 0 h)
    ∙ set_at (take i ys) (get_or xs i 0) (drop (i + 1) xs) (get_or ys i 0) i (length-take-le i ys (omega arith))
    ∙ sym (append_assoc (take i ys) (get_or ys i 0 ∷ []) (drop (i + 1) xs))
    ∙ ap (λ (zs : List ℕ). zs ++ drop (i + 1) xs) (sym (take_more ys i 0 (omega arith)))

get_or_patched : (i : ℕ) (xs ys : List ℕ) → length ys ≡ length xs → i < length xs → get_or (patched i ys xs) i 0 ≡ get_or xs i 0
get_or_patched i xs ys len h =
    ap (λ (zs : List ℕ). get_or (take i ys ++ zs) i 0) (drop_more xs i 0 h) ∙ get_or_at (take i ys) (get_or xs i 0) (drop (i + 1) xs) 0 i (length-take-le i ys (omega arith))

-- the loop over the bytes that hold the bits: its start, its step and its end
pub loop_none : (from to bit : ℕ) (xs : List ℕ) → from ≤ to → to ≤ 8 * length xs → xs ≡ patched (from / 8) (bits_written from to bit xs) xs
loop_none from to bit xs order room =
    sym (take-append-drop (from / 8) xs)
    ∙ ap (λ (zs : List ℕ). zs ++ drop (from / 8) xs) (sym (take_same (from / 8) xs (bits_written from to bit xs) (length_written from to bit xs) (omega arith) (λ j h. get_d_kept from to bit xs j order (omega arith) (inl (omega arith)))))

pub loop_more : (from to bit : ℕ) (xs ys : List ℕ) (i lo hi v : ℕ) → i < length xs → from / 8 ≤ i → ys ≡ patched i (bits_written from to bit xs) xs → lo ≡ from - 8 * i → hi ≡ min (to - 8 * i) 8 → v ≡ byte_written lo hi bit (get_or ys i 0) → set ys i v ≡ patched (i + 1) (bits_written from to bit xs) xs
loop_more from to bit xs ys i lo hi v h first e is-lo is-hi is-v =
    let len : length (bits_written from to bit xs) ≡ length xs = length_written from to bit xs in
    let old : get_or ys i 0 ≡ get_or xs i 0 = ap (λ (zs : List ℕ). get_or zs i 0) e ∙ get_or_patched i xs (bits_written from to bit xs) len h in
    let at-lo : lo ≡ min 8 (from - 8 * i) = omega arith in
    let at-hi : hi ≡ min 8 (to - 8 * i) = omega arith in
    let new : v ≡ get_or (bits_written from to bit xs) i 0 = is-v ∙ rw (old, at-lo, at-hi) (sym (get_or_written from to bit xs i h)) in
    ap (λ (zs : List ℕ). set zs i v) e ∙ ap (λ (b : ℕ). set (patched i (bits_written from to bit xs) xs) i b) new ∙ patched_more i xs (bits_written from to bit xs) len h

pub loop_all : (from to bit : ℕ) (xs : List ℕ) → from ≤ to → patched ((to + 7) / 8) (bits_written from to bit xs) xs ≡ bits_written from to bit xs
loop_all from to bit xs order =
    ap (λ (zs : List ℕ). take ((to + 7) / 8) (bits_written from to bit xs) ++ zs) (sym (drop_same ((to + 7) / 8) xs (bits_written from to bit xs) (length_written from to bit xs) (λ j le h. get_d_kept from to bit xs j order h (inr (omega arith)))))
    ∙ take-append-drop ((to + 7) / 8) (bits_written from to bit xs)

-- the bytes behind the bits that were written stay
pub drop_written : (from to bit : ℕ) (xs : List ℕ) (k : ℕ) → from ≤ to → to ≤ 8 * k → drop k (bits_written from to bit xs) ≡ drop k xs
drop_written from to bit xs k order end =
    drop_same k xs (bits_written from to bit xs) (length_written from to bit xs) (λ j le h. get_d_kept from to bit xs j order h (inr (omega arith)))

-- bit i of a list of bytes
abbrev pub bit_in : List ℕ → ℕ → ℕ
bit_in xs i = bit_of (get_or xs (i / 8) 0) (i % 8)

-- byte j in terms of the list's bit i that lies in it
at_byte : (from to bit : ℕ) (xs : List ℕ) (i : ℕ) → i < 8 * length xs → bit_in (bits_written from to bit xs) i ≡ bit_of (byte_written (min 8 (from - 8 * (i / 8))) (min 8 (to - 8 * (i / 8))) bit (get_or xs (i / 8) 0)) (i % 8)
at_byte from to bit xs i h = ap (λ (b : ℕ). bit_of b (i % 8)) (get_or_written from to bit xs (i / 8) (omega arith))

-- the bits that were written
pub bit_in_on : (from to bit : ℕ) (xs : List ℕ) (i : ℕ) → bit ≤ 1 → i < 8 * length xs → from ≤ i → i < to → bit_in (bits_written from to bit xs) i ≡ bit
bit_in_on from to bit xs i one h le lt =
    at_byte from to bit xs i h ∙ bit_within (min 8 (from - 8 * (i / 8))) (min 8 (to - 8 * (i / 8))) bit (get_or xs (i / 8) 0) (i % 8) (omega arith) one (omega arith) (omega arith)

-- the others
pub bit_in_off : (from to bit : ℕ) (xs : List ℕ) (i : ℕ) → from ≤ to → bit ≤ 1 → i < 8 * length xs → (i < from) ⊎ (to ≤ i) → bit_in (bits_written from to bit xs) i ≡ bit_in xs i
bit_in_off from to bit xs i order one h apart =
    let lo = min 8 (from - 8 * (i / 8)) in
    let hi = min 8 (to - 8 * (i / 8)) in
    at_byte from to bit xs i h
    ∙ ⊎_elim (λ before. bit_before lo hi bit (get_or xs (i / 8) 0) (i % 8) (omega arith) (omega arith) one (omega arith)) (λ behind. bit_behind lo hi bit (get_or xs (i / 8) 0) (i % 8) (omega arith) (omega arith) (omega arith)) apart
