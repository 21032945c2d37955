-- Writing a run into the planes inks the picture.
use Rattle.std.proofs.Common.{◌≡◌, ℕ, ◌+◌, ◌-◌, ◌*◌, ◌/◌, ◌%◌, ◌^◌, ◌<◌, ◌≤◌, eqb, ◌⊎◌, List, length, get_or, drop, sym, refl, ap, ◌∙◌, inl, inr, ⊎_elim, mul_left_comm, arith, lit<, rules}
use native.Mathlib.Nat.{zero-div}
use Rattle.std.proofs.lemmas.List.{places}
use Rattle.std.proofs.lemmas.Bool.{cases_order, cases_lt, eqb-true}
use Rattle.raster.proofs.Table.{every_at}
use Rattle.surface.specs.Bytes.{filled}
use Rattle.surface.specs.Calls.{OnRun, Accepts, Inked}
use Rattle.plane.specs.Layout.{row_bytes_lem, plane_bytes_lem, bit_of, plane_bit, ink_at_lem, pictured, painted, SpareClear}
use Rattle.plane.proofs.Written.{bit_in}
use Rattle.plane.proofs.Layers.{row_ends, planes_on, planes_off, drop_planes}

-- the byte of a column of a row lies in the planes
pub byte_ends : (w h k x y : ℕ) → k < 4 → x < 8 * row_bytes_lem w → y < h → k * plane_bytes_lem w h + y * row_bytes_lem w + x / 8 < 4 * plane_bytes_lem w h
byte_ends w h k x y of column row = omega (arith, row_ends k 4 (plane_bytes_lem w h) of, row_ends y h (row_bytes_lem w) row)

-- cleared planes have no bit
get_or_filled : (n : ℕ) (xs : List ℕ) (j : ℕ) → j < n → get_or (filled n 0 xs) j 0 ≡ 0
get_or_filled n xs j h = search (rules, places)

pub filled_clear : (w h : ℕ) (xs ys : List ℕ) → ys ≡ filled (4 * plane_bytes_lem w h) 0 xs → SpareClear w h ys
filled_clear w h xs ys e s =
    let none : get_or ys (s.plane * plane_bytes_lem w h + s.row * row_bytes_lem w + s.column / 8) 0 ≡ 0 =
    ap (λ (b : List ℕ). get_or b (s.plane * plane_bytes_lem w h + s.row * row_bytes_lem w + s.column / 8) 0) e ∙ get_or_filled (4 * plane_bytes_lem w h) xs _ (byte_ends w h s.plane s.column s.row s.of_four s.to s.below) in
    ap (λ (b : ℕ). bit_of b (s.column % 8)) none ∙ ap (λ (b : ℕ). b % 2) (zero-div (2 ^ (7 - s.column % 8)))

-- a place of a byte is a place among the bits
bit_place : (xs : List ℕ) (a b x : ℕ) → bit_of (get_or xs (a + b + x / 8) 0) (x % 8) ≡ bit_in xs (8 * a + (8 * b + x))
bit_place xs a b x =
    let e : (8 * a + (8 * b + x)) / 8 ≡ a + b + x / 8 = omega arith in
    let f : (8 * a + (8 * b + x)) % 8 ≡ x % 8 = omega arith in
    rw (e, f)

plane_bit_is : (w h : ℕ) (xs : List ℕ) (k x y : ℕ) → plane_bit w h xs k x y ≡ bit_in xs (k * (8 * plane_bytes_lem w h) + (8 * (y * row_bytes_lem w) + x))
plane_bit_is w h xs k x y = rw (mul_left_comm k 8 (plane_bytes_lem w h)) (bit_place xs (k * plane_bytes_lem w h) (y * row_bytes_lem w) x)

-- a column of a row, among the bits of a plane
row_place : (w h x y : ℕ) → x ≤ 8 * row_bytes_lem w → y < h → 8 * (y * row_bytes_lem w) + x ≤ 8 * plane_bytes_lem w h
row_place w h x y column row = omega (arith, row_ends y h (row_bytes_lem w) row)

place_ends : (w h k x y : ℕ) → k < 4 → x < 8 * row_bytes_lem w → y < h → k * (8 * plane_bytes_lem w h) + (8 * (y * row_bytes_lem w) + x) < 8 * (4 * plane_bytes_lem w h)
place_ends w h k x y of column row = omega (arith, row_ends k 4 (8 * plane_bytes_lem w h) of, row_ends y h (row_bytes_lem w) row)

-- the pixels of a run have the bits of its ink
painted_on : (w h x y n ink : ℕ) (xs : List ℕ) (k u v : ℕ) → 4 * plane_bytes_lem w h ≤ length xs → x + n ≤ w → y < h → k < 4 → v ≡ y → x ≤ u → u < x + n → plane_bit w h (painted w h x y n ink xs) k u v ≡ ink / 2 ^ k % 2
painted_on w h x y n ink xs k u v room end row of same from to =
    let e : v * row_bytes_lem w ≡ y * row_bytes_lem w = ap (λ (j : ℕ). j * row_bytes_lem w) same in
    plane_bit_is w h (painted w h x y n ink xs) k u v
    ∙ planes_on 4 (8 * plane_bytes_lem w h) (8 * (y * row_bytes_lem w) + x) n ink xs k (8 * (v * row_bytes_lem w) + u) of (omega (arith, row_place w h (x + n) y (omega arith) row)) (omega (arith, place_ends w h k u v of (omega arith) (omega arith))) (omega arith) (omega arith)

-- a column off the run, on the run's row or on another
row_apart : (r x n y u v : ℕ) → x + n ≤ 8 * r → u < 8 * r → (v ≡ y → (u < x) ⊎ (x + n ≤ u)) → (8 * (v * r) + u < 8 * (y * r) + x) ⊎ (8 * (y * r) + x + n ≤ 8 * (v * r) + u)
row_apart r x n y u v end column off =
    ⊎_elim (λ same. let e : v * r ≡ y * r = ap (λ (j : ℕ). j * r) same in ⊎_elim (λ before. inl (omega arith)) (λ behind. inr (omega arith)) (off same))
    (⊎_elim (λ above. inl (omega (arith, row_ends v y r above))) (λ below. inr (omega (arith, row_ends y v r below))))
    (cases_order v y)

-- every other bit stays
painted_off : (w h x y n ink : ℕ) (xs : List ℕ) (k u v : ℕ) → 4 * plane_bytes_lem w h ≤ length xs → x + n ≤ w → y < h → k < 4 → v < h → u < 8 * row_bytes_lem w → (v ≡ y → (u < x) ⊎ (x + n ≤ u)) → plane_bit w h (painted w h x y n ink xs) k u v ≡ plane_bit w h xs k u v
painted_off w h x y n ink xs k u v room end row of below column off =
    plane_bit_is w h (painted w h x y n ink xs) k u v
    ∙ planes_off 4 (8 * plane_bytes_lem w h) (8 * (y * row_bytes_lem w) + x) n ink xs k (8 * (v * row_bytes_lem w) + u) (omega (arith, row_place w h (x + n) y (omega arith) row)) (omega (arith, row_ends v h (row_bytes_lem w) below)) (omega (arith, place_ends w h k u v of column below)) (row_apart (row_bytes_lem w) x n y u v (omega arith) column off)
    ∙ sym (plane_bit_is w h xs k u v)

-- four bits at their weights make an ink
weights : (ink : ℕ) → ink ≤ 15 → ink / 2 ^ 0 % 2 + 2 * (ink / 2 ^ 1 % 2) + 4 * (ink / 2 ^ 2 % 2) + 8 * (ink / 2 ^ 3 % 2) ≡ ink
weights ink limit =
    eqb-true _ _ (every_at (λ i. eqb (i / 2 ^ 0 % 2 + 2 * (i / 2 ^ 1 % 2) + 4 * (i / 2 ^ 2 % 2) + 8 * (i / 2 ^ 3 % 2)) i) 16 refl ink (omega arith))

-- two sums of bits at their weights
sum_of : {a b c d e f g h : ℕ} → a ≡ e → b ≡ f → c ≡ g → d ≡ h → a + 2 * b + 4 * c + 8 * d ≡ e + 2 * f + 4 * g + 8 * h
sum_of p q r s = omega arith

off_row : (x y n u v : ℕ) → (OnRun x y n u v → ⊥) → v ≡ y → (u < x) ⊎ (x + n ≤ u)
off_row x y n u v off same =
    ⊎_elim inl (λ from. ⊎_elim (λ to. absurd (off (record { row = same; from = from; to = to }))) inr (cases_lt u (x + n))) (cases_lt u x)

-- where the run is painted, the picture is inked
pub inked : (w h x y n ink : ℕ) (xs ys : List ℕ) → 4 * plane_bytes_lem w h ≤ length xs → Accepts (pictured w h xs) x y n ink → ys ≡ painted w h x y n ink xs → Inked (pictured w h xs) x y n ink (pictured w h ys)
inked w h x y n ink xs ys room ok e =
    let taken : (u v : ℕ) → ink_at_lem w h ys u v ≡ ink_at_lem w h (painted w h x y n ink xs) u v = λ u v. ap (λ (b : List ℕ). ink_at_lem w h b u v) e in
    record {
      sides = record { wide = refl; high = refl };
      on = λ u v on run.
          let bit : (k : ℕ) → k < 4 → plane_bit w h (painted w h x y n ink xs) k u v ≡ ink / 2 ^ k % 2 =
          λ k of. painted_on w h x y n ink xs k u v room ok.end ok.row of run.row run.from run.to in
          taken u v ∙ sum_of (bit 0 (lit< tt)) (bit 1 (lit< tt)) (bit 2 (lit< tt)) (bit 3 (lit< tt)) ∙ weights ink ok.limit;
      off = λ u v on off.
          let bit : (k : ℕ) → k < 4 → plane_bit w h (painted w h x y n ink xs) k u v ≡ plane_bit w h xs k u v =
          λ k of. painted_off w h x y n ink xs k u v room ok.end ok.row of on.row (omega (arith, on.column)) (off_row x y n u v off) in
          taken u v ∙ sum_of (bit 0 (lit< tt)) (bit 1 (lit< tt)) (bit 2 (lit< tt)) (bit 3 (lit< tt));
      calm = λ u v on off was. refl;
    }

-- the spare bits stay 0
pub spare_kept : (w h x y n ink : ℕ) (xs ys : List ℕ) → 4 * plane_bytes_lem w h ≤ length xs → Accepts (pictured w h xs) x y n ink → ys ≡ painted w h x y n ink xs → SpareClear w h xs → SpareClear w h ys
spare_kept w h x y n ink xs ys room ok e clear s =
    ap (λ (b : List ℕ). plane_bit w h b s.plane s.column s.row) e
    ∙ painted_off w h x y n ink xs s.plane s.column s.row room ok.end ok.row s.of_four s.below s.to (λ same. inr (omega (arith, ok.end, s.from)))
    ∙ clear s

-- an accepted run ends within each plane
pub run_ends : (w h x y n ink : ℕ) (xs : List ℕ) → Accepts (pictured w h xs) x y n ink → 8 * (y * row_bytes_lem w) + x + n ≤ 8 * plane_bytes_lem w h
run_ends w h x y n ink xs ok = omega (arith, row_place w h (x + n) y (omega (arith, ok.end)) ok.row)

-- the bytes behind the planes stay
pub rest_kept : (w h x y n ink : ℕ) (xs ys : List ℕ) → Accepts (pictured w h xs) x y n ink → ys ≡ painted w h x y n ink xs → drop (4 * plane_bytes_lem w h) ys ≡ drop (4 * plane_bytes_lem w h) xs
rest_kept w h x y n ink xs ys ok e =
    ap (λ (b : List ℕ). drop (4 * plane_bytes_lem w h) b) e
    ∙ drop_planes 4 (8 * plane_bytes_lem w h) (8 * (y * row_bytes_lem w) + x) n ink xs (4 * plane_bytes_lem w h) (run_ends w h x y n ink xs ok) (omega arith)
