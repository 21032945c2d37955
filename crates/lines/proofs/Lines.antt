-- Whether a pixel lies on a line, told from its place along the longer way. Assumes nothing.
use Rattle.std.proofs.Common.{◌≡◌, ℕ, zero, suc, ◌+◌, ◌-◌, ◌*◌, ◌<◌, ◌≤◌, min, max, true, false, ◌&&◌, ◌||◌, eqb, leb, ◌⊎◌, List, [], ◌∷◌, map, length, Some, sym, refl, ap, ◌∙◌, ap₂, ⊎_elim, arith}
use Rattle.std.specs.List.{range_with_len, slice_get}
use Rattle.std.proofs.Math.Bool.{and_comm}
use Rattle.std.proofs.lemmas.Bool.{and_from, and_left, and_right, and_parts, or_cases, or_left, or_right, or_from, false≢true, eq-eqb, eqb-true, eqb-false, ne_eqb, cases_eq, cases_Bool, cases_lt, cond-true, cond-false, le-leb, lt-leb}
use Rattle.std.proofs.lemmas.List.FromFn.{length-map-range_with_len, get_or-map-range_with_len}
use Rattle.std.proofs.lemmas.Nat.{mul-le, div_below}
use Rattle.std.proofs.lemmas.Option.{slice_get-get_or}
use Rattle.std.proofs.lemmas.Bool.Decides.{nat_tests}
use Rattle.lines.specs.declared.line.Ends.{Ends}
use Rattle.lines.specs.Lines.{distance, toward, drift, dx, dy, flat, steep, turned, pixels, among}

-- a pixel that is listed at i is among the pixels
pub among_at : (f : ℕ → ℕ × ℕ) (x y a n i : ℕ) → a ≤ i → i < a + n → (f i).0 ≡ x → (f i).1 ≡ y → among (map f (range_with_len a n)) x y ≡ true
among_at f x y a zero i h k p q = absurd (omega arith)
among_at f x y a (suc n) i h k p q = ⊎_elim
    (λ e. or_left _ _ (and_from _ _ (eq-eqb _ _ (ap (λ m. (f m).0) e ∙ p)) (eq-eqb _ _ (ap (λ m. (f m).1) e ∙ q))))
    (λ e. or_right _ _ (among_at f x y (a + 1) n i (omega (arith, e)) (omega arith) p q))
    (cases_eq a i)

-- and one that is not listed is not
pub among_none : (f : ℕ → ℕ × ℕ) (x y a n : ℕ) → ((i : ℕ) → a ≤ i → i < a + n → (f i).0 ≡ x → (f i).1 ≡ y → ⊥) → among (map f (range_with_len a n)) x y ≡ false
among_none f x y a zero h = refl
among_none f x y a (suc n) h = or_from _ _
    (⊎_elim (λ e. absurd (h a (omega arith) (omega arith) (eqb-true _ _ (and_parts _ _ e).0) (eqb-true _ _ (and_parts _ _ e).1))) (λ e. e) (cases_Bool (eqb (f a).0 x && eqb (f a).1 y)))
    (among_none f x y (a + 1) n (λ i p q. h i (omega arith) (omega arith)))

-- on the way from a to b each place between them is passed once, and no other
toward_up : (a b i : ℕ) → a ≤ b → toward a b i ≡ a + i
toward_up a b i h = cond-true (leb a b) _ _ (le-leb a b h)

toward_down : (a b i : ℕ) → b < a → toward a b i ≡ a - i
toward_down a b i h = cond-false (leb a b) _ _ (lt-leb a b h)

pub toward_between : (a b i : ℕ) → i ≤ distance a b → (min a b ≤ toward a b i) × (toward a b i ≤ max a b)
toward_between a b i h = ⊎_elim
    (λ k. (omega (arith, toward_down a b i k), omega (arith, toward_down a b i k)))
    (λ k. (omega (arith, toward_up a b i k), omega (arith, toward_up a b i k)))
    (cases_lt b a)

toward_passes : (a b c : ℕ) → min a b ≤ c → c ≤ max a b → toward a b (distance c a) ≡ c
toward_passes a b c h k = ⊎_elim (λ q. omega (arith, toward_down a b (distance c a) q)) (λ q. omega (arith, toward_up a b (distance c a) q)) (cases_lt b a)

toward_once : (a b c i : ℕ) → i ≤ distance a b → toward a b i ≡ c → i ≡ distance c a
toward_once a b c i h e = ⊎_elim (λ q. omega (arith, toward_down a b i q)) (λ q. omega (arith, toward_up a b i q)) (cases_lt b a)

-- beside the columns of the line's ends no pixel is on it
pub course_beside : (l : Ends) (x y : ℕ) → (x < min l.x0 l.x1) ⊎ (max l.x0 l.x1 < x) → among (map (flat l) (range_with_len 0 (dx l + 1))) x y ≡ false
course_beside l x y h = among_none (flat l) x y 0 (dx l + 1) (λ i p q e f.
    let b = toward_between l.x0 l.x1 i (omega arith) in
    ⊎_elim (λ k. omega (arith, b.0)) (λ k. omega (arith, b.1)) h)

-- in a column between them one pixel is
pub course_within : (l : Ends) (x y : ℕ) → min l.x0 l.x1 ≤ x → x ≤ max l.x0 l.x1 → among (map (flat l) (range_with_len 0 (dx l + 1))) x y ≡ eqb (flat l (distance x l.x0)).1 y
course_within l x y h k = ⊎_elim
    (λ e. among_at (flat l) x y 0 (dx l + 1) (distance x l.x0) (omega arith) (omega arith) (toward_passes l.x0 l.x1 x h k) (eqb-true _ _ e) ∙ sym e)
    (λ e. among_none (flat l) x y 0 (dx l + 1) (λ i p q u v. eqb-false _ _ e (ap (λ m. (flat l m).1) (sym (toward_once l.x0 l.x1 x i (omega arith) u)) ∙ v)) ∙ sym e)
    (cases_Bool (eqb (flat l (distance x l.x0)).1 y))

-- which of the three lists a line has
pub pixels_dot : (l : Ends) → dx l ≡ 0 → dy l ≡ 0 → pixels l ≡ (l.x0, l.y0) ∷ []
unfolding pixels
pixels_dot l h k = cond-true _ _ _ (and_from _ _ (eq-eqb _ _ h) (eq-eqb _ _ k))

pub pixels_flat : (l : Ends) → 0 < dx l → dy l ≤ dx l → pixels l ≡ map (flat l) (range_with_len 0 (dx l + 1))
unfolding pixels
pixels_flat l h k = cond-false _ _ _ (and_left _ _ (ne_eqb (dx l) 0 (λ e. omega (arith, e)))) ∙ cond-true _ _ _ (le-leb _ _ k)

pub pixels_steep : (l : Ends) → dx l < dy l → pixels l ≡ map (steep l) (range_with_len 0 (dy l + 1))
unfolding pixels
pixels_steep l h = cond-false _ _ _ (and_right (eqb (dx l) 0) _ (ne_eqb (dy l) 0 (λ e. omega (arith, e)))) ∙ cond-false _ _ _ (lt-leb _ _ h)

-- a steep line is a flat one with x and y exchanged
pub among_exchanged : (f g : ℕ → ℕ × ℕ) (x y a n : ℕ) → ((i : ℕ) → ((f i).0 ≡ (g i).1) × ((f i).1 ≡ (g i).0)) → among (map f (range_with_len a n)) x y ≡ among (map g (range_with_len a n)) y x
among_exchanged f g x y a zero h = refl
among_exchanged f g x y a (suc n) h =
    ap₂ ◌||◌ (ap₂ (λ u v. eqb u x && eqb v y) (h a).0 (h a).1 ∙ and_comm (eqb (g a).1 x) (eqb (g a).0 y)) (among_exchanged f g x y (a + 1) n h)

-- the shorter way never goes beyond its end
pub drift_le : (long short i : ℕ) → 0 < long → i ≤ long → drift long short i ≤ short
drift_le long short i h k =
    let m : i * short ≤ long * short = mul-le i short long short k (omega arith) in
    let b : drift long short i < short + 1 = div_below (2 * i * short + long) (2 * long) (short + 1) (omega arith) (omega arith) in
    omega arith

-- how many pixels it has
pub pixels_length : (l : Ends) → length (pixels l) ≡ max (dx l) (dy l) + 1
pixels_length l = ⊎_elim
    (λ h. ap length (pixels_steep l h) ∙ length-map-range_with_len (steep l) 0 (dy l + 1) ∙ omega arith)
    (λ h. ⊎_elim
    (λ e. ap length (pixels_dot l e (omega (arith, e))) ∙ omega (arith, e))
    (λ e. ap length (pixels_flat l (omega (arith, e)) h) ∙ length-map-range_with_len (flat l) 0 (dx l + 1) ∙ omega arith)
    (cases_eq (dx l) 0))
    (cases_lt (dx l) (dy l))

pub among_turned : (l : Ends) (x y : ℕ) → among (map (steep l) (range_with_len 0 (dy l + 1))) x y ≡ among (map (flat (turned l)) (range_with_len 0 (dx (turned l) + 1))) y x
among_turned l x y = among_exchanged (steep l) (flat (turned l)) x y 0 (dy l + 1) (λ i. (refl, refl))

pub among_pixels_turned : (l : Ends) (x y : ℕ) → dx l < dy l → among (pixels (turned l)) y x ≡ among (pixels l) x y
among_pixels_turned l x y h =
    ap (λ ps. among ps y x) (pixels_flat (turned l) (omega arith) (omega arith)) ∙ sym (ap (λ ps. among ps x y) (pixels_steep l h) ∙ among_turned l x y)

-- a line of one pixel
pub dot_row : (l : Ends) (x y : ℕ) → dx l ≡ 0 → dy l ≡ 0 → x ≡ l.x0 → eqb y l.y0 ≡ among (pixels l) x y
dot_row l x y h k e = let a : eqb y l.y0 ≡ (eqb l.x0 x && eqb l.y0 y || false) = grind (arith, nat_tests) in a ∙ sym (ap (λ ps. among ps x y) (pixels_dot l h k))

pub dot_beside : (l : Ends) (x y : ℕ) → dx l ≡ 0 → dy l ≡ 0 → (x ≡ l.x0 → ⊥) → eqb x l.x0 ≡ among (pixels l) x y
dot_beside l x y h k e = let a : eqb x l.x0 ≡ (eqb l.x0 x && eqb l.y0 y || false) = grind (arith, nat_tests) in a ∙ sym (ap (λ ps. among ps x y) (pixels_dot l h k))

-- the pixels by their places
listed : (ps : List (ℕ × ℕ)) (f : ℕ → ℕ × ℕ) (n i : ℕ) → ps ≡ map f (range_with_len 0 n) → i < n → slice_get ps i ≡ Some (f i)
listed ps f n i e h =
    ap (λ qs. slice_get qs i) e
    ∙ slice_get-get_or (map f (range_with_len 0 n)) i (0, 0) (omega (arith, length-map-range_with_len f 0 n))
    ∙ ap Some (get_or-map-range_with_len f 0 n i i (0, 0) h (omega arith))

pub flat_at : (l : Ends) (i : ℕ) → 0 < dx l → dy l ≤ dx l → i ≤ dx l → slice_get (pixels l) i ≡ Some (flat l i)
flat_at l i h k b = listed (pixels l) (flat l) (dx l + 1) i (pixels_flat l h k) (omega arith)

pub steep_at : (l : Ends) (i : ℕ) → dx l < dy l → i ≤ dy l → slice_get (pixels l) i ≡ Some (steep l i)
steep_at l i h b = listed (pixels l) (steep l) (dy l + 1) i (pixels_steep l h) (omega arith)

pub dot_at : (l : Ends) (i : ℕ) → dx l ≡ 0 → dy l ≡ 0 → i ≡ 0 → slice_get (pixels l) i ≡ Some (l.x0, l.y0)
dot_at l i h k e = ap₂ slice_get (pixels_dot l h k) e

-- a place of the shorter way lies between its ends
pub flat_within : (l : Ends) (i : ℕ) → 0 < dx l → i ≤ dx l → (flat l i).1 ≤ max l.y0 l.y1
flat_within l i h b = (toward_between l.y0 l.y1 (drift (dx l) (dy l) i) (drift_le (dx l) (dy l) i h b)).1

-- a pixel among the pixels is listed somewhere
pub among_which : (f : ℕ → ℕ × ℕ) (x y a n : ℕ) → among (map f (range_with_len a n)) x y ≡ true → (i : ℕ) × (i < a + n) × ((f i).0 ≡ x) × ((f i).1 ≡ y)
among_which f x y a zero e = absurd (false≢true e)
among_which f x y a (suc n) e = ⊎_elim
    (λ h. (a, omega arith, eqb-true _ _ (and_parts _ _ h).0, eqb-true _ _ (and_parts _ _ h).1))
    (λ h. let r = among_which f x y (a + 1) n h in (r.0, omega (arith, r.1), r.2, r.3))
    (or_cases (eqb (f a).0 x && eqb (f a).1 y) (among (map f (range_with_len (a + 1) n)) x y) e)

-- the pixels of a line lie between its ends
abbrev Between : Ends → ℕ → ℕ → Type 0
Between l x y = ((min l.x0 l.x1 ≤ x) × (x ≤ max l.x0 l.x1)) × ((min l.y0 l.y1 ≤ y) × (y ≤ max l.y0 l.y1))

flat_between : (l : Ends) (x y : ℕ) → 0 < dx l → among (map (flat l) (range_with_len 0 (dx l + 1))) x y ≡ true → Between l x y
flat_between l x y h e =
    let r = among_which (flat l) x y 0 (dx l + 1) e in
    let i = r.0 in
    let b = toward_between l.x0 l.x1 i (omega (arith, r.1)) in
    let d = toward_between l.y0 l.y1 (drift (dx l) (dy l) i) (drift_le (dx l) (dy l) i h (omega (arith, r.1))) in
    ((omega (arith, r.2, b.0), omega (arith, r.2, b.1)), (omega (arith, r.3, d.0), omega (arith, r.3, d.1)))

pub pixels_between : (l : Ends) (x y : ℕ) → among (pixels l) x y ≡ true → Between l x y
pixels_between l x y e = ⊎_elim
    (λ h. let b = flat_between (turned l) y x (omega arith) (sym (ap (λ ps. among ps x y) (pixels_steep l h) ∙ among_turned l x y) ∙ e) in (b.1, b.0))
    (λ h. ⊎_elim
    (λ z. let q = among_dot l x y z (omega (arith, z)) e in ((omega (arith, q.0), omega (arith, q.0)), (omega (arith, q.1), omega (arith, q.1))))
    (λ z. flat_between l x y (omega (arith, z)) (sym (ap (λ ps. among ps x y) (pixels_flat l (omega (arith, z)) h)) ∙ e))
    (cases_eq (dx l) 0))
    (cases_lt (dx l) (dy l))
  where
    among_dot : (l : Ends) (x y : ℕ) → dx l ≡ 0 → dy l ≡ 0 → among (pixels l) x y ≡ true → (l.x0 ≡ x) × (l.y0 ≡ y)
    among_dot l x y h k e =
        let p : (eqb l.x0 x && eqb l.y0 y || false) ≡ true = sym (ap (λ ps. among ps x y) (pixels_dot l h k)) ∙ e in
        ⊎_elim (λ q. (eqb-true _ _ (and_parts _ _ q).0, eqb-true _ _ (and_parts _ _ q).1)) (λ q. absurd (false≢true q)) (or_cases (eqb l.x0 x && eqb l.y0 y) false p)
