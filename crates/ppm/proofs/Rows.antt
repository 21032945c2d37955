-- A row, pixel by pixel. Assumes nothing.
use Rattle.std.proofs.Common.{◌≡◌, ℕ, zero, suc, ◌+◌, ◌*◌, ◌<◌, ◌≤◌, List, [], ◌∷◌, ◌++◌, length, drop, sym, refl, ap, ◌∙◌, add-one, arith, length-append}
use Rattle.std.specs.List.{range_with_len, flat_map}
use Rattle.std.proofs.lemmas.List.FromFn.{map-range_with_len_more}
use Rattle.std.proofs.lemmas.List.{map-id, flat_map_more}
use Rattle.surface.specs.Picture.{Picture}
use Rattle.ppm.specs.Frames.{ink_bytes, front_bytes, row_bytes_lem, over}
use Rattle.ppm.specs.Calls.{RowMade}
use Rattle.ppm.proofs.Writes.{over_none, over_next, over_front}

-- the library has this of `map` only; guttman's Heights has it too, and neither crate uses the other
pub counting_more : (n : ℕ) → range_with_len 0 (n + 1) ≡ range_with_len 0 n ++ n ∷ []
counting_more n =
    sym (map-id (range_with_len 0 (n + 1))) ∙ map-range_with_len_more (λ x. x) 0 n n (omega arith) ∙ ap (λ xs. xs ++ n ∷ []) (map-id (range_with_len 0 n))

front_more : (p : Picture) (y n : ℕ) → front_bytes p y (n + 1) ≡ front_bytes p y n ++ ink_bytes (p.taken n y)
unfolding front_bytes
front_more p y n =
    ap (flat_map (λ x. ink_bytes (p.taken x y))) (counting_more n) ∙ sym (flat_map_more (λ x. ink_bytes (p.taken x y)) [] (range_with_len 0 n) n)

pub length_ink : (k : ℕ) → length (ink_bytes k) ≡ 3
unfolding ink_bytes
length_ink k = refl

pub length_front : (p : Picture) (y n : ℕ) → length (front_bytes p y n) ≡ 3 * n
unfolding front_bytes
length_front p y zero = refl
length_front p y (suc n) =
    ap (λ k. length (front_bytes p y k)) (sym (add-one n))
    ∙ ap length (front_more p y n)
    ∙ length-append (front_bytes p y n) (ink_bytes (p.taken n y))
    ∙ omega (arith, length_front p y n, length_ink (p.taken n y))

pub front_none : (p : Picture) (y : ℕ) (old : List ℕ) → old ≡ over old 0 (front_bytes p y 0)
unfolding front_bytes
front_none p y old = sym (over_none old 0)

-- one more pixel
pub front_written : (p : Picture) (y n : ℕ) (old : List ℕ) {mid new : List ℕ} {k : ℕ} → mid ≡ over old 0 (front_bytes p y n) → new ≡ over mid (3 * n) (ink_bytes k) → k ≡ p.taken n y → new ≡ over old 0 (front_bytes p y (n + 1))
front_written p y n old {mid} e f t =
    over_next old (front_bytes p y n) (ink_bytes (p.taken n y)) e (f ∙ ap (λ v. over mid (3 * n) (ink_bytes v)) t) (omega (arith, length_front p y n)) (omega arith)
    ∙ ap (over old 0) (sym (front_more p y n))

pub row_made : (p : Picture) (y : ℕ) (old : List ℕ) {n : ℕ} {new : List ℕ} → y < p.high → n ≡ 3 * p.wide → n ≤ length old → new ≡ over old 0 (row_bytes_lem p y) → RowMade p y old n new
row_made p y old {n} {new} h e r b = record {
  there = h;
  room = omega arith;
  answer = e;
  bytes = b ∙ over_front old (row_bytes_lem p y) ∙ ap (λ k. row_bytes_lem p y ++ drop k old) (length_front p y p.wide ∙ sym e);
}
