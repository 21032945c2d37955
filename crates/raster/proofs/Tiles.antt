-- A tile by its number, and by its column and row. Assumes nothing.
use Rattle.std.proofs.Common.{◌≡◌, ℕ, ◌+◌, ◌*◌, ◌/◌, ◌%◌, ◌<◌, ◌&&◌, eqb, sym, refl, ap, ◌∙◌, ap₂, ⊎_elim, arith}
use Rattle.std.proofs.lemmas.Nat.{div-add-mod', div-mul-add, mod-mul-add}
use Rattle.std.proofs.lemmas.Bool.{cases_Bool, eqb-true, eq-eqb, ne_eqb, and_parts, and_from, both_ways}
use Rattle.basics.specs.Sizes.{tile_of}

-- a number is a row and a column of w places
pub row_column : (t w a b : ℕ) → b < w → (eqb b (t % w) && eqb a (t / w)) ≡ eqb t (a * w + b)
row_column t w a b h = ⊎_elim
    (λ e. let q = and_parts (eqb b (t % w)) (eqb a (t / w)) e in
    let x : b ≡ t % w = eqb-true _ _ q.0 in
    let y : a ≡ t / w = eqb-true _ _ q.1 in
    e ∙ sym (eq-eqb t (a * w + b) (sym (div-add-mod' t w) ∙ sym (ap (λ m. m * w + b) y ∙ ap (λ m. t / w * w + m) x))))
    (λ e. e ∙ sym (ne_eqb t (a * w + b) (λ z. both_ways _ e (and_from _ _ (eq-eqb b (t % w) (sym (ap (λ m. m % w) z ∙ mod-mul-add a w b h))) (eq-eqb a (t / w) (sym (ap (λ m. m / w) z ∙ div-mul-add a w b h)))))))
    (cases_Bool (eqb b (t % w) && eqb a (t / w)))

-- the column and the row of a pixel's tile
pub tile_parts : (wide x y t : ℕ) → x < wide → tile_of wide x y ≡ t → (x / 16 ≡ t % ((wide + 15) / 16)) × (y / 16 ≡ t / ((wide + 15) / 16))
tile_parts wide x y t h e = let c = (wide + 15) / 16 in
    (sym (mod-mul-add (y / 16) c (x / 16) (omega arith)) ∙ ap (λ m. m % c) e, sym (div-mul-add (y / 16) c (x / 16) (omega arith)) ∙ ap (λ m. m / c) e)

-- a pixel in that column and row of tiles lies in the tile
pub parts_tile : (wide x y t : ℕ) → x / 16 ≡ t % ((wide + 15) / 16) → y / 16 ≡ t / ((wide + 15) / 16) → tile_of wide x y ≡ t
parts_tile wide x y t a b = let c = (wide + 15) / 16 in ap₂ (λ m n. m * c + n) b a ∙ div-add-mod' t c

-- two pixels of one tile
pub one_tile : (wide x y u v : ℕ) → x < wide → u < wide → tile_of wide x y ≡ tile_of wide u v → (u / 16 ≡ x / 16) × (v / 16 ≡ y / 16)
one_tile wide x y u v hx hu e =
    let p = tile_parts wide x y (tile_of wide x y) hx refl in
    let q = tile_parts wide u v (tile_of wide x y) hu (sym e) in
    (q.0 ∙ sym p.0, q.1 ∙ sym p.1)
