-- Laying one area after another. Assumes nothing.
use Rattle.std.proofs.Common.{◌≡◌, ℕ, ◌+◌, ◌-◌, Bool, false, ◌&&◌, ◌||◌, eqb, ltb, leb, List, [], ◌∷◌, ◌++◌, sym, refl, ap, ◌∙◌, ap₂, ⊎_elim, arith}
use Rattle.std.proofs.Math.Bool.{or_assoc}
use Rattle.std.proofs.lemmas.Bool.{cases_Bool, cases_eq, or_cases, or_parts, both_ways}
use Rattle.std.proofs.lemmas.Bool.Decides.{nat_tests}
use Rattle.raster.specs.declared.shape.Cell.{Cell}
use Rattle.raster.specs.declared.shape.Shape.TheVariants.{Figure}
use Rattle.raster.specs.Fonts.{lit}
use Rattle.raster.specs.Lines.{among}
use Rattle.raster.specs.Shapes.{covers}
use Rattle.surface.specs.Picture.{Picture, On}
use Rattle.surface.proofs.Sides.{on_again, sides_then}
use Rattle.painting.specs.Laid.{run_of, Laid}

-- one area and then another is both
pub laid_then : (a b c : ℕ → ℕ → Bool) (ink : ℕ) (p q r : Picture) → ((u v : ℕ) → c u v ≡ (a u v || b u v)) → Laid a ink p q → Laid b ink q r → Laid c ink p r
laid_then a b c ink p q r same s t = record {
  sides = sides_then p q r s.sides t.sides;
  on = λ u v o e. ⊎_elim (λ h. t.on u v (on_again p q u v s.sides o) h)
      (λ h. t.off u v (on_again p q u v s.sides o) h ∙ s.on u v o (⊎_elim (λ k. k) (λ k. absurd (both_ways (b u v) h k)) (or_cases (a u v) (b u v) (sym (same u v) ∙ e))))
      (cases_Bool (b u v));
  off = λ u v o e. let z = or_parts (a u v) (b u v) (sym (same u v) ∙ e) in t.off u v (on_again p q u v s.sides o) z.1 ∙ s.off u v o z.0;
}

-- the same area by another test
pub laid_like : (a b : ℕ → ℕ → Bool) (ink : ℕ) (p q : Picture) → ((u v : ℕ) → On p u v → a u v ≡ b u v) → Laid a ink p q → Laid b ink p q
laid_like a b ink p q same s = record {
  sides = s.sides;
  on = λ u v o e. s.on u v o (same u v o ∙ e);
  off = λ u v o e. s.off u v o (same u v o ∙ e);
}

-- the pixels of a list, one after the other
pub among_append : (ps qs : List (ℕ × ℕ)) (u v : ℕ) → among (ps ++ qs) u v ≡ (among ps u v || among qs u v)
among_append [] qs u v = refl
among_append (p ∷ ps) qs u v = ap (λ b. (eqb p.0 u && eqb p.1 v) || b) (among_append ps qs u v) ∙ sym (or_assoc (eqb p.0 u && eqb p.1 v) (among ps u v) (among qs u v))

-- one pixel more of a line
pub among_more : (ps : List (ℕ × ℕ)) (x y u v : ℕ) → among (ps ++ (x, y) ∷ []) u v ≡ (among ps u v || run_of x y 1 u v)
among_more ps x y u v = among_append ps ((x, y) ∷ []) u v ∙ ap (λ b. among ps u v || b) (one x y u v)
  where
    one : (x y u v : ℕ) → ((eqb x u && eqb y v) || false) ≡ run_of x y 1 u v
    one x y u v = grind (arith, nat_tests)

-- what a font lights of a figure, in the columns and in the rows before some
abbrev pub in_columns : List ℕ → Cell → ℕ → ℕ → ℕ → ℕ → Bool
in_columns font f row n u v = (covers font (Figure f) u v && eqb v (f.y + row)) && ltb u (f.x + n)

abbrev pub in_rows : List ℕ → Cell → ℕ → ℕ → ℕ → Bool
in_rows font f n u v = covers font (Figure f) u v && ltb v (f.y + n)

column_step : (t b : Bool) (x y row n u v : ℕ) → (v ≡ y + row → u ≡ x + n → b ≡ t) → ((t && eqb v (y + row)) && ltb u (x + (n + 1))) ≡ (((t && eqb v (y + row)) && ltb u (x + n)) || (b && run_of (x + n) (y + row) 1 u v))
column_step t b x y row n u v h = ⊎_elim
    (λ p. ⊎_elim (λ q. let e = h p q in grind (arith, nat_tests)) (λ q. grind (arith, nat_tests)) (cases_eq u (x + n)))
    (λ p. grind (arith, nat_tests))
    (cases_eq v (y + row))

row_step : (t : Bool) (y n v : ℕ) → (t && ltb v (y + (n + 1))) ≡ ((t && ltb v (y + n)) || (t && eqb v (y + n)))
row_step t y n v = grind (arith, nat_tests)

-- one column more
pub columns_more : (font : List ℕ) (f : Cell) (row n u v : ℕ) (b : Bool) → b ≡ lit font f.glyph n row → in_columns font f row (n + 1) u v ≡ (in_columns font f row n u v || (b && run_of (f.x + n) (f.y + row) 1 u v))
columns_more font f row n u v b e = column_step (covers font (Figure f) u v) b f.x f.y row n u v
    (λ h k.
    let a : u - f.x ≡ n = omega (arith, k) in
    let c : v - f.y ≡ row = omega (arith, h) in
    e ∙ sym (at (lit font f.glyph (u - f.x) (v - f.y)) h k ∙ ap₂ (λ i j. lit font f.glyph i j) a c))
  where
    at : (t : Bool) → v ≡ f.y + row → u ≡ f.x + n → ((leb f.x u && leb f.y v) && t) ≡ t
    at t h k = grind (arith, nat_tests)

-- one row more
pub rows_more : (font : List ℕ) (f : Cell) (n u v : ℕ) → in_rows font f (n + 1) u v ≡ (in_rows font f n u v || (covers font (Figure f) u v && eqb v (f.y + n)))
rows_more font f n u v = row_step (covers font (Figure f) u v) f.y n v
