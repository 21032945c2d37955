-- Giving inks to a picture, one part after another. Assumes nothing.
use Rattle.std.proofs.Common.{◌≡◌, ℕ, ◌+◌, true, ◌&&◌, eqb, ltb, leb, Some, None, Option, unwrap_or, sym, refl, ap, ◌∙◌, arith}
use Rattle.std.proofs.lemmas.Bool.{and_parts, leb-true, ltb-true, eqb-true}
use Rattle.surface.specs.Picture.{Picture, On}
use Rattle.surface.specs.Calls.{OnRun}
use Rattle.surface.proofs.Sides.{sides_then, on_again}
use Rattle.handing.specs.Given.{Given}

-- the later ink counts
abbrev pub over : Option ℕ → Option ℕ → Option ℕ
over None o = o
over (Some i) o = Some i

over_value : (a b : Option ℕ) (i : ℕ) → unwrap_or a (unwrap_or b i) ≡ unwrap_or (over a b) i
over_value None b i = refl
over_value (Some j) b i = refl

over_none : (a b : Option ℕ) → over a b ≡ None → (a ≡ None) × (b ≡ None)
over_none None b e = (refl, e)
over_none (Some j) b e = let z : ◌≡◌ {A = ℕ} 0 1 = cc in absurd (omega arith)

pub given_then : (f g h : ℕ → ℕ → Option ℕ) (p q r : Picture) → ((u v : ℕ) → On p u v → h u v ≡ over (g u v) (f u v)) → Given f p q → Given g q r → Given h p r
given_then f g h p q r same s t = record {
  sides = sides_then p q r s.sides t.sides;
  taken = λ u v o. t.taken u v (on_again p q u v s.sides o) ∙ ap (unwrap_or (g u v)) (s.taken u v o) ∙ over_value (g u v) (f u v) (p.taken u v) ∙ sym (ap (λ w. unwrap_or w (p.taken u v)) (same u v o));
  calm = λ u v o e w.
      let z = over_none (g u v) (f u v) (sym (same u v o) ∙ e) in
      t.calm u v (on_again p q u v s.sides o) z.0 (s.calm u v o z.1 w);
}

pub given_like : (f g : ℕ → ℕ → Option ℕ) (p q : Picture) → ((u v : ℕ) → On p u v → f u v ≡ g u v) → Given f p q → Given g p q
given_like f g p q same s = record {
  sides = s.sides;
  taken = λ u v o. s.taken u v o ∙ ap (λ w. unwrap_or w (p.taken u v)) (same u v o);
  calm = λ u v o e w. s.calm u v o (same u v o ∙ e) w;
}

-- the pixels of a run
pub run_on : (x y n u v : ℕ) → ((leb x u && ltb u (x + n)) && eqb v y) ≡ true → OnRun x y n u v
run_on x y n u v e =
    let a = and_parts (leb x u && ltb u (x + n)) (eqb v y) e in
    let b = and_parts (leb x u) (ltb u (x + n)) a.0 in
    record { row = eqb-true _ _ a.1; from = leb-true _ _ b.0; to = ltb-true _ _ b.1 }

pub over_nothing : (o : Option ℕ) → o ≡ over o None
over_nothing None = refl
over_nothing (Some i) = refl
