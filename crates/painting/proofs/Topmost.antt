-- The largest-numbered of several decides: the computing form agrees with the words. Assumes nothing.
use Rattle.std.proofs.Common.{◌≡◌, ℕ, zero, suc, ◌+◌, ◌<◌, true, Some, None, Option, unwrap_or, sym, refl, ap, ◌∙◌, subst, ⊎_elim, add-one, arith}
use Rattle.std.proofs.lemmas.Bool.{cases_eq, cases_Bool, cond-true, cond-false}
use Rattle.raster.specs.Shapes.{covers}
use Rattle.painting.specs.Drawing.{Drawing, Item, Turn, topmost, holds, span_ink, ruling, shape_ink, painting, RulingInk, Fresh}

pub topmost_none : (f : ℕ → Option ℕ) (d : ℕ) → topmost f d 0 ≡ d
unfolding topmost
topmost_none f d = refl

pub topmost_more : (f : ℕ → Option ℕ) (d k : ℕ) → topmost f d (k + 1) ≡ unwrap_or (f k) (topmost f d k)
unfolding topmost
topmost_more f d k = ap (topmost f d) (add-one k)

pub topmost_same : (f g : ℕ → Option ℕ) (d k : ℕ) → ((n : ℕ) → n < k → f n ≡ g n) → topmost f d k ≡ topmost g d k
unfolding topmost
topmost_same f g d zero h = refl
topmost_same f g d (suc k) h = ap (λ o. unwrap_or o (topmost f d k)) (h k (omega arith)) ∙ ap (unwrap_or (g k)) (topmost_same f g d k (λ n l. h n (omega arith)))

-- where f gives nothing, d stands
pub topmost_bare : (f : ℕ → Option ℕ) (d k : ℕ) → ((n : ℕ) → n < k → f n ≡ None) → topmost f d k ≡ d
unfolding topmost
topmost_bare f d zero h = refl
topmost_bare f d (suc k) h = ap (λ o. unwrap_or o (topmost f d k)) (h k (omega arith)) ∙ topmost_bare f d k (λ n l. h n (omega arith))

-- and the largest number at which it gives something decides
pub topmost_top : (f : ℕ → Option ℕ) (d k n i : ℕ) → n < k → f n ≡ Some i → ((m : ℕ) → n < m → m < k → f m ≡ None) → topmost f d k ≡ i
unfolding topmost
topmost_top f d zero n i l e h = absurd (omega arith)
topmost_top f d (suc k) n i l e h = ⊎_elim
    (λ q. ap (λ o. unwrap_or o (topmost f d k)) (ap f (sym q) ∙ e))
    (λ q. ap (λ o. unwrap_or o (topmost f d k)) (h k (omega (arith, q)) (omega arith)) ∙ topmost_top f d k n i (omega (arith, q)) e (λ m a b. h m a (omega arith)))
    (cases_eq n k)

-- a span that does not rule gives nothing
span_ink_none : (o : Option Turn) (n frame : ℕ) → ((s : Turn) → o ≡ Some s → holds s n frame ≡ true → ⊥) → span_ink o n frame ≡ None
span_ink_none None n frame h = refl
span_ink_none (Some s) n frame h = ⊎_elim (λ e. absurd (h s refl e)) (λ e. cond-false (holds s n frame) _ _ e) (cases_Bool (holds s n frame))

pub ruling_in_words : (d : Drawing) (n own : ℕ) → RulingInk d n own (ruling d n own)
ruling_in_words d n own = record {
  top = λ s span r above. topmost_top (λ m. span_ink (d.spans m) n d.frame) own 256 s span.ink r.number
      (ap (λ o. span_ink o n d.frame) r.given ∙ cond-true (holds span n d.frame) _ _ r.holding)
      (λ m a b. span_ink_none (d.spans m) n d.frame (λ other e h. above m other a (record { number = b; given = e; holding = h })));
  bare = λ none. topmost_bare (λ m. span_ink (d.spans m) n d.frame) own 256 (λ m b. span_ink_none (d.spans m) n d.frame (λ other e h. none m other (record { number = b; given = e; holding = h })));
}

-- a shape that does not cover the pixel gives nothing
shape_ink_none : (d : Drawing) (x y n : ℕ) (o : Option Item) → ((p : Item) → o ≡ Some p → covers d.font p.shape x y ≡ true → ⊥) → shape_ink d x y o n ≡ None
shape_ink_none d x y n None h = refl
shape_ink_none d x y n (Some p) h = ⊎_elim (λ e. absurd (h p refl e)) (λ e. cond-false (covers d.font p.shape x y) _ _ e) (cases_Bool (covers d.font p.shape x y))

pub painting_in_words : (d : Drawing) (x y : ℕ) → Fresh d x y (painting d x y)
painting_in_words d x y = record {
  top = λ n item r above.
      let e = topmost_top (λ m. shape_ink d x y (d.shapes m) m) 0 256 n (ruling d n item.ink) r.number
      (ap (λ o. shape_ink d x y o n) r.given ∙ cond-true (covers d.font item.shape x y) _ _ r.covering)
      (λ m a b. shape_ink_none d x y m (d.shapes m) (λ other q h. above m other a (record { number = b; given = q; covering = h }))) in
      subst (RulingInk d n item.ink) (sym e) (ruling_in_words d n item.ink);
  bare = λ none. topmost_bare (λ m. shape_ink d x y (d.shapes m) m) 0 256 (λ m b. shape_ink_none d x y m (d.shapes m) (λ other e h. none m other (record { number = b; given = e; covering = h })));
}
