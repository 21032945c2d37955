-- Laying all shapes by rising number gives the fresh painting. Assumes nothing.
use Rattle.std.proofs.Common.{◌≡◌, ℕ, ◌+◌, ◌≤◌, min, length, true, Some, None, Option, unwrap_or, sym, refl, ap, ◌∙◌, subst, ⊎_elim}
use Rattle.std.proofs.lemmas.Bool.{cases_Bool, cond-true, cond-false}
use Rattle.raster.specs.Shapes.{covers}
use Rattle.surface.specs.Picture.{Picture, On, SameSides, Lawful}
use Rattle.surface.specs.Calls.{Settled}
use Rattle.painting.specs.Drawing.{Drawing, Item, topmost, ruling, shape_ink, painting, Fresh}
use Rattle.painting.specs.Laid.{Laid, Painted}
use Rattle.surface.proofs.Sides.{same_again, on_again, on_back, sides_then}
use Rattle.std.specs.Option.{option_map}
use Rattle.painting.specs.declared.scene.Scene.{Scene}
use Rattle.painting.specs.declared.scene.Placed.{Placed}
use Rattle.painting.specs.Scenes.{at_number, item, drawing}
use Rattle.painting.proofs.Numbers.{Beside, entry_there, all_read}
use Rattle.painting.proofs.Topmost.{topmost_none, topmost_more, painting_in_words}

-- shape n was laid over what was there
pub record Over (d : Drawing) (n : ℕ) (p q : Picture) : Type 0 where
  pub sides : SameSides p q
  pub taken : (x y : ℕ) → On p x y → q.taken x y ≡ unwrap_or (shape_ink d x y (d.shapes n) n) (p.taken x y)

-- every pixel has the ink of the first n shapes, laid one over the other
pub record Layered (d : Drawing) (n : ℕ) (p q : Picture) : Type 0 where
  pub sides : SameSides p q
  pub taken : (x y : ℕ) → On p x y → q.taken x y ≡ topmost (λ m. shape_ink d x y (d.shapes m) m) 0 n

pub layered_none : (d : Drawing) (p q : Picture) → Laid (λ u v. true) 0 p q → Layered d 0 q q
layered_none d p q s = record { sides = same_again q; taken = λ x y o. s.on x y (on_back p q x y s.sides o) refl ∙ sym (topmost_none _ 0) }

pub layered_more : (d : Drawing) (n : ℕ) (p q r : Picture) → Layered d n p q → Over d n q r → Layered d (n + 1) p r
layered_more d n p q r s t = record {
  sides = sides_then p q r s.sides t.sides;
  taken = λ x y o. t.taken x y (on_again p q x y s.sides o) ∙ ap (unwrap_or (shape_ink d x y (d.shapes n) n)) (s.taken x y o) ∙ sym (topmost_more _ 0 n);
}

-- a shape laid in its ruling ink
pub over_laid : (d : Drawing) (n ink : ℕ) (item : Item) (p q : Picture) → d.shapes n ≡ Some item → ink ≡ ruling d n item.ink → Laid (covers d.font item.shape) ink p q → Over d n p q
over_laid d n ink item p q e i s = record { sides = s.sides; taken = λ x y o. go x y o }
  where
    go : (x y : ℕ) → On p x y → q.taken x y ≡ unwrap_or (shape_ink d x y (d.shapes n) n) (p.taken x y)
    go x y o = ⊎_elim
        (λ h. s.on x y o h ∙ i ∙ sym (ap (λ w. unwrap_or (shape_ink d x y w n) (p.taken x y)) e ∙ ap (λ w. unwrap_or w (p.taken x y)) (cond-true (covers d.font item.shape x y) _ _ h)))
        (λ h. s.off x y o h ∙ sym (ap (λ w. unwrap_or (shape_ink d x y w n) (p.taken x y)) e ∙ ap (λ w. unwrap_or w (p.taken x y)) (cond-false (covers d.font item.shape x y) _ _ h)))
        (cases_Bool (covers d.font item.shape x y))

pub over_none : (d : Drawing) (n : ℕ) (p : Picture) → d.shapes n ≡ None → Over d n p p
over_none d n p e = record { sides = same_again p; taken = λ x y o. sym (ap (λ w. unwrap_or (shape_ink d x y w n) (p.taken x y)) e) }

-- the shape that stands at a number, where its entry is read
pub shape_there : (s : Scene) (i n : ℕ) (entry : Option Placed) → Beside s.shapes.now i n entry → (drawing s).shapes n ≡ option_map item entry
shape_there s i n entry b = ap (λ m. option_map item (at_number s.shapes.now m)) b.number ∙ ap (option_map item) (entry_there s.shapes.now i entry b.small b.there b.read)

-- one entry more, and all of them
pub layered_entry : (s : Scene) (i k n : ℕ) (entry : Option Placed) (p q r : Picture) → k ≡ i + 1 → Beside s.shapes.now i n entry → Layered (drawing s) i p q → Over (drawing s) n q r → Layered (drawing s) k p r
layered_entry s i k n entry p q r e b l o = subst (λ m. Layered (drawing s) m p r) (sym e) (layered_more (drawing s) i p q r l (subst (λ m. Over (drawing s) m q r) b.number o))

pub layered_all : (s : Scene) (i : ℕ) (p q : Picture) → min 256 (length s.shapes.now) ≤ i → i ≤ 256 → Layered (drawing s) i p q → Layered (drawing s) 256 p q
layered_all s i p q l h t = record {
  sides = t.sides;
  taken = λ x y o. t.taken x y o ∙ all_read (λ n w. shape_ink (drawing s) x y (option_map item w) n) s.shapes.now 0 (λ n. refl) i l h;
}

-- and settled, it is the painting
pub painted : (d : Drawing) (o p q r : Picture) → Laid (λ u v. true) 0 o p → Layered d 256 p q → Settled q r → Lawful r → Painted d o r
painted d o p q r first s t law = record {
  sides = sides_then o q r to_q t.sides;
  taken = take_ink;
  shown = λ x y h. show x y h ∙ take_ink x y h;
  calm = λ x y h. t.calm x y (on_again o q x y to_q h);
  words = λ x y h. subst (Fresh d x y) (sym (show x y h ∙ take_ink x y h)) (painting_in_words d x y);
}
  where
    to_q : SameSides o q
    to_q = sides_then o p q first.sides s.sides

    take_ink : (x y : ℕ) → On o x y → r.taken x y ≡ painting d x y
    take_ink x y h = t.taken x y (on_again o q x y to_q h) ∙ s.taken x y (on_again o p x y first.sides h)

    show : (x y : ℕ) → On o x y → r.shown x y ≡ r.taken x y
    show x y h = law.still x y (on_again o r x y (sides_then o q r to_q t.sides) h) (t.calm x y (on_again o q x y to_q h))
