-- A tile can be painted from the shapes that its box was found to meet, and a shape's ruling ink told from the spans that were found to
-- hold the frame. Assumes nothing.
use Rattle.std.proofs.Common.{◌≡◌, ℕ, ◌<◌, ◌≤◌, Bool, true, false, cond, eqb, leb, Some, None, Option, sym, refl, ◌∙◌, ⊎_elim}
use Rattle.std.proofs.lemmas.Bool.{cases_Bool, cond-true, cond-false, both_ways, and_parts, leb-true}
use Rattle.raster.specs.Sizes.{tile_of}
use Rattle.painting.specs.Drawing.{Drawing, Item, Turn, topmost, holds, span_ink, ruling, shape_ink, painting}
use Rattle.painting.proofs.Topmost.{topmost_same}
use Rattle.book.specs.Tiles.{meets}
use Rattle.book.specs.Looks.{meets_item}
use Rattle.book.proofs.Marks.{apart_none}

-- what stands at a number gives to a pixel, if the number was found
abbrev pub found_ink : (ℕ → Bool) → (ℕ → Option ℕ) → ℕ → Option ℕ
found_ink found f n = cond (found n) (f n) None

-- numbers that give nothing need not be found
pub topmost_found : (found : ℕ → Bool) (f : ℕ → Option ℕ) (d k : ℕ) → ((n : ℕ) → n < k → found n ≡ false → f n ≡ None) → topmost (found_ink found f) d k ≡ topmost f d k
topmost_found found f d k h = topmost_same (found_ink found f) f d k (λ n l. ⊎_elim
    (λ e. cond-true (found n) (f n) None e)
    (λ e. cond-false (found n) (f n) None e ∙ sym (h n l e))
    (cases_Bool (found n)))

-- the painting of a pixel from the shapes whose bounding boxes meet its tile; others may be among those found
pub painting_found : (d : Drawing) (width height x y : ℕ) (found : ℕ → Bool) → x < width → y < height
    → ((n : ℕ) (item : Item) → n < 256 → d.shapes n ≡ Some item → meets width height (tile_of width x y) item.shape ≡ true → found n ≡ true)
    → topmost (found_ink found (λ n. shape_ink d x y (d.shapes n) n)) 0 256 ≡ painting d x y
painting_found d width height x y found hx hy all = topmost_found found (λ n. shape_ink d x y (d.shapes n) n) 0 256 (λ n l e. apart_none d width height x y n (d.shapes n) hx hy (missed n (d.shapes n) refl l e))
  where
    missed : (n : ℕ) (o : Option Item) → d.shapes n ≡ o → n < 256 → found n ≡ false → meets_item width height (tile_of width x y) o ≡ false
    missed n None q l e = refl
    missed n (Some item) q l e = ⊎_elim (λ m. absurd (both_ways (found n) e (all n item l q m))) (λ m. m) (cases_Bool (meets width height (tile_of width x y) item.shape))

-- the ruling ink from the spans that hold the frame
pub ruling_found : (d : Drawing) (n own : ℕ) (found : ℕ → Bool)
    → ((s : ℕ) (turn : Turn) → s < 256 → d.spans s ≡ Some turn → turn.from ≤ d.frame → d.frame ≤ turn.to → found s ≡ true)
    → topmost (found_ink found (λ s. span_ink (d.spans s) n d.frame)) own 256 ≡ ruling d n own
ruling_found d n own found all = topmost_found found (λ s. span_ink (d.spans s) n d.frame) own 256 (λ s l e. missed s (d.spans s) refl l e)
  where
    missed : (s : ℕ) (o : Option Turn) → d.spans s ≡ o → s < 256 → found s ≡ false → span_ink o n d.frame ≡ None
    missed s None q l e = refl
    missed s (Some turn) q l e = ⊎_elim
        (λ m. let p = and_parts (eqb turn.shape n) _ m in let r = and_parts (leb turn.from d.frame) (leb d.frame turn.to) p.1 in
        absurd (both_ways (found s) e (all s turn l q (leb-true _ _ r.0) (leb-true _ _ r.1))))
        (λ m. cond-false (holds turn n d.frame) _ _ m)
        (cases_Bool (holds turn n d.frame))
