-- A line's pixels lie in its bounding box. Assumes nothing.
use Rattle.std.proofs.Common.{◌≡◌, ℕ, ◌+◌, min, max, true, List, sym, ap, ◌∙◌, arith}
use Rattle.std.proofs.lemmas.Bool.{and_from, le-leb, lt-ltb}
use Rattle.raster.specs.declared.shape.Bounds.{Bounds}
use Rattle.lines.specs.declared.line.Ends.{Ends}
use Rattle.raster.specs.declared.shape.Shape.{Shape}
use Rattle.raster.specs.declared.shape.Shape.TheVariants.{Line}
use Rattle.lines.specs.Lines.{pixels, among}
use Rattle.raster.specs.Shapes.{covers, bounds_of, inside}
use Rattle.lines.proofs.Lines.{pixels_between}

pub line_inside : (l : Ends) (x y : ℕ) → among (pixels l) x y ≡ true → inside (bounds_of (Line l)) x y ≡ true
line_inside l x y e =
    let b = pixels_between l x y e in
    and_from _ _
    (and_from _ _ (le-leb _ _ b.0.0) (lt-ltb x (max l.x0 l.x1 + 1) (omega (arith, b.0.1))))
    (and_from _ _ (le-leb _ _ b.1.0) (lt-ltb y (max l.y0 l.y1 + 1) (omega (arith, b.1.1))))

pub line_bounds : (s : Shape) (l : Ends) (a b d e : ℕ) → s ≡ Line l → a ≡ min l.x0 l.x1 → b ≡ min l.y0 l.y1 → d ≡ max l.x0 l.x1 → e ≡ max l.y0 l.y1 → ◌≡◌ {A = Bounds} (record { left = a; top = b; right = d + 1; bottom = e + 1 }) (bounds_of s)
line_bounds s l a b d e p h i j k = let q : bounds_of s ≡ bounds_of (Line l) = ap bounds_of p in cc

pub line_around : (s : Shape) (l : Ends) (b : Bounds) → s ≡ Line l → b ≡ bounds_of s → (font : List ℕ) (x y : ℕ) → covers font s x y ≡ true → inside b x y ≡ true
line_around s l b p q font x y e =
    ap (λ v. inside v x y) (q ∙ ap bounds_of p) ∙ line_inside l x y (sym (ap (λ v. covers font v x y) p) ∙ e)
