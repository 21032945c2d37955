-- A refresh goes on tile by tile, and is done in the end; an open clears all. Assumes nothing.
use Rattle.std.proofs.Common.{◌≡◌, ℕ, ◌+◌, ◌≤◌, true, false, eqb, List, [], ◌∷◌, ◌++◌, get_or, sym, refl, ap, ◌∙◌, ⊎_elim, arith}
use Rattle.std.proofs.lemmas.Bool.{cases_eq, both_ways, false≢true, eqb-true, eq-eqb, or_cases, or_parts}
use Rattle.raster.specs.Sizes.{tile_of}
use Rattle.surface.specs.Picture.{Picture, On, Lawful}
use Rattle.surface.specs.Calls.{Settled}
use Rattle.surface.proofs.Sides.{same_again, on_again, sides_then}
use Rattle.painting.specs.Drawing.{painting}
use Rattle.painting.specs.Laid.{Laid}
use Rattle.book.specs.Book.{Book}
use Rattle.book.specs.Past.{listed, Cleared, Repainted}
use Rattle.book.specs.Progress.{TileGiven, DoneBelow}
use Rattle.book.proofs.Tiles.{tile_small}
use Rattle.book.proofs.Reports.{climbs_none, climbs_push, listed_push, listed_at}

pub done_none : (b : Book) (p : Picture) → DoneBelow b p 0 [] p
done_none b p = record {
  sides = same_again p;
  rising = climbs_none;
  below = λ t h. absurd (false≢true h);
  marked = λ t h. absurd (false≢true h);
  complete = λ x y o l m h. absurd (omega arith);
  given = λ x y o h. absurd (false≢true h);
  kept = λ x y o h. refl;
}

module _ (b : Book) (p : Picture) (k : ℕ) (ts : List ℕ) (q : Picture) (h : DoneBelow b p k ts q) where
  -- a tile that is not marked is passed over
  pub done_skipped : b.marks k ≡ false → DoneBelow b p (k + 1) ts q
  done_skipped none = record {
    sides = h.sides;
    rising = h.rising;
    below = λ t m. let l = h.below t m in omega arith;
    marked = h.marked;
    complete = λ x y o l m r. ⊎_elim
        (λ e. absurd (both_ways (b.marks k) none (sym (ap b.marks e) ∙ m)))
        (λ e. h.complete x y o (omega (arith, e)) m r)
        (cases_eq (tile_of b.wide x y) k);
    given = h.given;
    kept = h.kept;
  }

  -- so is one in which the fresh painting alters nothing
  pub done_unaltered : ((x y : ℕ) → On p x y → tile_of b.wide x y ≡ k → q.taken x y ≡ painting b.drawing x y) → DoneBelow b p (k + 1) ts q
  done_unaltered same = record {
    sides = h.sides;
    rising = h.rising;
    below = λ t m. let l = h.below t m in omega arith;
    marked = h.marked;
    complete = λ x y o l m r. ⊎_elim
        (λ e. sym (same x y o e) ∙ h.kept x y o r)
        (λ e. h.complete x y o (omega (arith, e)) m r)
        (cases_eq (tile_of b.wide x y) k);
    given = h.given;
    kept = h.kept;
  }

  -- a marked tile is given the fresh painting, and reported
  pub done_given : (r : Picture) → b.marks k ≡ true → TileGiven b k q r → DoneBelow b p (k + 1) (ts ++ k ∷ []) r
  done_given r m g = record {
    sides = sides_then p q r h.sides g.sides;
    rising = climbs_push ts k h.rising (λ i l. h.below (get_or ts i 0) (listed_at ts i l));
    below = λ t e. ⊎_elim (λ f. let l = h.below t f in omega arith) (λ f. let z = eqb-true k t f in omega arith) (or_cases (listed ts t) (eqb k t) (sym (listed_push ts k t) ∙ e));
    marked = λ t e. ⊎_elim (λ f. h.marked t f) (λ f. ap b.marks (sym (eqb-true k t f)) ∙ m) (or_cases (listed ts t) (eqb k t) (sym (listed_push ts k t) ∙ e));
    complete = λ x y o l n e. let z = apart x y e in h.complete x y o (omega (arith, z.1)) n z.0;
    given = λ x y o e. ⊎_elim
        (λ f. g.on x y (on_again p q x y h.sides o) f)
        (λ f. g.off x y (on_again p q x y h.sides o) f ∙ h.given x y o (earlier x y e f))
        (cases_eq (tile_of b.wide x y) k);
    kept = λ x y o e. let z = apart x y e in g.off x y (on_again p q x y h.sides o) z.1 ∙ h.kept x y o z.0;
  }
    where
      apart : (x y : ℕ) → listed (ts ++ k ∷ []) (tile_of b.wide x y) ≡ false → (listed ts (tile_of b.wide x y) ≡ false) × (tile_of b.wide x y ≡ k → ⊥)
      apart x y e =
          let z = or_parts (listed ts (tile_of b.wide x y)) (eqb k (tile_of b.wide x y)) (sym (listed_push ts k (tile_of b.wide x y)) ∙ e) in
          (z.0, λ f. both_ways (eqb k (tile_of b.wide x y)) z.1 (eq-eqb k (tile_of b.wide x y) (sym f)))

      earlier : (x y : ℕ) → listed (ts ++ k ∷ []) (tile_of b.wide x y) ≡ true → (tile_of b.wide x y ≡ k → ⊥) → listed ts (tile_of b.wide x y) ≡ true
      earlier x y e f = ⊎_elim (λ z. z) (λ z. absurd (f (sym (eqb-true k (tile_of b.wide x y) z)))) (or_cases (listed ts (tile_of b.wide x y)) (eqb k (tile_of b.wide x y)) (sym (listed_push ts k (tile_of b.wide x y)) ∙ e))

-- with all tiles done and the surface settled, it is a refresh
pub done_all : (b : Book) (p : Picture) (ts : List ℕ) (q r : Picture) → p.wide ≡ b.wide → p.wide ≤ 256 → p.high ≤ 256 → DoneBelow b p 256 ts q → Settled q r → Lawful r → Repainted b p ts r
done_all b p ts q r same w g h s law = record {
  sides = sides_then p q r h.sides s.sides;
  rising = h.rising;
  marked = h.marked;
  complete = λ x y o m e. h.complete x y o (tile_small b.wide x y (omega (arith, same)) (omega (arith, same, o.column)) (omega (arith, o.row))) m e;
  given = λ x y o e. s.taken x y (on_again p q x y h.sides o) ∙ h.given x y o e;
  kept = λ x y o e. s.taken x y (on_again p q x y h.sides o) ∙ h.kept x y o e;
  shown = λ x y o. law.still x y (on_again p r x y (sides_then p q r h.sides s.sides) o) (s.calm x y (on_again p q x y h.sides o));
  calm = λ x y o. s.calm x y (on_again p q x y h.sides o);
}

-- with all pixels paper and the surface settled, it is an open
pub cleared_all : (p q r : Picture) → Laid (λ u v. true) 0 p q → Settled q r → Lawful r → Cleared p r
cleared_all p q r l s law = record {
  sides = sides_then p q r l.sides s.sides;
  taken = λ x y o. took x y o;
  shown = λ x y o. law.still x y (on_again p r x y (sides_then p q r l.sides s.sides) o) (s.calm x y (on_again p q x y l.sides o)) ∙ took x y o;
  calm = λ x y o. s.calm x y (on_again p q x y l.sides o);
}
  where
    took : (x y : ℕ) → On p x y → r.taken x y ≡ 0
    took x y o = s.taken x y (on_again p q x y l.sides o) ∙ l.on x y o refl
