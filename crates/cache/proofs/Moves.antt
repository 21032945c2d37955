-- What the moves of a cache do to its picture. Assumes nothing.
use Rattle.std.proofs.Common.{◌≡◌, ℕ, ◌+◌, ◌*◌, ◌/◌, ◌%◌, ◌<◌, ◌≤◌, Bool, true, false, cond, ◌&&◌, ◌||◌, eqb, ltb, leb, List, length, get_or, set, is_some, Some, None, Option, unwrap_or, sym, refl, ap, ◌∙◌, ap₂, ⊎_elim, arith}
use Rattle.std.proofs.lemmas.Bool.{cases_Bool, cases_eq, cond-true, cond-false, or_parts, or_from, eqb-true, both_ways}
use Rattle.std.proofs.lemmas.Bool.Decides.{nat_tests}
use Rattle.raster.specs.Sizes.{tile_of, place}
use Rattle.raster.proofs.Tiles.{one_tile}
use Rattle.surface.specs.Picture.{Picture, On}
use Rattle.cache.specs.declared.slot.Slot.{Slot}
use Rattle.cache.specs.Slots.{ink_at_lem, is_tile, tile_at, Apart, held}
use Rattle.cache.specs.Cached.{cached, held_for, slot_inks, run_inks}
use Rattle.handing.specs.Given.{Given}
use Rattle.cache.proofs.Giving.{run_on}
use Rattle.cache.proofs.Held.{held_none, held_only, held_beside, held_read, tile_read, apart_only}

is_none : (o : Option ℕ) → is_some o ≡ false → o ≡ None
is_none None e = refl
is_none (Some i) e = let z : ◌≡◌ {A = ℕ} 0 1 = cc in absurd (omega arith)

is_same : (o : Option ℕ) (t u : ℕ) → is_tile o t ≡ true → is_tile o u ≡ true → t ≡ u
is_same None t u a b = absurd (both_ways _ refl a)
is_same (Some w) t u a b = sym (eqb-true w t a) ∙ eqb-true w u b

-- what the slots hold once slot i, where s stood, is empty
emptied_held : (ss : List Slot) (i : ℕ) (s b : Slot) (t k : ℕ) → i < length ss → Apart ss → s ≡ get_or ss i s → b.tile ≡ None
    → (held (set ss i b) t k ≡ cond (is_tile s.tile t) None (held ss t k)) × (is_tile s.tile t ≡ true → held ss t k ≡ ink_at_lem s k)
emptied_held ss i s b t k l a e n =
    let m = tile_read ss i s l e in
    let empty = ap (λ o. is_tile o t) n in (
      ⊎_elim
          (λ h. held_only ss i b t k l (apart_only ss i t a (ap (λ o. is_tile o t) m ∙ h)) ∙ cond-false _ _ _ empty ∙ sym (cond-true _ _ _ h))
          (λ h. held_beside ss i b t k (ap (λ o. is_tile o t) m ∙ h) empty ∙ sym (cond-false _ _ _ h))
          (cases_Bool (is_tile s.tile t)),
      λ h. held_read ss i s t k l e (apart_only ss i t a (ap (λ o. is_tile o t) m ∙ h)) h,
    )

-- a slot that goes below leaves every taken ink, and no pixel begins to wait
pub emptied : (ss : List Slot) (i : ℕ) (s b : Slot) (p q : Picture) → i < length ss → Apart ss → s ≡ get_or ss i s → b.tile ≡ None → Given (slot_inks s p.wide) p q → Given (λ u v. None) (cached ss p) (cached (set ss i b) q)
emptied ss i s b p q l a e n g = record {
  sides = record { wide = g.sides.wide; high = g.sides.high };
  taken = λ u v o. taken u v (below u v o);
  calm = λ u v o z w. calm u v (below u v o) w;
}
  where
    below : (u v : ℕ) → On (cached ss p) u v → On p u v
    below u v o = record { column = o.column; row = o.row }

    same : (u v : ℕ) → held_for (set ss i b) q.wide u v ≡ held (set ss i b) (tile_of p.wide u v) (place u v)
    same u v = ap (λ m. held (set ss i b) (tile_of m u v) (place u v)) g.sides.wide

    taken : (u v : ℕ) → On p u v → unwrap_or (held_for (set ss i b) q.wide u v) (q.taken u v) ≡ unwrap_or (held_for ss p.wide u v) (p.taken u v)
    taken u v o =
        let x = emptied_held ss i s b (tile_of p.wide u v) (place u v) l a e n in
        ⊎_elim
        (λ h. ap₂ unwrap_or (same u v ∙ x.0 ∙ cond-true _ _ _ h) (g.taken u v o) ∙ ap (λ w. unwrap_or w (p.taken u v)) (cond-true _ _ _ h ∙ sym (x.1 h)))
        (λ h. ap₂ unwrap_or (same u v ∙ x.0 ∙ cond-false _ _ _ h) (g.taken u v o ∙ ap (λ w. unwrap_or w (p.taken u v)) (cond-false _ _ _ h)))
        (cases_Bool (is_tile s.tile (tile_of p.wide u v)))

    calm : (u v : ℕ) → On p u v → (is_some (held_for ss p.wide u v) || p.waits u v) ≡ false → (is_some (held_for (set ss i b) q.wide u v) || q.waits u v) ≡ false
    calm u v o w =
        let x = emptied_held ss i s b (tile_of p.wide u v) (place u v) l a e n in
        let y = or_parts _ _ w in
        let free = is_none _ y.0 in
        ⊎_elim
        (λ h. or_from _ _ (ap is_some (same u v ∙ x.0 ∙ cond-true _ _ _ h)) (g.calm u v o (cond-true _ _ _ h ∙ sym (x.1 h) ∙ free) y.1))
        (λ h. or_from _ _ (ap is_some (same u v ∙ x.0 ∙ cond-false _ _ _ h ∙ free)) (g.calm u v o (cond-false _ _ _ h) y.1))
        (cases_Bool (is_tile s.tile (tile_of p.wide u v)))

-- a slot that is taken for a tile has no ink yet
pub claimed : (ss : List Slot) (i tile : ℕ) (s : Slot) (p : Picture) → i < length ss → ((j : ℕ) → is_tile (tile_at ss j) tile ≡ false) → tile_at ss i ≡ None → s.tile ≡ Some tile → ((k : ℕ) → ink_at_lem s k ≡ None) → Given (λ u v. None) (cached ss p) (cached (set ss i s) p)
claimed ss i tile s p l free empty named bare = record {
  sides = record { wide = refl; high = refl };
  taken = λ u v o. ap (λ w. unwrap_or w (p.taken u v)) (same (tile_of p.wide u v) (place u v));
  calm = λ u v o z w. ap (λ x. is_some x || p.waits u v) (same (tile_of p.wide u v) (place u v)) ∙ w;
}
  where
    same : (t k : ℕ) → held (set ss i s) t k ≡ held ss t k
    same t k = ⊎_elim
        (λ h. let e : tile ≡ t = eqb-true _ _ (sym (ap (λ o. is_tile o t) named) ∙ h) in
        let none : (j : ℕ) → is_tile (tile_at ss j) t ≡ false = λ j. ap (is_tile (tile_at ss j)) (sym e) ∙ free j in
        held_only ss i s t k l (λ j n. none j) ∙ cond-true _ _ _ h ∙ bare k ∙ sym (held_none ss t k none))
        (λ h. held_beside ss i s t k (ap (λ o. is_tile o t) empty) h)
        (cases_Bool (is_tile s.tile t))

-- the places of a run along a row of a tile
in_row : (x y n u v : ℕ) → u / 16 ≡ x / 16 → v / 16 ≡ y / 16 → x % 16 + n ≤ 16 → (leb (place x y) (place u v) && ltb (place u v) (place x y + n)) ≡ ((leb x u && ltb u (x + n)) && eqb v y)
in_row x y n u v c d fits = ⊎_elim
    (λ e. let f : v % 16 ≡ y % 16 = ap (λ m. m % 16) e in grind (arith, nat_tests))
    (λ e. let f : v % 16 ≡ y % 16 → ⊥ = λ z. e (omega (arith, z)) in grind (arith, nat_tests))
    (cases_eq v y)

-- a run inside one tile goes to the tile's slot
pub put_given : (ss : List Slot) (i : ℕ) (s r : Slot) (p : Picture) (x y n ink : ℕ) → i < length ss → Apart ss → s ≡ get_or ss i s → is_tile s.tile (tile_of p.wide x y) ≡ true → r.tile ≡ s.tile
    → ((j : ℕ) → ink_at_lem r j ≡ cond (leb (place x y) j && ltb j (place x y + n)) (Some ink) (ink_at_lem s j)) → x % 16 + n ≤ 16 → x < p.wide
    → Given (run_inks x y n ink) (cached ss p) (cached (set ss i r) p)
put_given ss i s r p x y n ink l a e m kept inks fits inside = record {
  sides = record { wide = refl; high = refl };
  taken = λ u v o. ap (λ w. unwrap_or w (p.taken u v)) (now_held u v o.column) ∙ valued (run u v) (held_for ss p.wide u v) (p.taken u v);
  calm = λ u v o z w. ap (λ q. is_some q || p.waits u v) (now_held u v o.column ∙ unrun u v z) ∙ w;
}
  where
    run : ℕ → ℕ → Bool
    run u v = (leb x u && ltb u (x + n)) && eqb v y

    valued : (b : Bool) (o : Option ℕ) (d : ℕ) → unwrap_or (cond b (Some ink) o) d ≡ unwrap_or (cond b (Some ink) None) (unwrap_or o d)
    valued true o d = refl
    valued false o d = refl

    unrun : (u v : ℕ) → cond (run u v) (Some ink) None ≡ None → cond (run u v) (Some ink) (held_for ss p.wide u v) ≡ held_for ss p.wide u v
    unrun u v z = go (run u v) z
      where
        go : (b : Bool) → cond b (Some ink) None ≡ None → cond b (Some ink) (held_for ss p.wide u v) ≡ held_for ss p.wide u v
        go true z = let w : ◌≡◌ {A = ℕ} 0 1 = cc in absurd (omega arith)
        go false z = refl

    here : (u v : ℕ) → u / 16 ≡ x / 16 → v / 16 ≡ y / 16 → (leb (place x y) (place u v) && ltb (place u v) (place x y + n)) ≡ run u v
    here u v c d = in_row x y n u v c d fits

    away : (u v : ℕ) → (tile_of p.wide x y ≡ tile_of p.wide u v → ⊥) → run u v ≡ false
    away u v h = ⊎_elim
        (λ q. let w = run_on x y n u v q in
        let b : u / 16 ≡ x / 16 = omega (arith, w.from, w.to) in
        absurd (h (sym (ap₂ (λ c d. d / 16 * ((p.wide + 15) / 16) + c) b w.row))))
        (λ q. q)
        (cases_Bool (run u v))

    now_held : (u v : ℕ) → u < p.wide → held_for (set ss i r) p.wide u v ≡ cond (run u v) (Some ink) (held_for ss p.wide u v)
    now_held u v hu =
        let t = tile_of p.wide u v in
        let at = tile_read ss i s l e in
        ⊎_elim
        (λ h. let only = apart_only ss i t a (ap (λ o. is_tile o t) at ∙ h) in
        let same = is_same s.tile (tile_of p.wide x y) t m h in
        let c = one_tile p.wide x y u v inside hu same in
        held_only ss i r t (place u v) l only ∙ cond-true _ _ _ (ap (λ o. is_tile o t) kept ∙ h) ∙ inks (place u v)
        ∙ ap₂ (λ b o. cond b (Some ink) o) (here u v c.0 c.1) (sym (held_read ss i s t (place u v) l e only h)))
        (λ h. held_beside ss i r t (place u v) (ap (λ o. is_tile o t) at ∙ h) (ap (λ o. is_tile o t) kept ∙ h)
        ∙ sym (cond-false _ _ _ (away u v (λ q. both_ways _ h (ap (is_tile s.tile) (sym q) ∙ m)))))
        (cases_Bool (is_tile s.tile t))

-- a tile that no slot held is held by none after slot i was emptied
pub still_free : (ss rr : List Slot) (i tile : ℕ) → tile_at rr i ≡ None → ((j : ℕ) → (i ≡ j → ⊥) → tile_at rr j ≡ tile_at ss j) → ((j : ℕ) → is_tile (tile_at ss j) tile ≡ false) → (j : ℕ) → is_tile (tile_at rr j) tile ≡ false
still_free ss rr i tile empty others free j = ⊎_elim
    (λ e. ap (λ o. is_tile o tile) (ap (tile_at rr) (sym e) ∙ empty))
    (λ e. ap (λ o. is_tile o tile) (others j e) ∙ free j)
    (cases_eq i j)
