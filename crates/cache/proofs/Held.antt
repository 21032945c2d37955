-- What the slots hold, when one of them is written. Assumes nothing.
use Rattle.std.proofs.Common.{◌≡◌, ℕ, zero, suc, ◌<◌, ◌≤◌, true, false, cond, List, [], ◌∷◌, length, get_or, set, Some, None, Option, sym, refl, ap, ◌∙◌, ap₂, ⊎_elim, arith}
use Rattle.std.specs.List.{AllWithin, HoldsAt}
use Rattle.std.specs.Option.{MatchOption}
use Rattle.std.proofs.lemmas.Bool.{cases_eq, cases_lt, cond-true, cond-false, both_ways, eqb-true}
use Rattle.std.proofs.lemmas.Bool.Decides.{nat_tests}
use Rattle.cache.specs.declared.slot.Slot.{Slot}
use Rattle.cache.specs.Slots.{ink_at_lem, is_tile, tile_at, same_tile, Apart, held}

-- no slot but i holds the tile
abbrev pub Only : List Slot → ℕ → ℕ → Type 0
Only ss i t = (j : ℕ) → (i ≡ j → ⊥) → is_tile (tile_at ss j) t ≡ false

-- no slot holds the tile
pub held_none : (ss : List Slot) (t k : ℕ) → ((j : ℕ) → is_tile (tile_at ss j) t ≡ false) → held ss t k ≡ None
held_none [] t k h = refl
held_none (s ∷ ss) t k h = cond-false (is_tile s.tile t) _ _ (h 0) ∙ held_none ss t k (λ j. h (suc j))

-- only slot i may hold it, and s stands there
pub held_only : (ss : List Slot) (i : ℕ) (s : Slot) (t k : ℕ) → i < length ss → Only ss i t → held (set ss i s) t k ≡ cond (is_tile s.tile t) (ink_at_lem s k) None
held_only [] i s t k l h = absurd (omega arith)
held_only (r ∷ ss) zero s t k l h = ap (cond (is_tile s.tile t) (ink_at_lem s k)) (held_none ss t k (λ j. h (suc j) (λ e. omega (arith, e))))
held_only (r ∷ ss) (suc i) s t k l h = cond-false (is_tile r.tile t) _ _ (h 0 (λ e. omega (arith, e))) ∙ held_only ss i s t k (omega arith) (λ j n. h (suc j) (λ e. n (omega (arith, e))))

-- slot i holds another tile, before and after
pub held_beside : (ss : List Slot) (i : ℕ) (s : Slot) (t k : ℕ) → is_tile (tile_at ss i) t ≡ false → is_tile s.tile t ≡ false → held (set ss i s) t k ≡ held ss t k
held_beside [] i s t k a b = refl
held_beside (r ∷ ss) zero s t k a b = cond-false (is_tile s.tile t) _ _ b ∙ sym (cond-false (is_tile r.tile t) _ _ a)
held_beside (r ∷ ss) (suc i) s t k a b = ap (cond (is_tile r.tile t) (ink_at_lem r k)) (held_beside ss i s t k a b)

pub tile_set : (ss : List Slot) (i : ℕ) (s : Slot) → i < length ss → tile_at (set ss i s) i ≡ s.tile
tile_set [] i s l = absurd (omega arith)
tile_set (r ∷ ss) zero s l = refl
tile_set (r ∷ ss) (suc i) s l = tile_set ss i s (omega arith)

pub tile_kept : (ss : List Slot) (i j : ℕ) (s : Slot) → (i ≡ j → ⊥) → tile_at (set ss i s) j ≡ tile_at ss j
tile_kept [] i j s n = refl
tile_kept (r ∷ ss) zero zero s n = absurd (n refl)
tile_kept (r ∷ ss) zero (suc j) s n = refl
tile_kept (r ∷ ss) (suc i) zero s n = refl
tile_kept (r ∷ ss) (suc i) (suc j) s n = tile_kept ss i j s (λ e. n (omega (arith, e)))

-- a slot that was read
pub tile_read : (ss : List Slot) (i : ℕ) (s : Slot) → i < length ss → s ≡ get_or ss i s → tile_at ss i ≡ s.tile
tile_read [] i s l e = absurd (omega arith)
tile_read (r ∷ ss) zero s l e = ap (λ v. v.tile) (sym e)
tile_read (r ∷ ss) (suc i) s l e = tile_read ss i s (omega arith) e

pub held_read : (ss : List Slot) (i : ℕ) (s : Slot) (t k : ℕ) → i < length ss → s ≡ get_or ss i s → Only ss i t → is_tile s.tile t ≡ true → held ss t k ≡ ink_at_lem s k
held_read [] i s t k l e h m = absurd (omega arith)
held_read (r ∷ ss) zero s t k l e h m = ap (λ v. cond (is_tile v.tile t) (ink_at_lem v k) (held ss t k)) (sym e) ∙ cond-true (is_tile s.tile t) _ _ m
held_read (r ∷ ss) (suc i) s t k l e h m = cond-false (is_tile r.tile t) _ _ (h 0 (λ q. omega (arith, q))) ∙ held_read ss i s t k (omega arith) e (λ j n. h (suc j) (λ q. n (omega (arith, q)))) m

-- slots that are apart
pub same_is : (o p : Option ℕ) (t : ℕ) → is_tile o t ≡ true → same_tile o p ≡ false → is_tile p t ≡ false
same_is None p t m h = absurd (both_ways _ refl m)
same_is (Some u) p t m h = ap (is_tile p) (sym (eqb-true u t m)) ∙ h

pub same_turned : (o p : Option ℕ) → same_tile o p ≡ same_tile p o
same_turned None None = refl
same_turned None (Some t) = refl
same_turned (Some t) None = refl
same_turned (Some t) (Some u) = grind (arith, nat_tests)

pub apart_only : (ss : List Slot) (i t : ℕ) → Apart ss → is_tile (tile_at ss i) t ≡ true → Only ss i t
apart_only ss i t a m j n = same_is (tile_at ss i) (tile_at ss j) t m (a i j n)

pub apart_set : (ss : List Slot) (i : ℕ) (s : Slot) → i < length ss → Apart ss → ((j : ℕ) → (i ≡ j → ⊥) → same_tile s.tile (tile_at ss j) ≡ false) → Apart (set ss i s)
apart_set ss i s l a h j k n = ⊎_elim
    (λ e. ap₂ same_tile (ap (tile_at (set ss i s)) (sym e) ∙ tile_set ss i s l) (tile_kept ss i k s (λ q. n (sym e ∙ q))) ∙ h k (λ q. n (sym e ∙ q)))
    (λ e. ⊎_elim
    (λ f. ap₂ same_tile (tile_kept ss i j s e) (ap (tile_at (set ss i s)) (sym f) ∙ tile_set ss i s l) ∙ same_turned (tile_at ss j) s.tile ∙ h j e)
    (λ f. ap₂ same_tile (tile_kept ss i j s e) (tile_kept ss i k s f) ∙ a j k n)
    (cases_eq i k))
    (cases_eq i j)

pub tile_past : (ss : List Slot) (j : ℕ) → length ss ≤ j → tile_at ss j ≡ None
tile_past [] j l = refl
tile_past (s ∷ ss) zero l = absurd (omega arith)
tile_past (s ∷ ss) (suc j) l = tile_past ss j (omega arith)

-- a slot of which something is known
slot_at : (ss : List Slot) (Known : Slot → Type 0) (i : ℕ) → i < length ss → HoldsAt Known ss i → (s : Slot) × Known s × (tile_at ss i ≡ s.tile)
slot_at [] Known i l h = absurd (omega arith)
slot_at (s ∷ ss) Known zero l h = (s, h s, refl)
slot_at (s ∷ ss) Known (suc i) l h = slot_at ss Known i (omega arith) h

-- the first slot that holds a tile, or none
pub first_holds : (ss : List Slot) (t : ℕ) (first : Option ℕ)
    → MatchOption first (AllWithin (λ s. is_tile s.tile t ≡ false) ss 0 (length ss)) (λ i. (i < length ss) × HoldsAt (λ s. is_tile s.tile t ≡ true) ss i × AllWithin (λ s. is_tile s.tile t ≡ false) ss 0 i)
    → MatchOption first ((j : ℕ) → is_tile (tile_at ss j) t ≡ false) (λ i. (i < length ss) × (is_tile (tile_at ss i) t ≡ true))
first_holds ss t None none = λ j. ⊎_elim
    (λ l. let s = slot_at ss (λ s. is_tile s.tile t ≡ false) j l (λ d. none j d (omega arith) l) in ap (λ o. is_tile o t) s.2 ∙ s.1)
    (λ l. ap (λ o. is_tile o t) (tile_past ss j l))
    (cases_lt j (length ss))
first_holds ss t (Some i) h = let s = slot_at ss (λ s. is_tile s.tile t ≡ true) i h.0 h.1 in (h.0, ap (λ o. is_tile o t) s.2 ∙ s.1)
