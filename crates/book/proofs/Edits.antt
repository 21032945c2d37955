-- Which tiles each change of a drawing touches. Assumes nothing.
use Rattle.std.proofs.Common.{◌≡◌, ℕ, ◌<◌, Bool, true, false, not, ◌&&◌, ◌||◌, eqb, ◌⊎◌, Some, None, Option, sym, refl, ap, ◌∙◌, ap₂, ⊎_elim}
use Rattle.std.proofs.lemmas.Bool.{cases_Bool, cases_eq, cond-true, cond-false, eqb-true, eq-eqb, ne_eqb, and_left}
use Rattle.std.specs.Option.{option_map}
use Rattle.painting.specs.Drawing.{Drawing, Item, Turn, holds, span_ink, ruling}
use Rattle.painting.proofs.Topmost.{topmost_same}
use Rattle.book.specs.Tests.{put, some_below}
use Rattle.book.specs.Tiles.{meets}
use Rattle.book.specs.Looks.{look, look_of, same_shape, same_look, meets_item, touched_by, touched, reinked, reinked_touches}
use Rattle.book.specs.Book.{names, with_shape, with_span, with_frame}
use Rattle.book.proofs.Below.{or_false, some_below_one, some_below_same, put_here, put_there}
use Rattle.book.proofs.Looks.{equal_same_look, equal_same_shape, itself}

-- a shape that looks the same touches no tile
same_untouched : (width height t n : ℕ) (d e : Drawing) → look d n ≡ look e n → touched_by width height d e t n ≡ false
same_untouched width height t n d e h =
    ap (λ v. not v && (meets_item width height t (d.shapes n) || meets_item width height t (e.shapes n))) (equal_same_look (look d n) (look e n) h)

-- where another shape, or none, comes to number n, that number alone can touch a tile
pub touched_shape : (width height t n : ℕ) (d : Drawing) (o : Option Item) → n < 256 → touched width height d (with_shape d n o) t ≡ touched_by width height d (with_shape d n o) t n
touched_shape width height t n d o l =
    some_below_one (touched_by width height d (with_shape d n o) t) 256 n l
    (λ m h. same_untouched width height t m d (with_shape d n o) (ap (option_map (look_of d m)) (sym (put_there d.shapes n o m h))))

-- what number n touches, by what was there and what is there
abbrev placed_touches : ℕ → ℕ → ℕ → Drawing → ℕ → Option Item → Option Item → Bool
placed_touches width height t d n o p = not (same_look (option_map (look_of d n) o) (option_map (look_of d n) p)) && (meets_item width height t o || meets_item width height t p)

placed_touched : (width height t n : ℕ) (d : Drawing) (o p : Option Item) → n < 256 → d.shapes n ≡ p → touched width height d (with_shape d n o) t ≡ placed_touches width height t d n p o
placed_touched width height t n d o p l e =
    touched_shape width height t n d o l ∙ ap₂ (placed_touches width height t d n) e (put_here d.shapes n o)

-- a shape that is added touches the tiles that it meets
pub touched_added : (width height t n : ℕ) (d : Drawing) (item : Item) → n < 256 → d.shapes n ≡ None → touched width height d (with_shape d n (Some item)) t ≡ meets width height t item.shape
touched_added width height t n d item l e = placed_touched width height t n d (Some item) None l e

-- so does one that is removed
pub touched_removed : (width height t n : ℕ) (d : Drawing) (item : Item) → n < 256 → d.shapes n ≡ Some item → touched width height d (with_shape d n None) t ≡ meets width height t item.shape
touched_removed width height t n d item l e = placed_touched width height t n d None (Some item) l e ∙ or_false (meets width height t item.shape)

-- and where one takes the place of another, both do, unless shape and ink are the same
pub touched_changed : (width height t n : ℕ) (d : Drawing) (old new : Item) → n < 256 → d.shapes n ≡ Some old
    → touched width height d (with_shape d n (Some new)) t ≡ (not (same_shape old.shape new.shape && eqb old.ink new.ink) && (meets width height t old.shape || meets width height t new.shape))
touched_changed width height t n d old new l e =
    placed_touched width height t n d (Some new) (Some old) l e
    ∙ ap (λ v. not (same_shape old.shape new.shape && v) && (meets width height t old.shape || meets width height t new.shape)) (own_decides (cases_Bool (eqb old.ink new.ink)))
  where
    and_true : (v : Bool) → (v && true) ≡ v
    and_true true = refl
    and_true false = refl

    own_decides : (eqb old.ink new.ink ≡ true) ⊎ (eqb old.ink new.ink ≡ false) → (eqb old.ink new.ink && eqb (ruling d n old.ink) (ruling d n new.ink)) ≡ eqb old.ink new.ink
    own_decides = λ c. ⊎_elim
        (λ h. ap (λ v. eqb old.ink new.ink && v) (eq-eqb (ruling d n old.ink) (ruling d n new.ink) (ap (ruling d n) (eqb-true old.ink new.ink h))) ∙ and_true (eqb old.ink new.ink))
        (λ h. ap (λ v. v && eqb (ruling d n old.ink) (ruling d n new.ink)) h ∙ sym h)
        c

staying_touched : (width height t n : ℕ) (d e : Drawing) (o : Option Item)
    → (not (same_look (option_map (look_of d n) o) (option_map (look_of e n) o)) && (meets_item width height t o || meets_item width height t o)) ≡ (reinked d e n o && meets_item width height t o)
staying_touched width height t n d e None = refl
staying_touched width height t n d e (Some item) =
    ap₂ (λ v w. not v && w) (ap₂ (λ v w. v && (w && eqb (ruling d n item.ink) (ruling e n item.ink))) (equal_same_shape item.shape item.shape refl) (itself item.ink)) (or_twice (meets width height t item.shape))
  where
    or_twice : (v : Bool) → (v || v) ≡ v
    or_twice true = refl
    or_twice false = refl

-- another frame touches the tiles that a shape meets whose ruling ink differs
pub touched_turned : (width height t frame : ℕ) (d : Drawing) → touched width height d (with_frame d frame) t ≡ some_below (reinked_touches width height t d (with_frame d frame)) 256
touched_turned width height t frame d =
    some_below_same (touched_by width height d (with_frame d frame) t) (reinked_touches width height t d (with_frame d frame)) 256 (λ n l. staying_touched width height t n d (with_frame d frame) (d.shapes n))

-- a span rules no shape that it does not name
unnamed_none : (o : Option Turn) (n frame : ℕ) → names o n ≡ false → span_ink o n frame ≡ None
unnamed_none None n frame h = refl
unnamed_none (Some s) n frame h = cond-false (holds s n frame) _ _ (and_left (eqb s.shape n) _ h)

-- so the ruling ink stays where neither the old nor the new span names the shape
pub ruling_stays : (d : Drawing) (s n own : ℕ) (o : Option Turn) → names (d.spans s) n ≡ false → names o n ≡ false → ruling (with_span d s o) n own ≡ ruling d n own
ruling_stays d s n own o was is = topmost_same (λ m. span_ink (put d.spans s o m) n d.frame) (λ m. span_ink (d.spans m) n d.frame) own 256 (λ m _. ⊎_elim
    (λ e. ap (λ v. span_ink v n d.frame) (cond-true (eqb m s) o (d.spans m) (eq-eqb m s e)) ∙ unnamed_none o n d.frame is ∙ sym (ap (λ v. span_ink (d.spans v) n d.frame) e ∙ unnamed_none (d.spans s) n d.frame was))
    (λ e. ap (λ v. span_ink v n d.frame) (cond-false (eqb m s) o (d.spans m) (ne_eqb m s e)))
    (cases_eq m s))

-- where a span that names n comes or goes, shape n alone can touch a tile, and does where its ruling ink differs
pub touched_span : (width height t s n : ℕ) (d : Drawing) (o : Option Turn) → n < 256 → ((m : ℕ) → (m ≡ n → ⊥) → names (d.spans s) m ≡ false) → ((m : ℕ) → (m ≡ n → ⊥) → names o m ≡ false)
    → touched width height d (with_span d s o) t ≡ reinked_touches width height t d (with_span d s o) n
touched_span width height t s n d o l was is =
    some_below_one (touched_by width height d (with_span d s o) t) 256 n l
    (λ m h. same_untouched width height t m d (with_span d s o) (same_looks m (d.shapes m) h))
    ∙ staying_touched width height t n d (with_span d s o) (d.shapes n)
  where
    same_looks : (m : ℕ) (p : Option Item) → (m ≡ n → ⊥) → option_map (look_of d m) p ≡ option_map (look_of (with_span d s o) m) p
    same_looks m None h = refl
    same_looks m (Some item) h = ap (λ v. Some (record { shape = item.shape; own = item.ink; ruled = v })) (sym (ruling_stays d s m item.ink o (was m h) (is m h)))

-- a span that comes to an unused number, and one that leaves its number
pub touched_spanned : (width height t s : ℕ) (d : Drawing) (turn : Turn) → turn.shape < 256 → d.spans s ≡ None
    → touched width height d (with_span d s (Some turn)) t ≡ reinked_touches width height t d (with_span d s (Some turn)) turn.shape
touched_spanned width height t s d turn l e =
    touched_span width height t s turn.shape d (Some turn) l (λ m h. ap (λ v. names v m) e) (λ m h. ne_eqb turn.shape m (λ q. h (sym q)))

pub touched_unspanned : (width height t s : ℕ) (d : Drawing) (turn : Turn) → turn.shape < 256 → d.spans s ≡ Some turn
    → touched width height d (with_span d s None) t ≡ reinked_touches width height t d (with_span d s None) turn.shape
touched_unspanned width height t s d turn l e =
    touched_span width height t s turn.shape d None l (λ m h. ap (λ v. names v m) e ∙ ne_eqb turn.shape m (λ q. h (sym q))) (λ m h. refl)
