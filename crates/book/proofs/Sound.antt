-- The bookkeeping stays sound under every call. Assumes nothing.
use Rattle.std.proofs.Common.{◌≡◌, ℕ, ◌<◌, ◌≤◌, true, false, eqb, ◌⊎◌, List, is_some, Some, None, Option, sym, refl, ap, ◌∙◌, subst, inl, inr, ⊎_elim, arith}
use Rattle.std.proofs.lemmas.Bool.{cases_eq, cases_lt, cond-true, eq-eqb, eqb-false, or_cases, false≢true}
use Rattle.surface.specs.Picture.{Picture}
use Rattle.painting.specs.Drawing.{Drawing, Item, Turn}
use Rattle.book.specs.Tests.{left_by, put}
use Rattle.book.specs.Looks.{meets_item, touched}
use Rattle.book.specs.Book.{Book, Call, opening, adding, changing, removing, spanning, unspanning, turning, refreshing, blank, names, named, refusal, with_shape, redrawn, after, next}
use Rattle.book.specs.Sound.{Fits, RulesOne, Sound}
use Rattle.book.specs.Past.{Event, Past, made, meanwhile, called}
use Rattle.book.proofs.Accepted.{accepted_open, accepted_add, accepted_change, accepted_remove, accepted_span, accepted_unspan, accepted_turn}
use Rattle.book.proofs.Below.{some_below_never, put_there}
use Rattle.book.proofs.Tiles.{meets_small}
use Rattle.book.proofs.Marks.{touched_which}

meets_item_small : (width height t : ℕ) (o : Option Item) → width ≤ 256 → height ≤ 256 → meets_item width height t o ≡ true → t < 256
meets_item_small width height t None w h e = absurd (false≢true e)
meets_item_small width height t (Some item) w h e = meets_small width height t item.shape w h e

-- so does one that a change of a drawing touches
pub touched_small : (width height t : ℕ) (d e : Drawing) → width ≤ 256 → height ≤ 256 → touched width height d e t ≡ true → t < 256
touched_small width height t d e w h m =
    let r = touched_which d e width height t m in
    ⊎_elim (meets_item_small width height t (d.shapes r.0) w h) (meets_item_small width height t (e.shapes r.0) w h) r.3

none_some : {A : Type 0} (a : A) → ◌≡◌ {A = Option A} None (Some a) → ⊥
none_some a e = let z : ◌≡◌ {A = ℕ} 0 1 = cc in omega arith

some_same : {A : Type 0} (a b : A) → ◌≡◌ {A = Option A} (Some a) (Some b) → a ≡ b
some_same a b e = cc

-- what stands at a number of a function that was changed at n
put_cases : {A : Type 0} (f : ℕ → Option A) (n m : ℕ) (o : Option A) (a : A) → put f n o m ≡ Some a → ((m ≡ n) × (o ≡ Some a)) ⊎ ((m ≡ n → ⊥) × (f m ≡ Some a))
put_cases f n m o a e = ⊎_elim
    (λ h. inl (h, sym (cond-true (eqb m n) o (f m) (eq-eqb m n h)) ∙ e))
    (λ h. inr (h, sym (put_there f n o m h) ∙ e))
    (cases_eq m n)

put_above : {A : Type 0} (f : ℕ → Option A) (n m : ℕ) (o : Option A) → n < 256 → 256 ≤ m → f m ≡ None → put f n o m ≡ None
put_above f n m o l h e = put_there f n o m (λ q. omega (arith, q)) ∙ e

sound_redrawn : (b : Book) (d : Drawing) → Sound b → b.opened ≡ true
    → ((n : ℕ) → 256 ≤ n → (d.shapes n ≡ None) × (d.spans n ≡ None))
    → ((n : ℕ) (item : Item) → d.shapes n ≡ Some item → Fits b.wide b.high item)
    → ((s : ℕ) (turn : Turn) → d.spans s ≡ Some turn → RulesOne d turn)
    → Sound (redrawn b d)
sound_redrawn b d k o above shapes spans = record {
  wide = k.wide;
  high = k.high;
  above = above;
  shapes = shapes;
  spans = spans;
  marks = λ t m. ⊎_elim (k.marks t) (touched_small b.wide b.high t b.drawing d (k.wide o).limit (k.high o).limit) (or_cases (b.marks t) (touched b.wide b.high b.drawing d t) m);
}

some_put : (f : ℕ → Option Item) (n m : ℕ) (item : Item) → is_some (f m) ≡ true → is_some (put f n (Some item) m) ≡ true
some_put f n m item h = ⊎_elim (λ e. ap is_some (cond-true (eqb m n) (Some item) (f m) (eq-eqb m n e))) (λ e. ap is_some (put_there f n (Some item) m e) ∙ h) (cases_eq m n)

-- a shape comes to number n
sound_placed : (b : Book) (n : ℕ) (item : Item) → Sound b → b.opened ≡ true → n < 256 → Fits b.wide b.high item → Sound (redrawn b (with_shape b.drawing n (Some item)))
sound_placed b n item k o l f = sound_redrawn b _ k o
    (λ m h. (put_above b.drawing.shapes n m _ l h (k.above m h).0, (k.above m h).1))
    (λ m other q. ⊎_elim (λ c. subst (Fits b.wide b.high) (some_same _ _ c.1) f) (λ c. k.shapes m other c.1) (put_cases b.drawing.shapes n m _ other q))
    (λ m turn q. let r = k.spans m turn q in record { shape = some_put b.drawing.shapes n turn.shape _ r.shape; frames = r.frames; ink = r.ink })

-- no span names n, as it is removed
unnamed : (b : Book) (n s : ℕ) (turn : Turn) → Sound b → named b.drawing n ≡ false → b.drawing.spans s ≡ Some turn → turn.shape ≡ n → ⊥
unnamed b n s turn k e q h = ⊎_elim
    (λ l. eqb-false turn.shape n (sym (ap (λ v. names v n) q) ∙ some_below_never (λ m. names (b.drawing.spans m) n) 256 e s l) h)
    (λ l. none_some turn (sym (k.above s l).1 ∙ q))
    (cases_lt s 256)

sound_after : (b : Book) (c : Call) → Sound b → refusal b c ≡ None → Sound (after b c)
sound_after b (opening width height rooms wide high) k e =
    let a = accepted_open b width height rooms wide high e in
    record {
      wide = λ _. a.column;
      high = λ _. a.row;
      above = λ n _. (refl, refl);
      shapes = λ n item q. absurd (none_some item q);
      spans = λ s turn q. absurd (none_some turn q);
      marks = λ t m. absurd (false≢true m);
    }
sound_after b (adding n s ink) k e = let a = accepted_add b n s ink e in sound_placed b n _ k a.opened a.number a.fits
sound_after b (changing n s ink) k e = let a = accepted_change b n s ink e in sound_placed b n _ k a.opened a.number a.fits
sound_after b (removing n) k e =
    let a = accepted_remove b n e in
    sound_redrawn b _ k a.opened
    (λ m h. (put_above b.drawing.shapes n m None a.number h (k.above m h).0, (k.above m h).1))
    (λ m item q. ⊎_elim (λ z. absurd (none_some item z.1)) (λ z. k.shapes m item z.1) (put_cases b.drawing.shapes n m None item q))
    (λ m turn q. let r = k.spans m turn q in record { shape = ap is_some (put_there b.drawing.shapes n None turn.shape (unnamed b n m turn k a.unnamed q)) ∙ r.shape; frames = r.frames; ink = r.ink })
sound_after b (spanning s n from to ink) k e =
    let a = accepted_span b s n from to ink e in
    sound_redrawn b _ k a.opened
    (λ m i. ((k.above m i).0, put_above b.drawing.spans s m _ a.number i (k.above m i).1))
    (λ m item q. k.shapes m item q)
    (λ m turn q. ⊎_elim
    (λ z. subst (RulesOne _) (some_same _ _ z.1) (record { shape = ap is_some a.given; frames = a.frames; ink = a.limit }))
    (λ z. let r = k.spans m turn z.1 in record { shape = r.shape; frames = r.frames; ink = r.ink })
    (put_cases b.drawing.spans s m _ turn q))
sound_after b (unspanning s) k e =
    let a = accepted_unspan b s e in
    sound_redrawn b _ k a.opened
    (λ m i. ((k.above m i).0, put_above b.drawing.spans s m None a.number i (k.above m i).1))
    (λ m item q. k.shapes m item q)
    (λ m turn q. ⊎_elim (λ z. absurd (none_some turn z.1)) (λ z. let r = k.spans m turn z.1 in record { shape = r.shape; frames = r.frames; ink = r.ink }) (put_cases b.drawing.spans s m None turn q))
sound_after b (turning frame) k e =
    sound_redrawn b _ k (accepted_turn b frame e) k.above (λ m item q. k.shapes m item q) (λ m turn q. let r = k.spans m turn q in record { shape = r.shape; frames = r.frames; ink = r.ink })
sound_after b (refreshing wide high room) k e = record { wide = k.wide; high = k.high; above = k.above; shapes = k.shapes; spans = k.spans; marks = λ t m. absurd (false≢true m) }

pub sound_blank : Sound blank
sound_blank = record {
  wide = λ o. absurd (false≢true o);
  high = λ o. absurd (false≢true o);
  above = λ n _. (refl, refl);
  shapes = λ n item q. absurd (none_some item q);
  spans = λ s turn q. absurd (none_some turn q);
  marks = λ t m. absurd (false≢true m);
}

-- every call
pub sound_next : (b : Book) (c : Call) → Sound b → Sound (next b c)
sound_next b c k = go (refusal b c) refl
  where
    go : (r : Option ℕ) → refusal b c ≡ r → Sound (next b c)
    go None e = subst Sound (sym (ap (λ v. left_by v b (after b c)) e)) (sound_after b c k e)
    go (Some n) e = subst Sound (sym (ap (λ v. left_by v b (after b c)) e)) k

-- and every past
pub sound_past : {log : List Event} {b : Book} {p : Picture} → Past log b p → Sound b
sound_past made = sound_blank
sound_past (meanwhile h q) = sound_past h
sound_past (called {b = b} {c = c} h s) = subst Sound (sym s.leaves) (sound_next b c (sound_past h))
