-- Steps of the calls, from what their code finds and does. Assumes nothing.
use Rattle.std.proofs.Common.{◌≡◌, ℕ, false, List, [], length, take, Some, None, Ok, Err, Result, sym, refl, ap, ◌∙◌, subst}
use Rattle.std.proofs.lemmas.Bool.{false≢true}
use Rattle.raster.specs.declared.refusal.Refusal.{Refusal}
use Rattle.raster.specs.Refusals.{number}
use Rattle.surface.specs.Picture.{Picture}
use Rattle.book.specs.Tests.{left_by}
use Rattle.book.specs.Book.{Book, Rooms, Call, opening, adding, changing, removing, spanning, unspanning, turning, refreshing, blank, refusal, after, next}
use Rattle.book.specs.Past.{Cleared, Repainted, Effect, Sees, Step, Past, made, repaints}
use Rattle.book.specs.Contracts.{Opens, Edits, RestRemains, Refreshes, ShowsNoStaleInk}
use Rattle.book.proofs.History.{each_refresh_keeps_the_rules}

-- two books with the same parts
pub same_book : (b c : Book) → b.opened ≡ c.opened → b.wide ≡ c.wide → b.high ≡ c.high → b.drawing.font ≡ c.drawing.font
    → ((n : ℕ) → b.drawing.shapes n ≡ c.drawing.shapes n) → ((s : ℕ) → b.drawing.spans s ≡ c.drawing.spans s) → b.drawing.frame ≡ c.drawing.frame
    → ((t : ℕ) → b.marks t ≡ c.marks t) → b ≡ c
same_book b c o w h f shapes spans frame marks =
    λ i. record { opened = o i; wide = w i; high = h i; drawing = record { font = f i; shapes = λ n. shapes n i; spans = λ s. spans s i; frame = frame i }; marks = λ t. marks t i }

next_refused : (b : Book) (c : Call) (n : ℕ) → refusal b c ≡ Some n → b ≡ next b c
next_refused b c n e = sym (ap (λ v. left_by v b (after b c)) e)

next_accepted : (b : Book) (c : Call) (b' : Book) → refusal b c ≡ None → b' ≡ after b c → b' ≡ next b c
next_accepted b c b' e to = to ∙ sym (ap (λ v. left_by v b (after b c)) e)

-- a call that is refused leaves all as it was
pub step_refused : (b : Book) (p : Picture) (c : Call) (n : ℕ) → Sees p c → refusal b c ≡ Some n → Step b p c (Some n) b p []
step_refused b p c n sees e = record { sees = sees; answers = sym e; leaves = next_refused b c n e; paints = record { picture = refl; report = refl } }

-- a call without a surface
sees_none : (p : Picture) (c : Call) → repaints c None ≡ false → Sees p c
sees_none p (opening width height rooms wide high) e = absurd (false≢true (sym e))
sees_none p (adding n s ink) e = tt
sees_none p (changing n s ink) e = tt
sees_none p (removing n) e = tt
sees_none p (spanning s n from to ink) e = tt
sees_none p (unspanning s) e = tt
sees_none p (turning frame) e = tt
sees_none p (refreshing wide high room) e = absurd (false≢true (sym e))

untouched_by : (b : Book) (p : Picture) (c : Call) → repaints c None ≡ false → Effect b p c None [] p
untouched_by b p (opening width height rooms wide high) e = absurd (false≢true (sym e))
untouched_by b p (adding n s ink) e = record { picture = refl; report = refl }
untouched_by b p (changing n s ink) e = record { picture = refl; report = refl }
untouched_by b p (removing n) e = record { picture = refl; report = refl }
untouched_by b p (spanning s n from to ink) e = record { picture = refl; report = refl }
untouched_by b p (unspanning s) e = record { picture = refl; report = refl }
untouched_by b p (turning frame) e = record { picture = refl; report = refl }
untouched_by b p (refreshing wide high room) e = absurd (false≢true (sym e))

pub edits_refused : (b b' : Book) (c : Call) (e : Refusal) → repaints c None ≡ false → refusal b c ≡ Some (number e) → b' ≡ b → Edits b c (Err e) b'
edits_refused b b' c e idle h to p = subst (λ v. Step b p c (Some (number e)) v p []) (sym to) (step_refused b p c (number e) (sees_none p c idle) h)

pub edits_accepted : (b b' : Book) (c : Call) (u : Unit) → repaints c None ≡ false → refusal b c ≡ None → b' ≡ after b c → Edits b c (Ok u) b'
edits_accepted b b' c u idle h to p = record { sees = sees_none p c idle; answers = sym h; leaves = next_accepted b c b' h to; paints = untouched_by b p c idle }

-- an open
pub opens_refused : (b b' : Book) (p q : Picture) (width height : ℕ) (rooms : Rooms) (e : Refusal) → refusal b (opening width height rooms p.wide p.high) ≡ Some (number e) → b' ≡ b → q ≡ p
    → Opens b p width height rooms (Err e) b' q
opens_refused b b' p q width height rooms e h to same = record { sees = (refl, refl); answers = sym h; leaves = to ∙ next_refused b (opening width height rooms p.wide p.high) (number e) h; paints = record { picture = same; report = refl } }

pub opens_accepted : (b b' : Book) (p q : Picture) (width height : ℕ) (rooms : Rooms) (u : Unit) → refusal b (opening width height rooms p.wide p.high) ≡ None
    → b' ≡ after b (opening width height rooms p.wide p.high) → Cleared p q → Opens b p width height rooms (Ok u) b' q
opens_accepted b b' p q width height rooms u h to done = record { sees = (refl, refl); answers = sym h; leaves = next_accepted b (opening width height rooms p.wide p.high) b' h to; paints = (done, refl) }

-- a refresh
pub refreshes_refused : (b b' : Book) (p q : Picture) (old new : List ℕ) (e : Refusal) → refusal b (refreshing p.wide p.high (length old)) ≡ Some (number e) → b' ≡ b → q ≡ p → new ≡ old
    → Refreshes b p old (Err e) b' q new
refreshes_refused b b' p q old new e h to same rest = record {
  step = record { sees = (refl, refl); answers = sym h; leaves = to ∙ next_refused b (refreshing p.wide p.high (length old)) (number e) h; paints = record { picture = same; report = refl } };
  rest = rest;
}

pub refreshes_accepted : (b b' : Book) (p q : Picture) (old new : List ℕ) (n : ℕ) → refusal b (refreshing p.wide p.high (length old)) ≡ None
    → b' ≡ after b (refreshing p.wide p.high (length old)) → Repainted b p (take n new) q → RestRemains (Ok n) old new → Refreshes b p old (Ok n) b' q new
refreshes_accepted b b' p q old new n h to done rest = record { step = record { sees = (refl, refl); answers = sym h; leaves = next_accepted b (refreshing p.wide p.high (length old)) b' h to; paints = done }; rest = rest }

-- the rules follow from the step
pub no_stale_ink : (b b' : Book) (p q : Picture) (old new : List ℕ) (r : Result ℕ Refusal) → Refreshes b p old r b' q new → ShowsNoStaleInk b p r b' q new
no_stale_ink b b' p q old new (Ok n) s log past = each_refresh_keeps_the_rules log b b' p q p.wide p.high (length old) (take n new) past s.step
no_stale_ink b b' p q old new (Err e) s log past = tt

-- a new sheet's past
pub past_made : (b : Book) (p : Picture) → b ≡ blank → Past [] b p
past_made b p e = subst (λ v. Past [] v p) (sym e) made
