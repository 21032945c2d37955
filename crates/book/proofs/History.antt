-- What holds after every past, and the rules of a refresh from it. Assumes nothing.
use Rattle.std.proofs.Common.{◌≡◌, ℕ, ◌<◌, true, false, List, [], ◌∷◌, Some, None, Option, sym, refl, ap, ◌∙◌, subst, inl, inr, ⊎_elim, arith}
use Rattle.std.proofs.lemmas.Bool.{cases_Bool, or_parts, or_cases, false≢true}
use Rattle.raster.specs.Sizes.{tile_of}
use Rattle.surface.specs.Picture.{Picture, On}
use Rattle.painting.specs.Drawing.{Drawing, painting, Fresh}
use Rattle.painting.proofs.Topmost.{topmost_bare, painting_in_words}
use Rattle.book.specs.Tests.{left_by}
use Rattle.book.specs.Looks.{touched}
use Rattle.book.specs.Book.{Book, Rooms, Call, opening, adding, changing, removing, spanning, unspanning, turning, refreshing, blank, refusal, redrawn, after}
use Rattle.book.specs.Past.{listed, Cleared, Repainted, Untouched, Effect, Sees, Step, Quiet, Event, Past, made, meanwhile, called, repaints, Latest, here, later}
use Rattle.book.specs.Rules.{Cause, Disturbed, by, earlier, KeepsTheRules, EachRefreshKeepsTheRules}
use Rattle.book.proofs.Accepted.{Opened, accepted_open, accepted_refresh}
use Rattle.book.proofs.Marks.{untouched_painting, touched_which, meets_reaches}

-- the event of a call
abbrev event : Book → Call → Option ℕ → Book → List ℕ → Picture → Event
event b c said b' ts q = record { before = b; call = c; said = said; left = b'; report = ts; seen = q }

-- where the last accepted open or refresh stands; no ink was taken since, and each mark has a cause since
record Standing (log : List Event) (b : Book) (p : Picture) : Type 0 where
  last : Event
  since : List Event
  latest : Latest log last since
  taken : (x y : ℕ) → x < b.wide → y < b.high → p.taken x y ≡ last.seen.shown x y
  causes : (t : ℕ) → b.marks t ≡ true → Disturbed t since

-- an open sheet's surface has its size, and a tile that is not marked has taken the fresh painting
record Kept (log : List Event) (b : Book) (p : Picture) : Type 0 where
  wide : b.opened ≡ true → p.wide ≡ b.wide
  high : b.opened ≡ true → p.high ≡ b.high
  inks : b.opened ≡ true → (x y : ℕ) → x < b.wide → y < b.high → b.marks (tile_of b.wide x y) ≡ false → p.taken x y ≡ painting b.drawing x y
  standing : b.opened ≡ true → Standing log b p

on : (b : Book) {p : Picture} (x y : ℕ) → p.wide ≡ b.wide → p.high ≡ b.high → x < b.wide → y < b.high → On p x y
on b x y w h hx hy = record { column = omega (arith, w, hx); row = omega (arith, h, hy) }

kept_made : (p : Picture) → Kept [] blank p
kept_made p = record { wide = λ o. absurd (false≢true o); high = λ o. absurd (false≢true o); inks = λ o. absurd (false≢true o); standing = λ o. absurd (false≢true o) }

-- a quiet while
kept_quiet : {log : List Event} {b : Book} {p q : Picture} → Kept log b p → Quiet b p q → Kept log b q
kept_quiet {log} {b} {p} {q} k s = record {
  wide = λ o. (s.sides o).wide ∙ k.wide o;
  high = λ o. (s.sides o).high ∙ k.high o;
  inks = λ o x y hx hy m. same o x y hx hy ∙ k.inks o x y hx hy m;
  standing = λ o. let old = k.standing o in record { last = old.last; since = old.since; latest = old.latest; taken = λ x y hx hy. same o x y hx hy ∙ old.taken x y hx hy; causes = old.causes };
}
  where
    same : b.opened ≡ true → (x y : ℕ) → x < b.wide → y < b.high → q.taken x y ≡ p.taken x y
    same o x y hx hy = s.taken o x y (on b x y (k.wide o) (k.high o) hx hy)

-- a refused call
kept_refused : {log : List Event} {b : Book} {p q : Picture} {ts : List ℕ} (c : Call) (n : ℕ) → Untouched p ts q → Kept log b p → Kept (event b c (Some n) b ts q ∷ log) b q
kept_refused {log} {b} {p} {q} {ts} c n u old =
    let k : Kept log b q = subst (Kept log b) (sym u.picture) old in
    record {
      wide = k.wide;
      high = k.high;
      inks = k.inks;
      standing = λ o. let was = k.standing o in record {
        last = was.last;
        since = event b c (Some n) b ts q ∷ was.since;
        latest = later refl was.latest;
        taken = was.taken;
        causes = λ t m. earlier (was.causes t m);
      };
    }

-- a tile that a change of the drawing touches has its cause
cause_touched : (b : Book) (c : Call) (d : Drawing) (ts : List ℕ) (q : Picture) (t : ℕ) → touched b.wide b.high b.drawing d t ≡ true → Cause t (event b c None (redrawn b d) ts q)
cause_touched b c d ts q t i =
    let r = touched_which b.drawing d b.wide b.high t i in
    record {
      number = r.0;
      limit = r.1;
      changed = r.2;
      reached = ⊎_elim (λ m. inl (meets_reaches b r.0 t m)) (λ m. inr (meets_reaches (redrawn b d) r.0 t m)) r.3;
    }

-- a call that changes the drawing: every tile that it touches is marked, and the others keep their painting
kept_redrawn : {log : List Event} {b : Book} {p q : Picture} {ts : List ℕ} (c : Call) (d : Drawing) → repaints c None ≡ false → d.font ≡ b.drawing.font → Untouched p ts q
    → Kept log b p → Kept (event b c None (redrawn b d) ts q ∷ log) (redrawn b d) q
kept_redrawn {log} {b} {p} {q} {ts} c d idle font u old =
    let k : Kept log b q = subst (Kept log b) (sym u.picture) old in
    record {
      wide = k.wide;
      high = k.high;
      inks = λ o x y hx hy m.
          let z = or_parts (b.marks (tile_of b.wide x y)) (touched b.wide b.high b.drawing d (tile_of b.wide x y)) m in
          k.inks o x y hx hy z.0 ∙ sym (untouched_painting b.drawing d b.wide b.high x y hx hy font z.1);
      standing = λ o. let was = k.standing o in record {
        last = was.last;
        since = event b c None (redrawn b d) ts q ∷ was.since;
        latest = later idle was.latest;
        taken = was.taken;
        causes = λ t m. ⊎_elim (λ i. earlier (was.causes t i)) (λ i. by (cause_touched b c d ts q t i)) (or_cases (b.marks t) (touched b.wide b.high b.drawing d t) m);
      };
    }

-- an accepted open
kept_open : {log : List Event} (b : Book) {p q : Picture} (e : Event) (width height wide high : ℕ) (rooms : Rooms) → repaints e.call e.said ≡ true → e.seen ≡ q
    → refusal b (opening width height rooms wide high) ≡ None → wide ≡ p.wide → high ≡ p.high → Cleared p q → Kept (e ∷ log) (after b (opening width height rooms wide high)) q
kept_open {log} b {p} {q} e width height wide high rooms fresh seen none w h s = record {
  wide = λ _. s.sides.wide ∙ sym w ∙ sym fit.same_width;
  high = λ _. s.sides.high ∙ sym h ∙ sym fit.same_height;
  inks = λ _ x y hx hy _. s.taken x y (place x y hx hy) ∙ sym (topmost_bare (λ n. None) 0 256 (λ n _. refl));
  standing = λ _. record {
    last = e;
    since = [];
    latest = here fresh;
    taken = λ x y hx hy. s.taken x y (place x y hx hy) ∙ sym (s.shown x y (place x y hx hy)) ∙ sym (ap (λ v. v.shown x y) seen);
    causes = λ t m. absurd (false≢true m);
  };
}
  where
    fit : Opened b width height rooms wide high
    fit = accepted_open b width height rooms wide high none

    place : (x y : ℕ) → x < width → y < height → On p x y
    place x y hx hy = record { column = omega (arith, fit.same_width, w, hx); row = omega (arith, fit.same_height, h, hy) }

-- an accepted refresh: every pixel takes the fresh painting
module _ {log : List Event} {b : Book} {p q : Picture} {ts : List ℕ} (k : Kept log b p) (opened : b.opened ≡ true) (s : Repainted b p ts q) where
  place : (x y : ℕ) → x < b.wide → y < b.high → On p x y
  place x y hx hy = on b x y (k.wide opened) (k.high opened) hx hy

  repainted_taken : (x y : ℕ) → x < b.wide → y < b.high → q.taken x y ≡ painting b.drawing x y
  repainted_taken x y hx hy =
      let o = place x y hx hy in
      ⊎_elim
      (λ r. s.given x y o r)
      (λ r. s.kept x y o r ∙ ⊎_elim (λ m. sym (s.complete x y o m r)) (λ m. k.inks opened x y hx hy m) (cases_Bool (b.marks (tile_of b.wide x y))))
      (cases_Bool (listed ts (tile_of b.wide x y)))

  repainted_shown : (x y : ℕ) → x < b.wide → y < b.high → q.shown x y ≡ painting b.drawing x y
  repainted_shown x y hx hy = s.shown x y (place x y hx hy) ∙ repainted_taken x y hx hy

  kept_refresh : (e : Event) (wide high room : ℕ) → repaints e.call e.said ≡ true → e.seen ≡ q → Kept (e ∷ log) (after b (refreshing wide high room)) q
  kept_refresh e wide high room fresh seen = record {
    wide = λ o. s.sides.wide ∙ k.wide o;
    high = λ o. s.sides.high ∙ k.high o;
    inks = λ o x y hx hy m. repainted_taken x y hx hy;
    standing = λ o. record {
      last = e;
      since = [];
      latest = here fresh;
      taken = λ x y hx hy. sym (s.shown x y (place x y hx hy)) ∙ sym (ap (λ v. v.shown x y) seen);
      causes = λ t m. absurd (false≢true m);
    };
  }

-- every call
kept_call : {log : List Event} {b : Book} {p q : Picture} {ts : List ℕ} (c : Call) (said : Option ℕ) → refusal b c ≡ said → Sees p c → Kept log b p → Effect b p c said ts q
    → Kept (event b c said (left_by said b (after b c)) ts q ∷ log) (left_by said b (after b c)) q
kept_call c (Some n) none sees k f = kept_refused c n f k
kept_call {b = b} {q = q} (opening width height rooms wide high) None none sees k f =
    kept_open b (event b (opening width height rooms wide high) None (after b (opening width height rooms wide high)) _ q) width height wide high rooms refl refl none sees.0 sees.1 f.0
kept_call (adding n s ink) None none sees k f = kept_redrawn (adding n s ink) _ refl refl f k
kept_call (changing n s ink) None none sees k f = kept_redrawn (changing n s ink) _ refl refl f k
kept_call (removing n) None none sees k f = kept_redrawn (removing n) _ refl refl f k
kept_call (spanning s n from to ink) None none sees k f = kept_redrawn (spanning s n from to ink) _ refl refl f k
kept_call (unspanning s) None none sees k f = kept_redrawn (unspanning s) _ refl refl f k
kept_call (turning frame) None none sees k f = kept_redrawn (turning frame) _ refl refl f k
kept_call {b = b} {q = q} (refreshing wide high room) None none sees k f =
    kept_refresh k (accepted_refresh b wide high room none).opened f (event b (refreshing wide high room) None (after b (refreshing wide high room)) _ q) wide high room refl refl

kept_step : {log : List Event} {b b' : Book} {p q : Picture} {c : Call} {said : Option ℕ} {ts : List ℕ} → Kept log b p → Step b p c said b' q ts → Kept (event b c said b' ts q ∷ log) b' q
kept_step {log} {b} {b'} {p} {q} {c} {said} {ts} k s =
    let to : b' ≡ left_by said b (after b c) = s.leaves ∙ ap (λ v. left_by v b (after b c)) (sym s.answers) in
    subst (λ v. Kept (event b c said v ts q ∷ log) v q) (sym to) (kept_call c said (sym s.answers) s.sees k s.paints)

-- what holds after every past
kept : {log : List Event} {b : Book} {p : Picture} → Past log b p → Kept log b p
kept (made {p}) = kept_made p
kept (meanwhile h s) = kept_quiet (kept h) s
kept (called h s) = kept_step (kept h) s

-- once open, the surface has the sheet's size
pub size_after : {log : List Event} {b : Book} {p : Picture} → Past log b p → b.opened ≡ true → (p.wide ≡ b.wide) × (p.high ≡ b.high)
size_after h o = ((kept h).wide o, (kept h).high o)

-- the rules of a refresh
pub each_refresh_keeps_the_rules : EachRefreshKeepsTheRules
each_refresh_keeps_the_rules log b b' p q wide high room ts h s =
    let c : Call = refreshing wide high room in
    let to : b' ≡ after b c = s.leaves ∙ ap (λ v. left_by v b (after b c)) (sym s.answers) in
    let o : b.opened ≡ true = (accepted_refresh b wide high room (sym s.answers)).opened in
    let k = kept h in
    let old = k.standing o in
    let f : Repainted b p ts q = s.paints in
    subst (λ v. KeepsTheRules log v ts q) (sym to) (record {
      fresh = λ x y hx hy. subst (Fresh b.drawing x y) (sym (repainted_shown k o f x y hx hy)) (painting_in_words b.drawing x y);
      last = old.last;
      since = old.since;
      latest = old.latest;
      kept = λ x y hx hy r. let i = place k o f x y hx hy in f.shown x y i ∙ f.kept x y i r ∙ old.taken x y hx hy;
      caused = λ t r. old.causes t (f.marked t r);
    })
