-- The entry that goes next when the entries are gone through in their order. Assumes nothing.
use Rattle.std.proofs.Common.{◌≡◌, ℕ, ◌+◌, ◌<◌, Bool, true, false, ltb, List, length, get_or, Some, None, Option, IsTrue, MatchOption, sym, refl, ap, ◌∙◌, add-one, arith}
use Rattle.std.specs.Option.{is_some}
use Rattle.std.proofs.lemmas.Bool.{false≢true, eq-eqb, ne_eqb}
use Rattle.std.proofs.lemmas.List.{get_or-map}
use Rattle.quadratic.specs.Choosing.{pull}
use Rattle.quadratic.specs.Split.{keep_pulled, next_before}
use Rattle.split.specs.Letters.{mark, marks}

mark_none : {L : Type 0} (l : Option L) → is_some l ≡ false → mark l ≡ 0
mark_none None e = refl
mark_none (Some x) e = cc

mark_some : {L : Type 0} (l : Option L) → is_some l ≡ true → mark l ≡ 0 → ⊥
mark_some None e z = cc
mark_some (Some x) e z = omega arith

-- what stands in the place of entry i
module _ {L : Type 0} (letters : List (Option L)) (i : ℕ) (l : Option L) (small : i < length letters) where
  mark_at : get_or (marks letters) i 0 ≡ mark (get_or letters i l)
  mark_at = get_or-map mark letters i l 0 small

  pub unmarked : is_some (get_or letters i l) ≡ false → get_or (marks letters) i 0 ≡ 0
  unmarked e = mark_at ∙ mark_none (get_or letters i l) e

  pub marked : is_some (get_or letters i l) ≡ true → get_or (marks letters) i 0 ≡ 0 → ⊥
  marked e z = mark_some (get_or letters i l) e (sym mark_at ∙ z)

module _ (ga gb ls : List ℕ) (i : ℕ) where
  -- how entry i compares with the best of those before it, if there is one
  abbrev Goes : Option ℕ → Bool → Type 0
  Goes best r = MatchOption best (IsTrue r) (λ k. r ≡ ltb (pull ga gb k) (pull ga gb i))

  keeps_new : (best : Option ℕ) (r : Bool) → Goes best r → get_or ls i 0 ≡ 0 → r ≡ true → Some i ≡ keep_pulled ga gb ls i best
  unfolding keep_pulled
  keeps_new None r goes free e = let t = eq-eqb (get_or ls i 0) 0 free in simp t
  keeps_new (Some k) r goes free e = let t = eq-eqb (get_or ls i 0) 0 free in let l = sym goes ∙ e in simp (t, l)

  keeps_old : (best : Option ℕ) (r : Bool) → Goes best r → get_or ls i 0 ≡ 0 → r ≡ false → best ≡ keep_pulled ga gb ls i best
  unfolding keep_pulled
  keeps_old None r goes free e = absurd (false≢true (sym e ∙ goes))
  keeps_old (Some k) r goes free e = let t = eq-eqb (get_or ls i 0) 0 free in let l = sym goes ∙ e in simp (t, l)

  keeps_lettered : (best : Option ℕ) → (get_or ls i 0 ≡ 0 → ⊥) → best ≡ keep_pulled ga gb ls i best
  unfolding keep_pulled
  keeps_lettered None lettered = let f = ne_eqb (get_or ls i 0) 0 lettered in simp f
  keeps_lettered (Some k) lettered = let f = ne_eqb (get_or ls i 0) 0 lettered in simp f

  module _ (best : Option ℕ) (is : best ≡ next_before ga gb ls i) where
    next_step : keep_pulled ga gb ls i best ≡ next_before ga gb ls (i + 1)
    unfolding next_before
    next_step = sym (ap (next_before ga gb ls) (add-one i) ∙ ap (keep_pulled ga gb ls i) (sym is))

    pub next_taken : (r : Bool) → Goes best r → get_or ls i 0 ≡ 0 → r ≡ true → Some i ≡ next_before ga gb ls (i + 1)
    next_taken r goes free e = keeps_new best r goes free e ∙ next_step

    pub next_passed : (r : Bool) → Goes best r → get_or ls i 0 ≡ 0 → r ≡ false → best ≡ next_before ga gb ls (i + 1)
    next_passed r goes free e = keeps_old best r goes free e ∙ next_step

    pub next_kept : (get_or ls i 0 ≡ 0 → ⊥) → best ≡ next_before ga gb ls (i + 1)
    next_kept lettered = keeps_lettered best lettered ∙ next_step
