use Rattle.std.proofs.Common.{◌≡◌, ℕ, eqb, length, get_or, Some, None, Option, sym, ap, ◌∙◌, ⊎_elim, arith}
use Rattle.std.proofs.lemmas.Bool.{cases_eq, cases_lt, cond-true, cond-false, eq-eqb, ne_eqb}
use Rattle.std.proofs.lemmas.List.{length_push}
use Rattle.std.specs.Option.{option_map}
use Rattle.painting.specs.declared.scene.Placed.{Placed}
use Rattle.painting.specs.Scenes.{item, at_number}
use Rattle.painting.proofs.Numbers.{at_entry, at_end, entry_there, past_entries}
use Rattle.tiling.specs.Found.{shape_or_none}
use Rattle.repaint.proofs.ruling.own_inks.Goals as goal

abbrev own_ink : Option Placed → ℕ
own_ink o = shape_or_none (option_map item o) (λ own. own)

pub loop-number-preserved : goal.loop-number-preserved
loop-number-preserved c =
    let table = c.args.shapes.now in
    let i = length c.loop-number.yielded in
    let long = length_push c.loop-number.yielded (c.in-Some.number, c.in-Some.placed) in
    let here = at_entry table c.into_iter-number-iterator.result (cc) (cc) c.loop-number.yielded _ c.loop-number.yielded_by _ c.next.new.self _ c.in-Some.is c.next.ensures.steps in
    let none : at_number table i ≡ None = entry_there table i _ here.small here.there here.read ∙ c.in_default.is in
    record {
      own = λ k l. ⊎_elim
          (λ e. c.loop-number.invariant.left k (omega (arith, e)) ∙ sym (ap (λ m. own_ink (at_number table m)) e ∙ ap own_ink none))
          (λ e. c.loop-number.invariant.own k (omega (arith, l, long, e)))
          (cases_eq k i);
      left = λ k l. c.loop-number.invariant.left k (omega (arith, l, long));
    }

pub loop-number-preserved-in-Some-placed : goal.loop-number-preserved-in-Some-placed
loop-number-preserved-in-Some-placed c =
    let table = c.args.shapes.now in
    let i = length c.loop-number.yielded in
    let n = c.in-Some.number in
    let placed = c.in-Some-placed.placed in
    let before : ℕ → ℕ = λ k. get_or c.loop-number.inks.values k 0 in
    let long = length_push c.loop-number.yielded (n, c.in-Some.placed) in
    let here = at_entry table c.into_iter-number-iterator.result (cc) (cc) c.loop-number.yielded _ c.loop-number.yielded_by _ c.next.new.self _ c.in-Some.is c.next.ensures.steps in
    let some : at_number table i ≡ Some placed = entry_there table i _ here.small here.there here.read ∙ c.in-Some-placed.is in
    record {
      own = λ k l. c.put.ensures k ∙ ⊎_elim
          (λ e. cond-true (eqb k n) placed.ink.value (before k) (eq-eqb k n (e ∙ sym here.number)) ∙ sym (ap (λ m. own_ink (at_number table m)) e ∙ ap own_ink some))
          (λ e. cond-false (eqb k n) placed.ink.value (before k) (ne_eqb k n (λ f. e (f ∙ here.number))) ∙ c.loop-number.invariant.own k (omega (arith, l, long, e)))
          (cases_eq k i);
      left = λ k l. c.put.ensures k
          ∙ cond-false (eqb k n) placed.ink.value (before k) (ne_eqb k n (omega (arith, l, long, here.number)))
          ∙ c.loop-number.invariant.left k (omega (arith, l, long));
    }

pub overflow_cast-number : goal.overflow_cast-number
overflow_cast-number c =
    let here = at_entry c.args.shapes.now c.into_iter-number-iterator.result (cc) (cc) c.loop-number.yielded _ c.loop-number.yielded_by _ c.next.new.self _ c.in-Some.is c.next.ensures.steps in
    omega (arith, here.number, here.small)

pub returns : goal.returns
returns c k h =
    let table = c.args.shapes.now in
    let read = at_end table c.into_iter-number-iterator.result (cc) (cc) c.loop-number.yielded _ c.loop-number.yielded_by _ c.next.new.self c.in-None.is c.next.ensures.steps in
    ⊎_elim
    (λ l. c.loop-number.invariant.own k l)
    (λ l. c.loop-number.invariant.left k l ∙ sym (ap own_ink (past_entries table k (omega (arith, read, l, h)))))
    (cases_lt k (length c.loop-number.yielded))
