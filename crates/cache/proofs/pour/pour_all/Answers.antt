use Rattle.std.proofs.Common.{◌<◌, length, get_or, None, refl, sym, ap, ◌∙◌, ⊎_elim, arith, length-set}
use Rattle.std.proofs.lemmas.Bool.{cases_eq, cases_lt}
use Rattle.std.proofs.lemmas.List.{get_or_default}
use Rattle.cache.specs.Slots.{same_tile, tile_at}
use Rattle.cache.proofs.Giving.{given_then}
use Rattle.cache.proofs.Held.{apart_set, tile_set, tile_kept, tile_past}
use Rattle.cache.proofs.Moves.{emptied}
use Rattle.cache.proofs.pour.pour_all.Goals as goal

pub loop-slot-init : goal.loop-slot-init
loop-slot-init g c = record {
  quiet = record {
    sides = record { wide = refl; high = refl };
    taken = λ u v o. refl;
    calm = λ u v o e w. w;
  };
  free = λ i l. absurd (omega (arith, l));
  four = c.told-slots;
  apart = c.requires;
}

pub loop-slot-preserved : goal.loop-slot-preserved
loop-slot-preserved g c =
    let ss = c.loop-slot.slot-items in
    let i = c.loop-slot.slot-index in
    let four = c.loop-slot.invariant.four in
    let there : i < length ss = omega (arith, c.loop-slot-test.true, four) in
    let slot = get_or ss i c.slot-item.result in
    record {
      quiet = given_then (λ u v. None) (λ u v. None) (λ u v. None) _ _ _ (λ u v o. refl) c.loop-slot.invariant.quiet
          (emptied ss i slot _ _ _ there c.loop-slot.invariant.apart (get_or_default ss i c.slot-item.result slot there) c.blank.ensures.tile c.pour.ensures);
      free = λ j l. ⊎_elim
          (λ e. ap (tile_at _) e ∙ tile_set ss i c.blank.result there ∙ c.blank.ensures.tile)
          (λ e. tile_kept ss i j c.blank.result (λ f. e (sym f)) ∙ c.loop-slot.invariant.free j (omega (arith, l, e)))
          (cases_eq j i);
      four = simp length-set four;
      apart = apart_set ss i c.blank.result there c.loop-slot.invariant.apart (λ j n. ap (λ o. same_tile o (tile_at ss j)) c.blank.ensures.tile);
    }

pub returns : goal.returns
returns g c =
    let ss = c.loop-slot.slot-items in
    let four = c.loop-slot.invariant.four in
    record {
      quiet = c.loop-slot.invariant.quiet;
      free = λ i. ⊎_elim (λ l. c.loop-slot.invariant.free i (omega (arith, l, c.loop-slot-test.false))) (λ l. tile_past ss i (omega (arith, l, four))) (cases_lt i 4);
      four = four;
    }
