-- A cache keeps the laws of a surface: the proof that its ghost member gives. Assumes nothing.
use Rattle.std.specs.Prelude.{◌≡◌, ℕ, false, List, is_some, Some, None, Option, refl}
use Rattle.std.proofs.Common.{sym, ap, ◌∙◌, arith}
use Rattle.std.proofs.lemmas.Bool.{or_parts}
use Rattle.std.specs.Option.{unwrap_or}
use Rattle.surface.specs.Picture.{Picture, Lawful}
use Rattle.cache.specs.declared.slot.Slot.{Slot}
use Rattle.cache.specs.Cached.{cached, held_for}

nothing : (o : Option ℕ) → is_some o ≡ false → o ≡ None
nothing None e = refl
nothing (Some i) e = let z : ◌≡◌ {A = ℕ} 0 1 = cc in absurd (omega arith)

pub cached_lawful : (ss : List Slot) (p : Picture) → Lawful p → Lawful (cached ss p)
cached_lawful ss p l = record {
  narrow = l.narrow;
  low = l.low;
  still = λ x y o w.
      let z = or_parts _ _ w in
      l.still x y (record { column = o.column; row = o.row }) z.1 ∙ sym (ap (λ h. unwrap_or h (p.taken x y)) (nothing (held_for ss p.wide x y) z.0));
}
