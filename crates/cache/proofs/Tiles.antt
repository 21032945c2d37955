-- A slot whose inks were all handed down. Assumes nothing.
use Rattle.std.proofs.Common.{◌≡◌, ℕ, ◌/◌, ◌%◌, cond, eqb, Some, None, sym, ap, ◌∙◌, arith}
use Rattle.raster.specs.Sizes.{across, tile_of, place}
use Rattle.surface.specs.Picture.{Picture, On}
use Rattle.handing.specs.declared.spot.Spot.{Spot}
use Rattle.handing.specs.Given.{Given, spot_inks}
use Rattle.handing.proofs.Spots.{spot_tile}
use Rattle.cache.specs.declared.slot.Slot.{Slot}
use Rattle.cache.specs.Slots.{ink_at_lem, is_tile}
use Rattle.cache.specs.Cached.{slot_inks}
use Rattle.cache.proofs.Giving.{given_like}

-- what stands at the spot of a slot's tile goes to the pixels of the tile
pub slot_given : (s : Slot) (t width : ℕ) (spot : Spot) (p q : Picture) → s.tile ≡ Some t → width ≡ p.wide → spot.column ≡ t % across width → spot.row ≡ t / across width → Given (spot_inks (ink_at_lem s) spot) p q → Given (slot_inks s p.wide) p q
slot_given s t width spot p q e w c r g = given_like (spot_inks (ink_at_lem s) spot) (slot_inks s p.wide) p q same g
  where
    same : (u v : ℕ) → On p u v → spot_inks (ink_at_lem s) spot u v ≡ slot_inks s p.wide u v
    same u v o = ap (λ b. cond b (ink_at_lem s (place u v)) None)
        (spot_tile t width u v spot c r (omega (arith, o.column, w)) ∙ ap (λ m. eqb t (tile_of m u v)) w ∙ sym (ap (λ o. is_tile o (tile_of p.wide u v)) e))
