use Rattle.std.proofs.Common.{refl, ap}
use Rattle.std.specs.Option.{option_map}
use Rattle.raster.proofs.Tables.{nothing_read}
use Rattle.cache.proofs.slot.Slot.blank.Goals as goal

pub returns : goal.returns
returns c = record { tile = refl; inks = λ k. ap (option_map (λ i. i.value)) (nothing_read 256 k) }
