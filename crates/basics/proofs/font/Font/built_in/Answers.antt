use Rattle.std.proofs.Common.{refl}
use Rattle.basics.specs.Fonts.{rows_of}
use Rattle.basics.proofs.Table.{built_in_lights}
use Rattle.basics.proofs.font.Font.built_in.Goals as goal

pub returns : goal.returns
unfolding rows_of
returns c = record { rows = refl; segments = built_in_lights }
