-- What is said of a line that was not taken in. Assumes nothing.
use Rattle.std.specs.Prelude.{ℕ, List, ◌++◌, codes, decimal}
use Rattle.raster.specs.Refusals.{number}
use Rattle.shape_list.specs.declared.fault.Fault.{Fault}
use Rattle.shape_list.specs.declared.fault.Fault.TheVariants.{Form, Refused}

abbrev pub said : Fault → List ℕ
said Form = codes "not a line of a sheet"
said (Refused e) = codes "refused " ++ decimal (number e)
