-- The groups that the code has made so far, as the definition of the split has them. Assumes nothing.
use Rattle.quadratic.specs.Split.{Groups}
use Rattle.split.specs.declared.sharing.Sharing.{Sharing}
use Rattle.split.specs.Letters.{codes}

abbrev pub groups_of : {E : Type 0} → Sharing E → Groups E
groups_of s = record { letters = codes s.letters; a = s.a.extent; b = s.b.extent; na = s.a.count; nb = s.b.count }
