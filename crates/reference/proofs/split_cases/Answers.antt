use Rattle.std.proofs.Common.{refl}
use Rattle.reference.proofs.Computed.{split_cases_hold}
use Rattle.reference.proofs.split_cases.Goals as goal

pub returns : goal.returns
returns c = record { cases = split_cases_hold; count = refl }
