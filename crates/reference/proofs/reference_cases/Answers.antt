use Rattle.std.proofs.Common.{refl}
use Rattle.reference.proofs.Computed.{cases_hold}
use Rattle.reference.proofs.reference_cases.Goals as goal

pub returns : goal.returns
returns c = record { cases = cases_hold; count = refl }
