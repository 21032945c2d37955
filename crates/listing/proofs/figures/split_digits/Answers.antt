use Rattle.listing.proofs.Readings.{parts}
use Rattle.listing.proofs.figures.split_digits.Goals as goal

pub returns : goal.returns
returns c = parts _ c.leading_digits.result _ _ c.leading_digits.ensures c.split_at.ensures.front c.split_at.ensures.back
