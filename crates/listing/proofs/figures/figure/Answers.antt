use Rattle.std.proofs.Common.{◌≡◌, ◌<◌, ◌∷◌, length, get_or, ap, ◌∙◌, rules}
use Rattle.std.specs.List.{between}
use Rattle.std.proofs.lemmas.Slice.{first_rest}
use Rattle.listing.proofs.Readings.{after_space}
use Rattle.listing.proofs.figures.figure.Goals as goal

pub returns-in-32 : goal.returns-in-32
returns-in-32 c =
    let bs = c.args.bytes.now in
    let some : 0 < length bs = search rules in
    let space : get_or bs 0 0 ≡ 32 = search rules in
    after_space bs _ c.numeral.result (first_rest bs 0 some ∙ ap (λ x. x ∷ between 1 (length bs) bs) space) c.numeral.ensures
