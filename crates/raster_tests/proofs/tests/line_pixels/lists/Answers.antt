use Rattle.std.proofs.Common.{true, false, drop, rules, tests}
use Rattle.std.proofs.lemmas.Iterator.{cases_from_any}
use Rattle.std.proofs.lemmas.Iterator.Consumers.{YieldsList-from_first}
use Rattle.raster.specs.declared.line.pixels.Pixels.{Pixels}
use Rattle.raster.specs.Lines.{pixels}
use Rattle.raster_tests.proofs.Listing.{Answer, found}
use Rattle.raster_tests.proofs.tests.line_pixels.lists.Goals as goal

pub returns : goal.returns
returns c =
    let ps = pixels c.args.line in
    found ps c.args.x c.args.y c.any.result
    (cases_from_any c.any.new.self _ _ (Answer c.args.x c.args.y true) (Answer c.args.x c.args.y false) c.any.ensures.ran (YieldsList-from_first (λ p. p) (λ (w : Pixels). drop w.places.start (pixels w.line)) ps c.pixels.ensures) (λ x q k. search (rules, tests)) (λ x q k. search (rules, tests)))
