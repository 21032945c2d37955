use Rattle.std.proofs.Common.{◌++◌, [], ◌∷◌, drop, sym, ap, ◌∙◌}
use Rattle.std.proofs.lemmas.List.{map-id}
use Rattle.std.proofs.lemmas.Iterator.Consumers.{YieldsList-at, YieldsList-from_first, YieldsList-end}
use Rattle.raster.specs.Lines.{pixels, among}
use Rattle.raster.specs.declared.line.pixels.Pixels.{Pixels}
use Rattle.painting.specs.Laid.{run_of}
use Rattle.painting.proofs.Laying.{laid_then, laid_like, among_more}
use Rattle.painting.proofs.lay.lay_line.Goals as goal

pub loop-x-preserved : goal.loop-x-preserved
loop-x-preserved g c =
    let ps = c.loop-x.yielded in
    let x = c.in-Some.x in
    let y = c.in-Some.y in
    laid_then (among ps) (run_of x y 1) (among (ps ++ (x, y) ∷ [])) _ _ _ _ (among_more ps x y) c.loop-x.invariant c.lay_run.ensures

pub returns : goal.returns
returns g c =
    let seen = YieldsList-end
    (YieldsList-at c.into_iter-x-iterator.ensures.into_iter_gives (YieldsList-from_first (λ p. p) (λ (w : Pixels). drop w.places.start (pixels w.line)) (pixels c.args.l) c.pixels-x-items.ensures))
    c.loop-x.yielded _ c.loop-x.yielded_by _ c.next.new.self c.in-None.is c.next.ensures.steps in
    laid_like (among c.loop-x.yielded) (among (pixels c.args.l)) _ _ _ (λ u v o. ap (λ ps. among ps u v) (sym (map-id c.loop-x.yielded) ∙ seen.0)) c.loop-x.invariant
