use Rattle.std.proofs.Common.{◌+◌, ◌-◌, ◌&&◌, ltb, leb, get_or, Some, None, ap, ◌∙◌, arith, rules}
use Rattle.std.specs.Option.{option_map}
use Rattle.raster.proofs.Tables.{mapped_cond}
use Rattle.cache.proofs.Places.{run_put}
use Rattle.cache.proofs.slot.Slot.put.Goals as goal

pub returns-clause-inks : goal.returns-clause-inks
returns-clause-inks c j =
    let k = c.args.k in
    let n = c.args.n in
    let xs = c.args.self.now.inks in
    ap (option_map (λ i. i.value)) (run_put k n _ (k + n - k) (Some c.args.ink) xs c.fill.new.self (omega arith) (search rules) (search rules) (c.fill.ensures.after (λ y e. search rules)) j)
    ∙ mapped_cond (λ i. i.value) (leb k j && ltb j (k + n)) (Some c.args.ink) (get_or xs j None)
