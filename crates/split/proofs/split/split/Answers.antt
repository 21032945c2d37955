use Rattle.std.proofs.Common.{◌≡◌, sym, ap, ◌∙◌, subst, arith, rules, None, length}
use Rattle.std.proofs.lemmas.List.{length-map}
use Rattle.quadratic.specs.Sharing.{RestToOne, SharedOut}
use Rattle.quadratic.specs.Split.{shared, split9}
use Rattle.quadratic.proofs.Fair.{shared_out}
use Rattle.quadratic.proofs.Runs.{rest_to_one, by_the_rule}
use Rattle.quadratic.proofs.Turns.{shared_none, shared_more}
use Rattle.split.specs.Letters.{code_so_far, codes}
use Rattle.split.specs.Nine.{nine}
use Rattle.split.specs.Sharing.{groups_of}
use Rattle.split.specs.Table.{table}
use Rattle.split.proofs.Made.{mapped}
use Rattle.split.proofs.split.split.Goals as goal

pub loop-init : goal.loop-init
loop-init g c =
    shared_none g.M.Measured.measure g.M.Extent.joined (nine c.args.row.now c.args.last) c.sizes.result (table c.join_sizes.result) c.pick_seeds-seeds.result (groups_of c.start-so_far.result)
    c.sizes.ensures c.join_sizes.ensures c.pick_seeds-seeds.ensures.chosen c.start-so_far.ensures

pub loop-preserved : goal.loop-preserved
loop-preserved g c =
    shared_more g.M.Measured.measure g.M.Extent.joined (nine c.args.row.now c.args.last) c.loop.counter (groups_of c.loop.so_far) (groups_of c.share_one-so_far.result) c.loop.invariant c.share_one-so_far.ensures

pub returns : goal.returns
unfolding split9
returns g c =
    let size = g.M.Measured.measure in
    let join = g.M.Extent.joined in
    let x = nine c.args.row.now c.args.last in
    let n : c.loop.counter ≡ 7 = omega arith in
    let fair = shared_out size join x in
    let all : codes c.loop.so_far.letters ≡ split9 size join x = ap (λ z. z.letters) (c.loop.invariant ∙ ap (shared size join x) n) in
    let long = sym (length-map c.loop.so_far.letters code_so_far) ∙ ap length all ∙ fair.nine in
    let is = mapped _ _ code_so_far (λ l y q e. search rules) c.loop.so_far.letters c.map.result 9 None 0 long c.map.ensures.items ∙ all in
    record {
      letters = is;
      fair = subst SharedOut (sym is) fair;
      rule = by_the_rule size join x;
      rest = subst (RestToOne size join x) (sym is) (rest_to_one size join x);
    }
