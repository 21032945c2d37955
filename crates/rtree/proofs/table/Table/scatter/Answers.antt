use Rattle.std.proofs.Common.{◌<◌, refl, ◌∙◌, subst, arith, get_or-take, length-take}
use Rattle.node_rows.specs.Nodes.{Laid}
use Rattle.node_rows.proofs.Deals.{scattered_none, scattered_few, scattered_more}
use Rattle.rtree.proofs.Tables.{ready}
use Rattle.rtree.proofs.table.Table.scatter.Goals as goal

pub loop-i-init : goal.loop-i-init
loop-i-init g c =
    let self = c.args.self.now in
    record {
      scattered = scattered_none self.places.now self.counts c.args.at c.args.to c.args.letters.now (ready self) (omega arith) (omega arith) (omega arith) c.requires.none c.requires.free;
      lent = (refl, refl);
    }

pub loop-i-preserved : goal.loop-i-preserved
loop-i-preserved g c =
    let self = c.args.self.now in
    let ls = c.args.letters.now in
    let i = c.loop-i.i in
    let before = c.loop-i.self in
    let after = c.lay.new.self in
    let i-in : i < 8 = let l = c.loop-i-test.true in let n = length-take 8 ls in omega arith in
    let laid = subst (λ n. Laid before.places.now before.counts after.places.now after.counts c.args.at c.args.to n c.entry-x.result) (get_or-take 8 ls i 0 i-in) c.lay.ensures.laid in
    record {
      scattered =
          scattered_more self.places.now self.counts c.args.at c.args.to ls (ready self) (omega arith) (omega arith) (omega arith) i c.loop-i.invariant.scattered
          i-in c.entry-x.result c.entry-x.ensures after.places.now after.counts laid;
      lent = (c.lay.ensures.lent.0 ∙ c.loop-i.invariant.lent.0, c.lay.ensures.lent.1 ∙ c.loop-i.invariant.lent.1);
    }

pub lay-requires : goal.lay-requires
lay-requires g c =
    let self = c.args.self.now in
    let few = scattered_few self.places.now self.counts c.args.at c.args.to c.args.letters.now (ready self) (omega arith) (omega arith) (omega arith) c.loop-i.i c.loop-i.invariant.scattered in
    let n = length-take 8 c.args.letters.now in
    record {
      other = c.requires.other;
      room = let a = few.0 in omega arith;
      space = let a = few.1 in omega arith;
    }
