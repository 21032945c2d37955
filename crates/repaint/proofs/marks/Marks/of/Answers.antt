use Rattle.std.proofs.Common.{◌&&◌, ◌||◌, eqb, ltb, get_or, sym, ap, ◌∙◌, arith}
use Rattle.std.proofs.lemmas.List.{take_all}
use Rattle.book.specs.Past.{listed}
use Rattle.tiling.proofs.Marking.{listed_more, small_more}
use Rattle.repaint.proofs.marks.Marks.of.Goals as goal

pub loop-n-preserved : goal.loop-n-preserved
loop-n-preserved c k =
    let ns = c.args.found.now in
    let i = c.loop-n.n-index in
    c.put.ensures k
    ∙ ap (λ b. b || (ltb k 256 && eqb k (get_or ns i 0))) (c.loop-n.invariant k)
    ∙ small_more (ltb k 256) _ _
    ∙ ap (λ b. ltb k 256 && b) (sym (listed_more ns i k c.loop-n-test.true))

pub returns : goal.returns
returns c k = c.loop-n.invariant k ∙ ap (λ ns. ltb k 256 && listed ns k) (take_all c.loop-n.n-index c.args.found.now (omega arith))
