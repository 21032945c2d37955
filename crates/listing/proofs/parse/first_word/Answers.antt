use borrow.Author.Count.{below_more}
use Rattle.std.proofs.Common.{arith}
use Rattle.listing.proofs.Spelling.{lacking, each_word}
use Rattle.listing.proofs.parse.first_word.Goals as goal

pub loop-word-preserved : goal.loop-word-preserved
loop-word-preserved c = below_more _ c.loop-word.word-index c.loop-word.invariant (lacking c.args.bytes.now _ _ c.spelling.ensures c.in_default.ensures.cases)

pub returns : goal.returns
returns c = each_word _ (λ k h. c.loop-word.invariant k (omega arith))
