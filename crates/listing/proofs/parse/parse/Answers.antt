use Rattle.listing.proofs.Lines.{no_word, parsed}
use Rattle.listing.proofs.parse.parse.Goals as goal

pub returns-in_err-word : goal.returns-in_err-word
returns-in_err-word c = rw c.from_residual.ensures (no_word _ c.in_err-word.ensures)

pub returns : goal.returns
returns c = parsed c.args.bytes.now _ _ c.line_after.result c.in_ok-word.ensures c.line_after.ensures
