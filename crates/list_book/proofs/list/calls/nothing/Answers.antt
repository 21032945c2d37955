use Rattle.list_book.proofs.Tables.{nothing_there}
use Rattle.list_book.proofs.list.calls.nothing.Goals as goal

pub returns : goal.returns
returns g c n = nothing_there 256 n
