use Rattle.std.proofs.Common.{rules, arith}
use Rattle.ppm.proofs.Heads.{head_put}
use Rattle.ppm.proofs.put_head.Goals as goal

pub returns : goal.returns
returns c =
    let whole = head_put c.args.size.width c.args.size.height (omega arith) c.put.ensures c.put_number.ensures c.put-2.ensures c.put_number-2.ensures c.put-3.ensures in
    record { answer = omega arith; after = search rules }
