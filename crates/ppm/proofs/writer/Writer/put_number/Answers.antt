use Rattle.std.proofs.Common.{arith}
use Rattle.ppm.proofs.Numbers.{decimal_one, decimal_two, decimal_three}
use Rattle.ppm.proofs.writer.Writer.put_number.Goals as goal

pub returns-in-0-to-9 : goal.returns-in-0-to-9
returns-in-0-to-9 c = rw (decimal_one c.args.n (omega arith), ← c.digit.ensures) c.put.ensures

pub returns-in-10-to-99 : goal.returns-in-10-to-99
returns-in-10-to-99 c =
    rw (decimal_two c.args.n (omega arith) (omega arith), ← c.digit-in-10-to-99.ensures, ← c.digit-in-10-to-99-2.ensures) c.put-in-10-to-99.ensures

pub returns-in_default : goal.returns-in_default
returns-in_default c =
    rw
    (decimal_three c.args.n (omega arith) (omega arith), ← c.digit-in_default.ensures, ← c.digit-in_default-2.ensures, ← c.digit-in_default-3.ensures)
    c.put-in_default.ensures
