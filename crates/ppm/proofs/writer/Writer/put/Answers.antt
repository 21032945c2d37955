use Rattle.std.proofs.Common.{refl, arith, rules}
use Rattle.ppm.proofs.Writes.{over_part}
use Rattle.ppm.proofs.writer.Writer.put.Goals as goal

pub returns : goal.returns
returns c =
    record {
      end = refl;
      output = over_part c.args.self.now.output.now c.args.self.now.end _ c.args.bytes.now _ c.copy_from_slice.ensures.after (omega arith);
      long = search rules;
      same = refl;
    }
