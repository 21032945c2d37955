-- Parts written one after the other. Assumes nothing.
use Rattle.std.proofs.Common.{ℕ, ◌+◌, ◌≤◌, List, ◌++◌, length, ap, ◌∙◌, arith, length-append}
use Rattle.ppm.specs.declared.writer.Writer.{Writer}
use Rattle.ppm.specs.Writers.{Puts}
use Rattle.ppm.proofs.Writes.{over_next}

pub puts_then :
    {a b c : Writer} {xs ys : List ℕ} → a.end ≤ length a.output.now → Puts a xs b → Puts b ys c → Puts a (xs ++ ys) c
puts_then {a} {b} {c} {xs} {ys} h p q =
    record {
      end = q.end ∙ ap (λ n. n + length ys) p.end ∙ omega (arith, length-append xs ys);
      output = over_next a.output.now xs ys p.output q.output p.end h;
      long = q.long ∙ p.long;
      same = q.same ∙ p.same;
    }
