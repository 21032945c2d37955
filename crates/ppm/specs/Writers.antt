-- What a writer writes to its memory. Assumes nothing.
use Rattle.std.specs.Prelude.{◌≡◌, ℕ, ◌+◌, List, length}
use Rattle.ppm.specs.declared.writer.Writer.{Writer}
use Rattle.ppm.specs.Frames.{over}

-- the bytes stand after what was written, in the same memory
pub record Puts (old : Writer) (bytes : List ℕ) (new : Writer) : Type 0 where
  pub end : new.end ≡ old.end + length bytes
  pub output : new.output.now ≡ over old.output.now old.end bytes
  pub long : length new.output.now ≡ length old.output.now
  pub same : new.output.ghost_name ≡ old.output.ghost_name
