use Rattle.std.proofs.Common.{ℕ, ap, ◌∙◌, arith}
use Rattle.surface.specs.Bytes.{painted}
use Rattle.surface.proofs.Inking.{run_ends, inked, rest_kept}
use Rattle.surface.proofs.byte.panel.ByteSurfaceSurface.run.Goals as goal

pub write-requires : goal.write-requires
write-requires c =
    let s = c.args.self.now in
    omega (arith, s.room, c.place_of-start.ensures, run_ends s.width s.height c.args.x c.args.y c.args.n c.args.ink s.pixels.memory.now c.if-not-accepts.ensures)

pub returns : goal.returns
returns c =
    let s = c.args.self.now in
    let xs = s.pixels.memory.now in
    let ok = c.if-not-accepts.ensures in
    let bytes = c.write.ensures.bytes ∙ ap (λ (k : ℕ). painted k c.args.n c.args.ink xs) c.place_of-start.ensures in
    record {
      means = (ok, inked s.width s.height c.args.x c.args.y c.args.n c.args.ink xs _ s.room ok bytes);
      bytes = bytes;
      rest = rest_kept s.width s.height c.args.x c.args.y c.args.n c.args.ink xs _ s.room ok bytes;
      lent = c.write.ensures.lent;
    }
