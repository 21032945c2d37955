use Rattle.std.proofs.Common.{◌≡◌, ℕ, ◌+◌, ◌*◌, ◌≤◌, List, ap, ◌∙◌, arith, rules}
use Rattle.std.proofs.lemmas.Nat.{mul-le}
use Rattle.plane.specs.Layout.{row_bytes_lem, plane_bytes_lem, planes_written}
use Rattle.plane.proofs.Inking.{run_ends, inked, spare_kept, rest_kept}
use Rattle.plane.proofs.planes.panel.PlaneSurfaceSurface.run.Goals as goal

pub write-requires : goal.write-requires
write-requires c =
    let s = c.args.self.now in
    let row : c.args.y * c.row_bytes.result ≡ c.args.y * row_bytes_lem s.width = ap (λ (b : ℕ). c.args.y * b) c.row_bytes.ensures in
    let small : plane_bytes_lem s.width s.height ≤ 256 * 32 = mul-le s.height (row_bytes_lem s.width) 256 32 s.low (omega (arith, s.narrow)) in
    record {
      end = omega (arith, row, run_ends s.width s.height c.args.x c.args.y c.args.n c.args.ink s.planes.memory.now c.if-not-accepts.ensures);
      room = omega (arith, s.room);
      small = omega (arith, small);
    }

-- what the planes hold after the run
run_bytes : (y x n ink bits rows p r : ℕ) (xs ys : List ℕ) → p ≡ bits → r ≡ rows → ys ≡ planes_written 4 (8 * p) (8 * (y * r) + x) n ink xs → ys ≡ planes_written 4 (8 * bits) (8 * (y * rows) + x) n ink xs
run_bytes y x n ink bits rows p r xs ys e f is = is ∙ rw (e, f)

pub invariant_of-self : goal.invariant_of-self
invariant_of-self c =
    let s = c.args.self.now in
    let xs = s.planes.memory.now in
    let bytes = run_bytes c.args.y c.args.x c.args.n c.args.ink _ _ _ _ xs _ c.plane_bytes-bits.ensures c.row_bytes.ensures c.write.ensures.bytes in
    record { narrow = search rules; low = search rules; room = search rules; spare = spare_kept s.width s.height c.args.x c.args.y c.args.n c.args.ink xs _ s.room c.if-not-accepts.ensures bytes s.spare }

pub returns : goal.returns
returns c =
    let s = c.args.self.now in
    let xs = s.planes.memory.now in
    let ok = c.if-not-accepts.ensures in
    let bytes = run_bytes c.args.y c.args.x c.args.n c.args.ink _ _ _ _ xs _ c.plane_bytes-bits.ensures c.row_bytes.ensures c.write.ensures.bytes in
    record {
      means = (ok, inked s.width s.height c.args.x c.args.y c.args.n c.args.ink xs _ s.room ok bytes);
      bytes = bytes;
      rest = rest_kept s.width s.height c.args.x c.args.y c.args.n c.args.ink xs _ ok bytes;
      lent = c.write.ensures.lent;
    }
