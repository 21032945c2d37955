use Rattle.std.proofs.Common.{◌≡◌, ℕ, ◌*◌, ap, arith}
use Rattle.plane.specs.Layout.{row_bytes_lem, plane_bytes_lem}
use Rattle.plane.proofs.Inking.{byte_ends}
use Rattle.plane.proofs.planes.PlaneSurface.bit.Goals as goal

pub bit_at-requires : goal.bit_at-requires
bit_at-requires c =
    let s = c.args.self.now in
    let p : c.args.k * c.plane_bytes.result ≡ c.args.k * plane_bytes_lem s.width s.height = ap (λ (b : ℕ). c.args.k * b) c.plane_bytes.ensures in
    let r : c.args.y * c.row_bytes.result ≡ c.args.y * row_bytes_lem s.width = ap (λ (b : ℕ). c.args.y * b) c.row_bytes.ensures in
    record {
      at = omega (arith, p, r, s.room, byte_ends s.width s.height c.args.k c.args.x c.args.y c.requires.plane (omega arith) c.requires.row);
      bit = omega arith;
    }
