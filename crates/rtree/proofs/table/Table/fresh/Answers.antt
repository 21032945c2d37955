use Rattle.std.proofs.Common.{ℕ, zero, suc, ◌<◌, ◌==◌, List, [], ◌∷◌, length, get_or, Some, None, not, ◌+◌, cond, sym, ap, ◌∙◌, arith}
use Rattle.std.specs.List.{position_or_len}
use Rattle.std.proofs.lemmas.Bool.{lt-ltb, ne_eqb, eqb-true}
use Rattle.std.proofs.lemmas.List.Quantifiers.{position-Some}
use Rattle.node_rows.specs.Nodes.{spare}
use Rattle.rtree.proofs.table.Table.fresh.Goals as goal

-- where rows are left, a count is 0
spare_found : (ns : List ℕ) → 0 < spare ns → position_or_len (λ n. n == 0) ns < length ns
spare_found [] h = omega arith
spare_found (zero ∷ ns) h = omega arith
spare_found (suc n ∷ ns) h =
    let ih = spare_found ns (omega arith) in
    let more = ap (λ b. cond (not b) (1 + position_or_len (λ m. m == 0) ns) 0) (ne_eqb (suc n) 0 (λ z. omega arith)) in
    omega arith

pub unreachable-requires : goal.unreachable-requires
unreachable-requires g c =
    let ns = c.args.self.now.counts in
    let l = position_or_len (λ n. n == 0) ns in
    let e = ap (λ b. cond b (Some l) None) (lt-ltb l (length ns) (spare_found ns c.requires)) in
    cc (e, c.free.ensures, c.in-None.is)

pub returns : goal.returns
returns g c =
    let ns = c.args.self.now.counts in
    let s = position-Some (λ n. n == 0) ns c.in-Some.at 0 (sym c.free.ensures ∙ c.in-Some.is) in
    eqb-true (get_or ns c.in-Some.at 0) 0 s.1
