use Rattle.std.proofs.Common.{◌≡◌, ℕ, ◌+◌, List, ap, ◌∙◌, arith, length-set}
use Rattle.quadratic.specs.Split.{Groups}
use Rattle.quadratic.proofs.Turns.{given_a, given_b}
use Rattle.split.specs.declared.group.Group.{Group}
use Rattle.split.specs.Letters.{code_of}
use Rattle.split.specs.Nine.{extent_at}
use Rattle.split.specs.Sharing.{groups_of}
use Rattle.split.proofs.Letters.{codes_set, one_less}
use Rattle.split.proofs.sharing.Sharing.give.Goals as goal
use Rattle.split.proofs.sharing.Sharing.give.Goals.{in-A, in-B}

pub invariant_of-result : goal.invariant_of-result
invariant_of-result g c =
    let n = c.args.self.nine in
    let less = one_less c.args.self.letters c.args.i c.pick_letter-letter.result (omega arith) c.requires.free in
    let counts : c.match-letter.a.0.count + c.match-letter.a.1.count ≡ c.args.self.a.count + c.args.self.b.count + 1 = elim c.match-letter.branch [
      | in-A w ↦ let e = ap (λ p. p.0.count + p.1.count) w.a-is in omega arith
      | in-B w ↦ let e = ap (λ p. p.0.count + p.1.count) w.a-is in omega arith
    ] in
    record { nine = length-set c.args.self.letters c.args.i _ ∙ n; counted = omega arith }

-- the groups of two parts that are known
parts : {E : Type 0} (ls : List ℕ) (p q : Group E × Group E) → p ≡ q
    → ◌≡◌ {A = Groups E} (record { letters = ls; a = p.0.extent; b = p.1.extent; na = p.0.count; nb = p.1.count }) (record { letters = ls; a = q.0.extent; b = q.1.extent; na = q.0.count; nb = q.1.count })
parts ls p q e = ap (λ z. record { letters = ls; a = z.0.extent; b = z.1.extent; na = z.0.count; nb = z.1.count }) e

pub returns : goal.returns
returns g c =
    let size = g.M.Measured.measure in
    let join = g.M.Extent.joined in
    let x = extent_at c.args.nine.now in
    let letter = c.pick_letter-letter in
    let set_one = codes_set c.args.self.letters c.args.i letter.result in
    elim c.match-letter.branch [
      | in-A w ↦
          parts _ _ _ w.a-is ∙ given_a size join x (groups_of c.args.self) c.args.i c.nth-extent.result c.nth-extent.ensures (code_of letter.result)
          c.growth.result c.growth-2.result c.size.result c.size-2.result c.growth.ensures c.growth-2.ensures c.size.ensures.value c.size-2.ensures.value letter.ensures.value
          _ _ _ set_one w.with.ensures.extent w.with.ensures.count (ap code_of w.in-A.is)
      | in-B w ↦
          parts _ _ _ w.a-is ∙ given_b size join x (groups_of c.args.self) c.args.i c.nth-extent.result c.nth-extent.ensures (code_of letter.result)
          c.growth.result c.growth-2.result c.size.result c.size-2.result c.growth.ensures c.growth-2.ensures c.size.ensures.value c.size-2.ensures.value letter.ensures.value
          _ _ _ set_one w.with-in-B.ensures.extent w.with-in-B.ensures.count (ap code_of w.in-B.is)
    ]
