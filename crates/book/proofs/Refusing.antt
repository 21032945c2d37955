-- Refusals by tests in their order. Assumes nothing.
use Rattle.std.proofs.Common.{◌≡◌, ℕ, Bool, true, false, Some, None, Option, refl, ap, arith}
use Rattle.book.specs.Tests.{unless}

pub unless_true : (t : Bool) (n : ℕ) (rest : Option ℕ) → t ≡ true → unless t n rest ≡ rest
unless_true t n rest e = ap (λ v. unless v n rest) e

pub unless_false : (t : Bool) (n : ℕ) (rest : Option ℕ) → t ≡ false → unless t n rest ≡ Some n
unless_false t n rest e = ap (λ v. unless v n rest) e

-- what is accepted passes each test
pub unless_none : (t : Bool) (n : ℕ) (rest : Option ℕ) → unless t n rest ≡ None → (t ≡ true) × (rest ≡ None)
unless_none true n rest e = (refl, e)
unless_none false n rest e = let z : ◌≡◌ {A = ℕ} 0 1 = cc in absurd (omega arith)
