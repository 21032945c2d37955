-- Accepted calls, from the tests that the code makes. Assumes nothing.
use Rattle.std.proofs.Common.{◌≡◌, ℕ, Bool, true, None, Option, ap, ◌∙◌}
use Rattle.list_book.specs.Book.{Book, unless, left_by}

pub unless_true : (t : Bool) (n : ℕ) (rest : Option ℕ) → t ≡ true → unless t n rest ≡ rest
unless_true t n rest e = ap (λ v. unless v n rest) e

-- two books with the same parts
pub same_book : (b c : Book) → b.wide ≡ c.wide → b.high ≡ c.high → ((n : ℕ) → b.shapes n ≡ c.shapes n) → ((s : ℕ) → b.spans s ≡ c.spans s) → b.frame ≡ c.frame → b ≡ c
same_book b c w h s t f = λ i. record { wide = w i; high = h i; shapes = λ n. s n i; spans = λ n. t n i; frame = f i }

pub accepted : (r : Option ℕ) (old new b : Book) → None ≡ r → b ≡ new → b ≡ left_by r old new
accepted r old new b e h = h ∙ ap (λ v. left_by v old new) e
