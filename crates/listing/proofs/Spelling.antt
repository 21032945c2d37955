-- Bytes that begin with a word.
use Rattle.std.proofs.Common.{◌≡◌, ◌≢◌, ℕ, ◌+◌, ◌<◌, false, cond, eqb, nat_eq, List, [], ◌∷◌, ◌++◌, length, get_or, take, None, refl, sym, ap, ◌∙◌, subst, arith}
use Rattle.std.specs.Cmp.Lexicographic.{pointwise}
use Rattle.std.proofs.lemmas.Bool.Decides.{Decides-eqb}
use Rattle.std.proofs.lemmas.Slice.Eq.{strip_prefix_is}
use Rattle.listing.specs.declared.word.Word.{Word}
use Rattle.listing.specs.declared.word.Word.TheVariants as words
use Rattle.listing.specs.Words.{spelled}

-- the first two letters tell the word, by the sum of their codes
abbrev told : ℕ → Word
told n =
    cond (eqb n 219) words.Sheet
    (cond (eqb n 209) words.Box
    (cond (eqb n 213) words.Line (cond (eqb n 207) words.Figure (cond (eqb n 227) words.Span words.Frame))))

abbrev sum : List ℕ → ℕ
sum bytes = get_or bytes 0 0 + get_or bytes 1 0

word_told : (w : Word) (rest : List ℕ) → told (sum (spelled w ++ rest)) ≡ w
word_told words.Sheet rest = refl
word_told words.Box rest = refl
word_told words.Line rest = refl
word_told words.Figure rest = refl
word_told words.Span rest = refl
word_told words.Frame rest = refl

-- bytes begin with one word only
pub one_word : (v w : Word) (s t : List ℕ) → spelled v ++ s ≡ spelled w ++ t → v ≡ w
one_word v w s t e = sym (word_told v s) ∙ ap (λ bytes. told (sum bytes)) e ∙ word_told w t

-- a prefix that was sought in vain
pub lacking :
    (bytes p : List ℕ) (w : Word) → p ≡ spelled w → pointwise nat_eq (take (length p) bytes) p ≡ false
    → (rest : List ℕ) → bytes ≢ spelled w ++ rest
lacking bytes p w e none =
    subst (λ s. (rest : List ℕ) → bytes ≢ s ++ rest) e (strip_prefix_is Decides-eqb bytes p None none)

-- what holds of the word in each place holds of every word
pub each_word :
    (P : Word → Type 0)
    → ((k : ℕ) → k < 6 → P (get_or (words.Sheet ∷ words.Box ∷ words.Line ∷ words.Figure ∷ words.Span ∷ words.Frame ∷ []) k words.Sheet))
    → (w : Word) → P w
each_word P f words.Sheet = f 0 (omega arith)
each_word P f words.Box = f 1 (omega arith)
each_word P f words.Line = f 2 (omega arith)
each_word P f words.Figure = f 3 (omega arith)
each_word P f words.Span = f 4 (omega arith)
each_word P f words.Frame = f 5 (omega arith)
