-- From a word and figures to a line.
use Rattle.std.proofs.Common.{◌≡◌, ℕ, List, ◌++◌, Some, None, Option, sym, refl, ap, ◌∙◌, subst}
use Rattle.std.proofs.lemmas.List.Prefix.{front_rest}
use Rattle.raster.specs.declared.shape.Shape.TheVariants as shape
use Rattle.listing.specs.declared.line.Line.{Line}
use Rattle.listing.specs.declared.line.Line.TheVariants as line
use Rattle.listing.specs.declared.word.Word.{Word}
use Rattle.listing.specs.Text.{figures, spaced, text, Parsed}
use Rattle.listing.specs.Words.{spelled, word_of, First, After}
use Rattle.listing.proofs.Spelling.{one_word}

-- a line is its word and then its figures
text_is : (l : Line) → text l ≡ spelled (word_of l) ++ spaced (figures l)
text_is (line.Sheet w h) = refl
text_is (line.Shape n (shape.Box r) ink) = refl
text_is (line.Shape n (shape.Line e) ink) = refl
text_is (line.Shape n (shape.Figure c) ink) = refl
text_is (line.Span s n from to ink) = refl
text_is (line.Frame f) = refl

-- no word, no line
pub no_word : (bytes : List ℕ) → First bytes None → Parsed bytes None
no_word bytes f l small e = f (word_of l) (spaced (figures l)) (e ∙ text_is l)

-- a word, and what is read after it
pub parsed :
    (bytes : List ℕ) (w : Word) (rest : List ℕ) (r : Option Line) → bytes ≡ spelled w ++ rest → After w rest r → Parsed bytes r
parsed bytes w rest (Some l) s a =
    let named = ap (λ v. spelled v ++ spaced (figures l)) (sym a.0) in
    (a.1, s ∙ (ap (λ xs. spelled w ++ xs) a.2 ∙ (named ∙ sym (text_is l))))
parsed bytes w rest None s a =
    λ l small e.
    let both : spelled (word_of l) ++ spaced (figures l) ≡ spelled w ++ rest = sym (e ∙ text_is l) ∙ s in
    let same : word_of l ≡ w = one_word (word_of l) w (spaced (figures l)) rest both in
    let alike = subst (λ v. spelled v ++ spaced (figures l) ≡ spelled w ++ rest) same both in
    a l same small (sym (front_rest _ (spelled w) rest alike) ∙ front_rest _ (spelled w) (spaced (figures l)) refl)
