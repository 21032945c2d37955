-- The parts of a head, and its length. Assumes nothing.
use Rattle.std.proofs.Common.{◌≡◌, ℕ, ◌+◌, ◌<◌, ◌≤◌, List, [], ◌∷◌, ◌++◌, length, drop, decimal, sym, ap, ◌∙◌, subst, ap₂, append_assoc, arith, length-append}
use Rattle.std.proofs.lemmas.Fmt.{decimal_nonempty}
use Rattle.raster.specs.Sizes.{Side}
use Rattle.ppm.specs.Frames.{over, head_bytes}
use Rattle.ppm.specs.Calls.{HeadMade}
use Rattle.ppm.specs.declared.writer.Writer.{Writer}
use Rattle.ppm.specs.Writers.{Puts}
use Rattle.ppm.proofs.Puts.{puts_then}
use Rattle.ppm.proofs.Numbers.{digits_below_thousand}
use Rattle.ppm.proofs.Writes.{over_front}

-- "P6" and a line feed
abbrev pub first : List ℕ
first = 80 ∷ 54 ∷ 10 ∷ []

-- a line feed, "255" and a line feed
abbrev pub last : List ℕ
last = 10 ∷ 50 ∷ 53 ∷ 53 ∷ 10 ∷ []

head_parts : (w h : ℕ) → (((first ++ decimal w) ++ (32 ∷ [])) ++ decimal h) ++ last ≡ head_bytes w h
unfolding head_bytes
head_parts w h = simp append_assoc

pub length_head : (w h : ℕ) → length (head_bytes w h) ≡ 9 + length (decimal w) + length (decimal h)
length_head w h = ap length (sym (head_parts w h)) ∙ simp length-append (omega arith)

pub head_least : (w h : ℕ) → w < 1000 → h < 1000 → 11 ≤ length (head_bytes w h)
head_least w h a b = omega (arith, length_head w h, decimal_nonempty w (omega arith), decimal_nonempty h (omega arith))

pub head_most : (w h : ℕ) → w < 1000 → h < 1000 → length (head_bytes w h) ≤ 15
head_most w h a b = omega (arith, length_head w h, digits_below_thousand w a, digits_below_thousand h b)

-- the five parts, one after the other
pub head_put :
    {o₀ o₁ o₂ o₃ o₄ o₅ : Writer} (w h : ℕ) → o₀.end ≤ length o₀.output.now → Puts o₀ first o₁ → Puts o₁ (decimal w) o₂
    → Puts o₂ (32 ∷ []) o₃ → Puts o₃ (decimal h) o₄ → Puts o₄ last o₅ → Puts o₀ (head_bytes w h) o₅
head_put {o₀} {o₅ = o₅} w h room p₁ p₂ p₃ p₄ p₅ =
    subst (λ bytes. Puts o₀ bytes o₅) (head_parts w h)
    (puts_then room (puts_then room (puts_then room (puts_then room p₁ p₂) p₃) p₄) p₅)

pub head_made : (w h : ℕ) (old : List ℕ) {v u n : ℕ} {new : List ℕ} → Side w × Side h → (v ≡ w) × (u ≡ h) → 15 ≤ length old → n ≡ length (head_bytes v u) → new ≡ over old 0 (head_bytes v u) → HeadMade w h old n new
head_made w h old {v} {u} {n} {new} s e r l b =
    let long : n ≡ length (head_bytes w h) = l ∙ ap₂ (λ a c. length (head_bytes a c)) e.0 e.1 in
    record {
      sides = s;
      room = r;
      answer = long;
      least = omega (arith, long, head_least w h (omega (arith, s.0.limit)) (omega (arith, s.1.limit)));
      most = omega (arith, long, head_most w h (omega (arith, s.0.limit)) (omega (arith, s.1.limit)));
      bytes = b ∙ ap₂ (λ a c. over old 0 (head_bytes a c)) e.0 e.1 ∙ over_front old (head_bytes w h) ∙ ap (λ k. head_bytes w h ++ drop k old) (sym long);
    }
