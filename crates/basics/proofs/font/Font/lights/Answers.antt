use Rattle.std.proofs.Common.{sym, inl, inr, ⊎_elim}
use Rattle.basics.proofs.Table.{lit_past}
use Rattle.basics.proofs.font.Font.lights.Goals as goal

pub returns-then-glyph-gt15 : goal.returns-then-glyph-gt15
returns-then-glyph-gt15 c = sym (lit_past _ _ _ _ (⊎_elim inl (λ p. inr (⊎_elim (λ h. inl h.1) (λ h. inr h.2) p)) c.then-glyph-gt15.either))
