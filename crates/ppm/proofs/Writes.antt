-- Bytes written over a list, one part after the other. Assumes nothing.
use Rattle.std.proofs.Common.{◌≡◌, ℕ, ◌+◌, ◌≤◌, List, [], ◌++◌, length, drop, sym, refl, ap, ◌∙◌, zero-add, length-append}
use borrow.Rule.Slice.PartMut.{put_mid}
use lib.Seq.{paste}
use Rattle.std.proofs.lemmas.List.Edits.{paste_all, paste_none, paste-paste}
use Rattle.std.proofs.lemmas.Slice.{put_mid-paste}
use Rattle.ppm.specs.Frames.{over}

paste_over : (old : List ℕ) (i : ℕ) (s : List ℕ) → paste old i s (length s) ≡ over old i s
unfolding over
paste_over old i s = paste_all old i s (length s) refl

pub over_none : (old : List ℕ) (i : ℕ) → over old i [] ≡ old
over_none old i = sym (paste_over old i []) ∙ sym (paste_none old i [])

-- a part of a slice that was copied into
pub over_part : (old : List ℕ) (i k : ℕ) (s t : List ℕ) → t ≡ s → length s ≡ k → put_mid i k old t ≡ over old i s
over_part old i k s t e l = put_mid-paste i k old t s (length s) e l refl ∙ paste_over old i s

over_over : (old : List ℕ) (i j : ℕ) (s t : List ℕ) → i ≤ length old → j ≡ i + length s → over (over old i s) j t ≡ over old i (s ++ t)
over_over old i j s t h e =
    ap (λ n. over (over old i s) n t) e
    ∙ sym (paste_over (over old i s) (i + length s) t)
    ∙ ap (λ d. paste d (i + length s) t (length t)) (sym (paste_over old i s))
    ∙ paste-paste old i s t (length s) (length t) refl refl h
    ∙ ap (paste old i (s ++ t)) (sym (length-append s t))
    ∙ paste_over old i (s ++ t)

-- a second part after the first
pub over_next : (old s t : List ℕ) {mid new : List ℕ} {i j : ℕ} → mid ≡ over old i s → new ≡ over mid j t → j ≡ i + length s → i ≤ length old → new ≡ over old i (s ++ t)
over_next old s t {mid} {new} {i} {j} e f n h = f ∙ ap (λ xs. over xs j t) e ∙ over_over old i j s t h n

-- from the front on
pub over_front : (old s : List ℕ) → over old 0 s ≡ s ++ drop (length s) old
unfolding over
over_front old s = ap (λ n. s ++ drop n old) (zero-add (length s))
