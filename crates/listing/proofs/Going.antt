-- Figures read one after the other.
use Rattle.std.proofs.Common.{◌≡◌, ℕ, ◌+◌, ◌<◌, ◌≤◌, List, [], ◌∷◌, ◌++◌, length, get_or, take, drop, set, None, decimal, sym, ap, ◌∙◌, subst, arith, length-set}
use Rattle.std.proofs.lemmas.List.{append-nil, append_assoc, take_more_set, drop_more}
use Rattle.std.proofs.ByRecursion.{All-push, All-get_or}
use Rattle.listing.specs.Text.{spaced, Small}
use Rattle.listing.specs.Figures.{Ended, Front, Reads, FiguresOf}
use Rattle.listing.proofs.Readings.{same_rest}

-- i of count figures are read, in the only way, and the rest is to be read
pub record Going (bytes : List ℕ) (count i : ℕ) (values rest : List ℕ) : Type 0 where
  pub sized : length values ≡ count
  pub read : bytes ≡ spaced (take i values) ++ rest
  pub small : Small (take i values)
  pub only : (ns : List ℕ) → length ns ≡ count → Small ns → bytes ≡ spaced ns → rest ≡ spaced (drop i ns)

spaced_ended : (ns : List ℕ) → Ended (spaced ns)
spaced_ended [] = λ h. omega arith
spaced_ended (n ∷ ns) = λ h. omega arith

spaced_push : (ns : List ℕ) (n : ℕ) (t : List ℕ) → spaced (ns ++ n ∷ []) ++ t ≡ spaced ns ++ (32 ∷ (decimal n ++ t))
spaced_push [] n t = ap (λ xs. 32 ∷ (xs ++ t)) (append-nil (decimal n))
spaced_push (m ∷ ns) n t =
    ap (λ xs. 32 ∷ xs)
    (append_assoc (decimal m) (spaced (ns ++ n ∷ [])) t
    ∙ (ap (λ xs. decimal m ++ xs) (spaced_push ns n t) ∙ sym (append_assoc (decimal m) (spaced ns) (32 ∷ (decimal n ++ t)))))

-- the next figure of a text
next :
    (i : ℕ) (ns rest : List ℕ) → i < length ns → Small ns → rest ≡ spaced (drop i ns)
    → Front (32 ∷ []) rest (get_or ns i 0) (spaced (drop (i + 1) ns))
next i ns rest l s e =
    record {
      small = All-get_or (λ n. n ≤ 65535) ns i 0 l s;
      text = e ∙ ap spaced (drop_more ns i 0 l);
      ended = spaced_ended (drop (i + 1) ns);
    }

pub going_more :
    (bytes : List ℕ) (count i : ℕ) (values rest : List ℕ) (n : ℕ) (after : List ℕ) → i < count
    → Going bytes count i values rest → Front (32 ∷ []) rest n after → Going bytes count (i + 1) (set values i n) after
going_more bytes count i values rest n after l g f =
    let m : i < length values = let h = g.sized in omega arith in
    let e = take_more_set values i n m in
    record {
      sized = length-set values i n ∙ g.sized;
      read =
          g.read
          ∙ (ap (λ xs. spaced (take i values) ++ xs) f.text
          ∙ (sym (spaced_push (take i values) n after) ∙ ap (λ xs. spaced xs ++ after) (sym e)));
      small = subst Small (sym e) (All-push (λ k. k ≤ 65535) (take i values) n g.small f.small);
      only =
          λ ns k s t.
          same_rest 32 rest n (get_or ns i 0) after (spaced (drop (i + 1) ns)) f
          (next i ns rest (omega arith) s (g.only ns k s t));
    }

-- no next figure
pub going_stops :
    (bytes : List ℕ) (count i : ℕ) (values rest : List ℕ) → i < count → Going bytes count i values rest
    → Reads (32 ∷ []) rest None → FiguresOf count bytes None
going_stops bytes count i values rest l g none ns k s e = none _ _ (next i ns rest (omega arith) s (g.only ns k s e))
