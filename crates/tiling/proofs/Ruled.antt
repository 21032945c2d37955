-- The ruling inks by the spans that are listed. Assumes nothing.
use Rattle.std.proofs.Common.{◌≡◌, ℕ, ◌+◌, ◌<◌, Bool, true, false, cond, ◌&&◌, ◌⊎◌, ltb, List, is_some, Some, None, Option, unwrap_or, sym, refl, ap, ◌∙◌, ap₂, ⊎_elim}
use Rattle.std.proofs.lemmas.Bool.{lt-ltb}
use Rattle.std.specs.Option.{option_map}
use Rattle.painting.specs.declared.scene.Placed.{Placed}
use Rattle.painting.specs.declared.scene.Span.{Span}
use Rattle.painting.specs.Drawing.{Drawing, Item, topmost, span_ink, ruling}
use Rattle.painting.specs.Scenes.{item, turn, at_number}
use Rattle.painting.proofs.Topmost.{topmost_none, topmost_more, topmost_same}
use Rattle.book.specs.Past.{listed}
use Rattle.book.proofs.Found.{found_ink, ruling_found}
use Rattle.tiling.specs.Found.{if_listed, ShapesOf, SpansOf, SpansListed, shape_or_none, ruling_at, ruled_below, ruled}

-- a small number that is listed
pub listed_here : (found : List ℕ) (n : ℕ) (b : Bool) → n < 256 → b ≡ (ltb n 256 && listed found n) → b ≡ listed found n
listed_here found n b h e = e ∙ ap (λ t. t && listed found n) (lt-ltb n 256 h)

-- what was picked from a table, and then looked at
pub picked : {A B C : Type 0} (f : A → B) (g : Option B → Option C) (b : Bool) (o : Option A) → g None ≡ None → g (option_map f (cond b o None)) ≡ cond b (g (option_map f o)) None
picked f g true o e = refl
picked f g false o e = e

-- a shape keeps what it gets where every own ink gets the same
shape_same : (o : Option Item) (f g : ℕ → ℕ) → ((own : ℕ) → f own ≡ g own) → shape_or_none o f ≡ shape_or_none o g
shape_same None f g h = refl
shape_same (Some p) f g h = h p.ink

pub ruled_none : (shapes : List (Option Placed)) (spans : List (Option Span)) (frame : ℕ) (found : List ℕ) (n : ℕ) → shape_or_none (option_map item (at_number shapes n)) (λ own. own) ≡ ruled_below shapes spans frame found 0 n
ruled_none shapes spans frame found n = shape_same (option_map item (at_number shapes n)) _ _ (λ own. sym (topmost_none _ own))

-- one number more: what was picked there rules the shape, or nothing was picked
pub ruled_more : (shapes : List (Option Placed)) (spans : List (Option Span)) (frame : ℕ) (found : List ℕ) (s n : ℕ) (b : Bool) (span : Option Span) (before after : ℕ)
    → s < 256 → b ≡ (ltb s 256 && listed found s) → span ≡ cond b (at_number spans s) None
    → ((span ≡ None) × (after ≡ before)) ⊎ ((r : Span) × (span ≡ Some r) × (after ≡ cond (is_some (at_number shapes n)) (unwrap_or (span_ink (Some (turn r)) n frame) before) before))
    → before ≡ ruled_below shapes spans frame found s n → after ≡ ruled_below shapes spans frame found (s + 1) n
ruled_more shapes spans frame found s n b span before after h e p q r = go (at_number shapes n) (⊎_elim (none (at_number shapes n)) some q) r
  where
    f : ℕ → Option ℕ
    f = if_listed found (λ m. span_ink (option_map turn (at_number spans m)) n frame)

    here : span_ink (option_map turn span) n frame ≡ f s
    here = ap (λ o. span_ink (option_map turn o) n frame) p
        ∙ picked turn (λ o. span_ink o n frame) b (at_number spans s) refl
        ∙ ap (λ t. cond t (span_ink (option_map turn (at_number spans s)) n frame) None) (listed_here found s b h e)

    none : (o : Option Placed) → (span ≡ None) × (after ≡ before) → after ≡ cond (is_some o) (unwrap_or (span_ink (option_map turn span) n frame) before) before
    none None x = x.1
    none (Some placed) x = x.1 ∙ ap (λ v. unwrap_or (span_ink (option_map turn v) n frame) before) (sym x.0)

    some : (r : Span) × (span ≡ Some r) × (after ≡ cond (is_some (at_number shapes n)) (unwrap_or (span_ink (Some (turn r)) n frame) before) before) → after ≡ cond (is_some (at_number shapes n)) (unwrap_or (span_ink (option_map turn span) n frame) before) before
    some x = x.2 ∙ ap (λ v. cond (is_some (at_number shapes n)) (unwrap_or (span_ink (option_map turn v) n frame) before) before) (sym x.1)

    go : (o : Option Placed) → after ≡ cond (is_some o) (unwrap_or (span_ink (option_map turn span) n frame) before) before → before ≡ shape_or_none (option_map item o) (λ own. topmost f own s)
        → after ≡ shape_or_none (option_map item o) (λ own. topmost f own (s + 1))
    go None x y = x ∙ y
    go (Some placed) x y = x ∙ ap₂ unwrap_or here y ∙ sym (topmost_more f placed.ink.value s)

-- where every span that holds the frame is listed, these are the ruling inks
pub ruled_whole : (shapes : List (Option Placed)) (spans : List (Option Span)) (frame : ℕ) (found : List ℕ) (d : Drawing) → ShapesOf shapes d → SpansOf spans d → d.frame ≡ frame → SpansListed d found
    → (n : ℕ) → n < 256 → ruled shapes spans frame found n ≡ ruling_at d n
ruled_whole shapes spans frame found d has-shapes has-spans e all n h =
    shape_same (option_map item (at_number shapes n)) _ _ (λ own.
    topmost_same _ (found_ink (listed found) (λ s. span_ink (d.spans s) n d.frame)) own 256 (λ s l. ap₂ (λ o m. cond (listed found s) (span_ink o n m) None) (sym (has-spans s l)) (sym e))
    ∙ ruling_found d n own (listed found) all)
    ∙ ap (λ o. shape_or_none o (ruling d n)) (sym (has-shapes n h))
