-- The tree after its root was inserted into. Assumes nothing.
use Rattle.std.proofs.Common.{◌≡◌, ℕ, suc, ◌+◌, ◌/◌, ◌<◌, List, [], ◌∷◌, map, length, get_or, Some, None, sym, ap, ◌∙◌, subst, arith}
use Rattle.std.specs.List.{flat_map, AllByRecursion}
use Rattle.std.proofs.lemmas.List.{append-nil}
use Rattle.std.proofs.ByRecursion.{All-weaker}
use Rattle.extent.specs.declared.entry.Entry.{Entry}
use Rattle.guttman.specs.Trees.{Tree, extents, bound, rooted}
use Rattle.node_rows.specs.Rows.{row, below, under, used}
use Rattle.node_rows.specs.Nodes.{extents_in, seen, Off, Distinct, Live, Inserted, SetUp, Added}
use Rattle.node_rows.proofs.Frames.{same_seen}
use Rattle.node_rows.proofs.RowSet.{count_row}
use Rattle.node_rows.proofs.Refines.{bound_seen}

module _ {E : Type 0} (size : E → ℕ) (join : E → E → E) {places : List (Entry E)} {counts : List ℕ} {places₁ : List (Entry E)} {counts₁ : List ℕ} {h r : ℕ} {y : Entry E} where
  pub added_one : Inserted places counts places₁ counts₁ size join h r None y → Added places counts places₁ counts₁ size join h r h r y
  added_one i =
      let f₁ = row places₁ counts₁ in
      let nil = append-nil (used f₁ h r) in
      let k = i.kept in
      record {
        ready = i.ready;
        spares = let s = i.spares in omega arith;
        is = ap (rooted size join h y.extent) i.is;
        frame = k.frame;
        off = λ q o n. subst (Off q) nil (k.off q o n);
        apart = subst Distinct nil k.apart;
        live = subst (AllByRecursion (Live f₁)) nil k.live;
        more = λ q o. k.more q (subst (Off q) (sym nil) o);
        rest = λ q o. k.rest q (subst (Off q) (sym nil) o);
        memory = λ p d o. i.memory p d (subst (Off (p / 8)) (sym nil) o);
      }

  -- the root was split, and a new one set up in a row that was not in use
  pub added_two : {places₂ : List (Entry E)} {counts₂ : List ℕ} (s top : ℕ) (u v : E) (first second : Entry E) → Inserted places counts places₁ counts₁ size join h r (Some s) y → top < 256 → get_or counts₁ top 0 ≡ 0
      → u ≡ bound size join y.extent (extents_in (row places₁ counts₁ r)) → v ≡ bound size join y.extent (extents_in (row places₁ counts₁ s))
      → first ≡ record { extent = u; code = r } → second ≡ record { extent = v; code = s } → SetUp places₁ counts₁ places₂ counts₂ top (first ∷ second ∷ []) → Added places counts places₂ counts₂ size join h r (h + 1) top y
  added_two {places₂} {counts₂} s top u v first second i there free u-is v-is first-is second_is up =
      let f₁ = row places₁ counts₁ in
      let f₂ = row places₂ counts₂ in
      let e = y.extent in
      let es : List (Entry E) = record { extent = u; code = r } ∷ record { extent = v; code = s } ∷ [] in
      let here : f₂ top ≡ es = up.here ∙ ap (λ z. z ∷ second ∷ []) first-is ∙ ap (λ z. record { extent = u; code = r } ∷ z ∷ []) second_is in
      let us : List ℕ = flat_map (used f₁ h) (r ∷ s ∷ []) in
      let k = i.kept in
      let none : length (f₁ top) ≡ 0 = let c = count_row places₁ counts₁ i.ready top there in omega arith in
      let away : (q : ℕ) → 0 < length (f₁ q) → q ≡ top → ⊥ = λ q n z. let w = ap (λ j. length (f₁ j)) z in omega arith in
      let same : AllByRecursion (λ q. f₂ q ≡ f₁ q) us = All-weaker (Live f₁) (λ q. f₂ q ≡ f₁ q) (λ q l. up.others q (away q l.1)) us k.live in
      let seen-is = same_seen f₁ f₂ (suc h) es same in
      let used-is : used f₂ (suc h) top ≡ top ∷ us = ap (λ z. top ∷ z) (ap (under f₂ (suc h)) here ∙ seen-is.1) in
      let tree : below f₂ (suc h) top ≡ (bound size join e (extents (below f₁ h r)), below f₁ h r) ∷ (bound size join e (extents (below f₁ h s)), below f₁ h s) ∷ [] =
      ap (map (seen f₂ (suc h))) here ∙ seen-is.0
      ∙ ap (λ (w : E). (w, below f₁ h r) ∷ (v, below f₁ h s) ∷ []) (u-is ∙ bound_seen size join f₁ h r e)
      ∙ ap (λ (w : E). (bound size join e (extents (below f₁ h r)), below f₁ h r) ∷ (w, below f₁ h s) ∷ []) (v-is ∙ bound_seen size join f₁ h s e) in
      let out : (q : ℕ) → Off q (used f₂ (suc h) top) → Off q (top ∷ us) = λ q o. subst (Off q) used-is o in
      let taller : suc h ≡ h + 1 = omega arith in
      subst (λ n. Added places counts places₂ counts₂ size join h r n top y) taller (record {
        ready = up.ready;
        spares = let a = i.spares in let b = up.spares in omega arith;
        is = ap (λ (t : Tree E (suc h)). (suc h, t)) tree ∙ ap (rooted size join h e) i.is;
        frame = λ q o n. let w = k.frame q o n in up.others q (away q (subst (λ z. 0 < length z) (sym w) n)) ∙ w;
        off = λ q o n. let w = k.frame q o n in subst (Off q) (sym used-is) (away q (subst (λ z. 0 < length z) (sym w) n), k.off q o n);
        apart = subst Distinct (sym used-is) (All-weaker (Live f₁) (λ q. top ≡ q → ⊥) (λ q l z. away q l.1 (sym z)) us k.live, k.apart);
        live = subst (AllByRecursion (Live f₂)) (sym used-is)
            ((there, let w = ap length here in omega arith), All-weaker (Live f₁) (Live f₂) (λ q l. (l.0, subst (λ z. 0 < length z) (sym (up.others q (away q l.1))) l.1)) us k.live);
        more = λ q o. k.more q (out q o).1;
        rest = λ q o. let w = out q o in up.others q w.0 ∙ k.rest q w.1;
        memory = λ p d o. let w = out (p / 8) o in up.memory p d (w.0, tt) ∙ i.memory p d w.1;
      })
