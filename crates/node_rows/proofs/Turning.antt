-- One turn of the walk over the entries of an inner node, below one of which a pair may be cut out. Assumes nothing.
use Rattle.std.proofs.Common.{◌≡◌, ℕ, ◌+◌, ◌-◌, ◌*◌, ◌<◌, ◌≤◌, Bool, true, false, cond, List, length, get_or, take, None, sym, ap, ◌∙◌, subst, subst₂, inl, inr, arith, take_all}
use Rattle.std.specs.List.{AllByRecursion}
use Rattle.std.proofs.ByRecursion.{All-more}
use Rattle.std.proofs.lemmas.Bool.{cases_lt}
use Rattle.extent.specs.declared.entry.Entry.{Entry}
use Rattle.guttman.specs.Shape.{pairs, Filled}
use Rattle.guttman.specs.Laws.{Joining}
use Rattle.guttman.specs.Cutting.{cut}
use Rattle.node_rows.specs.Rows.{row, below, used}
use Rattle.node_rows.specs.Nodes.{Off, Ready, Placed}
use Rattle.node_rows.specs.Removal.{Dropped, Stayed, WasCut}
use Rattle.node_rows.proofs.RowSet.{count_row}
use Rattle.node_rows.proofs.Children.{Child, child_in, child_is, child_placed}
use Rattle.node_rows.proofs.Removing.{sought, cut_inner_none, was_cut_few, was_cut_many}
use Rattle.node_rows.proofs.Settling.{child_filled, child_pairs, was_cut_pairs, was_cut_long, settle_inside, settle_off, settle_placed}

-- what such a turn knows: the rows as they are at it, `now-places` and `now-counts`, are as they were, and d was read at place i of the row
pub record Turn {E : Type 0} (places : List (Entry E)) (counts : List ℕ) (now-places : List (Entry E)) (now-counts : List ℕ) (h at i : ℕ) (d : Entry E) : Type 0 where
  pub ready : Ready places counts
  pub placed : Placed (row places counts) h at
  pub some : h ≡ 0 → ⊥
  pub same : now-places ≡ places
  pub same-counts : now-counts ≡ counts
  pub inside : i < get_or counts at 0
  pub read : d ≡ get_or now-places (8 * at + i) d

pub turn_of : {E : Type 0} {places : List (Entry E)} {counts : List ℕ} {now-places : List (Entry E)} {now-counts : List ℕ} {h at i : ℕ} {d : Entry E} → Ready places counts
    → Placed (row places counts) h at → (h ≡ 0 → ⊥) → now-places ≡ places → now-counts ≡ counts → i < get_or counts at 0 → d ≡ get_or now-places (8 * at + i) d
    → Turn places counts now-places now-counts h at i d
turn_of a b c d e f g = record { ready = a; placed = b; some = c; same = d; same-counts = e; inside = f; read = g }

module _ {E : Type 0} (size : E → ℕ) (join : E → E → E) (covering : E → E → Bool) (e : E) (c : ℕ) {places : List (Entry E)} {counts : List ℕ} {h at : ℕ} where
  pub missed_all : Ready places counts → Placed (row places counts) h at → (h ≡ 0 → ⊥) → (i : ℕ) → get_or counts at 0 ≤ i
      → AllByRecursion (λ x. sought size join covering e c (row places counts) (h - 1) x ≡ None) (take i (row places counts at)) → cut size join covering e c h (below (row places counts) h at) ≡ None
  missed_all ready placed some i l missed =
      let f = row places counts in
      let n = count_row places counts ready at placed.there in
      cut_inner_none size join covering e c f (h - 1) at h (omega (arith, some)) (subst (AllByRecursion (λ x. sought size join covering e c f (h - 1) x ≡ None)) (take_all i (f at) (omega arith)) missed)

  module _ {now-places : List (Entry E)} {now-counts : List ℕ} {i : ℕ} {d : Entry E} (turn : Turn places counts now-places now-counts h at i d) where
    abbrev f : ℕ → List (Entry E)
    f = row places counts

    abbrev k : ℕ
    k = h - 1

    -- nothing is found below the first i entries
    abbrev pub Missed : ℕ → Type 0
    Missed i = AllByRecursion (λ x. sought size join covering e c f k x ≡ None) (take i (f at))

    pub turn_child : Child places counts h k at i d
    turn_child = record { inner = omega (arith, turn.some); within = turn.inside; read = turn.read ∙ ap (λ z. get_or z (8 * at + i) d) turn.same; ready = turn.ready; placed = turn.placed }

    abbrev g : ℕ → List (Entry E)
    g = row now-places now-counts

    pub turn_placed : Placed g k d.code
    turn_placed = subst₂ (λ p q. Placed (row p q) k d.code) (sym turn.same) (sym turn.same-counts) (child_placed turn_child)

    pub turn_filled : AllByRecursion (Filled h) (below f h at) → AllByRecursion (Filled k) (below g k d.code)
    turn_filled all = subst₂ (λ p q. AllByRecursion (Filled k) (below (row p q) k d.code)) (sym turn.same) (sym turn.same-counts) (child_filled turn_child all).1

    pub turn_pairs : length (pairs k (below g k d.code)) ≤ length (pairs h (below f h at))
    turn_pairs = subst₂ (λ p q. length (pairs k (below (row p q) k d.code)) ≤ length (pairs h (below f h at))) (sym turn.same) (sym turn.same-counts) (child_pairs turn_child)

    -- nothing is found below the entry either
    missed_more : Missed i → sought size join covering e c f k d ≡ None → Missed (i + 1)
    missed_more missed none =
        let P : Entry E → Type 0 = λ x. sought size join covering e c f k x ≡ None in
        All-more P (f at) i d (child_in turn_child) missed (subst P (sym (child_is turn_child)) none)

    pub missed_apart : Missed i → covering d.extent e ≡ false → Missed (i + 1)
    missed_apart missed z = missed_more missed (ap (λ b. cond b (cut size join covering e c k (below f k d.code)) None) z)

    pub missed_below : Missed i → covering d.extent e ≡ true → cut size join covering e c k (below g k d.code) ≡ None → Missed (i + 1)
    missed_below missed z none =
        missed_more missed (ap (λ b. cond b (cut size join covering e c k (below f k d.code)) None) z
        ∙ subst₂ (λ p q. cut size join covering e c k (below (row p q) k d.code) ≡ None) turn.same turn.same-counts none)

    -- the pair was cut out below the entry
    module _ {places₁ : List (Entry E)} {counts₁ : List ℕ} {again₁ : List (Entry E)} {n₁ : ℕ} (found : WasCut now-places now-counts places₁ counts₁ size join covering e c k d.code again₁ n₁) where
      abbrev f₁ : ℕ → List (Entry E)
      f₁ = row places₁ counts₁

      w : WasCut places counts places₁ counts₁ size join covering e c k d.code again₁ n₁
      w = subst₂ (λ p q. WasCut p q places₁ counts₁ size join covering e c k d.code again₁ n₁) turn.same turn.same-counts found

      pub turn_inside : i < get_or counts₁ at 0
      turn_inside = settle_inside size join covering e c turn_child w

      pub turn_off : Off at (used f₁ k d.code)
      turn_off = settle_off size join covering e c turn_child w

      module _ (laws : Joining join covering) (antisymmetric : (a b : E) → covering a b ≡ true → covering b a ≡ true → a ≡ b) (filled : AllByRecursion (Filled h) (below f h at)) where
        pub turn_left : Placed f₁ k d.code
        turn_left = settle_placed size join covering e c turn_child w (let a = was_cut_long size join covering laws antisymmetric e c w 3 (child_filled turn_child filled) in omega arith)

        pub turn_room : (m : ℕ) → length (pairs h (below f h at)) ≤ m → n₁ + length (pairs k (below f₁ k d.code)) ≤ m
        turn_room m few = let a = was_cut_pairs size join covering laws antisymmetric e c w in let b = child_pairs turn_child in omega arith

      pub turn_found : {places₃ : List (Entry E)} {counts₃ : List ℕ} {again₃ : List (Entry E)} {n₃ : ℕ} → Missed i → covering d.extent e ≡ true
          → (get_or counts₁ d.code 0 < 3 → Dropped places₁ counts₁ places₃ counts₃ k d.code at i again₁ n₁ again₃ n₃)
          → (3 ≤ get_or counts₁ d.code 0 → ((x : E) → Stayed places₁ counts₁ places₃ counts₃ size join d.code at i x) × (again₃ ≡ again₁) × (n₃ ≡ n₁))
          → WasCut places counts places₃ counts₃ size join covering e c h at again₃ n₃
      turn_found {places₃} {counts₃} {again₃} {n₃} missed covers few enough =
          let l = count_row places₁ counts₁ w.out.ready d.code (child_placed turn_child).there in
          elim (cases_lt (get_or counts₁ d.code 0) 3) [
            | inl s ↦ was_cut_few size join covering e c turn_child covers missed w (omega arith) (few s)
            | inr s ↦
                let a = enough s in
                subst₂ (WasCut places counts places₃ counts₃ size join covering e c h at) (sym a.1) (sym a.2)
                (was_cut_many size join covering e c turn_child covers missed w (omega arith) (a.0 e))
          ]
