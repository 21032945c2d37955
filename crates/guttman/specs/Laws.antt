-- What holds of the trees here, in words of their own: of the choice, of insertion and of deletion, of what is found, of the number of
-- nodes and of the depth. Assumes nothing.
use Rattle.std.specs.Prelude.{◌≡◌, ℕ, ◌+◌, ◌*◌, ◌<◌, ◌≤◌, Bool, true, false, List, ◌∷◌, ◌++◌, length, Some, None, slice_index_or}
use mathlib.Core.List.{Permᴰ}
use Rattle.std.specs.List.{ContainsAt as Has, AllByRecursion}
use Rattle.guttman.specs.Trees.{Tree, sooner, choose, inserted}
use Rattle.guttman.specs.Shape.{least_root, slack_root, pairs, nodes, Shaped, Tight, WellFormed}
use Rattle.guttman.specs.Finding.{reached, passing, Upward}
use Rattle.guttman.specs.Deletion.{Loose, Short, loose_pairs, loose_nodes, CutOut, AfterDeletion}
use Rattle.guttman.specs.Cutting.{deleted}

-- of the extents xs none takes e in sooner than that at i, and it does so sooner than each before it
pub record Soonest {E : Type 0} (size : E → ℕ) (join : E → E → E) (xs : List E) (e : E) (i : ℕ) : Type 0 where
  pub within : i < length xs
  pub best : (k : ℕ) → k < length xs → sooner size join e (slice_index_or xs k e) (slice_index_or xs i e) ≡ false
  pub first : (k : ℕ) → k < i → sooner size join e (slice_index_or xs i e) (slice_index_or xs k e) ≡ true

-- covering is an order in which join gives least upper bounds
pub record Joining {E : Type 0} (join : E → E → E) (covering : E → E → Bool) : Type 0 where
  pub reflexive : (a : E) → covering a a ≡ true
  pub transitive : (a b c : E) → covering a b ≡ true → covering b c ≡ true → covering a c ≡ true
  pub left : (a b : E) → covering (join a b) a ≡ true
  pub right : (a b : E) → covering (join a b) b ≡ true
  pub least : (a b c : E) → covering c a ≡ true → covering c b ≡ true → covering c (join a b) ≡ true

-- after an insertion a well formed tree is well formed, and its pairs are those before and the new one
abbrev pub InsertionKeeps : {E : Type 0} → (E → ℕ) → (E → E → E) → (E → E → Bool) → Type 0
InsertionKeeps {E} size join covering =
    (h : ℕ) (t : Tree E h) (e : E) (c : ℕ) → WellFormed covering h t
    → WellFormed covering (inserted size join h t e c).0 (inserted size join h t e c).1
    × Permᴰ (pairs (inserted size join h t e c).0 (inserted size join h t e c).1) ((e, c) ∷ pairs h t)

-- an insertion goes below the first of the entries that take its extent in soonest
abbrev pub ChoiceSoonest : {E : Type 0} → (E → ℕ) → (E → E → E) → Type 0
ChoiceSoonest {E} size join = (xs : List E) (e : E) → 0 < length xs → Soonest size join xs e (choose size join xs e)

-- a walk that goes below an entry only where its extent passes comes to every pair that passes, and to no other
abbrev pub FindingMissesNone : {E : Type 0} → (E → E → Bool) → Type 0
FindingMissesNone {E} covering = (test : E → Bool) → Upward covering test → (h : ℕ) (t : Tree E h) → WellFormed covering h t → reached test h t ≡ passing test (pairs h t)

-- from two pairs on a tree has at most half as many nodes as pairs, and else one
abbrev pub HalfAsManyNodes : Type 0 → Type 0
HalfAsManyNodes E =
    (h : ℕ) (t : Tree E h) → Shaped (least_root h) h t
    → (2 ≤ length (pairs h t) → 2 * nodes h t ≤ length (pairs h t)) × (length (pairs h t) < 2 → nodes h t ≡ 1)

-- a tree of at most 256 pairs is at most five nodes deep: its height, that of a leaf being 0, is at most 4
abbrev pub FiveDeep : Type 0 → Type 0
FiveDeep E = (h : ℕ) (t : Tree E h) → Shaped (least_root h) h t → length (pairs h t) ≤ 256 → h ≤ 4

-- after a pair was deleted a well formed tree is well formed, and the pairs before are those after and the one
abbrev pub DeletionKeeps : {E : Type 0} → (E → ℕ) → (E → E → E) → (E → E → Bool) → Type 0
DeletionKeeps {E} size join covering =
    (h : ℕ) (t : Tree E h) (e : E) (c : ℕ) (u : (k : ℕ) × Tree E k) → WellFormed covering h t → AfterDeletion size join covering e c h t u
    → WellFormed covering u.0 u.1 × Permᴰ (pairs h t) ((e, c) ∷ pairs u.0 u.1)

-- what the computed way answers: a pair that the tree stores is deleted, and of another it says that there is none
pub record Answered {E : Type 0} (size : E → ℕ) (join : E → E → E) (covering : E → E → Bool) (e : E) (c h : ℕ) (t : Tree E h) : Type 0 where
  pub stored : Has (pairs h t) (e, c) → (u : (k : ℕ) × Tree E k) × (deleted size join covering e c h t ≡ Some u) × AfterDeletion size join covering e c h t u
  pub absent : (Has (pairs h t) (e, c) → ⊥) → deleted size join covering e c h t ≡ None

abbrev pub DeletionAnswers : {E : Type 0} → (E → ℕ) → (E → E → E) → (E → E → Bool) → Type 0
DeletionAnswers {E} size join covering = (h : ℕ) (t : Tree E h) (e : E) (c : ℕ) → WellFormed covering h t → Answered size join covering e c h t

-- what is there while the pairs under what was cut off are still to be inserted again: no pair is lost, no node is added, the root has one
-- entry at least above other nodes, and each node that was cut off has two
pub record Halfway {E : Type 0} (covering : E → E → Bool) (e : E) (c h : ℕ) (t s : Tree E h) (loose : List (Loose E)) : Type 0 where
  pub all : Permᴰ (pairs h t) ((e, c) ∷ (pairs h s ++ loose_pairs loose))
  pub as_many : nodes h s + loose_nodes loose ≡ nodes h t
  pub shape : Shaped (slack_root h) h s
  pub tight : Tight covering h s
  pub short : AllByRecursion Short loose

abbrev pub CutHalfway : {E : Type 0} → (E → E → Bool) → Type 0
CutHalfway {E} covering =
    (h : ℕ) (t s : Tree E h) (e : E) (c : ℕ) (loose : List (Loose E)) → WellFormed covering h t → CutOut covering e c h t s loose → Halfway covering e c h t s loose
