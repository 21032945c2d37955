-- What a tree stores, and what it is for it to be well formed. Assumes nothing.
use Rattle.std.specs.Prelude.{◌≡◌, ℕ, zero, suc, ◌+◌, ◌≤◌, Bool, true, List, [], ◌∷◌, length, sum_by}
use Rattle.std.specs.List.{flat_map, AllByRecursion}
use Rattle.guttman.specs.Trees.{Item, Tree, extents}

-- from low to eight entries
abbrev pub Sized : {X : Type 0} → ℕ → List X → Type 0
Sized low es = (low ≤ length es) × (length es ≤ 8)

-- the fewest entries of a root: none in a leaf, and two above other nodes
abbrev pub least_root : ℕ → ℕ
least_root zero = 0
least_root (suc h) = 2

-- and while pairs are taken out and inserted again: one above other nodes
abbrev pub slack_root : ℕ → ℕ
slack_root zero = 0
slack_root (suc h) = 1

module _ {E : Type 0} where
  -- the pairs that an entry stands for: in a leaf it is one itself, above that it has all that are under its node
  abbrev pub leaves : (h : ℕ) → E × Item E h → List (E × ℕ)
  leaves zero p = p ∷ []
  leaves (suc h) p = flat_map (leaves h) p.1

  -- the pairs that a tree stores
  abbrev pub pairs : (h : ℕ) → Tree E h → List (E × ℕ)
  pairs h t = flat_map (leaves h) t

  -- how many nodes an entry has under it, its own included, and a tree
  abbrev pub nodes_of : (h : ℕ) → E × Item E h → ℕ
  nodes_of zero p = 0
  nodes_of (suc h) p = 1 + sum_by (nodes_of h) p.1

  abbrev pub nodes : (h : ℕ) → Tree E h → ℕ
  nodes h t = 1 + sum_by (nodes_of h) t

  -- each node under an entry has three to eight entries
  abbrev pub Filled : (h : ℕ) → E × Item E h → Type 0
  Filled zero p = Unit {0}
  Filled (suc h) p = Sized 3 p.1 × AllByRecursion (Filled h) p.1

  -- so has each node of a tree but the root, which has from low to eight
  abbrev pub Shaped : ℕ → (h : ℕ) → Tree E h → Type 0
  Shaped low h t = Sized low t × AllByRecursion (Filled h) t

  -- e is the join of the extents xs: it covers them all, and is covered by all that covers them all
  pub record IsJoin (covering : E → E → Bool) (e : E) (xs : List E) : Type 0 where
    pub above : AllByRecursion (λ x. covering e x ≡ true) xs
    pub least : (u : E) → AllByRecursion (λ x. covering u x ≡ true) xs → covering u e ≡ true

  -- the extent of an inner entry, and of each one under it, is the join of its node's extents
  abbrev pub Exact : (E → E → Bool) → (h : ℕ) → E × Item E h → Type 0
  Exact covering zero p = Unit {0}
  Exact covering (suc h) p = IsJoin covering p.0 (extents p.1) × AllByRecursion (Exact covering h) p.1

  abbrev pub Tight : (E → E → Bool) → (h : ℕ) → Tree E h → Type 0
  Tight covering h t = AllByRecursion (Exact covering h) t

  -- a tree is well formed: its leaves are equally deep, as they are in every tree here; its nodes have as many entries as they may; and
  -- its inner extents are exact
  pub record WellFormed (covering : E → E → Bool) (h : ℕ) (t : Tree E h) : Type 0 where
    pub shape : Shaped (least_root h) h t
    pub tight : Tight covering h t
