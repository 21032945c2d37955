-- The tree that is held, and what a call makes of it. A tree is read out of the rows that it takes; 256 rows have 2,048 places. Assumes
-- nothing.
use Rattle.std.specs.Prelude.{◌≡◌, ℕ, ◌+◌, ◌<◌, ◌≤◌, Bool, ◌⊎◌, List, [], ◌∷◌, length, Ok, Err, Result}
use mathlib.Core.List.{Permᴰ}
use Rattle.raster.specs.declared.refusal.Refusal.{Refusal}
use Rattle.raster.specs.Refusals.{number}
use Rattle.extent.specs.declared.entry.Entry.{Entry}
use Rattle.guttman.specs.Trees.{Tree as Pure, inserted}
use Rattle.guttman.specs.Shape.{pairs, WellFormed}
use Rattle.node_rows.specs.Rows.{row, below, used}
use Rattle.node_rows.specs.Nodes.{Distinct, Untouched}
use Rattle.rtree.specs.declared.tree.Tree.{Tree}

module _ {E : Type 0} where
  -- the lent places
  abbrev pub places_of : Tree E → List (Entry E)
  places_of t = t.rows.places.now

  -- the tree that is read out of them, and the rows that it takes
  abbrev pub tree_of : (t : Tree E) → Pure E t.root.height
  tree_of t = below (row (places_of t) t.rows.counts) t.root.height t.root.row

  abbrev pub taken : Tree E → List ℕ
  taken t = used (row (places_of t) t.rows.counts) t.root.height t.root.row

  -- the pairs that it stores
  abbrev pub pairs_of : Tree E → List (E × ℕ)
  pairs_of t = pairs t.root.height (tree_of t)

  -- a new tree is an empty leaf, over places that are as they were
  pub record Empty (places : List (Entry E)) (t : Tree E) : Type 0 where
    pub tree : ◌≡◌ {A = (k : ℕ) × Pure E k} (t.root.height, tree_of t) (0, [])
    pub stored : t.stored ≡ 0
    pub same : places_of t ≡ places
    pub formed : (covering : E → E → Bool) → WellFormed covering t.root.height (tree_of t)

  module _ (size : E → ℕ) (join : E → E → E) (covering : E → E → Bool) where
    -- a pair was stored: the tree is that of Guttman's insertion, it stores the pair and those that it stored, and if it was well formed, it
    -- is; no row is taken twice, and a place of a row that is not taken holds what it held
    pub record Stored (t : Tree E) (e : E) (c : ℕ) (t' : Tree E) : Type 0 where
      pub rows : 2048 ≤ length (places_of t)
      pub room : t.stored < 256
      pub tree : ◌≡◌ {A = (k : ℕ) × Pure E k} (t'.root.height, tree_of t') (inserted size join t.root.height (tree_of t) e c)
      pub stored : t'.stored ≡ t.stored + 1
      pub pair : Permᴰ (pairs_of t') ((e, c) ∷ pairs_of t)
      pub formed : WellFormed covering t.root.height (tree_of t) → WellFormed covering t'.root.height (tree_of t')
      pub apart : Distinct (taken t')
      pub long : length (places_of t') ≡ length (places_of t)
      pub memory : Untouched (places_of t) (places_of t') (taken t')

    -- why a pair is refused: the places have fewer than 256 rows, or else 256 pairs are stored
    abbrev pub Refused : Tree E → Refusal → Type 0
    Refused t x = ((length (places_of t) < 2048) × (number x ≡ 4)) ⊎ ((2048 ≤ length (places_of t)) × (t.stored ≡ 256) × (number x ≡ 14))

    -- a pair is stored, or it is refused and nothing changes
    abbrev pub Insertion : Tree E → E → ℕ → Result Unit Refusal → Tree E → Type 0
    Insertion t e c (Ok u) t' = Stored t e c t'
    Insertion t e c (Err x) t' = Refused t x × (t' ≡ t)
