-- What becomes of the rows of a tree when a pair is cut out of it: entries leave a row, rows are given up, and pairs are taken down to be
-- inserted again. Assumes nothing.
use Rattle.std.specs.Prelude.{◌≡◌, ℕ, ◌+◌, ◌*◌, Bool, not, ◌⊎◌, List, [], ◌∷◌, ◌++◌, map, length, take, Some, ◌≢◌, slice_index, slice_set}
use Rattle.std.specs.List.{prefix_len, AllByRecursion}
use Rattle.extent.specs.declared.entry.Entry.{Entry}
use Rattle.guttman.specs.Trees.{Tree, bound}
use Rattle.guttman.specs.Shape.{pairs}
use Rattle.guttman.specs.Deletion.{loose_pairs}
use Rattle.guttman.specs.Cutting.{without, Remains, is_pair, cut}
use Rattle.node_rows.specs.Rows.{row, below, under, used}
use Rattle.node_rows.specs.Nodes.{Off, Distinct, extents_in, Ready, Untouched, Live}

-- the rows rs have no entry now, and no other row's count changed
pub record Freed (counts counts' : List ℕ) (rs : List ℕ) : Type 0 where
  pub gone : (q : ℕ) → Off q rs ⊎ (slice_index counts' q ≡ 0)
  pub rest : (q : ℕ) → Off q rs → slice_index counts' q ≡ slice_index counts q

module _ {E : Type 0} where
  -- an entry of a leaf as the pair that it is
  abbrev pub as_pair : Entry E → E × ℕ
  as_pair e = (e.extent, e.code)

  -- the entries of a leaf before the pair of e and c
  abbrev pub before_pair : (E → E → Bool) → E → ℕ → List (Entry E) → ℕ
  before_pair covering e c es = prefix_len (λ x. not (is_pair covering e c (as_pair x))) es

  -- behind the n pairs taken down, these were
  pub record Gathered (again : List (Entry E)) (n : ℕ) (again' : List (Entry E)) (n' : ℕ) (ps : List (E × ℕ)) : Type 0 where
    pub counted : n' ≡ n + length ps
    pub listed : map as_pair (take n' again') ≡ map as_pair (take n again) ++ ps

  -- a tree took the rows rs, and now takes rs': no new one, no row changed elsewhere, and a row that was given up has no entry
  pub record Pruned (f f' : ℕ → List (Entry E)) (rs rs' : List ℕ) : Type 0 where
    pub frame : (q : ℕ) → Off q rs → f' q ≡ f q
    pub fewer : (q : ℕ) → Off q rs → Off q rs'
    pub gone : (q : ℕ) → Off q rs' → Off q rs ⊎ (length (f' q) ≡ 0)
    pub apart : Distinct rs'

-- the rows before and after a call: `places` and `counts`, and then `places'` and `counts'`
module _ {E : Type 0} (places : List (Entry E)) (counts : List ℕ) (places' : List (Entry E)) (counts' : List ℕ) where
  -- the entry at place i of the row `at` went, and the last of the row took its place; no other row changed
  pub record TakenOut (at i : ℕ) : Type 0 where
    pub ready : Ready places' counts'
    pub here : row places' counts' at ≡ without (row places counts at) i
    pub others : (q : ℕ) → (q ≢ at) → row places' counts' q ≡ row places counts q
    pub memory : Untouched places places' (at ∷ [])

  -- the tree at r is s now, in rows that it had
  pub record Reduced (h r : ℕ) (s : Tree E h) : Type 0 where
    pub ready : Ready places' counts'
    pub is : below (row places' counts') h r ≡ s
    pub pruned : Pruned (row places counts) (row places' counts') (used (row places counts) h r) (used (row places' counts') h r)
    pub live : AllByRecursion (Live (row places' counts')) (under (row places' counts') h (row places' counts' r))
    pub memory : Untouched places places' (used (row places counts) h r)

  module _ (size : E → ℕ) (join : E → E → E) where
    -- a node in the row c stays, and its entry, at place i of the row `at`, has the join of its extents
    pub record Stayed (c at i : ℕ) (e : E) : Type 0 where
      pub extent : E
      pub is : extent ≡ bound size join e (extents_in (row places counts c))
      pub stored : places' ≡ slice_set places (8 * at + i) (record { extent = extent; code = c })
      pub counted : counts' ≡ counts

    -- the pair of e and c was cut out of the tree at r; n pairs of what was cut off are in `again`
    pub record WasCut (covering : E → E → Bool) (e : E) (c h r : ℕ) (again : List (Entry E)) (n : ℕ) : Type 0 where
      pub left : Remains E h
      pub is : cut size join covering e c h (below (row places counts) h r) ≡ Some left
      pub out : Reduced h r left.0
      pub listed : map as_pair (take n again) ≡ loose_pairs left.1
      pub many : n ≡ length (loose_pairs left.1)

-- a node of height k in the row c was cut off: its pairs were taken down, its rows given up, and its entry, at place i of the row `at`, went
pub record Dropped {E : Type 0} (places : List (Entry E)) (counts : List ℕ) (places' : List (Entry E)) (counts' : List ℕ) (k c at i : ℕ)
    (again : List (Entry E)) (n : ℕ) (again' : List (Entry E)) (n' : ℕ) : Type 0 where
  pub between : List ℕ
  pub wide : length between ≡ 256
  pub freed : Freed counts between (used (row places counts) k c)
  pub taken : TakenOut places between places' counts' at i
  pub gathered : Gathered again n again' n' (pairs k (below (row places counts) k c))
