-- Nodes in rows of eight places, and the tree that is read out of them. The lent places lie one after the other, those of row r from
-- place 8 r on, and counts says how many of them a row uses. In a leaf an entry's code is the stored one, above that it is the row of
-- the entry's node. Assumes nothing.
use Rattle.std.specs.Prelude.{ℕ, zero, suc, ◌*◌, List, [], ◌∷◌, map, take, drop, slice_index}
use Rattle.std.specs.List.{flat_map}
use Rattle.extent.specs.declared.entry.Entry.{Entry}
use Rattle.guttman.specs.Trees.{Item, Tree}

module _ {E : Type 0} where
  -- the entries of row r
  abbrev pub row : List (Entry E) → List ℕ → ℕ → List (Entry E)
  row places counts r = take (slice_index counts r) (drop (8 * r) places)

  -- what the code of an entry stands for in a node of height h, where f gives each row's entries
  abbrev pub item : (ℕ → List (Entry E)) → (h : ℕ) → ℕ → Item E h
  item f zero c = c
  item f (suc h) c = map (λ e. (e.extent, item f h e.code)) (f c)

  -- the tree of height h whose root lies in row r
  abbrev pub below : (ℕ → List (Entry E)) → (h : ℕ) → ℕ → Tree E h
  below f h r = map (λ e. (e.extent, item f h e.code)) (f r)

  -- the rows of the nodes under these entries, which are those of a node of height h
  abbrev pub under : (ℕ → List (Entry E)) → ℕ → List (Entry E) → List ℕ
  under f zero es = []
  under f (suc h) es = flat_map (λ e. e.code ∷ under f h (f e.code)) es

  -- the rows in use: that of the root, and one for each entry of an inner node
  abbrev pub used : (ℕ → List (Entry E)) → ℕ → ℕ → List ℕ
  used f h r = r ∷ under f h (f r)
