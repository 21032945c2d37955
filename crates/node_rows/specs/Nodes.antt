-- Rows in use, and what becomes of them when an entry is added below one. A row is in use where it has entries. Assumes nothing.
use Rattle.std.specs.Prelude.{◌≡◌, ℕ, zero, suc, ◌+◌, ◌*◌, ◌/◌, ◌<◌, ◌≤◌, true, false, List, [], ◌∷◌, ◌++◌, map, length, take, drop, Some, None, Option, ◌≢◌, slice_index, slice_index_or, slice_set}
use Rattle.std.specs.List.{flat_map, AllByRecursion}
use Rattle.extent.specs.declared.entry.Entry.{Entry}
use Rattle.quadratic.specs.Split.{part}
use Rattle.guttman.specs.Trees.{Item, Tree, Grown, One, Two, add, insert, rooted}
use Rattle.guttman.specs.Shape.{Shaped, pairs}
use Rattle.node_rows.specs.Rows.{row, item, below, under, used}

-- q is none of the rows
abbrev pub Off : ℕ → List ℕ → Type 0
Off q rs = AllByRecursion (λ k. q ≢ k) rs

-- no row stands twice
abbrev pub Distinct : List ℕ → Type 0
Distinct [] = Unit {0}
Distinct (r ∷ rs) = Off r rs × Distinct rs

-- how many rows are not in use
abbrev pub idle : ℕ → ℕ
idle zero = 1
idle (suc n) = 0

abbrev pub spare : List ℕ → ℕ
spare [] = 0
spare (n ∷ ns) = idle n + spare ns

-- the row of a node, and the new one if the node was split
abbrev pub halves : ℕ → Option ℕ → List ℕ
halves r None = r ∷ []
halves r (Some s) = r ∷ s ∷ []

module _ {E : Type 0} where
  abbrev pub extents_in : List (Entry E) → List E
  extents_in es = map (λ e. e.extent) es

  -- an entry of a node of height h, as it is read out
  abbrev pub seen : (ℕ → List (Entry E)) → (h : ℕ) → Entry E → E × Item E h
  seen f h e = (e.extent, item f h e.code)

  -- places for 256 rows, and for each row a count of at most eight
  pub record Ready (places : List (Entry E)) (counts : List ℕ) : Type 0 where
    pub long : 2048 ≤ length places
    pub wide : length counts ≡ 256
    pub within : (q : ℕ) → slice_index counts q ≤ 8

  -- each place holds what it held, but those of the rows rs
  abbrev pub Untouched : List (Entry E) → List (Entry E) → List ℕ → Type 0
  Untouched places places' rs = (p : ℕ) (d : Entry E) → Off (p / 8) rs → slice_index_or places' p d ≡ slice_index_or places p d

  -- a row that is there and in use
  abbrev pub Live : (ℕ → List (Entry E)) → ℕ → Type 0
  Live f q = (q < 256) × (0 < length (f q))

  -- the entries of a row, and of the new one if it was split
  abbrev pub rows_of : (ℕ → List (Entry E)) → ℕ → Option ℕ → Grown (List (Entry E))
  rows_of f r None = One (f r)
  rows_of f r (Some s) = Two (f r) (f s)

  -- the tree at a row, and at the new one if it was split
  abbrev pub trees_of : (ℕ → List (Entry E)) → (h : ℕ) → ℕ → Option ℕ → Grown (Tree E h)
  trees_of f h r None = One (below f h r)
  trees_of f h r (Some s) = Two (below f h r) (below f h s)

  -- the rows of a tree are there, distinct, and in use, but that a lone leaf may be empty
  pub record Placed (f : ℕ → List (Entry E)) (h r : ℕ) : Type 0 where
    pub there : r < 256
    pub full : 0 < h → 0 < length (f r)
    pub live : AllByRecursion (Live f) (under f h (f r))
    pub apart : Distinct (used f h r)

  -- the rows of a tree that was at r, and is now at the rows rs. No row changed that was in use elsewhere, and none of those is taken; those
  -- taken are distinct and in use; no row is given up, and a row that is not taken is as it was
  pub record Kept (f f' : ℕ → List (Entry E)) (h r : ℕ) (rs : List ℕ) : Type 0 where
    pub frame : (q : ℕ) → Off q (used f h r) → 0 < length (f q) → f' q ≡ f q
    pub off : (q : ℕ) → Off q (used f h r) → 0 < length (f q) → Off q (flat_map (used f' h) rs)
    pub apart : Distinct (flat_map (used f' h) rs)
    pub live : AllByRecursion (Live f') (flat_map (used f' h) rs)
    pub more : (q : ℕ) → Off q (flat_map (used f' h) rs) → Off q (used f h r)
    pub rest : (q : ℕ) → Off q (flat_map (used f' h) rs) → f' q ≡ f q

  -- what a tree in rows keeps: it stores n pairs, at most 256, its root has at least `low` entries and the other nodes three, and a row
  -- outside it has none
  pub record Standing (low : ℕ → ℕ) (f : ℕ → List (Entry E)) (h r n : ℕ) : Type 0 where
    pub placed : Placed f h r
    pub shape : Shaped (low h) h (below f h r)
    pub count : n ≡ length (pairs h (below f h r))
    pub few : n ≤ 256
    pub clear : (q : ℕ) → Off q (used f h r) → length (f q) ≡ 0

-- the rows before and after a call: `places` and `counts`, and then `places'` and `counts'`
module _ {E : Type 0} (places : List (Entry E)) (counts : List ℕ) (places' : List (Entry E)) (counts' : List ℕ) where
  -- an entry was written behind those of a row, which it now has too
  pub record Pushed (at : ℕ) (x : Entry E) : Type 0 where
    pub stored : places' ≡ slice_set places (8 * at + slice_index counts at) x
    pub counted : counts' ≡ slice_set counts at (slice_index counts at + 1)

  -- an entry was added to the row `at` or, if its letter is not A, to the row `to`; no other row changed, and none of the places of `at` past its end
  pub record Laid (at to letter : ℕ) (x : Entry E) : Type 0 where
    pub ready : Ready places' counts'
    pub a : row places' counts' at ≡ row places counts at ++ part true (letter ∷ []) (x ∷ [])
    pub b : row places' counts' to ≡ row places counts to ++ part false (letter ∷ []) (x ∷ [])
    pub others : (q : ℕ) → (q ≢ at) → (q ≢ to) → row places' counts' q ≡ row places counts q
    pub ahead : (j : ℕ) (d : Entry E) → slice_index counts at < j → j < 8 → slice_index_or places' (8 * at + j) d ≡ slice_index_or places (8 * at + j) d
    pub memory : Untouched places places' (at ∷ to ∷ [])

  -- of the eight entries that stood at the row `at`, the first n went by their letters to that row, which was empty, or to the row `to`
  pub record Scattered (at to n : ℕ) (letters : List ℕ) : Type 0 where
    pub ready : Ready places' counts'
    pub a : row places' counts' at ≡ part true (take n letters) (take n (drop (8 * at) places))
    pub b : row places' counts' to ≡ part false (take n letters) (take n (drop (8 * at) places))
    pub others : (q : ℕ) → (q ≢ at) → (q ≢ to) → row places' counts' q ≡ row places counts q
    pub ahead : (j : ℕ) (d : Entry E) → n ≤ j → j < 8 → slice_index_or places' (8 * at + j) d ≡ slice_index_or places (8 * at + j) d
    pub memory : Untouched places places' (at ∷ to ∷ [])

  -- a row that was not in use has these entries; no other row changed
  pub record SetUp (at : ℕ) (es : List (Entry E)) : Type 0 where
    pub ready : Ready places' counts'
    pub spares : spare counts ≤ spare counts' + 1
    pub here : row places' counts' at ≡ es
    pub others : (q : ℕ) → (q ≢ at) → row places' counts' q ≡ row places counts q
    pub memory : Untouched places places' (at ∷ [])

  module _ (size : E → ℕ) (join : E → E → E) where
    -- an entry was added to the row r: the new row, if there is one, was not in use, and no other row changed
    pub record Dealt (r : ℕ) (o : Option ℕ) (y : Entry E) : Type 0 where
      pub ready : Ready places' counts'
      pub spares : spare counts ≤ spare counts' + 1
      pub is : rows_of (row places' counts') r o ≡ add size join (λ e. e.extent) (row places counts r) y
      pub others : (q : ℕ) → Off q (halves r o) → row places' counts' q ≡ row places counts q
      pub clear : (q : ℕ) → 0 < length (row places counts q) → (q ≢ r) → Off q (halves r o)
      pub distinct : Distinct (halves r o)
      pub live : AllByRecursion (Live (row places' counts')) (halves r o)
      pub memory : Untouched places places' (halves r o)

    -- the tree at r, and at the new row, is what the insertion makes of it
    pub record Inserted (h r : ℕ) (o : Option ℕ) (y : Entry E) : Type 0 where
      pub ready : Ready places' counts'
      pub spares : spare counts ≤ spare counts' + (h + 1)
      pub is : trees_of (row places' counts') h r o ≡ insert size join h (below (row places counts) h r) y.extent y.code
      pub kept : Kept (row places counts) (row places' counts') h r (halves r o)
      pub memory : Untouched places places' (flat_map (used (row places' counts') h) (halves r o))

    -- an entry was added to the tree at r, of height h, whose root is then r', of height h'
    pub record Added (h r h' r' : ℕ) (y : Entry E) : Type 0 where
      pub ready : Ready places' counts'
      pub spares : spare counts ≤ spare counts' + (h + 2)
      pub is : ◌≡◌ {A = (k : ℕ) × Tree E k} (h', below (row places' counts') h' r') (rooted size join h y.extent (insert size join h (below (row places counts) h r) y.extent y.code))
      pub frame : (q : ℕ) → Off q (used (row places counts) h r) → 0 < length (row places counts q) → row places' counts' q ≡ row places counts q
      pub off : (q : ℕ) → Off q (used (row places counts) h r) → 0 < length (row places counts q) → Off q (used (row places' counts') h' r')
      pub apart : Distinct (used (row places' counts') h' r')
      pub live : AllByRecursion (Live (row places' counts')) (used (row places' counts') h' r')
      pub more : (q : ℕ) → Off q (used (row places' counts') h' r') → Off q (used (row places counts) h r)
      pub rest : (q : ℕ) → Off q (used (row places' counts') h' r') → row places' counts' q ≡ row places counts q
      pub memory : Untouched places places' (used (row places' counts') h' r')
