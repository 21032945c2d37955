-- What a walk over rows of places comes to that goes below an entry only where its extent passes a test, and what it is to find pairs.
-- Assumes nothing.
use Rattle.std.specs.Prelude.{◌≡◌, ℕ, Bool, List, ◌++◌, map, length, drop}
use Rattle.extent.specs.declared.entry.Entry.{Entry}
use Rattle.guttman.specs.Finding.{reached}
use Rattle.node_rows.specs.Rows.{row, below}

module _ {E : Type 0} where
  -- the codes of some pairs
  abbrev pub codes : List (E × ℕ) → List ℕ
  codes ps = map (λ p. p.1) ps

  -- the codes that the walk comes to from row r on, at a node of height h
  abbrev pub codes_below : (E → Bool) → List (Entry E) → List ℕ → (h r : ℕ) → List ℕ
  codes_below test places counts h r = codes (reached test h (below (row places counts) h r))

  -- the pairs ps are found: n is their count, and of the list l the first n entries become their codes, and the later ones remain
  pub record Finds (ps : List (E × ℕ)) (l : List ℕ) (n : ℕ) (m : List ℕ) : Type 0 where
    pub count : n ≡ length ps
    pub list : m ≡ codes ps ++ drop n l
