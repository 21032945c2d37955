-- What a look-up answers: `find` for the pairs whose extent meets one, `at` for those that hold a spot. Assumes nothing.
use Rattle.std.specs.Prelude.{◌≡◌, ℕ, ◌<◌, ◌≤◌, Bool, ◌⊎◌, List, length, Ok, Err, Result}
use Rattle.raster.specs.declared.refusal.Refusal.{Refusal}
use Rattle.raster.specs.Refusals.{number}
use Rattle.guttman.specs.Shape.{WellFormed}
use Rattle.guttman.specs.Finding.{reached, passing}
use Rattle.node_rows.specs.Walks.{Finds}
use Rattle.rtree.specs.declared.tree.Tree.{Tree}
use Rattle.rtree.specs.Held.{places_of, tree_of, pairs_of}

module _ {E : Type 0} (covering : E → E → Bool) (test : E → Bool) where
  -- n codes were written to the list l, which is then m: those of the pairs that a walk comes to which goes below an entry only where its
  -- extent passes the test, and so, if the tree is well formed, those of all its pairs that pass, each as often as it is stored
  pub record Looked (t : Tree E) (l : List ℕ) (n : ℕ) (m : List ℕ) : Type 0 where
    pub rows : 2048 ≤ length (places_of t)
    pub room : 256 ≤ length l
    pub walked : Finds (reached test t.root.height (tree_of t)) l n m
    pub all : WellFormed covering t.root.height (tree_of t) → Finds (passing test (pairs_of t)) l n m

  -- why a look-up is refused: the places have fewer than 256 rows, or else the list has fewer than 256 entries
  abbrev pub TurnedAway : Tree E → List ℕ → Refusal → Type 0
  TurnedAway t l x = ((length (places_of t) < 2048) × (number x ≡ 4)) ⊎ ((2048 ≤ length (places_of t)) × (length l < 256) × (number x ≡ 16))

  -- a look-up writes the codes, or it is refused and the list stays
  abbrev pub LookUp : Tree E → List ℕ → Result ℕ Refusal → List ℕ → Type 0
  LookUp t l (Ok n) m = Looked t l n m
  LookUp t l (Err x) m = TurnedAway t l x × (m ≡ l)
