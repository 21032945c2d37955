-- A node that something was added to, as one node or as the two that it was split into. Assumes nothing.
use Rattle.std.specs.Prelude.{ℕ, ◌+◌, Bool, List, ◌++◌, map}
use Rattle.std.specs.List.{AllByRecursion}
use Rattle.guttman.specs.Trees.{Tree, Grown, One, Two}
use Rattle.guttman.specs.Shape.{Sized, nodes, Filled, Exact}

module _ {Z : Type 0} where
  -- all its entries
  abbrev pub flat : Grown (List Z) → List Z
  flat (One t) = t
  flat (Two s t) = s ++ t

  -- one node has from low to eight entries, and each of two from three to eight
  abbrev pub SizedGrown : ℕ → Grown (List Z) → Type 0
  SizedGrown low (One t) = Sized low t
  SizedGrown low (Two s t) = Sized 3 s × Sized 3 t

  abbrev pub AllGrown : (Z → Type 0) → Grown (List Z) → Type 0
  AllGrown P (One t) = AllByRecursion P t
  AllGrown P (Two s t) = AllByRecursion P s × AllByRecursion P t

-- its entries read another way
abbrev pub mapped : {Z W : Type 0} → (Z → W) → Grown (List Z) → Grown (List W)
mapped φ (One t) = One (map φ t)
mapped φ (Two s t) = Two (map φ s) (map φ t)

-- each node has as many entries as it may, where one that was not split may have only low
abbrev pub ShapedGrown : {E : Type 0} → ℕ → (h : ℕ) → Grown (Tree E h) → Type 0
ShapedGrown low h g = SizedGrown low g × AllGrown (Filled h) g

abbrev pub TightGrown : {E : Type 0} → (E → E → Bool) → (h : ℕ) → Grown (Tree E h) → Type 0
TightGrown covering h g = AllGrown (Exact covering h) g

-- how many nodes the one tree has, or the two have
abbrev pub nodes_grown : {E : Type 0} → (h : ℕ) → Grown (Tree E h) → ℕ
nodes_grown h (One t) = nodes h t
nodes_grown h (Two s t) = nodes h s + nodes h t
