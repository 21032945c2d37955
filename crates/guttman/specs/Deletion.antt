-- What it is to delete a pair from a tree: one copy of it goes out of a leaf, nodes that are left with too few entries are cut off, and the
-- pairs under those are inserted again. Free are the order in which they are, the order of the entries in a node, and which copy goes.
-- Assumes nothing.
use Rattle.std.specs.Prelude.{◌≡◌, ℕ, zero, suc, ◌<◌, ◌≤◌, Bool, List, [], ◌∷◌, length, fold, sum_by}
use mathlib.Core.List.{Permᴰ}
use Rattle.std.specs.List.{flat_map, AllByRecursion}
use Rattle.guttman.specs.Trees.{Tree, extents, inserted}
use Rattle.guttman.specs.Shape.{pairs, nodes, Filled, IsJoin}

-- a node that was cut off, with its height
abbrev pub Loose : Type 0 → Type 0
Loose E = (k : ℕ) × Tree E k

abbrev pub loose_pairs : {E : Type 0} → List (Loose E) → List (E × ℕ)
loose_pairs os = flat_map (λ o. pairs o.0 o.1) os

abbrev pub loose_nodes : {E : Type 0} → List (Loose E) → ℕ
loose_nodes os = sum_by (λ o. nodes o.0 o.1) os

-- it has two entries, of the three at least that it had, and the nodes under it have as many as they may
abbrev pub Short : {E : Type 0} → Loose E → Type 0
Short o = (length o.1 ≡ 2) × AllByRecursion (Filled o.0) o.1

module _ {E : Type 0} (covering : E → E → Bool) where
  -- an inner node t becomes s: one of its entries has `node` left of its node, from under which `below` was cut off. With three entries or
  -- more the node stays, under their join; with fewer it is cut off with the others
  pub record PassedUp (h : ℕ) (Under : Tree E h → Tree E h → List (Loose E) → Type 0) (t s : Tree E (suc h)) (loose : List (Loose E)) : Type 0 where
    pub through : E × Tree E h
    pub others : Tree E (suc h)
    pub node : Tree E h
    pub below : List (Loose E)
    pub before : Permᴰ t (through ∷ others)
    pub cut : Under through.1 node below
    pub stays : 3 ≤ length node → (x : E) × IsJoin covering x (extents node) × Permᴰ s ((x, node) ∷ others) × (loose ≡ below)
    pub goes : length node < 3 → Permᴰ s others × Permᴰ loose ((h, node) ∷ below)

  -- the pair of e and c is cut out of the node t, which leaves s and what was cut off under it
  abbrev pub CutOut : E → ℕ → (h : ℕ) → Tree E h → Tree E h → List (Loose E) → Type 0
  CutOut e c zero t s loose = Permᴰ t ((e, c) ∷ s) × (loose ≡ [])
  CutOut e c (suc h) t s loose = PassedUp h (CutOut e c h) t s loose

-- a root with one child gives way to it, as often as that holds
abbrev pub lowered : {E : Type 0} → (h : ℕ) → Tree E h → (k : ℕ) × Tree E k
lowered zero t = (0, t)
lowered (suc h) [] = (suc h, [])
lowered (suc h) (p ∷ []) = lowered h p.1
lowered (suc h) (p ∷ q ∷ t) = (suc h, p ∷ q ∷ t)

module _ {E : Type 0} (size : E → ℕ) (join : E → E → E) where
  -- the pairs ps are inserted one by one
  abbrev pub inserted_all : (k : ℕ) × Tree E k → List (E × ℕ) → (k : ℕ) × Tree E k
  inserted_all t ps = fold (λ t p. inserted size join t.0 t.1 p.0 p.1) t ps

  -- u is the tree t after the pair of e and c was deleted
  pub record AfterDeletion (covering : E → E → Bool) (e : E) (c : ℕ) (h : ℕ) (t : Tree E h) (u : (k : ℕ) × Tree E k) : Type 0 where
    pub rest : Tree E h
    pub loose : List (Loose E)
    pub cut : CutOut covering e c h t rest loose
    pub order : List (E × ℕ)
    pub again : Permᴰ order (loose_pairs loose)
    pub is : u ≡ lowered (inserted_all (h, rest) order).0 (inserted_all (h, rest) order).1
