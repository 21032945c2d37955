-- Trees whose leaves are equally deep, and what it is to insert into one, to the letter of Guttman's R-tree. A kind of extents is given by
-- its size and its join. Assumes nothing.
use Rattle.std.specs.Prelude.{ℕ, zero, suc, Bool, true, false, cond, List, [], ◌∷◌, ◌++◌, map, length, get_or, fold, nat_lt, slice_index_or, slice_set}
use Rattle.std.specs.List.{range_with_len, best_of}
use Rattle.quadratic.specs.Split.{growth, split9, part}

-- what stands beside the extent of an entry: its code in a leaf, and above that the entries of its node
abbrev pub Item : Type 0 → ℕ → Type 0
Item E zero = ℕ
Item E (suc h) = List (E × Item E h)

-- a tree of the height h: the entries of its root
abbrev pub Tree : Type 0 → ℕ → Type 0
Tree E h = List (E × Item E h)

-- a node to which an entry was added: it is one node still, or it was split
pub data Grown (X : Type 0) : Type 0 where
  One : X → Grown X
  Two : X → X → Grown X

abbrev pub extents : {E X : Type 0} → List (E × X) → List E
extents es = map (λ p. p.0) es

module _ {E : Type 0} (size : E → ℕ) (join : E → E → E) where
  -- the join of some extents
  abbrev pub bound : E → List E → E
  bound none [] = none
  bound none (x ∷ xs) = fold join x xs

  -- whether x takes e in before y does: it grows less, or as much and is smaller
  unfoldable pub sooner : E → E → E → Bool
  sooner e x y =
      cond (nat_lt (growth size join x e) (growth size join y e)) true
      (cond (nat_lt (growth size join y e) (growth size join x e)) false (nat_lt (size x) (size y)))

  -- the entry below which e goes: least growth, then smaller size, then the first
  unfoldable pub choose : List E → E → ℕ
  choose xs e = best_of (λ i k. sooner e (slice_index_or xs i e) (slice_index_or xs k e)) 0 (range_with_len 0 (length xs))

  -- an entry comes to the end of a node; a node of nine, whose extents `extent` gives, is split
  unfoldable pub add : {Z : Type 0} → (Z → E) → List Z → Z → Grown (List Z)
  add extent es y =
      cond (nat_lt (length es) 8) (One (es ++ (y ∷ [])))
      (Two (part true (split9 size join (λ i. get_or (map extent es) i (extent y))) (es ++ (y ∷ [])))
      (part false (split9 size join (λ i. get_or (map extent es) i (extent y))) (es ++ (y ∷ []))))

  -- entry i has its node after the insertion, with the join of its extents, and where that was split another entry is added
  abbrev pub renewed : {X : Type 0} → List (E × List (E × X)) → ℕ → E → Grown (List (E × X)) → Grown (List (E × List (E × X)))
  renewed es i e (One s) = One (slice_set es i (bound e (extents s), s))
  renewed es i e (Two s t) = add (λ p. p.0) (slice_set es i (bound e (extents s), s)) (bound e (extents t), t)

  -- the pair of e and c is inserted into a tree, whose root may be split by it
  abbrev pub insert : (h : ℕ) → Tree E h → E → ℕ → Grown (Tree E h)
  insert zero t e c = add (λ p. p.0) t (e, c)
  insert (suc h) t e c = renewed t (choose (extents t) e) e (insert h (get_or t (choose (extents t) e) (e, [])).1 e c)

  -- a root that was split has a new root above it
  abbrev pub rooted : (h : ℕ) → E → Grown (Tree E h) → (k : ℕ) × Tree E k
  rooted h e (One t) = (h, t)
  rooted h e (Two s t) = (suc h, (bound e (extents s), s) ∷ (bound e (extents t), t) ∷ [])

  -- the tree after the insertion of a pair, with its height
  abbrev pub inserted : (h : ℕ) → Tree E h → E → ℕ → (k : ℕ) × Tree E k
  inserted h t e c = rooted h e (insert h t e c)
