-- One way to delete a pair: in a walk that goes below an entry only where its extent covers the pair's, the first copy that it comes to
-- goes, the last entry of a node takes the place of one that goes, and cut off nodes are noted from the leaf up. Assumes nothing.
use Rattle.std.specs.Prelude.{◌≡◌, ℕ, zero, suc, ◌<◌, ◌≤◌, Bool, cond, not, ◌&&◌, List, [], ◌∷◌, ◌++◌, map, length, take, Some, None, Option, ◌==◌, nat_lt, slice_index_or, slice_set}
use Rattle.std.specs.List.{range_with_len, prefix_len}
use Rattle.guttman.specs.Trees.{Tree, extents, bound}
use Rattle.guttman.specs.Deletion.{Loose, loose_pairs, lowered, inserted_all}

-- the element at place i goes, and the last one takes its place
abbrev pub without : {X : Type 0} → List X → ℕ → List X
without [] i = []
without (x ∷ xs) i = take (length xs) (slice_set (x ∷ xs) i (slice_index_or (x ∷ xs) (length xs) x))

-- of the elements to which f gives something, what it gives to the first, with its place
abbrev pub or_later : {Y : Type 0} → Option Y → Option (ℕ × Y) → Option (ℕ × Y)
or_later (Some y) later = Some (0, y)
or_later None None = None
or_later None (Some r) = Some (suc r.0, r.1)

abbrev pub first_some : {X Y : Type 0} → (X → Option Y) → List X → Option (ℕ × Y)
first_some f [] = None
first_some f (x ∷ xs) = or_later (f x) (first_some f xs)

-- what is left of a node, and what was cut off under it
abbrev pub Remains : Type 0 → ℕ → Type 0
Remains E h = Tree E h × List (Loose E)

-- what was cut off when t became r: the height of each is its place, from the leaf up, and it is as many as there are levels below if an
-- entry of t itself is gone
pub record Climbing {E : Type 0} (h : ℕ) (t : Tree E h) (r : Remains E h) : Type 0 where
  pub numbered : map (λ o. o.0) r.1 ≡ range_with_len 0 (length r.1)
  pub within : length r.1 ≤ h
  pub lost : length r.0 < length t → length r.1 ≡ h

-- what becomes of a leaf in which the pair stands first at i
abbrev pub cut_leaf : {E : Type 0} → Tree E 0 → ℕ → Option (Remains E 0)
cut_leaf t i = cond (nat_lt i (length t)) (Some (without t i, [])) None

-- whether an entry of a leaf is the pair of e and c
abbrev pub is_pair : {E : Type 0} → (E → E → Bool) → E → ℕ → E × ℕ → Bool
is_pair covering e c p = (covering p.0 e && covering e p.0) && p.1 == c

module _ {E : Type 0} (size : E → ℕ) (join : E → E → E) where
  -- what becomes of an inner node whose entry at i has r left under it
  abbrev pub cut_at : E → (h : ℕ) → Tree E (suc h) → ℕ → Remains E h → Remains E (suc h)
  cut_at e h t i r = cond (nat_lt (length r.0) 3) (without t i, r.1 ++ ((h, r.0) ∷ [])) (slice_set t i (bound size join e (extents r.0), r.0), r.1)

  abbrev pub cut_inner : E → (h : ℕ) → Tree E (suc h) → Option (ℕ × Remains E h) → Option (Remains E (suc h))
  cut_inner e h t None = None
  cut_inner e h t (Some r) = Some (cut_at e h t r.0 r.1)

  -- what was cut off is inserted again, in the order in which it was noted, and a root with one child gives way
  abbrev pub mended : (h : ℕ) → Option (Remains E h) → Option ((k : ℕ) × Tree E k)
  mended h None = None
  mended h (Some r) = Some (lowered (inserted_all size join (h, r.0) (loose_pairs r.1)).0 (inserted_all size join (h, r.0) (loose_pairs r.1)).1)

  module _ (covering : E → E → Bool) (e : E) (c : ℕ) where
    -- the pair is cut out of a tree, if it is there
    abbrev pub cut : (h : ℕ) → Tree E h → Option (Remains E h)
    cut zero t = cut_leaf t (prefix_len (λ p. not (is_pair covering e c p)) t)
    cut (suc h) t = cut_inner e h t (first_some (λ p. cond (covering p.0 e) (cut h p.1) None) t)

    -- and the tree is mended
    abbrev pub deleted : (h : ℕ) → Tree E h → Option ((k : ℕ) × Tree E k)
    deleted h t = mended h (cut h t)
