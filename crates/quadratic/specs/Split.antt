-- The quadratic split of nine entries into the groups A and B, to the letter of the rule. An entry's letter is 65, 'A', or 66, 'B', and 0
-- while it has none. A kind of extents is given by its size and its join, and the nine by the extent x i at each place i. Assumes nothing.
use Rattle.std.specs.Prelude.{ℕ, zero, suc, ◌+◌, ◌-◌, ◌*◌, ◌/◌, ◌%◌, Bool, true, false, cond, ltb, List, [], ◌∷◌, map, replicate, Some, None, Option, ◌==◌, nat_lt, slice_index, slice_set}
use Rattle.std.specs.List.{range_with_len}
use Rattle.quadratic.specs.Choosing.{group_for, pull}

-- of two pairs of places, whether the first has the greater size(join) less both sizes
unfoldable pub worse : List ℕ → List ℕ → ℕ × ℕ → ℕ × ℕ → Bool
worse sizes joins p q =
    ltb (slice_index joins (9 * q.0 + q.1) + (slice_index sizes p.0 + slice_index sizes p.1))
    (slice_index joins (9 * p.0 + p.1) + (slice_index sizes q.0 + slice_index sizes q.1))

-- going through the pairs i < j, by i and then j, the pair to keep at place m = 9 i + j
unfoldable pub keep_worse : List ℕ → List ℕ → ℕ → ℕ × ℕ → ℕ × ℕ
keep_worse sizes joins m best = cond (nat_lt (m / 9) (m % 9)) (cond (worse sizes joins (m / 9, m % 9) best) (m / 9, m % 9) best) best

-- the worst pair of those before place n
unfoldable pub seeds_before : List ℕ → List ℕ → ℕ → ℕ × ℕ
seeds_before sizes joins zero = (0, 1)
seeds_before sizes joins (suc m) = keep_worse sizes joins m (seeds_before sizes joins m)

-- the entry to keep when going through the entries that have no letter yet
unfoldable pub keep_pulled : List ℕ → List ℕ → List ℕ → ℕ → Option ℕ → Option ℕ
keep_pulled ga gb letters i None = cond (slice_index letters i == 0) (Some i) None
keep_pulled ga gb letters i (Some k) = cond (slice_index letters i == 0) (cond (nat_lt (pull ga gb k) (pull ga gb i)) (Some i) (Some k)) (Some k)

-- of the first n entries, the one that goes next
unfoldable pub next_before : List ℕ → List ℕ → List ℕ → ℕ → Option ℕ
next_before ga gb letters zero = None
next_before ga gb letters (suc i) = keep_pulled ga gb letters i (next_before ga gb letters i)

-- how the nine are shared out so far: their letters, and of each group its extent and its count
pub record Groups (E : Type 0) : Type 0 where
  pub letters : List ℕ
  pub a : E
  pub b : E
  pub na : ℕ
  pub nb : ℕ

-- how many of the nine remain
abbrev pub remaining : ℕ → ℕ → ℕ
remaining na nb = 9 - (na + nb)

-- a group whose count plus the remaining is three gets all of them; else the group is chosen
unfoldable pub letter_for : ℕ → ℕ → ℕ → ℕ → ℕ → ℕ → ℕ
letter_for ga gb sa sb na nb =
    cond (na + remaining na nb == 3) 65 (cond (nb + remaining na nb == 3) 66 (group_for ga gb sa sb na nb))

module _ {E : Type 0} (size : E → ℕ) (join : E → E → E) where
  -- by how much an extent grows that takes another in
  unfoldable pub growth : E → E → ℕ
  growth a e = size (join a e) - size a

  module _ (x : ℕ → E) where
    unfoldable pub sizes : List ℕ
    sizes = map (λ i. size (x i)) (range_with_len 0 9)

    -- the size of the join of i and j at place 9 i + j
    unfoldable pub join_sizes_lem : List ℕ
    join_sizes_lem = map (λ m. size (join (x (m / 9)) (x (m % 9)))) (range_with_len 0 81)

    unfoldable pub growths : E → List ℕ
    growths a = map (λ i. growth a (x i)) (range_with_len 0 9)

    unfoldable pub seeds : ℕ × ℕ
    seeds = seeds_before sizes join_sizes_lem 81

    -- each seed starts a group
    unfoldable pub started : ℕ × ℕ → Groups E
    started s = record { letters = slice_set (slice_set (replicate 9 0) s.0 65) s.1 66; a = x s.0; b = x s.1; na = 1; nb = 1 }

    unfoldable pub next : Groups E → Option ℕ
    next g = next_before (growths g.a) (growths g.b) g.letters 9

    -- the group that entry i goes to is A
    unfoldable pub goes_to_a : Groups E → ℕ → Bool
    goes_to_a g i = letter_for (growth g.a (x i)) (growth g.b (x i)) (size g.a) (size g.b) g.na g.nb == 65

    -- entry i goes to A, or to B
    unfoldable pub given : Groups E → ℕ → Bool → Groups E
    given g i true = record { letters = slice_set g.letters i 65; a = join g.a (x i); b = g.b; na = g.na + 1; nb = g.nb }
    given g i false = record { letters = slice_set g.letters i 66; a = g.a; b = join g.b (x i); na = g.na; nb = g.nb + 1 }

    unfoldable pub shared_one : Groups E → Option ℕ → Groups E
    shared_one g None = g
    shared_one g (Some i) = given g i (goes_to_a g i)

    -- after n of the seven others went to a group
    unfoldable pub shared : ℕ → Groups E
    shared zero = started seeds
    shared (suc n) = shared_one (shared n) (next (shared n))

    -- the letters of the nine
    unfoldable pub split9 : List ℕ
    split9 = (shared 7).letters

-- the entries of the group A (of B, at false), in their order
abbrev pub part : {X : Type 0} → Bool → List ℕ → List X → List X
part t [] xs = []
part t (l ∷ ls) [] = []
part true (l ∷ ls) (x ∷ xs) = cond (l == 65) (x ∷ part true ls xs) (part true ls xs)
part false (l ∷ ls) (x ∷ xs) = cond (l == 65) (part false ls xs) (x ∷ part false ls xs)
