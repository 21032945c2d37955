-- The choosing steps of the split, over plain lists of sizes, growths and counts. Assumes nothing.
use Rattle.std.specs.Prelude.{◌≡◌, ℕ, ◌+◌, ◌-◌, ◌*◌, ◌<◌, ◌≤◌, cond, List, Some, None, Option, nat_le, nat_lt, slice_index}

-- the group that grows less, then the smaller, then the one with fewer entries, then A; A is letter 65 and B 66
abbrev pub group_for : ℕ → ℕ → ℕ → ℕ → ℕ → ℕ → ℕ
group_for ga gb sa sb na nb =
    cond (nat_lt ga gb) 65 (cond (nat_lt gb ga) 66 (cond (nat_lt sa sb) 65 (cond (nat_lt sb sa) 66 (cond (nat_le na nb) 65 66))))

-- of the first n entries, one with no letter yet; it has the number 0 in the letter's place
abbrev pub Free : List ℕ → ℕ → ℕ → Type 0
Free letters n i = (i < n) × (slice_index letters i ≡ 0)

-- how far the growths of A and B at place i differ
abbrev pub pull : List ℕ → List ℕ → ℕ → ℕ
pull ga gb i = (slice_index ga i - slice_index gb i) + (slice_index gb i - slice_index ga i)

-- the entry whose growths differ most goes next, the first such
pub record Next (ga gb letters : List ℕ) (n i : ℕ) : Type 0 where
  pub free : Free letters n i
  pub most : (j : ℕ) → Free letters n j → pull ga gb j ≤ pull ga gb i
  pub first : (j : ℕ) → j < i → Free letters n j → pull ga gb j < pull ga gb i

-- or there is none left
abbrev pub NextOf : List ℕ → List ℕ → List ℕ → ℕ → Option ℕ → Type 0
NextOf ga gb letters n (Some i) = Next ga gb letters n i
NextOf ga gb letters n None = (j : ℕ) → Free letters n j → ⊥

-- a pair of entries, of which joins has the size of the join at place 9 i + j; pairs go by i and then j
pub record Pair (n i j : ℕ) : Type 0 where
  pub order : i < j
  pub nine : j < 9
  pub before : 9 * i + j < n

-- of two pairs, the size of the join less both sizes is no greater, or is less, for the first; what would be taken away stands on the
-- other side
abbrev pub at_most : List ℕ → List ℕ → ℕ → ℕ → ℕ → ℕ → Type 0
at_most sizes joins k l i j = slice_index joins (9 * k + l) + (slice_index sizes i + slice_index sizes j) ≤ slice_index joins (9 * i + j) + (slice_index sizes k + slice_index sizes l)

abbrev pub below : List ℕ → List ℕ → ℕ → ℕ → ℕ → ℕ → Type 0
below sizes joins k l i j = slice_index joins (9 * k + l) + (slice_index sizes i + slice_index sizes j) < slice_index joins (9 * i + j) + (slice_index sizes k + slice_index sizes l)

-- the seeds have the greatest such number of the pairs before n, and are the first such pair
pub record Seeds (sizes joins : List ℕ) (n i j : ℕ) : Type 0 where
  pub pair : Pair n i j
  pub most : (k l : ℕ) → Pair n k l → at_most sizes joins k l i j
  pub first : (k l : ℕ) → Pair n k l → 9 * k + l < 9 * i + j → below sizes joins k l i j
