-- The slots of a cache: each is empty, or holds a tile and an ink or nothing for each of its places. Assumes nothing.
use Rattle.std.specs.Prelude.{◌≡◌, ℕ, zero, suc, Bool, false, cond, List, [], ◌∷◌, Some, None, Option, ◌==◌, ◌≢◌, slice_index_or}
use Rattle.std.specs.Option.{option_map}
use Rattle.cache.specs.declared.slot.Slot.{Slot}

-- the ink that a slot has at a place, if it has one
abbrev pub ink_at_lem : Slot → ℕ → Option ℕ
ink_at_lem s k = option_map (λ i. i.value) (slice_index_or s.inks k None)

-- whether a slot's tile is this one
abbrev pub is_tile : Option ℕ → ℕ → Bool
is_tile None t = false
is_tile (Some u) t = u == t

-- the tile of slot i, if there is such a slot and it has one
abbrev pub tile_at : List Slot → ℕ → Option ℕ
tile_at [] i = None
tile_at (s ∷ ss) zero = s.tile
tile_at (s ∷ ss) (suc i) = tile_at ss i

-- whether two slots hold one tile
abbrev pub same_tile : Option ℕ → Option ℕ → Bool
same_tile None o = false
same_tile (Some t) o = is_tile o t

-- no two slots hold one tile
abbrev pub Apart : List Slot → Type 0
Apart ss = (i j : ℕ) → (i ≢ j) → same_tile (tile_at ss i) (tile_at ss j) ≡ false

-- the ink that the slots have at place k of tile t
abbrev pub held : List Slot → ℕ → ℕ → Option ℕ
held [] t k = None
held (s ∷ ss) t k = cond (is_tile s.tile t) (ink_at_lem s k) (held ss t k)
