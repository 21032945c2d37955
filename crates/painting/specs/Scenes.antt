-- The drawing that a scene lends. Assumes nothing.
use Rattle.std.specs.Prelude.{ℕ, cond, List, None, Option, nat_lt, slice_index_or}
use Rattle.std.specs.Option.{option_map}
use Rattle.painting.specs.declared.scene.Scene.{Scene}
use Rattle.painting.specs.declared.scene.Placed.{Placed}
use Rattle.painting.specs.declared.scene.Span.{Span}
use Rattle.painting.specs.Drawing.{Drawing, Item, Turn}

-- what stands at a number: there are 256 numbers, however long the table is
abbrev pub at_number : {A : Type 0} → List (Option A) → ℕ → Option A
at_number table n = cond (nat_lt n 256) (slice_index_or table n None) None

abbrev pub item : Placed → Item
item p = record { shape = p.shape; ink = p.ink.value }

abbrev pub turn : Span → Turn
turn s = record { shape = s.shape; from = s.from; to = s.to; ink = s.ink.value }

abbrev pub drawing : Scene → Drawing
drawing s = record {
  font = s.font.now.rows;
  shapes = λ n. option_map item (at_number s.shapes.now n);
  spans = λ n. option_map turn (at_number s.spans.now n);
  frame = s.frame;
}
