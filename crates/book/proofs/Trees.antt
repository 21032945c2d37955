-- The trees of a sheet name its shapes and spans through every change, and a tile is painted from what they find. Assumes nothing.
use Rattle.std.proofs.Common.{◌≡◌, ℕ, ◌<◌, Bool, true, ◌&&◌, ltb, leb, List, [], ◌∷◌, Some, None, sym, ap, ◌∙◌, subst}
use mathlib.Core.List.Perm
use mathlib.Core.List.{Perm}
use Rattle.std.proofs.lemmas.Bool.{and_from, lt-ltb, le-leb}
use Rattle.raster.specs.Sizes.{tile_of}
use Rattle.extent.specs.Axis.{touches}
use Rattle.extent.specs.Boxes.{Within, Edges}
use Rattle.extent.specs.declared.plane_box.PlaneBox.{PlaneBox}
use Rattle.extent.specs.declared.interval.Interval.{Interval}
use Rattle.painting.specs.Drawing.{Drawing, Item, Turn, topmost, span_ink, shape_ink, ruling, painting}
use Rattle.book.specs.Tiles.{tile_box, meets}
use Rattle.book.specs.Book.{Book, bare, with_shape, with_span, with_frame}
use Rattle.book.specs.Sound.{Sound}
use Rattle.book.specs.Past.{listed}
use Rattle.book.specs.Naming.{box_of, frames_of, NamesEach}
use Rattle.book.proofs.Boxes.{fits_within, found_meets}
use Rattle.book.proofs.Found.{found_ink, painting_found, ruling_found}
use Rattle.book.proofs.Naming.{numbered_none, passing_numbers, passes, named_gained, named_lost, named_changed, named_found}

pub names_bare : NamesEach bare [] []
names_bare = record { shapes = subst (Perm []) (sym (numbered_none box_of 256)) (Perm.refl []); spans = subst (Perm []) (sym (numbered_none frames_of 256)) (Perm.refl []) }

module _ (d : Drawing) (boxes : List (PlaneBox × ℕ)) (intervals : List (Interval × ℕ)) (h : NamesEach d boxes intervals) where
  pub names_added : (n : ℕ) (item : Item) (more : List (PlaneBox × ℕ)) → n < 256 → d.shapes n ≡ None → Perm more ((box_of item, n) ∷ boxes) → NamesEach (with_shape d n (Some item)) more intervals
  names_added n item more l e q = record { shapes = named_gained box_of d.shapes n 256 item boxes more l e h.shapes q; spans = h.spans }

  pub names_removed : (n : ℕ) (item : Item) (fewer : List (PlaneBox × ℕ)) → n < 256 → d.shapes n ≡ Some item → Perm boxes ((box_of item, n) ∷ fewer) → NamesEach (with_shape d n None) fewer intervals
  names_removed n item fewer l e q = record { shapes = named_lost box_of d.shapes n 256 item boxes fewer l e h.shapes q; spans = h.spans }

  pub names_changed : (n : ℕ) (old new : Item) (rest others : List (PlaneBox × ℕ)) → n < 256 → d.shapes n ≡ Some old → Perm boxes ((box_of old, n) ∷ rest) → Perm others ((box_of new, n) ∷ rest)
      → NamesEach (with_shape d n (Some new)) others intervals
  names_changed n old new rest others l e q r = record { shapes = named_changed box_of d.shapes n 256 old new boxes rest others l e h.shapes q r; spans = h.spans }

  pub names_spanned : (s : ℕ) (turn : Turn) (more : List (Interval × ℕ)) → s < 256 → d.spans s ≡ None → Perm more ((frames_of turn, s) ∷ intervals) → NamesEach (with_span d s (Some turn)) boxes more
  names_spanned s turn more l e q = record { shapes = h.shapes; spans = named_gained frames_of d.spans s 256 turn intervals more l e h.spans q }

  pub names_unspanned : (s : ℕ) (turn : Turn) (fewer : List (Interval × ℕ)) → s < 256 → d.spans s ≡ Some turn → Perm intervals ((frames_of turn, s) ∷ fewer) → NamesEach (with_span d s None) boxes fewer
  names_unspanned s turn fewer l e q = record { shapes = h.shapes; spans = named_lost frames_of d.spans s 256 turn intervals fewer l e h.spans q }

  pub names_turned : (frame : ℕ) → NamesEach (with_frame d frame) boxes intervals
  names_turned frame = record { shapes = h.shapes; spans = h.spans }

-- a stored box meets a box, and stored frames hold a frame
abbrev pub meeting_box : PlaneBox → PlaneBox → Bool
meeting_box e f = touches f.left f.right e.left e.right && touches f.top f.bottom e.top e.bottom

abbrev pub holding_frame : ℕ → Interval → Bool
holding_frame frame i = leb i.first frame && leb frame i.last

module _ (b : Book) (sound : Sound b) (opened : b.opened ≡ true) (boxes : List (PlaneBox × ℕ)) (intervals : List (Interval × ℕ)) (h : NamesEach b.drawing boxes intervals) where
  -- every shape that meets a tile is found by the tile's box
  pub tile_finds : (t : ℕ) (e : PlaneBox) → Within (tile_box b.wide b.high t) → Edges (tile_box b.wide b.high t) e
      → (n : ℕ) (item : Item) → n < 256 → b.drawing.shapes n ≡ Some item → meets b.wide b.high t item.shape ≡ true → listed (passing_numbers (meeting_box e) boxes) n ≡ true
  tile_finds t e w g n item l q m =
      let within = fits_within b.wide b.high item (sound.wide opened).limit (sound.high opened).limit (sound.shapes n item q) in
      named_found box_of (meeting_box e) b.drawing.shapes n 256 boxes h.shapes
      ∙ and_from (ltb n 256) _ (lt-ltb n 256 l) (ap (passes box_of (meeting_box e)) q ∙ found_meets b.wide b.high t item e w within g ∙ m)

  -- so a pixel of the tile has its ink from the shapes found
  pub painting_of_found : (t : ℕ) (e : PlaneBox) (x y : ℕ) → Within (tile_box b.wide b.high t) → Edges (tile_box b.wide b.high t) e → x < b.wide → y < b.high → tile_of b.wide x y ≡ t
      → topmost (found_ink (listed (passing_numbers (meeting_box e) boxes)) (λ n. shape_ink b.drawing x y (b.drawing.shapes n) n)) 0 256 ≡ painting b.drawing x y
  painting_of_found t e x y w g hx hy at =
      painting_found b.drawing b.wide b.high x y _ hx hy (λ n item l q m. tile_finds t e w g n item l q (sym (ap (λ v. meets b.wide b.high v item.shape) at) ∙ m))

  -- and a shape its ruling ink from the spans found at the frame
  pub ruling_of_found : (n own : ℕ) → topmost (found_ink (listed (passing_numbers (holding_frame b.drawing.frame) intervals)) (λ s. span_ink (b.drawing.spans s) n b.drawing.frame)) own 256 ≡ ruling b.drawing n own
  ruling_of_found n own = ruling_found b.drawing n own _ (λ s turn l q from to.
      named_found frames_of (holding_frame b.drawing.frame) b.drawing.spans s 256 intervals h.spans
      ∙ and_from (ltb s 256) _ (lt-ltb s 256 l) (ap (passes frames_of (holding_frame b.drawing.frame)) q ∙ and_from _ _ (le-leb turn.from b.drawing.frame from) (le-leb b.drawing.frame turn.to to)))
