-- Each reference case, by computing both sides. Assumes nothing.
use Rattle.std.proofs.Common.{refl, lit<}
use Rattle.raster.specs.Fonts.{rows_of}
use Rattle.raster.specs.Lines.{pixels}
use Rattle.painting.specs.Drawing.{topmost}
use Rattle.quadratic.specs.Split.{worse, keep_worse, seeds_before, keep_pulled, next_before, letter_for, growth, sizes, join_sizes_lem, growths, seeds, started, next, goes_to_a, given, shared_one, shared, split9}
use Rattle.reference.specs.Cases.{ReferenceCases, SplitCases}

pub cases_hold : ReferenceCases
unfolding pixels rows_of topmost
cases_hold = record {
  line_there = refl;
  line_back = refl;
  line_steep = refl;
  glyph_zero = ((lit< tt, refl), refl, refl, refl);
  ink_nine = (refl, refl, refl);
  tiles = (refl, refl);
  span_frames = (refl, refl, refl, refl);
}

pub split_cases_hold : SplitCases
unfolding worse keep_worse seeds_before keep_pulled next_before letter_for growth sizes join_sizes_lem growths seeds started next goes_to_a given shared_one shared split9
split_cases_hold = record { nine_frames = refl }
