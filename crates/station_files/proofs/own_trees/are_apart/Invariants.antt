use Rattle.std.proofs.Common.{◌≡◌, ◌<◌, ℕ, length, slice_index}
use Rattle.station_files.proofs.own_trees.are_apart.Given as goal

abbrev pub invariant-loop-at : goal.invariant-loop-at
invariant-loop-at l = record {
  few : length l.numbers < 65536;
  low : (t : ℕ) → t < l.at → slice_index l.numbers t < 65536;
  apart : (s t : ℕ) → s < l.at → t < l.at → slice_index l.numbers s ≡ slice_index l.numbers t → s ≡ t;
}
