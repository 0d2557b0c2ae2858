use Rattle.station_files.proofs.Common.{Layout, length, slice_index, slice_index_or, ℕ, ◌<◌, ◌≡◌}
use Rattle.station_files.proofs.own_trees.lay_out_each.Given as goal

abbrev pub invariant-loop-at : goal.invariant-loop-at
invariant-loop-at g l = record {
  all : length l.layouts ≡ length l.numbers;
  each : (t : ℕ) (d : Layout) → t < l.at → ((slice_index_or l.layouts t d).shape ≡ (g.S.Store.view l.store).shape (slice_index l.numbers t))
      × ((slice_index_or l.layouts t d).reals ≡ (g.S.Store.view l.store).reals (slice_index l.numbers t));
}
