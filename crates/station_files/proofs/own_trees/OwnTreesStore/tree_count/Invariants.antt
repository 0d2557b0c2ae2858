use Rattle.station_files.proofs.Common.{Absent, Layout, length, map, slice_index_or, ℕ, ◌<◌, ◌≡◌, ◌≤◌}
use Rattle.station_files.proofs.own_trees.OwnTreesStore.tree_count.Given as goal

abbrev pub invariant-loop-count : goal.invariant-loop-count
invariant-loop-count g l = record {
  low : l.count ≤ length l.self.layouts.items;
  absent : (s : ℕ) → l.count ≤ s → s < length l.self.layouts.items → slice_index_or (map (λ (x : Layout). x.shape) l.self.layouts.items) s Absent ≡ Absent;
}

abbrev pub decreases-loop-count : goal.decreases-loop-count
decreases-loop-count g l = l.count
