use Rattle.row_codec.proofs.Common.{build_meant, filter, is_loaded, load_said, map, row_said, take, ◌≡◌}
use Rattle.row_codec.proofs.loading.loads_in.Given as goal

abbrev pub invariant-loop-row : goal.invariant-loop-row
invariant-loop-row l = map load_said l.loads.items ≡ filter is_loaded (map row_said (map build_meant (take l.row-index l.rows)))
