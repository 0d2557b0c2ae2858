use Rattle.station_rows.proofs.Common.{map, pieces_read, take, ◌≡◌}
use Rattle.station_rows.proofs.builds.read_all_pieces.Given as goal

abbrev pub invariant-loop-row : goal.invariant-loop-row
invariant-loop-row l = l.all.items ≡ map pieces_read (take l.row-index l.rows)
