use Rattle.table_state.proofs.Common.{Some, map, noted_by, noted_flight_meant, take, ◌≡◌}
use Rattle.table_state.proofs.writing.flights_noted.Given as goal

abbrev pub invariant-loop-row : goal.invariant-loop-row
invariant-loop-row l = map Some l.all.items ≡ map (λ row. noted_by (noted_flight_meant row)) (take l.row-index l.rows)
