use Rattle.table_load.proofs.Common.{drop, is_some, map, places_by_name, ◌≡◌}
use Rattle.table_load.proofs.query.has_columns.Given as goal

abbrev pub invariant-loop-name : goal.invariant-loop-name
invariant-loop-name l = is_some (places_by_name l.table (map (λ n. n.now) l.names)) ≡ is_some (places_by_name l.table (map (λ n. n.now) (drop l.name-index l.names)))
