use Rattle.state_store.proofs.Common.{flat_map, loaded, ◌++◌, ◌≡◌}
use Rattle.state_store.proofs.maps.listed.loads_in.Given as goal

-- the loads so far and those ahead are all
abbrev pub invariant-loop-key : goal.invariant-loop-key
invariant-loop-key l = l.rows.items ++ flat_map loaded l.key-iterator ≡ flat_map loaded l.flows.entries
