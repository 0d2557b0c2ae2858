use Rattle.state_store.proofs.Common.{asked_by, flat_map, ◌++◌, ◌≡◌}
use Rattle.state_store.proofs.maps.book.MovementBook.waybills.Given as goal

-- the waybills so far and those ahead are all that are asked for
abbrev pub invariant-loop-key : goal.invariant-loop-key
invariant-loop-key l = l.rows.items ++ flat_map (asked_by l.query) l.key-iterator ≡ flat_map (asked_by l.query) l.self.flows.entries
