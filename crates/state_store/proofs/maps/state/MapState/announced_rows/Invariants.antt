use Rattle.state_store.proofs.Common.{IsSummed, announced_by, flat_map, ◌++◌, ◌≡◌}
use Rattle.state_store.proofs.maps.state.MapState.announced_rows.Given as goal

-- the rows so far and those ahead are all
abbrev pub invariant-loop-key : goal.invariant-loop-key
invariant-loop-key l = IsSummed l.self.book → l.rows.items ++ flat_map (announced_by l.self.book.moves.items) l.key-iterator ≡ flat_map (announced_by l.self.book.moves.items) l.self.declared.entries
