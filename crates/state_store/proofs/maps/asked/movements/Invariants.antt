use Rattle.state_store.proofs.Common.{book_row, drop, first_movement, flat_map, if_movement, length, numbered, ◌++◌, ◌+◌, ◌≡◌}
use Rattle.state_store.proofs.maps.asked.movements.Given as goal

-- the movements so far and those ahead are all that are asked for
abbrev pub invariant-loop-at : goal.invariant-loop-at
invariant-loop-at l =
    l.rows.items ++ flat_map (if_movement l.query) (numbered book_row (l.at + 1) (drop l.at l.moves))
    ≡ flat_map (if_movement l.query) (numbered book_row (first_movement l.query (length l.moves) + 1) (drop (first_movement l.query (length l.moves)) l.moves))
