use Rattle.state_store.proofs.Common.{drop, first_line, flat_map, if_line, length, numbered, trail_in, trail_row, ◌++◌, ◌+◌, ◌≡◌}
use Rattle.state_store.proofs.maps.asked.lines.Given as goal

-- the lines so far and those ahead are all that are asked for
abbrev pub invariant-loop-at : goal.invariant-loop-at
invariant-loop-at l =
    l.rows.items ++ flat_map (if_line l.query) (numbered trail_row (l.at + 1) (drop l.at (trail_in l.trail)))
    ≡ flat_map (if_line l.query) (numbered trail_row (first_line l.query (length l.trail) + 1) (drop (first_line l.query (length l.trail)) (trail_in l.trail)))
