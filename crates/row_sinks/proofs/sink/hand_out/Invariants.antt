use Rattle.std.specs.Vec.Iter.{into_iter_items}
use Rattle.row_sinks.specs.Handed.{HandedOut}
use Rattle.row_sinks.proofs.sink.hand_out.Given as goal

-- what is still to be handed out makes the whole
abbrev pub invariant-loop-row : goal.invariant-loop-row
invariant-loop-row g l = (new : g.row.S.Denot) → HandedOut g.S.Sink.takes (into_iter_items l.row-iterator) l.sink new → HandedOut g.S.Sink.takes l.fn.rows.items l.fn.sink new
