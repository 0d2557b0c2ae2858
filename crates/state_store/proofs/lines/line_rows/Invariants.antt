use Rattle.state_store.proofs.Common.{Ok, Reads, line_view_of, map, take, ◌≡◌}
use Rattle.shipment_machine.specs.Effect.{lines_for}
use Rattle.state_store.proofs.lines.line_rows.Given as goal

abbrev pub invariant-loop-line : goal.invariant-loop-line
invariant-loop-line g l = Reads {E = Unit {0}} g.S.StateStore.storing l.fn.store l.store (Ok l.rows.items) (λ s rows. rows ≡ map (line_view_of s.cargo l.flight) (lines_for l.here (take l.line-index l.lines)))
