use Rattle.state_store.proofs.Common.{ap, expected_row, map, ◌∙◌}
use Rattle.state_store.proofs.Walks.{rests_then}
use Rattle.state_store.proofs.telling.expected_rows.Goals as goal

pub returns : goal.returns
returns g c = rests_then g.S.StateStore.storing _ _ _ _ c.in_ok-asked.ensures c.expected_among.ensures (λ s listed rows are. (_, listed, are ∙ ap (map (expected_row s.cargo)) c.deref.ensures.value))
