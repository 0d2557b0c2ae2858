use Rattle.state_store.proofs.Common.{Irregular, ap, irregular_by, irregular_row, is_irregular, map, refl, waybills_of, ◌∙◌}
use Rattle.state_store.proofs.Listed.{rows_of}
use Rattle.state_store.proofs.Walks.{rests_then}
use Rattle.state_store.proofs.telling.irregular_rows.Goals as goal

pub returns : goal.returns
returns g c = rests_then g.S.StateStore.storing _ _ _ _ c.in_ok-waybills.ensures c.irregular_among.ensures (λ s listed rows are.
    are ∙ ap (map (irregular_by s.cargo)) (c.deref.ensures.value ∙ listed)
    ∙ rows_of (irregular_by s.cargo) Irregular s.cargo.book (is_irregular s.cargo) (irregular_row s.cargo) (λ w. refl) (λ w. refl) (waybills_of s.cargo.book))
