use Rattle.state_store.proofs.Common.{Amount, Cargo, Stored, ap, declaration, free, is_in_shed, less, map, nat_lt, shed_by, shed_row, waybills_of, ℕ, ◌∙◌}
use Rattle.station_core.specs.declared.rows.ShedRow.{ShedRow}
use Rattle.state_store.proofs.Listed.{rows_of}
use Rattle.state_store.proofs.Stored.{stored_is}
use Rattle.state_store.proofs.Walks.{rests_then}
use Rattle.state_store.proofs.telling.shed_rows.Goals as goal

-- the row of a waybill with so much in store
abbrev with_stored : Cargo → ℕ → Amount → ShedRow
with_stored s w stored = record {
  awb = w;
  origin = (declaration s w).origin;
  destination = (declaration s w).destination;
  free = free s.book w;
  built = less stored (free s.book w);
  notified = (declaration s w).notified;
}

pub returns : goal.returns
returns g c = rests_then g.S.StateStore.storing _ _ _ _ c.in_ok-waybills.ensures c.shed_among.ensures (λ s listed rows are law.
    let stored = λ (w : ℕ). stored_is s.cargo.book w (c.conservation_law.ensures s.cargo w law) in
    are ∙ ap (map (shed_by s.cargo)) (c.deref.ensures.value ∙ listed)
    ∙ rows_of (shed_by s.cargo) Stored s.cargo.book (is_in_shed s.cargo) (shed_row s.cargo) (λ w. ap (λ (a : Amount). nat_lt 0 a.pieces) (stored w)) (λ w. ap (with_stored s.cargo w) (stored w)) (waybills_of s.cargo.book))
