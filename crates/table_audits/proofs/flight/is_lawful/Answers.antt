use Rattle.table_audits.proofs.Common.{List, ap, bytes_eq, flight_entry, is_flight_row, not, ℕ, ◌∙◌}
use Rattle.table_audits.proofs.RowValues.{as_tested, unload_is}
use Rattle.table_audits.proofs.flight.is_lawful.Goals as goal

pub returns : goal.returns
returns c =
    let row = flight_entry c.args.row.now in
    as_tested (is_flight_row row) (not (bytes_eq row.1.unload c.args.here.now)) c.is_elsewhere.result c.in-Some.ensures.exact
    (c.is_elsewhere.ensures ∙ ap (λ (u : List ℕ). not (bytes_eq u c.args.here.now)) (unload_is row c.in-Some.one c.in-Some.ensures.value))
