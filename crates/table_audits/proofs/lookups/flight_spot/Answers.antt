use Rattle.table_audits.proofs.Common.{Equal, Err, IsBinarySearchResult, List, flight_cmp, flight_entry, flight_same, flight_total, get_or, move_meant, subst, ℕ, ◌≡◌}
use Rattle.table_audits.proofs.Searches.{no_entry}
use Rattle.table_audits.proofs.PostedLaws.{found_spot, lost_spot}
use Rattle.table_audits.proofs.lookups.flight_spot.Goals as goal

pub returns-in-Ok : goal.returns-in-Ok
returns-in-Ok c = λ t ws place by columns built names. found_spot t ws c.args.flights.now by (move_meant c.args.row.now) c.in-Ok.at c.in-Ok.ensures.bound
    (λ d. subst (λ (text : List ℕ). flight_cmp (flight_entry (get_or c.args.flights.now c.in-Ok.at d)).0 (text, c.args.row.now.fday) ≡ Equal) c.deref.ensures (c.in-Ok.ensures.place d)) place built names

pub returns-in-Err : goal.returns-in-Err
returns-in-Err c = λ t ws place by columns built names. lost_spot t (move_meant c.args.row.now) columns
    (no_entry flight_cmp flight_total flight_same flight_entry t.flights c.args.flights.now by.flights_are ((move_meant c.args.row.now).flight, c.args.row.now.fday) c.in-Err.field-0 c.in-Err.ensures.bound
    (subst (λ (text : List ℕ). IsBinarySearchResult (λ x. flight_cmp (flight_entry x).0 (text, c.args.row.now.fday)) c.args.flights.now (Err c.in-Err.field-0)) c.deref.ensures c.in-Err.ensures.place)) place built names
