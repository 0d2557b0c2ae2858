use Rattle.table_audits.proofs.Common.{IsLawfulTable, Known, Knows, List, Reading, Tables, [], at_rest, natural, new_row, one_row, opening, read_as, refl, state, station_read, sym, to_z-of_z, w64, ℕ, ℤ, ◌∙◌, ◌∷◌, ◌≡◌}
use Rattle.table_audits.specs.declared.name.TableName.TheVariants as table
use Rattle.table_audits.proofs.Judged.{airport_is, is_our_row, mark_is, reads_err, row_stops}
use Rattle.table_audits.proofs.state.found_from.Goals as goal

abbrev with_row : List ℕ → ℤ → Tables
with_row airport confirmed = record (opening airport) { stations = new_row airport confirmed ∷ [] }

-- what is known once the row of `station` is audited
started : (db : Reading) (airport : List ℕ) (confirmed : ℤ) (known : Known) → station_read db ≡ one_row airport confirmed → IsLawfulTable table.Station (with_row airport confirmed) → known.here ≡ airport → known.confirmed ≡ natural confirmed → Knows [] known db
started db airport confirmed known says lawful here mark = (
  (with_row airport confirmed, (record { held = (airport, confirmed, says, refl); lawful = lawful }, tt)),
  λ t so. (airport_is db airport confirmed says t so.0.held ∙ sym here, mark_is db airport confirmed says t so.0.held ∙ sym mark),
)

pub returns-in_default-clause-read : goal.returns-in_default-clause-read
returns-in_default-clause-read g c = λ clean up says. (
  (
    is_our_row (read_as c.args.version (state g.S.Store c.args.conn.now).now) c.args.airport.now c.args.confirmed says,
    row_stops (read_as c.args.version (state g.S.Store c.args.conn.now).now) c.args.airport.now c.args.confirmed says (λ t is lawful. rw c.in_default.is at ((rw (to_z-of_z w64 c.args.confirmed c.ranges.confirmed) at (c.audited_row.ensures.exact t) is).1 lawful)),
  ),
  at_rest (state g.S.Store c.args.conn.now) up,
)

pub returns-in_err-name-clause-read : goal.returns-in_err-name-clause-read
returns-in_err-name-clause-read g c = λ clean up says.
    let db = read_as c.args.version (state g.S.Store c.args.conn.now).now in
    let tz = to_z-of_z w64 c.args.confirmed c.ranges.confirmed in
    let own = rw tz at c.in-Some.ensures.told in
    let lawful = (rw tz at (c.in-Some.ensures.exact (with_row c.args.airport.now c.args.confirmed)) refl).0 refl in
    let knows = started db c.args.airport.now c.args.confirmed c.in-Some.known says lawful own.1 own.2 in
    reads_err (state g.S.Store c.args.conn.now) (state g.S.Store c.judged_tables.new.conn) c.from_residual.result _ c.from_residual.ensures.0 ((rw own.0 at c.in_err-name.ensures.read) clean up (with_row [] c.args.confirmed, tt) knows)

pub returns-in-Err-clause-read : goal.returns-in-Err-clause-read
returns-in-Err-clause-read g c = λ clean up says.
    let db = read_as c.args.version (state g.S.Store c.args.conn.now).now in
    let tz = to_z-of_z w64 c.args.confirmed c.ranges.confirmed in
    let own = rw tz at c.in-Some.ensures.told in
    let lawful = (rw tz at (c.in-Some.ensures.exact (with_row c.args.airport.now c.args.confirmed)) refl).0 refl in
    let knows = started db c.args.airport.now c.args.confirmed c.in-Some.known says lawful own.1 own.2 in
    let told = (rw own.0 at c.in_ok-name.ensures.read) clean up (with_row [] c.args.confirmed, tt) knows in
    ((is_our_row db c.args.airport.now c.args.confirmed says, rw c.in-Err.is at told.0), told.1)

pub returns-clause-read : goal.returns-clause-read
returns-clause-read g c = λ clean up says.
    let db = read_as c.args.version (state g.S.Store c.args.conn.now).now in
    let tz = to_z-of_z w64 c.args.confirmed c.ranges.confirmed in
    let own = rw tz at c.in-Some.ensures.told in
    let lawful = (rw tz at (c.in-Some.ensures.exact (with_row c.args.airport.now c.args.confirmed)) refl).0 refl in
    let knows = started db c.args.airport.now c.args.confirmed c.in-Some.known says lawful own.1 own.2 in
    let told = (rw own.0 at c.in_ok-name.ensures.read) clean up (with_row [] c.args.confirmed, tt) knows in
    (rw c.in-Ok.is at told.0, told.1)
