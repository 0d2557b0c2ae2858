use Rattle.table_audits.proofs.Common.{AreGood, AreMovesTaken, BookAudit, HasFlights, HasWaybills, IsBookAs, Known, List, MoveRow, Reading, Tables, before, map, move_meant, refl, subst, sym, true, ◌≡◌}
use Rattle.table_audits.specs.declared.name.TableName.TheVariants as table
use Rattle.table_audits.proofs.Tables.{are, bad, missing, tested, moves_table}
use Rattle.table_audits.proofs.book.is_good.Goals as goal

-- the moves that were read, with the tables before them
book_read : (db : Reading) (known : Known) (audit : BookAudit) (rows : List MoveRow) → AreMovesTaken known.beside audit rows → HasWaybills known db → HasFlights known db
    → (t : Tables) → AreGood db t (before table.Moves) → t.moves ≡ map move_meant rows → IsBookAs t t.moves audit audit.are_good
book_read db known audit rows taken waybills flights t so is = subst (λ ms. IsBookAs t ms audit audit.are_good) (sym is) (taken t (record {
  up = waybills.0;
  waybills_are = waybills.1 t so.1.1;
  within = so.0.lawful.rows;
  flights_are = flights t so;
}))

pub returns-in_default-clause-read : goal.returns-in_default-clause-read
returns-in_default-clause-read g c = λ clean up so_far knows. missing (moves_table _) so_far (rw c.in_default.is at c.in_ok-audit.ensures.read clean up)

pub returns-in_default-judged-clause-read : goal.returns-in_default-judged-clause-read
returns-in_default-judged-clause-read g c = λ clean up so_far knows.
    let read = c.in_ok-audit.ensures.read clean up in
    let moves = rw c.in-Some.is at read.0 in
    let exact = rw (c.deref.ensures.value, c.in_default-judged.is) at c.judged.ensures.exact in
    (bad (moves_table _) so_far _ moves.1 (λ t so is. exact t (book_read _ c.args.known.now c.in-Some.audit moves.0 moves.2 knows.1 knows.2 t so is) so.0.lawful.rows (knows.2 t so)), read.1)

pub returns-clause-read : goal.returns-clause-read
returns-clause-read g c = λ clean up so_far knows.
    let read = c.in_ok-audit.ensures.read clean up in
    let moves = rw c.in-Some.is at read.0 in
    let book : (t : Tables) → AreGood _ t (before table.Moves) → t.moves ≡ map move_meant moves.0 → IsBookAs t t.moves c.in-Some.audit c.in-Some.audit.are_good = book_read _ c.args.known.now c.in-Some.audit moves.0 moves.2 knows.1 knows.2 in
    let exact = rw (c.deref.ensures.value, c.in-Some-judged.is) at c.judged.ensures.exact in
    let sums = rw c.in-Some-judged.is at c.judged.ensures.sums in
    let count = rw c.in-Some-judged.is at c.judged.ensures.moves in
    (tested (moves_table _) so_far _ moves.1 true (λ t so is. exact t (book t so is) so.0.lawful.rows (knows.2 t so)) (refl, (knows.0, knows.1, knows.2, λ t so. let whole = book t so.1 (are (moves_table _) so_far _ moves.1 t so.0.held) in (sums t whole, count t whole))), read.1)
