use Rattle.table_audits.proofs.Common.{AreFlightsOf, book_in, build_meant, listed_in, refl, subst}
use Rattle.table_audits.proofs.Listed.{flights_are}
use Rattle.table_audits.proofs.Made.{builds_compared}
use Rattle.table_audits.proofs.Tables.{missing, tested, build_table}
use Rattle.table_audits.proofs.builds.is_good.Goals as goal

pub returns-in_default-clause-read : goal.returns-in_default-clause-read
returns-in_default-clause-read g c = λ clean up so_far knows. missing (build_table _) so_far (rw c.in_default.is at c.in_ok-rows.ensures.read clean up)

pub returns-clause-read : goal.returns-clause-read
returns-clause-read g c = λ clean up so_far knows.
    let read = c.in_ok-rows.ensures.read clean up in
    let same = rw (c.deref.ensures.value, c.deref-2.ensures.value) at c.are_same.ensures.same in (
      tested (build_table _) so_far _ (rw c.in-Some.is at read.0) c.are_same.result (λ t so is. builds_compared build_meant c.args.known.now.book.sums t _ (listed_in t) (book_in t.moves) _ _ same c.are_same.ensures.ordered
          (subst (AreFlightsOf (listed_in t)) (knows.1 t so.1.1.1.1.1.1.1.1) (flights_are t.flights so.1.1.1.1.1.1.1.1.0.lawful.rows)) (knows.2 t so.1.1.1.1.1.1.1).0 is) (refl, (knows.0, knows.2, knows.3, knows.4)),
      read.1,
    )
