use Rattle.table_audits.proofs.Common.{book_in, listed_in, refl}
use Rattle.table_audits.proofs.Compared.{counts_compared}
use Rattle.table_audits.proofs.Tables.{missing, tested, counts_table}
use Rattle.table_audits.proofs.counts.is_good.Goals as goal

pub returns-in_default-clause-read : goal.returns-in_default-clause-read
returns-in_default-clause-read g c = λ clean up so_far knows. missing (counts_table _) so_far (rw c.in_default.is at c.in_ok-rows.ensures.read clean up)

pub returns-clause-read : goal.returns-clause-read
returns-clause-read g c = λ clean up so_far knows.
    let read = c.in_ok-rows.ensures.read clean up in
    let same = rw c.deref.ensures.value at c.are_same.ensures.same in
    (tested (counts_table _) so_far _ (rw c.in-Some.is at read.0) c.are_same.result (λ t so is. counts_compared c.args.known.now.book.sums t (listed_in t) (book_in t.moves) _ _ same c.are_same.ensures.ordered (knows.2 t so.1.1.1.1.1.1).0 is) (refl, knows), read.1)
