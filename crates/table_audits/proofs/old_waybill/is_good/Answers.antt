use Rattle.std.proofs.Common.{refl}
use Rattle.table_audits.proofs.Tables.{missing, tested, old_waybill_table}
use Rattle.table_audits.proofs.old_waybill.is_good.Goals as goal

pub returns-in_default-clause-read : goal.returns-in_default-clause-read
returns-in_default-clause-read g c = λ clean up so_far knows. missing (old_waybill_table _) so_far (rw c.in_default.is at c.in_ok-rows.ensures.read clean up)

pub returns-clause-read : goal.returns-clause-read
returns-clause-read g c = λ clean up so_far knows.
    let read = c.in_ok-rows.ensures.read clean up in
    let exact = rw c.deref.ensures.value at c.are_old_waybills_lawful.ensures.exact in
    (tested (old_waybill_table _) so_far _ (rw c.in-Some.is at read.0) c.are_old_waybills_lawful.result (λ t so is. exact t is) (refl, knows), read.1)
