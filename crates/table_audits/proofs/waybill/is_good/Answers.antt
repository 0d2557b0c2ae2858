use Rattle.table_audits.proofs.Common.{RisesByNumber, YieldsList-from_slice, all_from_yields_List, is_lawful_waybill, refl, rules, subst, sym, tests, waybill_meant}
use Rattle.table_audits.proofs.WaybillLaws.{are_waybills, lawful_waybills}
use Rattle.table_audits.proofs.Tables.{are, as_law, missing, tested, waybill_table, waybills_rise}
use Rattle.table_audits.proofs.waybill.is_good.Goals as goal

pub returns-in_default-clause-read : goal.returns-in_default-clause-read
returns-in_default-clause-read g c = λ clean up so_far knows. missing (waybill_table _) so_far (rw c.in_default.is at c.in_ok-rows.ensures.read clean up)

pub returns-clause-read : goal.returns-clause-read
returns-clause-read g c = λ clean up so_far knows.
    let read = c.in_ok-rows.ensures.read clean up in
    let held = rw c.in-Some.is at read.0 in
    let rise = waybills_rise _ _ _ held in
    let says = all_from_yields_List (λ row. is_lawful_waybill (waybill_meant row)) _ _ _ c.all-is_lawful.ensures.ran (YieldsList-from_slice c.in-Some.rows.items cc) (λ x b q k. search (rules, tests)) in
    (tested (waybill_table _) so_far _ held c.all-is_lawful.result (λ t so is. as_law _ is_lawful_waybill waybill_meant _ _ says is (are_waybills t) (lawful_waybills t (subst RisesByNumber (sym is) rise))) (refl, (knows, (rise, λ t so. are (waybill_table _) so_far _ held t so.0.held))), read.1)
