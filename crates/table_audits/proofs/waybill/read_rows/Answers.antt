use Rattle.table_audits.proofs.Common.{HoldsWaybills, List, Waybill, map, state, subst, sym, waybill_meant}
use Rattle.table_audits.proofs.Undated.{none_told, some_told}
use Rattle.table_audits.proofs.waybill.read_rows.Goals as goal

pub returns-in-None-clause-read : goal.returns-in-None-clause-read
returns-in-None-clause-read g c = λ clean up.
    let told = c.in_ok-found_rows-in-First.ensures.read clean up in
    let db = (state g.S.Store c.args.conn.now).now in
    (subst (λ v. (waybills : List Waybill) → ¬ HoldsWaybills v db waybills) (sym c.in-First.is) (none_told db (rw c.in-None.is at told.0)), told.1)

pub returns-in_ok-undated_rows-in-Some-clause-read : goal.returns-in_ok-undated_rows-in-Some-clause-read
returns-in_ok-undated_rows-in-Some-clause-read g c = λ clean up.
    let told = c.in_ok-found_rows-in-First.ensures.read clean up in
    let db = (state g.S.Store c.args.conn.now).now in
    let rows = c.in_ok-undated_rows-in-Some.field-0.items in
    (subst (λ v. HoldsWaybills v db (map waybill_meant rows)) (sym c.in-First.is) (some_told db c.in-Some.olds.items rows (rw c.in-Some.is at told.0) c.in_ok-undated_rows-in-Some.ensures), told.1)
