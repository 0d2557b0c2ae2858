use Rattle.table_audits.proofs.Common.{RisesByNumber, YieldsList-from_slice, all_from_yields_List, entries, expected_entry, is_lawful_expected, list_all, map, refl, rules, subst, sym, tests, true, waybill_meant, ◌≡◌}
use Rattle.table_audits.proofs.ExpectedLaws.{are_expected, lawful_expected}
use Rattle.table_audits.proofs.Tables.{as_law, missing, tested, expected_table}
use Rattle.table_audits.proofs.expected.is_good.Goals as goal

pub returns-in_default-clause-read : goal.returns-in_default-clause-read
returns-in_default-clause-read g c = λ clean up so_far knows. missing (expected_table _) so_far (rw c.in_default.is at c.in_ok-rows.ensures.read clean up)

pub returns-clause-read : goal.returns-clause-read
returns-clause-read g c = λ clean up so_far knows.
    let read = c.in_ok-rows.ensures.read clean up in
    let ws = map waybill_meant c.args.known.now.beside.waybills.items in
    let up : RisesByNumber ws = knows.1.0 in
    let says = all_from_yields_List (λ row. is_lawful_expected ws (expected_entry row)) _ _ _ c.all.ensures.ran (YieldsList-from_slice c.in-Some.rows.items cc) (λ x b q k. search (rules, tests)) in (
      tested (expected_table _) so_far _ (rw c.in-Some.is at read.0) c.all.result (λ t so is.
          let same = knows.1.1 t so.1.1.1 in
          as_law _ (is_lawful_expected ws) expected_entry _ _ says is (λ h. are_expected t (subst (λ l. list_all (is_lawful_expected l) (entries t.expected) ≡ true) (sym same) h)) (λ law. subst (λ l. list_all (is_lawful_expected l) (entries t.expected) ≡ true) same (lawful_expected t law))) (refl, knows),
      read.1,
    )
