use Rattle.table_audits.proofs.Common.{and_from, ap, expected_entry, false, has_waybill, int_le, is_expected_row, map, of_z, rules, sym, to_z, to_z-of_z, w64, waybill_meant, ◌&&◌, ◌∙◌, ◌≡◌}
use Rattle.table_audits.proofs.RowValues.{unlawful, as_tested, number_is, enough_is}
use Rattle.table_audits.proofs.expected.is_lawful.Goals as goal

pub returns-then-not-is_enough : goal.returns-then-not-is_enough
returns-then-not-is_enough c = λ up.
    let row = expected_entry c.args.row.now in
    let enough : c.is_enough.result ≡ int_le row.1.pieces row.1.tenths = c.is_enough.ensures ∙ enough_is row c.in-Some.one c.in-Some.ensures.value c.in-Some.ensures.exact in
    unlawful (is_expected_row row && int_le row.1.pieces row.1.tenths) (has_waybill (map waybill_meant c.args.waybills.now) row.0.1.1)
    (as_tested (is_expected_row row) (int_le row.1.pieces row.1.tenths) false c.in-Some.ensures.exact (sym c.if-not-is_enough.true ∙ enough))

pub returns : goal.returns
returns c = λ up.
    let row = expected_entry c.args.row.now in
    let ws = map waybill_meant c.args.waybills.now in
    let enough : c.is_enough.result ≡ int_le row.1.pieces row.1.tenths = c.is_enough.ensures ∙ enough_is row c.in-Some.one c.in-Some.ensures.value c.in-Some.ensures.exact in
    let number : to_z w64 (of_z w64 c.awb_key.result) ≡ row.0.1.1 = to_z-of_z w64 c.awb_key.result (search rules) ∙ c.awb_key.ensures.value ∙ number_is row c.in-Some.one c.in-Some.ensures.value c.in-Some.ensures.exact in
    as_tested (is_expected_row row && int_le row.1.pieces row.1.tenths) (has_waybill ws row.0.1.1) c.is_declared.result
    (sym (and_from _ _ (sym c.in-Some.ensures.exact) (sym enough ∙ c.if-not-is_enough.false))) (c.is_declared.ensures.row up ∙ ap (has_waybill ws) number)
