use Rattle.table_load.proofs.Common.{IsUtf8-string_bytes, ap, arith, int_eq, is_utf8-from_IsUtf8, pos, rules, sym, to_z, to_z-of_z, true, version_number, w64, ℤ, ◌∙◌, ◌≡◌}
use Rattle.table_load.proofs.StationLemmas.{is_one_row}
use Rattle.table_load.proofs.station.judged_row.Goals as goal

pub returns-then-id-eq1 : goal.returns-then-id-eq1
returns-then-id-eq1 c =
    let id : c.in-Some-number.id ≡ pos 1 = sym (to_z-of_z w64 c.in-Some-number.id (search rules)) ∙ ap (to_z w64) c.if-id-eq1.true in
    let version : int_eq c.in-Some.version (version_number c.args.wanted) ≡ true = ap (λ (z : ℤ). int_eq z (version_number c.args.wanted)) (sym (to_z-of_z w64 c.in-Some.version (search rules))) ∙ sym c.is_wanted.ensures ∙ c.if-not-is_wanted.false in
    rw (to_z-of_z w64 c.in-Some-number-2.confirmed (search rules))
    (is_one_row c.args.wanted c.args.row.now c.in-Some-number.id c.in-Some.version c.in-Some-number-2.confirmed _ (omega (arith, c.column_count.ensures, c.if-column_count-ne4.false)) c.in-Some-number.ensures.some (rw c.in-Some-2.is at c.in_ok-airport.ensures.some) c.in-Some.ensures.some c.in-Some-number-2.ensures.some id version (is_utf8-from_IsUtf8 _ (IsUtf8-string_bytes c.in-Some-2.airport)))
