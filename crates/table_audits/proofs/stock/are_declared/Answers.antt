use Rattle.table_audits.proofs.Common.{IsTrue, ap, arith, has_waybill, int_le, ints, map, subst, sym, to_z, to_z-of_z, true≢false, w64, waybill_meant, ◌∙◌, ◌≡◌}
use Rattle.table_audits.proofs.stock.are_declared.Goals as goal

pub returns-then-not-is_declared : goal.returns-then-not-is_declared
returns-then-not-is_declared c = λ up.
    let here : to_z w64 c.loop-number.number-bits ≡ c.loop-number.number = c.loop-number.number-is in
    let from : IsTrue (int_le c.args.first c.loop-number.number) = subst (λ z. IsTrue (int_le c.args.first z)) here (subst (λ z. IsTrue (int_le z (to_z w64 c.loop-number.number-bits))) (to_z-of_z w64 c.args.first c.ranges.first) c.loop-number.invariant.0) in (
      λ h. absurd (true≢false (sym h)),
      λ all. c.if-not-is_declared.ensures.row up ∙ ap (has_waybill (map waybill_meant c.args.waybills.now)) here ∙ all c.loop-number.number from (grind (arith, ints)),
    )
