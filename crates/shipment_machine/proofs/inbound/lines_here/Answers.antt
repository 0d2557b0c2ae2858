use Rattle.shipment_machine.proofs.Common.{All-more, HasPieces, arith, subst}
use Rattle.std.proofs.lemmas.Grind.{common_steps}
use Rattle.shipment_machine.proofs.inbound.lines_here.Goals.{then-is_same+in_ok-push, else-is_same}
use Rattle.shipment_machine.proofs.inbound.lines_here.Goals as goal

pub loop-line-preserved : goal.loop-line-preserved
loop-line-preserved c =
    let all = All-more HasPieces c.args.lines.now c.loop-line.line-index c.line-item.result c.loop-line-test.true c.loop-line.invariant.2
    (subst HasPieces c.line-item.is (omega (arith, c.number-number.ensures.value, c.number-number.ensures.in_range.0))) in
    elim c.if-is_same.branch [
      | then-is_same+in_ok-push w ↦ (grind (arith, common_steps), grind (arith, common_steps), all)
      | else-is_same w ↦ (grind (arith, common_steps), grind (arith, common_steps), all)
    ]
