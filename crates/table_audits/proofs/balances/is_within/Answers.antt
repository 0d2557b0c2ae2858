use Rattle.table_audits.proofs.Common.{rules, to_z-of_z, w64}
use Rattle.table_audits.proofs.Stocked.{within_then, within_else}
use Rattle.table_audits.proofs.balances.is_within.Goals as goal

pub returns-then-are_at_most : goal.returns-then-are_at_most
returns-then-are_at_most c = within_then c.args.sums.now _ c.args.place.now.awb (to_z-of_z w64 c.args.place.now.awb (search rules)) _ _ _ _
    c.drawn_at-hand.ensures.pieces c.drawn_at-surplus.ensures.pieces c.drawn_at-hand.ensures.tenths c.drawn_at-surplus.ensures.tenths
    c.are_at_most-then-are_at_most.result c.if-are_at_most.ensures c.are_at_most-then-are_at_most.ensures

pub returns-else-are_at_most : goal.returns-else-are_at_most
returns-else-are_at_most c = within_else c.args.sums.now _ c.args.place.now.awb (to_z-of_z w64 c.args.place.now.awb (search rules)) _ _ _ _
    c.drawn_at-hand.ensures.pieces c.drawn_at-surplus.ensures.pieces c.drawn_at-hand.ensures.tenths c.drawn_at-surplus.ensures.tenths
    c.are_at_most.result c.if-are_at_most.false c.are_at_most.ensures
