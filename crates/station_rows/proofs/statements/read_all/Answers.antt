use Rattle.station_rows.proofs.Common.{AreRead, subst, sym, take, ◌+◌}
use Rattle.station_rows.proofs.ReadLemmas.{one_more_read}
use Rattle.station_rows.proofs.statements.read_all.Goals as goal

pub loop-row-preserved : goal.loop-row-preserved
loop-row-preserved g c =
    subst (AreRead g.T.ReadRow.reads (take (c.loop-row.row-index + 1) c.args.rows.now)) (sym (c.in_ok-push.ensures.items))
    (one_more_read g.T.ReadRow.reads c.args.rows.now c.loop-row.row-index c.row-item.result c.loop-row.all.items c.in_ok-read.field-0 c.loop-row-test.true c.row-item.is c.loop-row.invariant c.in_ok-read.ensures)
