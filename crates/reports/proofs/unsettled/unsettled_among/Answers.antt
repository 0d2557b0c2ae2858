use Rattle.reports.proofs.Common.{is_unsettled}
use Rattle.reports.proofs.Stays.{reads_twice}
use Rattle.reports.proofs.Walks.{picked_more}
use Rattle.reports.proofs.unsettled.unsettled_among.Goals as goal

pub loop-row-preserved : goal.loop-row-preserved
loop-row-preserved g c = (
  reads_twice g.K.Keeper.keeping _ _ _ c.loop-row.invariant.0 c.put_unsettled.ensures.reads,
  λ s keeps sound.
      let before = c.loop-row.invariant.1 s keeps (c.put_unsettled.ensures.reads.premise.sound sound) in
      let put = c.in_ok-put_unsettled.ensures.value s (c.loop-row.invariant.0.same s keeps (c.put_unsettled.ensures.reads.premise.sound sound)) sound in
      picked_more (λ row. is_unsettled s.cargo row.awb) c.args.rows.now _ _ c.loop-row.row-index c.row-item.result c.loop-row-test.true c.row-item.is before put,
)
