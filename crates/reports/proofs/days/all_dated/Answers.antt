use Rattle.std.proofs.Common.{refl}
use Rattle.reports.proofs.Stays.{dated_more, reads_twice}
use Rattle.reports.proofs.days.all_dated.Goals as goal

pub loop-row-preserved : goal.loop-row-preserved
loop-row-preserved g c = (
  reads_twice g.K.Keeper.keeping _ _ _ c.loop-row.invariant.0 c.put_dated.ensures.reads,
  λ s keeps sound.
      let before = c.loop-row.invariant.1 s keeps (c.put_dated.ensures.reads.premise.sound sound) in
      let put = c.in_ok-put_dated.ensures.value s (c.loop-row.invariant.0.same s keeps (c.put_dated.ensures.reads.premise.sound sound)) sound in
      dated_more _ c.args.rows.now _ _ c.loop-row.row-index c.row-item.result _ c.loop-row-test.true c.row-item.is before (refl, put.1) put.2,
)
