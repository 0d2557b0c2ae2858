use Rattle.reports.specs.Arrivals.{arrival_row}
use Rattle.reports.proofs.Stays.{reads_twice}
use Rattle.reports.proofs.Walks.{mapped_more}
use Rattle.reports.proofs.arrivals.arrivals_among.Goals as goal

pub loop-row-preserved : goal.loop-row-preserved
loop-row-preserved g c = (
  reads_twice g.K.Keeper.keeping _ _ _ c.loop-row.invariant.0 c.put_arrival.ensures.reads,
  λ s keeps sound.
      let before = c.loop-row.invariant.1 s keeps (c.put_arrival.ensures.reads.premise.sound sound) in
      let put = c.in_ok-put_arrival.ensures.value s (c.loop-row.invariant.0.same s keeps (c.put_arrival.ensures.reads.premise.sound sound)) sound in
      mapped_more (arrival_row s.cargo.book) c.args.expected.now _ _ c.loop-row.row-index c.row-item.result c.loop-row-test.true c.row-item.is before put,
)
