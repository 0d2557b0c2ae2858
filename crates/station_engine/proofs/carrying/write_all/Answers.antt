use Rattle.station_engine.proofs.Common.{State, inside, subst, take, with_changes}
use Rattle.state_store.proofs.Walks.{survives_then}
use Rattle.station_engine.proofs.Walks.{change_next}
use Rattle.station_engine.proofs.carrying.write_all.Goals as goal

pub loop-change-preserved : goal.loop-change-preserved
loop-change-preserved g c = record {
  survives = survives_then g.S.StateStore.storing c.args.store.now c.loop-change.store c.write.new.self c.loop-change.invariant.survives c.write.ensures.survives;
  done = λ before s shows. subst (λ (t : State). g.S.StateStore.storing.shows c.write.new.self (inside before t)) (change_next c.args.text.now c.args.changes.now c.loop-change.change-index c.change-item.result s c.loop-change-test.true c.change-item.is)
      (c.in_ok-write.ensures.done before (with_changes c.args.text.now (take c.loop-change.change-index c.args.changes.now) s) (c.loop-change.invariant.done before s shows));
}
