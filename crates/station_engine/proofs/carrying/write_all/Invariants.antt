use Rattle.station_engine.proofs.Common.{Changes, Ok, take, with_changes}
use Rattle.station_engine.proofs.carrying.write_all.Given as goal

abbrev pub invariant-loop-change : goal.invariant-loop-change
invariant-loop-change g l = Changes {E = Unit {0}} g.S.StateStore.storing l.fn.store l.store (Ok tt) (with_changes l.text (take l.change-index l.changes))
