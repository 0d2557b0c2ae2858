use Rattle.station_engine.proofs.Common.{Changes, Ok, take, with_moves}
use Rattle.station_engine.proofs.carrying.add_moves.Given as goal

abbrev pub invariant-loop-movement : goal.invariant-loop-movement
invariant-loop-movement g l = Changes {E = Unit {0}} g.S.StateStore.storing l.fn.store l.store (Ok tt) (with_moves (take l.movement-index l.moves))
