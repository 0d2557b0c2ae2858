use Rattle.station_engine.proofs.Common.{Changes, Ok, take, texts_in, with_messages}
use Rattle.station_engine.proofs.carrying.add_messages.Given as goal

abbrev pub invariant-loop-message : goal.invariant-loop-message
invariant-loop-message g l = Changes {E = Unit {0}} g.S.StateStore.storing l.fn.store l.store (Ok tt) (with_messages (texts_in (take l.message-index l.messages)))
