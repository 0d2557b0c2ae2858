use Rattle.station_tables.proofs.Attached.{reads}
use Rattle.station_tables.proofs.attaching.judge.Goals as goal

pub returns-clause-read : goal.returns-clause-read
returns-clause-read g c = λ clean is_open. reads _ _ _ _ (c.found_state.ensures.read clean is_open)
