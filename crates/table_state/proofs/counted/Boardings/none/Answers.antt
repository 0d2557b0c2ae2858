use Rattle.table_state.proofs.Common.{All-replicate, IsBoarded, None}
use Rattle.table_state.proofs.counted.Boardings.none.Goals as goal

pub returns : goal.returns
returns c = λ book. All-replicate (λ boarded. IsBoarded boarded book) 32 None tt
