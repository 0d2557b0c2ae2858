use Rattle.table_audits.proofs.Judged.{fit}
use Rattle.table_audits.proofs.laws.station_is_fit.Goals as goal

pub returns : goal.returns
returns c = λ db t all why is. fit db t all why is
