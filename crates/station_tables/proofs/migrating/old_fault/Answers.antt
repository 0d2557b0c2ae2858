use Rattle.station_tables.proofs.Common.{First, IsUnfit, read_as, subst}
use Rattle.station_tables.proofs.migrating.old_fault.Goals as goal

pub returns-in-Unlawful-clause-refuses : goal.returns-in-Unlawful-clause-refuses
returns-in-Unlawful-clause-refuses c = λ db why. (c.in-Unlawful.name, c.old_name.ensures, subst (IsUnfit (read_as First db)) c.in-Unlawful.is why)
