-- The moment of an instant.
use Rattle.std.proofs.Common.{ℤ, Option, Some, None, IfSome}
use Rattle.jiff_core.specs.declared.civil.datetime.DateTime.{DateTime}
use Rattle.station_days.specs.Date.{LocalMinute}
use Rattle.desk_server.specs.Served.{IsMinuteOf, Shows}
use Rattle.desk_server.specs.declared.zone.Zone.{Zone}

pub at_instant : (zone : Zone) (instant : ℤ) (P : DateTime → Type 0) (r : Option LocalMinute) → (local : DateTime) × Shows zone instant local × P local × IfSome r (IsMinuteOf local)
    → IfSome r (λ moment. (at : ℤ) × (local : DateTime) × Shows zone at local × IsMinuteOf local moment)
at_instant zone instant P None told = tt
at_instant zone instant P (Some moment) (local, shows, within, is) = (instant, local, shows, is)
