-- The rows that the queries of one row show.
use Rattle.std.specs.Prelude.{[], ◌∷◌}
use Rattle.station_rows.specs.Common.{Int, Text, Row, Expected, Flight, Kept, Station}

abbrev pub flight_shown : Flight → Row
flight_shown f = Text f.unload ∷ Int f.closed ∷ []

abbrev pub expected_shown : Expected → Row
expected_shown e = Int e.pieces ∷ Int e.tenths ∷ Int e.checked ∷ []

abbrev pub kept_shown : Kept → Row
kept_shown k = Text k.command ∷ Int k.count ∷ []

abbrev pub station_shown : Station → Row
station_shown s = Int s.id ∷ Text s.airport ∷ Int s.version ∷ Int s.confirmed ∷ []
