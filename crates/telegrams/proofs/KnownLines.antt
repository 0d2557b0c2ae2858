-- The lines of a manifest, each of which is as its types allow.
use Rattle.telegrams.proofs.Common.{All, All-head, All-tail, AreLoads, IsLoad, List, ManifestLine, [], map, sent_load, true, ℕ, ◌∷◌, ◌≡◌}
use Rattle.imp_fields.specs.Fields.{is_airport}

abbrev pub IsAirport : List ℕ → Type 0
IsAirport text = is_airport text ≡ true

abbrev pub IsLine : ManifestLine → Type 0
IsLine l = IsLoad (sent_load l)

pub are_loads : (lines : List ManifestLine) → All IsLine lines → AreLoads (map sent_load lines)
are_loads [] h = tt
are_loads (l ∷ lines) h = (All-head IsLine l lines h, are_loads lines (All-tail IsLine l lines h))
