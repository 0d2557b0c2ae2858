-- An accepted input as a row of `kept_key`.
use Rattle.std.specs.Prelude.{pos}
use Rattle.row_codec.specs.Common.{Kept}
use Rattle.station_core.specs.Step as step

abbrev pub kept_row : step.Kept → Kept
kept_row kept = record { command = kept.request; count = pos kept.count }
