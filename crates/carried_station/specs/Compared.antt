-- The waybills of an old and a new file.
use Rattle.std.specs.Prelude.{ℕ, ◌==◌, not, Option, List}
use Rattle.carried_station.specs.Common.{filter, find, option_map, Declared, is_in}
use Rattle.carried_station.specs.declared.waybills.WaybillRow.{WaybillRow}

-- the declaration of a waybill by the rows
abbrev pub declared_by : List WaybillRow → ℕ → Option Declared
declared_by rows w = option_map (λ row. row.declared) (find (λ row. row.awb == w) rows)

-- the rows of the waybills that aren't left out
abbrev pub rows_without : List ℕ → List WaybillRow → List WaybillRow
rows_without left rows = filter (λ row. not (is_in row.awb left)) rows
