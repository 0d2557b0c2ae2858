use Rattle.station_schema.specs.Schema.{column_as}
use Rattle.station_schema.proofs.TableLemmas.{AreSoFar}
use Rattle.station_schema.proofs.columns.are_columns.Given as goal

abbrev pub invariant-loop-i : goal.invariant-loop-i
invariant-loop-i l = AreSoFar column_as l.columns l.wanted l.i
