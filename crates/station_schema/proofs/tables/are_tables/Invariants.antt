use Rattle.station_schema.proofs.Common.{table_of}
use Rattle.station_schema.proofs.TableLemmas.{AreSoFar}
use Rattle.station_schema.proofs.tables.are_tables.Given as goal

abbrev pub invariant-loop-i : goal.invariant-loop-i
invariant-loop-i l = AreSoFar table_of l.tables l.shapes l.i
