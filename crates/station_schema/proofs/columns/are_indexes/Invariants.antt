use Rattle.station_schema.proofs.Common.{index_of}
use Rattle.station_schema.proofs.TableLemmas.{AreSoFar}
use Rattle.station_schema.proofs.columns.are_indexes.Given as goal

abbrev pub invariant-loop-i : goal.invariant-loop-i
invariant-loop-i l = AreSoFar index_of l.indexes l.shapes l.i
