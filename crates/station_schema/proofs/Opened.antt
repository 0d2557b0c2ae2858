-- Memory that was just opened.
use Rattle.station_schema.proofs.Common.{Database, Err, Held, IfOk, IsEmpty, Ok, Result, Tables, ap, over_memory, tables_of}
use Rattle.sqlite_trees.specs.declared.memory.MemStore.{MemStore}
use Rattle.sqlite.specs.Held.{state as held}
use Rattle.station_schema.specs.Store.{IsAtRest}
use Rattle.station_schema.specs.Connection.{view_of}

abbrev tables_in : Database → Tables
tables_in db = tables_of db.trees

pub empty_rests : {E : Type 0} (r : Result (Held MemStore) E) → IfOk r (λ conn. IsEmpty (held over_memory conn)) → IfOk r (λ conn. IsAtRest (view_of (held over_memory conn)))
empty_rests (Ok conn) is = record { mode = is.0.autocommit; same = ap tables_in is.0.clean }
empty_rests (Err e) is = tt
