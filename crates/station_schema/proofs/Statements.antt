-- What a statement on a table of a station does to a connection, whatever the table.
use Rattle.station_schema.proofs.Common.{Changes, Command, Commit, CommitsBy, CommitsShowing, Edits, Err, Error, Executes, IsInside, IsPlain, IsStation, List, Ok, Release, Result, Row, State, Survives, Tables, command_of, never_commits, station_schema, subst, survives_weaker, sym, understood, ℕ, ◌≡◌, ◌≢◌}
use Rattle.station_schema.proofs.Inside.{commits_nothing, execute_stops, keeps}

module _ (sql : List ℕ) (params : Row) (old new : State) where
  pub execute_survives : (command : Command) → command_of (understood station_schema sql) ≡ command → (command ≢ Commit) × ((name : List ℕ) → command ≢ Release name)
      → Survives old new (CommitsBy sql params old) → Survives old new (λ _. ¬ IsInside old)
  execute_survives command is stays = survives_weaker old new _ _ (λ _ db h inside. commits_nothing sql params old new station_schema inside.station.schema command is stays inside.begun db h)

  pub query_survives : IsPlain (understood station_schema sql) → Survives old new (CommitsShowing sql params old) → Survives old new (λ _. ¬ IsStation old.now)
  query_survives plain = survives_weaker old new _ _ (λ _ db h was. never_commits sql params old db (subst (λ s. IsPlain (understood s sql)) (sym was.schema) plain) h)

  -- a text that reads, under the schema of a station
  pub still_plain : IsPlain (understood station_schema sql) → IsStation old.now → IsPlain (understood old.now.schema sql)
  still_plain plain was = subst (λ s. IsPlain (understood s sql)) (sym was.schema) plain

  -- the two forms of clause
  pub changes : (change : Tables → Tables) → ((count : ℕ) → Executes sql params old new (Ok count) → Edits old new change) → (r : Result ℕ Error) → Executes sql params old new r → Changes old new r change
  changes change made (Ok count) h = made count h
  changes change made (Err e) h = keeps old new (execute_stops sql params old new e h)
