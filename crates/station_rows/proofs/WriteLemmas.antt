-- What a statement that writes does, whatever the statement.
use Rattle.station_rows.proofs.Common.{Alters, Bool, CommitsBy, Delete, Edits, Error, Executes, Ghosts, HasCleanDisk, Held, Insert, IsInside, List, Means, Ok, Result, Row, Survives, Tables, Update, changes, execute_survives, false, state, station_schema, subst, true, ℕ, ◌≡◌}
use Rattle.sqlite.specs.Command.{Command}
use Rattle.station_schema.specs.Connection.{CommitsNothing}

-- it makes this change, and commits nothing
pub record Wrote {S : Type 0} (g : Ghosts S) (old new : Held S) (sql : List ℕ) (params : Row) (change : Tables → Tables) (r : Result ℕ Error) : Type 0 where
  pub made : Alters g old new r change
  pub ran : HasCleanDisk (state g new) → Executes sql params (state g old) (state g new) r
  pub survives : CommitsNothing g old new

abbrev writes : Command → Bool
writes (Insert at source) = true
writes (Update at q) = true
writes (Delete at q) = true
writes _ = false

pub wrote : {S : Type 0} (g : Ghosts S) (old new : Held S) {sql : List ℕ} {params : Row} {change : Tables → Tables} {r : Result ℕ Error} {command : Command} → Means station_schema sql command → writes command ≡ true
    → ((count : ℕ) → IsInside (state g old) → Executes sql params (state g old) (state g new) (Ok count) → Edits (state g old) (state g new) change)
    → (HasCleanDisk (state g new) → Executes sql params (state g old) (state g new) r) → (given : Row) → Survives (state g old) (state g new) (CommitsBy sql given (state g old)) → Wrote g old new sql params change r
wrote g old new {command = command} means is does ran given kept = record {
  made = λ clean inside. changes _ _ (state g old) (state g new) _ (λ count. does count inside) _ (ran clean);
  ran = ran;
  survives = execute_survives _ given (state g old) (state g new) command means.0 ((λ e. let k = subst (λ c. writes c ≡ true) e is in cc), λ name e. let k = subst (λ c. writes c ≡ true) e is in cc) kept;
}
