-- The effect of each call over a file.
use Rattle.std.specs.Prelude.{◌≡◌, ◌≢◌, ◌⊎◌, ◌↔◌, ℕ, true, false, IsTrue, Option, Some, None, Result, Err, IfOk, IfErr, OnOk, List, Bool}
use Rattle.station_tables.specs.Common.{Held, state, HasCleanDisk, Survives, Trees, Ghosts, IsUndone, IsOneStep, connection_view, IsVacant, takes_name, IsOldOwn, IsOwn, LiesInOrder, IsUnchanged, First, Keeping, State, IsLawfulState, opening, are_declared, rows_view, IsFileOf, IfGivenBack, LocalMinute, Database, View, Answer, Done, Reply, Input, repeated, step, IsConserved, AreBalances, ActFault, IsAfterAnswered, AttachFault, Station}
use Rattle.sqlite.specs.State as connection
use Rattle.station_tables.specs.Attached.{connection_in, IsBreakdown, IsOldStateIn, IsStateIn, IsTypedState, Refuses, RefusesAs, Finds, HasMigrated, IsMigrated}
use Rattle.station_tables.specs.declared.attaching.AttachFault.TheVariants as fault

-- The effect of each call over a file, as records that a caller's contract can cite.

-- The effect of `create`: a new station over a connection, or a fault.
pub record HasMade {S : Type 0} (g : Ghosts S) (k : Keeping (Station S g)) (conn : Held S) (here : List ℕ)
    (opened : Result (Station S g) (Held S × AttachFault)) : Type 0 where
  pub free : OnOk opened (takes_name (state g conn).now.schema ≡ false)
  pub declared : IfOk opened (λ station. IsTrue (are_declared station.stored.store.store) ↔ IsVacant g conn)
  pub works : IfOk opened (λ station. k.is_broken station ≡ false)
  pub sound : IfOk opened (λ station. k.is_sound station → (connection_view g conn).IsSound)
  -- it keeps the opening state
  pub keeps_opening : IfOk opened (λ station. k.keeps station (opening here))
  -- Occupied exactly if one of a new station's names is taken, and then nothing changed
  pub inside : (connection_view g conn).in_transaction ≡ true → opened ≡ Err (conn, fault.Store)
  pub occupied : (connection_view g conn).in_transaction ≡ false
      → takes_name (state g conn).now.schema ≡ true → opened ≡ Err (conn, fault.Occupied)
  pub taken : IfErr opened (λ e. e.1 ≡ fault.Occupied → takes_name (state g conn).now.schema ≡ true)
  pub faults : IfErr opened (λ e. (e.1 ≡ fault.Occupied) ⊎ (e.1 ≡ fault.Store))
  -- the crash states are those from before or, if the store was empty, the opening station
  pub leaves : IfErr opened (λ e. IsVacant g conn → (connection_view g e.0).IsSound
      → (found : Option State)
      → Finds (connection_view g e.0) found → Finds (connection_view g conn) found ⊎ (IsVacant g conn × (found ≡ Some (opening here))))
  -- with other tables they are those from before or one more database, and a failure leaves the
  -- last commit
  pub step : IfErr opened (λ e. ¬ (IsVacant g conn) → IsOneStep (state g conn) (state g e.0))
  pub step_at_ok : IfOk opened (λ station. ¬ (IsVacant g conn)
      → IsOneStep (state g conn) (state g (connection_in station)))
  pub undone : (connection_view g conn).in_transaction ≡ false
      → IfErr opened (λ e. HasCleanDisk (state g e.0)
      → (connection_view g e.0).is_open ≡ true
      → IsUnchanged (connection_view g conn) (connection_view g e.0))
  -- the same for the database, so that an opening knows the tables
  pub survives : IfErr opened (λ e. Survives (state g conn) (state g e.0)
      (λ db. IsVacant g conn → IsFileOf db (opening here)))

-- The effect of `attach`: the station found over a connection, or a fault.
pub record HasFound {S : Type 0} (g : Ghosts S) (k : Keeping (Station S g)) (conn : Held S)
    (opened : Result (Station S g) (Held S × AttachFault)) : Type 0 where
  pub inside : (connection_view g conn).in_transaction ≡ true → opened ≡ Err (conn, fault.Store)
  pub works : IfOk opened (λ station. k.is_broken station ≡ false)
  pub sound : IfOk opened (λ station. k.is_sound station → (connection_view g conn).IsSound)
  -- the tables are a station's of version 2 and lawful, and the station keeps their state
  pub found : IfOk opened (λ station. HasCleanDisk (state g (connection_in station)) → (s : State)
      × IsStateIn (state g conn).now s × k.keeps station s)
  pub own : IfOk opened (λ station. HasCleanDisk (state g (connection_in station))
      → IsOwn (state g conn).now.trees → are_declared station.stored.store.store ≡ true)
  pub typed : IfOk opened (λ station. k.is_sound station → (s : State)
      → IsStateIn (state g conn).now s → IsTypedState (state g conn).now s)
  -- A fault is true of the tables. If they are a station's and lawful, the store failed or memory
  -- ran out.
  pub refused : IfErr opened (λ e. HasCleanDisk (state g e.0) → Refuses (state g conn).now e.1)
  pub fit : IfErr opened (λ e. HasCleanDisk (state g e.0) → (s : State)
      → IsStateIn (state g conn).now s → IsBreakdown e.1)
  pub own_fit : IfErr opened (λ e. HasCleanDisk (state g e.0) → IsOwn (state g conn).now.trees
      → LiesInOrder g
      → (s : State) → IsTypedState (state g conn).now s → IsLawfulState s → IsBreakdown e.1)
  -- the crash states are those from before
  pub leaves : IfErr opened (λ e. (connection_view g e.0).IsSound → (found : Option State)
      → Finds (connection_view g e.0) found → Finds (connection_view g conn) found)
  pub never : IfErr opened (λ e. e.1 ≢ fault.Occupied)
  -- nothing is written in any case; at Ok the connection shows what it showed
  pub unwritten : IfOk opened (λ station.
      Survives (state g conn) (state g (connection_in station)) (λ _. ⊥))
  pub seen : IfOk opened (λ station. HasCleanDisk (state g (connection_in station))
      → connection.IsUnchanged (state g conn) (state g (connection_in station)))
  pub unwritten_at_err : IfErr opened (λ e. Survives (state g conn) (state g e.0) (λ _. ⊥))
  -- after any fault except the store's, no transaction is open, and an open connection shows what
  -- it showed
  pub unmoved : (connection_view g conn).in_transaction ≡ false
      → IfErr opened (λ e. HasCleanDisk (state g e.0) → e.1 ≢ fault.Store
      → IsUndone (state g conn) (state g e.0))

-- The effect of `release`: the station's connection is returned.
pub record HasReleased {S : Type 0} {g : Ghosts S} (k : Keeping (Station S g)) (station : Station S g)
    (conn : Held S) : Type 0 where
  pub clean : HasCleanDisk (state g conn) → HasCleanDisk (state g (connection_in station))
  -- the crash states are those from before, for the database: a station's own tables, if they were
  pub survives : Survives (state g (connection_in station)) (state g conn) (λ _. ⊥)
  pub own : HasCleanDisk (state g conn) → are_declared station.stored.store.store ≡ true
      → LiesInOrder g → (db : Trees) → (state g conn).may_leave db → IsOwn db
  pub leaves : (connection_view g conn).IsSound → (found : Option State)
      → Finds (connection_view g conn) found → k.may_find station found
  pub sound : (rows_view g conn (are_declared station.stored.store.store)).IsSound
      → k.is_sound station
  pub shown : (s : State) → k.keeps station s
      → IfGivenBack (rows_view g conn (are_declared station.stored.store.store)) s

-- The effect of `migrate`: a connection with the tables of version 1 got those of version 2, or a
-- fault.
pub record HasMoved {S : Type 0} (g : Ghosts S) (conn : Held S)
    (migrated : Result (Held S) (Held S × AttachFault)) : Type 0 where
  pub inside : (connection_view g conn).in_transaction ≡ true → migrated ≡ Err (conn, fault.Store)
  pub clean : IfOk migrated (λ new. HasCleanDisk (state g new) → HasCleanDisk (state g conn))
  pub was : IfOk migrated (λ new. HasCleanDisk (state g new)
      → (s : State) × IsOldStateIn (state g conn).now s)
  -- the tables are those of version 2, with the state of those of version 1
  pub moved : IfOk migrated (λ new. HasCleanDisk (state g new)
      → IsOldOwn (state g conn).now.trees → LiesInOrder g
      → HasMigrated (state g conn).now (state g new))
  -- A fault is true of the tables. If they are lawful ones of version 1, the store failed or memory
  -- ran out.
  pub refused : IfErr migrated (λ e. HasCleanDisk (state g e.0)
      → RefusesAs First (state g conn).now e.1)
  pub fit : IfErr migrated (λ e. HasCleanDisk (state g e.0)
      → (s : State) → IsOldStateIn (state g conn).now s → IsBreakdown e.1)
  pub never : IfErr migrated (λ e. e.1 ≢ fault.Occupied)
  -- the crash states are those from before, or the tables of version 2 with the same state
  pub leaves : IfErr migrated (λ e. HasCleanDisk (state g e.0)
      → IsOldOwn (state g conn).now.trees → LiesInOrder g → (db : Trees)
      → (state g e.0).may_leave db
      → (state g conn).may_leave db ⊎ IsMigrated (state g conn).now db)
  -- then no transaction is open, and an open connection shows the last commit
  pub undone : (connection_view g conn).in_transaction ≡ false
      → IfErr migrated (λ e. HasCleanDisk (state g e.0)
      → IsOldOwn (state g conn).now.trees → LiesInOrder g
      → IsUndone (state g conn) (state g e.0))
  pub unmoved : (connection_view g conn).in_transaction ≡ false
      → IfErr migrated (λ e. HasCleanDisk (state g e.0) → e.1 ≢ fault.Store
      → IsUndone (state g conn) (state g e.0))
  -- something is written only if the store fails, and only to lawful tables of version 1
  pub spares : IfErr migrated (λ e. e.1 ≢ fault.Store
      → Survives (state g conn) (state g e.0) (λ _. ⊥))
  pub only : IfErr migrated (λ e. HasCleanDisk (state g e.0)
      → ¬ ((s : State) × IsOldStateIn (state g conn).now s)
      → Survives (state g conn) (state g e.0) (λ _. ⊥))

-- A call over a crash state of a station that returned its connection. The opened station keeps a
-- state that reopening the first one may find, works and is sound. Unless that reopening may find
-- no station, the call fails only if the store does or memory runs out.
pub record GoesOn {S : Type 0} (g : Ghosts S) (k : Keeping (Station S g)) (last : Station S g)
    (opened : Result (Station S g) (Held S × AttachFault)) : Type 0 where
  pub found : IfOk opened (λ again. HasCleanDisk (state g (connection_in again)) → (s : State)
      × k.may_find last (Some s) × k.keeps again s × (k.is_broken again ≡ false))
  pub sound : IfOk opened (λ again. HasCleanDisk (state g (connection_in again)) → k.is_sound again)
  pub opens : ¬ (k.may_find last None)
      → IfErr opened (λ e. HasCleanDisk (state g e.0) → IsBreakdown e.1)

-- The effect of an input given to a station as it is opened again.

-- The answer is the step's, the state after it is kept, and reopening finds exactly that state. An
-- input that was accepted before gets the same reply, and the state stays.
pub record HasAnswered (s : State) (i : Input) (at : LocalMinute) (answer : Answer) (keeps : State → Type 0) (may_find : Option State → Type 0) : Type 0 where
  pub answered : (step s i at).answer ≡ answer
  pub kept : keeps (step s i at).state
  pub left : (found : Option State) → may_find found → found ≡ Some (step s i at).state
  pub again : (reply : Reply) → repeated s i ≡ Some (Done reply) → (answer ≡ Done reply) × keeps s

-- the same for the state of a database's tables
pub record HasRepeated (db : Database) (i : Input) (at : LocalMinute) (answer : Answer) (keeps : State → Type 0) (may_find : Option State → Type 0) : Type 0 where
  pub state : State
  pub is_in : IsStateIn db state
  pub has : HasAnswered state i at answer keeps may_find

-- the state before the input, or the one after it
abbrev pub IsBeforeOrAfter : State → Input → LocalMinute → Option State → Type 0
IsBeforeOrAfter s i at found = (found ≡ Some s) ⊎ (found ≡ Some (step s i at).state)

-- the crash states from before, or the state of a database's tables
abbrev pub IsBeforeIn : View → Database → Option State → Type 0
IsBeforeIn before db found = Finds before found ⊎ ((s : State) × IsStateIn db s × (found ≡ Some s))

-- the crash states from before, the state of a database's tables, or the one after the input
abbrev pub IsBeforeOrAfterIn : View → Database → Input → LocalMinute → Option State → Type 0
IsBeforeOrAfterIn before db i at found = Finds before found ⊎ ((s : State) × IsStateIn db s × IsBeforeOrAfter s i at found)

-- The state found by opening a station again after a stop.

-- The state after the inputs that were answered or, if they ended with `Store`, perhaps after one
-- more. The tables mean it, so the running counts are the book's sums. The opened station works and
-- keeps it. It is lawful. For each waybill what was received or found is in store, departed,
-- delivered, transferred or missing, in pieces and in tenths, and the amounts shown are the
-- balances of its moves.
pub record IsRestored (s : State) (inputs : List (Input × LocalMinute)) (answered : ℕ) (ended : Option ActFault) (db : Database) (broken : Bool) (keeps : State → Type 0) : Type 0 where
  pub state : State
  pub is_after : IsAfterAnswered s inputs answered ended (Some state)
  pub is_meant : IsTypedState db state
  pub works : broken ≡ false
  pub is_kept : keeps state
  pub is_lawful : IsLawfulState state
  pub conserved : (w : ℕ) → IsConserved state.cargo.book w
  pub shown : (w : ℕ) → AreBalances state.cargo.book w
