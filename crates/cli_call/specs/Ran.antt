-- The effect of a call of the program, and its service.
use Rattle.std.specs.Prelude.{◌≡◌, ◌⊎◌, ℕ, Bool, true, false, Result, Ok, Err, List, [], ◌++◌, codes, ◌<◌, ◌≤◌, ◌↔◌, IsTrue, IfOk, IfErr, OnErr, OnOk, MatchOption, Option, ◌∷◌, length, All, ⊤}
use Rattle.cli_call.specs.Common.{Held, Ghosts, LocalMinute, AttachFault, Station, HasReleased, RunFault, Line, HasDone, NoneFailed, OneFailed, begun, BeginsWith, Given, Keeping, StaysInService, ends, reached, Ends, Reached, here_of, is_migration, is_new, HasGivenReasons, HasOpened, signed_decimal, new_station, program_version, state, station_schema, Backing, HasEnded, HasSent, SendsLine, OnlyReads, Exchange, GoesOn, HaveServed, ServerFault, FileEnd, DeskFault}
use Rattle.cli_run.specs.declared.telling.RunFault.TheVariants as run_fault
use Rattle.desk_server.specs.declared.server.ServerFault.TheVariants as server
use Rattle.cli_call.specs.Ended.{HasNoStation, HasToldEnd, HasMigrated, HasTold, status_of}
use Rattle.cli_call.specs.declared.ended.DeskFault.TheVariants as fault

-- The effect of a call of the program.

-- The command ran over a keeper, and wrote the reasons why inputs can't be read; then its end was
-- reported.
pub record HasRunKept {K I W E : Type 0} (line : Line) (k : Keeping K) (e : Ends I W E) (at : LocalMinute)
    (old new : K × Reached I W E) (status : ℕ) : Type 0 where
  pub between : E
  pub ended : Result Bool RunFault
  pub service : StaysInService k old.0 new.0 ended
  pub done : HasDone line.command (here_of line.station) k e at old
      (new.0, reached new.1.reader new.1.output between) ended
  pub explained : HasGivenReasons line.command k e at old
      (new.0, reached new.1.reader new.1.output between) ended
  pub told : HasToldEnd e.told ended between new.1.errors status

-- The output of a run was flushed: all of it unless the call ends with Write, otherwise a prefix.
-- The call ends like its run; or with Write, since one call of the output after the run failed or
-- wrote 0 bytes. After a run that ended with Write there was no such call.
pub record HasFlushed (printed out : Given) (ran ended : Result Bool RunFault) : Type 0 where
  pub all : (ended ≡ Err run_fault.Write → ⊥) → out.bytes ≡ printed.bytes
  pub part : BeginsWith printed.bytes out.bytes
  pub ends : ((ended ≡ ran) × NoneFailed printed out)
      ⊎ ((ran ≡ Err run_fault.Write → ⊥) × (ended ≡ Err run_fault.Write) × OneFailed printed out)

-- the same readers and writers, by what the output took
abbrev pub by_printed : {I W E : Type 0} → Ends I W E → Ends I Given E
by_printed e = ends e.remaining e.given e.turned (λ printed. printed) e.told

-- The command ran over a keeper, and wrote the reasons why inputs can't be read. Its output was
-- appended to what the output had taken; then the end of the call was reported.
pub record HasRunGathered {K I W E : Type 0} (line : Line) (k : Keeping K) (e : Ends I W E) (at : LocalMinute)
    (old new : K × Reached I W E) (status : ℕ) : Type 0 where
  pub printed : Given
  pub between : E
  pub ran : Result Bool RunFault
  pub ended : Result Bool RunFault
  pub service : StaysInService k old.0 new.0 ran
  pub done : HasDone line.command (here_of line.station) k (by_printed e) at
      (old.0, reached old.1.reader (begun (e.printed old.1.output)) old.1.errors)
      (new.0, reached new.1.reader printed between) ran
  pub explained : HasGivenReasons line.command k (by_printed e) at
      (old.0, reached old.1.reader (begun (e.printed old.1.output)) old.1.errors)
      (new.0, reached new.1.reader printed between) ran
  pub flushed : HasFlushed printed (e.printed new.1.output) ran ended
  pub told : HasToldEnd e.told ended between new.1.errors status

-- The same as `HasRunKept`, over a station, which then returned its connection.
pub record HasRunLine {S I W E : Type 0} {g : Ghosts S} (line : Line) (k : Keeping (Station S g)) (e : Ends I W E)
    (at : LocalMinute) (station : Station S g) (old new : Reached I W E) (result : ℕ × Held S) : Type 0 where
  pub last : Station S g
  pub ran : HasRunKept line k e at (station, old) (last, new) result.0
  pub released : HasReleased k last result.1

-- a call after its opening, by the outcome
abbrev pub HasEndedCall : {S I W E : Type 0} {g : Ghosts S} → Line → Keeping (Station S g) → Ends I W E
    → LocalMinute → Result (Station S g) (Held S × AttachFault) → Reached I W E → Reached I W E
    → ℕ × Held S → Type 0
HasEndedCall line k e at (Ok station) old new result = HasRunLine line k e at station old new result
HasEndedCall line k e at (Err none) old new result = HasNoStation e.told none old new result

-- A call of a command line over a connection: its station was opened and its command ran, or a
-- missing station was reported.
pub record HasCalledStation {S I W E : Type 0} {g : Ghosts S} (line : Line) (k : Keeping (Station S g)) (e : Ends I W E)
    (at : LocalMinute) (conn : Held S) (old new : Reached I W E) (result : ℕ × Held S) : Type 0 where
  pub opened : Result (Station S g) (Held S × AttachFault)
  pub opens : HasOpened g k (is_new line.db line.command) conn (here_of line.station) opened
  pub ended : HasEndedCall line k e at opened old new result

-- A call of a command line over a connection: an upgrade of its file, or a command over its
-- station.
pub record HasCalled {S I W E : Type 0} {g : Ghosts S} (line : Line) (k : Keeping (Station S g)) (e : Ends I W E)
    (at : LocalMinute) (conn : Held S) (old new : Reached I W E) (result : ℕ × Held S) : Type 0 where
  pub migrated : is_migration line.command ≡ true → HasMigrated g e.printed e.told conn old new result
  pub called : is_migration line.command ≡ false → HasCalledStation line k e at conn old new result

-- The output of `--version`.

-- the kit with which the program is proved
abbrev pub kit : List ℕ
kit = codes "rattle-kit-13f"

-- the program, its version, the version of a new station's file, and the kit
abbrev pub version_line : List ℕ
version_line =
    codes "cargo_desk " ++ program_version ++ codes ", files of version "
    ++ signed_decimal (new_station []).version ++ (codes ", proved with " ++ kit ++ codes "\n")

-- The end of a call over a file.

-- A call with this status closed its file. After a fault the log stays, and nothing more is
-- reported; the store was opened by a list in the order of its trees, if the disk is clean
-- (`numbered`). Otherwise the log is copied into the database file, if the disk is clean, or the
-- store's fault is reported. If it isn't copied, the crash states of the store are those from
-- before.
pub record HasClosed {C F L E : Type 0} (b : Backing C F L) (conn : C) (told : E → Given) (old new : ℕ × E)
    (files : Result F L) : Type 0 where
  pub stopped : 1 < old.0 → (new ≡ old) × OnOk files ⊥
  pub numbered : 1 < old.0 → IfErr files (λ it. b.was_true (Err it) → b.numbered it)
  pub closed : old.0 ≤ 1 → IfOk files (λ _. new ≡ old)
  pub ended : HasEnded b conn files
  pub failed : old.0 ≤ 1 → OnErr files
      ((new.0 ≡ 3) × HasTold (fault.Run run_fault.Store) (told old.1) (told new.1))

-- The effect of a command line over a file: it ran over the connection, whose file was then closed.
pub record HasCalledFile {S F L I W E : Type 0} {g : Ghosts S} (b : Backing (Held S) F L) (line : Line)
    (k : Keeping (Station S g)) (e : Ends I W E) (at : LocalMinute) (conn : Held S)
    (reached : Reached I W E × Reached I W E) (result : FileEnd F L) : Type 0 where
  pub ran : ℕ × Held S
  pub behind : Reached I W E
  pub called : HasCalled line k e at conn reached.0 behind ran
  pub declared : IsTrue result.is_declared ↔ ((state g ran.1).now.schema ≡ station_schema)
  pub unread : reached.1.reader ≡ behind.reader
  pub unprinted : reached.1.output ≡ behind.output
  pub closed : HasClosed b ran.1 e.told (ran.0, behind.errors) (result.status, reached.1.errors) result.files

-- The service of a command line.

-- a service's fault, as the call's
abbrev pub server_fault : ServerFault → DeskFault
server_fault server.Listener = fault.Run run_fault.Read
server_fault server.Clock = fault.Clock
server_fault server.Store = fault.Run run_fault.Store
server_fault server.Memory = fault.Run run_fault.Memory

-- the line before the first connection
abbrev pub listening_line : List ℕ
listening_line = codes "listening\n"

-- The line was written, and these connections were served, at most so many; the service ends well
-- only if it goes on after each. Or a prefix was written, and nothing was served.
pub record HasListened {K W : Type 0} (k : Keeping K) (printed : W → Given) (count : Option ℕ) (all : List Exchange)
    (old new : K × W) (ended : Result Bool DeskFault) : Type 0 where
  pub served : HaveServed k all old.0 new.0
  pub most : MatchOption count ⊤ (λ most. length all ≤ most)
  pub good : IfOk ended (λ good. good ≡ true)
  pub goes : OnOk ended (All GoesOn all)
  pub sent : HasSent listening_line (printed old.1) (printed new.1)
  pub heard : ((printed new.1).bytes ≡ (printed old.1).bytes ++ listening_line → ⊥)
      → (all ≡ []) × (ended ≡ Err (fault.Run run_fault.Write))

-- A keeper was served; then the end of the service was reported. In between the reasons of refused
-- bodies were written.
pub record HasServedKept {K W E : Type 0} (k : Keeping K) (e : (W → Given) × (E → Given)) (count : Option ℕ)
    (all : List Exchange) (old new : K × (W × E)) (status : ℕ) : Type 0 where
  pub ended : Result Bool DeskFault
  pub listened : HasListened k e.0 count all (old.0, old.1.0) (new.0, new.1.0) ended
  pub status_is : status ≡ status_of ended
  pub between : E
  pub told : IfErr ended (λ fault. HasTold fault (e.1 between) (e.1 new.1.1))
  pub silent : OnOk ended (new.1.1 ≡ between)

-- the warning about a file whose tables aren't declared as `init` declares them, after its path
abbrev pub undeclared_text : List ℕ
undeclared_text =
    codes ": init declares the tables differently, so the promises about a power failure aren't proved "
    ++ codes "for this file; copy its rows into a new one"

abbrev pub HasWarned : Given → Given → Type 0
HasWarned old new = (path : List ℕ) × SendsLine (path ++ undeclared_text ++ 10 ∷ []) old new

-- A station was served, after a warning if its tables aren't declared as `init` declares them, and
-- after some reads of its rows, which change nothing. Then it returned its connection.
pub record HasServedStation {S W E : Type 0} {g : Ghosts S} (k : Keeping (Station S g)) (e : (W → Given) × (E → Given))
    (count : Option ℕ) (all : List Exchange) (is_declared : Bool) (station : Station S g) (moved : (W × E) × (W × E)) (result : ℕ × Held S) : Type 0 where
  pub warned : E
  pub quiet : is_declared ≡ true → warned ≡ moved.0.1
  pub warns : is_declared ≡ false → HasWarned (e.1 moved.0.1) (e.1 warned)
  pub filled : Station S g
  pub reads : OnlyReads k station filled
  pub last : Station S g
  pub ran : HasServedKept k e count all (filled, (moved.0.0, warned)) (last, moved.1) result.0
  pub released : HasReleased k last result.1

-- the writers of a call that reads nothing
abbrev pub unread : {W E : Type 0} → W × E → Reached (Unit {0}) W E
unread at = reached tt at.0 at.1

-- a service after its opening, by the outcome
abbrev pub HasEndedService : {S W E : Type 0} {g : Ghosts S} → Keeping (Station S g) → (W → Given) × (E → Given)
    → Option ℕ → List Exchange → Bool → Result (Station S g) (Held S × AttachFault)
    → (W × E) × (W × E) → ℕ × Held S → Type 0
HasEndedService k e count all is_declared (Ok station) moved result =
    HasServedStation k e count all is_declared station moved result
HasEndedService k e count all is_declared (Err none) moved result =
    (all ≡ []) × HasNoStation e.1 none (unread moved.0) (unread moved.1) result

-- The service of a command line over a connection: its station was opened and these connections of
-- it were served, or a missing station was reported.
pub record HasServedLine {S W E : Type 0} {g : Ghosts S} (line : Line) (k : Keeping (Station S g)) (e : (W → Given) × (E → Given))
    (count : Option ℕ) (conn : Held S) (moved : (W × E) × (W × E)) (result : ℕ × Held S) : Type 0 where
  pub opened : Result (Station S g) (Held S × AttachFault)
  pub opens : HasOpened g k (is_new line.db line.command) conn (here_of line.station) opened
  pub is_declared : Bool
  pub declared : IsTrue is_declared ↔ ((state g conn).now.schema ≡ station_schema)
  pub all : List Exchange
  pub ended : HasEndedService k e count all is_declared opened moved result

-- The service of a command line over a file: it ran over the connection, whose file was then
-- closed, and nothing else was done.
pub record HasServedFile {S F L W E : Type 0} {g : Ghosts S} (b : Backing (Held S) F L) (line : Line)
    (k : Keeping (Station S g)) (e : (W → Given) × (E → Given)) (count : Option ℕ) (conn : Held S)
    (moved : (W × E) × (W × E)) (result : FileEnd F L) : Type 0 where
  pub ran : ℕ × Held S
  pub behind : W × E
  pub called : HasServedLine line k e count conn (moved.0, behind) ran
  pub declared : IsTrue result.is_declared ↔ ((state g ran.1).now.schema ≡ station_schema)
  pub unprinted : moved.1.0 ≡ behind.0
  pub closed : HasClosed b ran.1 e.1 (ran.0, behind.1) (result.status, moved.1.1) result.files
