-- The ends of calls: exit status, fault line, and what they leave.
use Rattle.std.specs.Prelude.{◌≡◌, ℕ, Bool, true, false, List, ◌++◌, codes, Result, Ok, Err, IfErr, OnOk, IfOk, OnErr}
use Rattle.cli_call.specs.Common.{signed_decimal, name_text, Given, RunFault, AttachFault, SendsLine, Reached, Held, Ghosts, HasCause, HasSent, HasMoved, LocalMinute, Keeping, State, LineCommand, HasDone, Ends, AsksAt, HasLeft, answers_inputs, HasServedInputs, Exchange, HaveServed, DeskFault}
use Rattle.cli_run.specs.declared.telling.RunFault.TheVariants as run
use Rattle.station_tables.specs.declared.attaching.AttachFault.TheVariants as attach
use Rattle.cli_call.specs.declared.ended.DeskFault.TheVariants as fault

-- The exit status of a call, and its fault line.

abbrev pub run_line : RunFault → List ℕ
run_line run.Read = codes "fault read\n"
run_line run.Write = codes "fault write\n"
run_line run.Memory = codes "fault memory\n"
run_line run.Store = codes "fault store\n"

-- the line if there is no station
abbrev pub attach_line : AttachFault → List ℕ
attach_line (attach.Unlawful table) = codes "fault 601 " ++ name_text table ++ codes "\n"
attach_line attach.NoStation = codes "fault 602\n"
attach_line (attach.Version version) = codes "fault 603 " ++ signed_decimal version ++ codes "\n"
attach_line attach.Occupied = codes "fault 604\n"
attach_line attach.Store = codes "fault store\n"
attach_line attach.Memory = codes "fault memory\n"

abbrev pub fault_line : DeskFault → List ℕ
fault_line fault.Clock = codes "fault clock\n"
fault_line (fault.Run e) = run_line e
fault_line (fault.Attach e) = attach_line e

-- its line was written; or a prefix, and the writer failed or wrote 0 bytes
abbrev pub HasTold : DeskFault → Given → Given → Type 0
HasTold e old new = SendsLine (fault_line e) old new

abbrev pub run_ended : Result Bool RunFault → Result Bool DeskFault
run_ended (Ok good) = Ok good
run_ended (Err e) = Err (fault.Run e)

-- the exit status without a station: 3 if the store failed or memory ran out, 4 if the file has
-- none
abbrev pub attach_status : AttachFault → ℕ
attach_status attach.Store = 3
attach_status attach.Memory = 3
attach_status _ = 4

-- the exit status: everything was accepted, something wasn't, the call broke off, or there was no
-- station
abbrev pub status_of : Result Bool DeskFault → ℕ
status_of (Ok true) = 0
status_of (Ok false) = 1
status_of (Err (fault.Attach e)) = attach_status e
status_of (Err e) = 3

-- the reported end of a run: its status, and the line of its fault if it stopped
pub record HasToldEnd {E : Type 0} (taken : E → Given) (ended : Result Bool RunFault) (errors_old errors_new : E) (status : ℕ) : Type 0 where
  pub status_is : status ≡ status_of (run_ended ended)
  pub told : IfErr ended (λ e. HasTold (fault.Run e) (taken errors_old) (taken errors_new))
  pub silent : OnOk ended (errors_new ≡ errors_old)

-- There is no station, and the fault is reported. Nothing was read or printed, and the connection
-- is returned as it came with the fault.
pub record HasNoStation {C I W E : Type 0} (told : E → Given) (none : C × AttachFault) (old new : Reached I W E) (result : ℕ × C) : Type 0 where
  pub unread : new.reader ≡ old.reader
  pub unprinted : new.output ≡ old.output
  pub reported : HasTold (fault.Attach none.1) (told old.errors) (told new.errors)
  pub status : result.0 ≡ attach_status none.1
  pub conn : result.1 ≡ none.0

-- Upgrades of files from version 1 to version 2.

-- the line with the version of the file
abbrev pub moved_line : List ℕ
moved_line = codes "ok 2\n"

-- It was written; or a prefix, and the writer failed or wrote 0 bytes.
pub record HasToldVersion (sent_old sent_new : Given) (result : Result Bool RunFault) : Type 0 where
  pub good : IfOk result (λ good. good ≡ true)
  pub all : OnOk result (sent_new.bytes ≡ sent_old.bytes ++ moved_line)
  pub sent : HasSent moved_line sent_old sent_new
  pub why : IfErr result (λ e. e ≡ run.Write)
  pub cause : OnErr result (HasCause sent_old sent_new)

-- The version was written, the end was reported, and the connection is returned. Nothing was read.
pub record HasToldMoved {C I W E : Type 0} (printed : W → Given) (told : E → Given) (moved : C)
    (old new : Reached I W E) (result : ℕ × C) : Type 0 where
  pub ended : Result Bool RunFault
  pub unread : new.reader ≡ old.reader
  pub line : HasToldVersion (printed old.output) (printed new.output) ended
  pub reported : HasToldEnd told ended old.errors new.errors result.0
  pub conn : result.1 ≡ moved

-- a call after an upgrade, by its outcome
abbrev pub HasEndedMigration : {C I W E : Type 0} → (W → Given) → (E → Given)
    → Result C (C × AttachFault) → Reached I W E → Reached I W E → ℕ × C → Type 0
HasEndedMigration printed told (Ok moved) old new result = HasToldMoved printed told moved old new result
HasEndedMigration printed told (Err none) old new result = HasNoStation told none old new result

-- A file was upgraded, or it wasn't; then that was reported. Nothing was read.
pub record HasMigrated {S I W E : Type 0} (g : Ghosts S) (printed : W → Given)
    (told : E → Given) (conn : Held S) (old new : Reached I W E) (result : ℕ × Held S) : Type 0 where
  pub migrated : Result (Held S) (Held S × AttachFault)
  pub moves : HasMoved g conn migrated
  pub ended : HasEndedMigration printed told migrated old new result

-- What a command or a service leaves, however it ends.

-- Reopening finds the state after the inputs that a command answered and, if the store failed,
-- perhaps one more.
abbrev pub LeavesInputs : {K I W E : Type 0} → Keeping K → Ends I W E → Type 0
LeavesInputs {K} {I} {W} {E} k e =
    (command : LineCommand) (here : List ℕ) (at : LocalMinute) (s : State) (old new : K × Reached I W E) (result : Result Bool RunFault)
    → k.keeps old.0 s → k.is_broken old.0 ≡ false → k.is_sound new.0 → HasDone command here k e at old new result
    → HasLeft (AsksAt command at) at (answers_inputs command) s (e.printed old.1.output).bytes
    (e.printed new.1.output).bytes (k.may_find new.0) result

-- the same of a service, and of its connections
abbrev pub LeavesServed : {K : Type 0} → Keeping K → Type 0
LeavesServed {K} k =
    (all : List Exchange) (s : State) (old new : K) → HaveServed k all old new
    → k.keeps old s → k.is_broken old ≡ false → k.is_sound new
    → HasServedInputs all s (k.is_broken new) (k.may_find new)
