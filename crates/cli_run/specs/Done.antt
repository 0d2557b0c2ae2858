-- The effect of each command.
use Rattle.std.specs.Prelude.{◌≡◌, Bool, List, Result, ℕ, Option, Some, None, Err, OnOk, length, Ok, ◌++◌, take, true, false, is_some, codes, [], ◌∷◌, option_map, ◌<◌, zero, suc, ◌+◌, ◌==◌, ◌&&◌, if◌then◌else◌, IfSome, map, OnErr, IfOk, IfErr}
use Rattle.cli_run.specs.Common.{Given, AllByRecursion, LocalMinute, Order, ActFault, Input, IsAfterAnswered, State, LineCommand, HasCause, NoneFailed, OneFailed, ReportCause, ReportFault, OnlyReads, Keeping, IsHistory, IfSound, IfWorks, waybill_of, Waybill, Data, compact_text, holder_data, waybill_data, HasSent, IsListing, RunFault, Request}
use Rattle.station_core.specs.declared.answer.ActFault.TheVariants as act
use Rattle.cli_words.specs.declared.line.LineCommand.TheVariants as command
use Rattle.reports.specs.declared.report.ReportCause.TheVariants as report_cause
use Rattle.reports.specs.declared.report.Listing.TheVariants as listing
use Rattle.reports.specs.declared.report.Report.TheVariants as report
use Rattle.cli_run.specs.Lines.{HasRunInput, HasAnswered, HasAnsweredAsked, IsActAsked, kept, HasAnsweredLine, input_of, Row, stock_rows, row_asks, HasAnsweredRow, bad_line}
use Rattle.cli_run.specs.Requests.{IsTelegramAsked, IsCommandAsked, run_fault, IsReadersFault, IsReadToEnd, asked_line, asked_after}
use Rattle.cli_run.specs.Ends.{Printed, call_to, printed_to, Ends, Reached}
use Rattle.cli_run.specs.declared.telling.RunFault.TheVariants as fault
use Rattle.cli_run.specs.declared.request.Request.TheVariants as asked

-- The effect of several telegrams.

-- the reader began its next input, and the telegram in it was answered
pub record HasTakenNext {C I : Type 0} (Answers : List ℕ → Request → C → C → Result Bool RunFault → Type 0)
    (given : I → Given) (turned : I → I → Type 0) (old new : C × I) (result : Result Bool RunFault) : Type 0 where
  pub next : I
  pub goes_on : turned old.1 next
  pub unread : given next ≡ given old.1
  pub run : HasRunInput IsTelegramAsked Answers (given next) (given new.1) old.0 new.0 result

-- The inputs that acted in a run of a command, whatever it returns.

-- some row, body, telegram or line of a command has this input for the station; other commands have
-- none
abbrev pub Asks : LineCommand → Input → Type 0
Asks command.Stock i = (row : Row) × ((order : List ℕ × Order) × (row_asks row ≡ Some order) × (i ≡ input_of order))
Asks (command.Take paths) i = (bytes : List ℕ) × IsTelegramAsked bytes (asked.Input i)
Asks (command.Act verb key) i = (bytes : List ℕ) × IsCommandAsked verb key bytes (asked.Input i)
Asks command.Acts i = (line : List ℕ) × IsActAsked line (asked.Input i)
Asks _ i = ⊥

-- it does so at this moment
abbrev pub AsksAt : LineCommand → LocalMinute → Input × LocalMinute → Type 0
AsksAt c at one = (one.1 ≡ at) × Asks c one.0

-- the station's fault that ended a run: its store failed
abbrev pub station_fault : Result Bool RunFault → Option ActFault
station_fault (Err fault.Store) = Some act.Store
station_fault _ = None

-- What a run printed, answer by answer.

-- a request that was answered, with the number of its line if it has one; or a malformed row
pub data Turn : Type 0 where
  request_turn : Option ℕ → Request → Turn
  row_turn : ℕ → Turn

-- the request's input for the station, if it has one
abbrev pub input_of_request : Request → LocalMinute → Option (Input × LocalMinute)
input_of_request (asked.Input i) at = Some (i, at)
input_of_request _ at = None

abbrev pub listed : Option (Input × LocalMinute) → List (Input × LocalMinute)
listed None = []
listed (Some one) = one ∷ []

abbrev pub turn_line : State → LocalMinute → Turn → List ℕ
turn_line s at (request_turn number asks) = asked_line number s asks at
turn_line s at (row_turn number) = bad_line number

abbrev pub turn_after : State → LocalMinute → Turn → State
turn_after s at (request_turn number asks) = asked_after s asks at
turn_after s at (row_turn number) = s

abbrev pub turn_inputs : LocalMinute → Turn → List (Input × LocalMinute)
turn_inputs at (request_turn number asks) = listed (input_of_request asks at)
turn_inputs at (row_turn number) = []

-- the lines of answers, each of the state that those before it left
abbrev pub turns_text : State → LocalMinute → List Turn → List ℕ
turns_text s at [] = []
turns_text s at (t ∷ ts) = turn_line s at t ++ turns_text (turn_after s at t) at ts

abbrev pub turns_inputs : LocalMinute → List Turn → List (Input × LocalMinute)
turns_inputs at [] = []
turns_inputs at (t ∷ ts) = turn_inputs at t ++ turns_inputs at ts

-- the command answers inputs
abbrev pub answers_inputs : LineCommand → Bool
answers_inputs command.Stock = true
answers_inputs (command.Take paths) = true
answers_inputs (command.Act verb key) = true
answers_inputs command.Acts = true
answers_inputs _ = false

abbrev pub IfAnswers : Bool → Type 0 → Type 0
IfAnswers true X = X
IfAnswers false X = Unit {0}

-- The output is the lines of these turns, or a prefix of them if the run ended with a fault.
pub record HasSaid (s : State) (at : LocalMinute) (turns : List Turn) (before after : List ℕ)
    (result : Result Bool RunFault) : Type 0 where
  pub rest : List ℕ
  pub part : before ++ turns_text s at turns ≡ after ++ rest
  pub whole : OnOk result (after ≡ before ++ turns_text s at turns)

-- Some inputs of the command were answered, all of them if it ran to its end. What was printed is
-- the answers to exactly these inputs and to what can't be read, or a prefix after a fault.
-- Reopening finds the state after them and, if the store failed, perhaps after one more.
pub record HasLeft (Asked : Input × LocalMinute → Type 0) (at : LocalMinute) (answers : Bool) (s : State)
    (before after : List ℕ) (may_find : Option State → Type 0) (result : Result Bool RunFault) : Type 0 where
  pub inputs : List (Input × LocalMinute)
  pub asked : AllByRecursion Asked inputs
  pub answered : ℕ
  pub all : OnOk result (answered ≡ length inputs)
  pub left : (found : Option State) → may_find found
      → IsAfterAnswered s inputs answered (station_fault result) found
  pub turns : List Turn
  pub are : take answered inputs ≡ turns_inputs at turns
  pub said : IfAnswers answers (HasSaid s at turns before after result)

-- The output of a report.

-- the fault of a run whose report broke off
abbrev pub cause_fault : ReportCause → RunFault
cause_fault report_cause.Write = fault.Write
cause_fault (report_cause.Act e) = run_fault e

abbrev pub run_ended : Result (Unit {0}) ReportFault → Result (Unit {0}) RunFault
run_ended (Ok x) = Ok x
run_ended (Err e) = Err (cause_fault e.cause)

-- The text was written; or a prefix, and the writer failed or wrote 0 bytes, the keeper failed, or
-- memory ran out.
abbrev pub HasReported : List ℕ → Given → Given → Result (Unit {0}) RunFault → Type 0
HasReported text old new (Ok x) = new.bytes ≡ old.bytes ++ text
HasReported text old new (Err e) = ((sent : ℕ) × (new.bytes ≡ old.bytes ++ take sent text)) × (e ≡ fault.Write → HasCause old new) × (e ≡ fault.Read → ⊥)

-- No write failed or wrote 0 bytes; if the run ended with Write, exactly one did.
abbrev pub StopsReport : Given → Given → Result (Unit {0}) RunFault → Type 0
StopsReport old new (Ok x) = NoneFailed old new
StopsReport old new (Err fault.Write) = OneFailed old new
StopsReport old new (Err e) = NoneFailed old new

-- The output of a report, as the result of a command.

-- a report refuses nothing
abbrev pub good_of : Result (Unit {0}) RunFault → Result Bool RunFault
good_of (Ok x) = Ok true
good_of (Err e) = Err e

-- The report was written, or a prefix, and nothing changed. A broken station returns nothing; any
-- other returns Store only if its store may fail.
pub record HasToldReport {K : Type 0} (IsText : State → List ℕ → Type 0) (k : Keeping K) (old new : Printed K)
    (ended : Result (Unit {0}) RunFault) : Type 0 where
  pub reads : OnlyReads k old.0 new.0
  pub reopen : k.is_broken old.0 ≡ true → (ended ≡ Err fault.Store) × (new.0 ≡ old.0)
      × (new.1 ≡ old.1)
  pub fault : (s : State) → k.keeps old.0 s → k.is_sound new.0 → k.is_broken old.0 ≡ false
      → ended ≡ Err fault.Store → k.may_fail
  pub writes : StopsReport old.1 new.1 ended
  -- one text is the report that was written
  pub told : (s : State) → k.keeps old.0 s → k.is_sound new.0
      → OnOk ended ((text : List ℕ) × IsText s text × HasReported text old.1 new.1 ended)
  -- each text of the report was written, or a prefix
  pub each : (s : State) → k.keeps old.0 s → k.is_sound new.0 → (text : List ℕ) → IsText s text
      → HasReported text old.1 new.1 ended

-- the same as the result of a command: a report refuses nothing
pub record HasReportedGood {K : Type 0} (IsText : State → List ℕ → Type 0) (k : Keeping K) (old new : Printed K)
    (result : Result Bool RunFault) : Type 0 where
  pub ended : Result (Unit {0}) RunFault
  pub good : result ≡ good_of ended
  pub told : HasToldReport IsText k old new ended

-- The output of a waybill's history.

-- the answer to GET /v1/waybills/AWB/history, or that the waybill isn't declared
abbrev pub IsHistoryText : State → ℕ → Option Waybill → List ℕ → Type 0
IsHistoryText s w None text = text ≡ codes "unknown\n"
IsHistoryText s w (Some known) text = IsHistory s w known text

-- The text was written, and the result is good if the waybill is known; or a prefix of it was
-- written, and the writer failed or wrote 0 bytes. If the keeper failed or memory ran out, nothing
-- was written.
abbrev pub HasToldHistory : State → ℕ → Option Waybill → Given → Given → Result Bool RunFault → Type 0
HasToldHistory s w found old new (Ok good) =
    (good ≡ is_some found)
    × ((text : List ℕ) × IsHistoryText s w found text × (new.bytes ≡ old.bytes ++ text))
HasToldHistory s w found old new (Err fault.Write) =
    ((text : List ℕ) × IsHistoryText s w found text
    × ((sent : ℕ) × (new.bytes ≡ old.bytes ++ take sent text)))
    × HasCause old new
HasToldHistory s w found old new (Err fault.Read) = ⊥
HasToldHistory s w found old new (Err fault.Memory) = new ≡ old
HasToldHistory s w found old new (Err fault.Store) = new ≡ old

-- The history of one state was written, or a prefix, and nothing changed. A broken station returns
-- nothing; any other returns Store only if its store may fail.
pub record HasReadHistory {K : Type 0} (k : Keeping K) (w : ℕ) (old new : Printed K)
    (result : Result Bool RunFault) : Type 0 where
  pub reads : OnlyReads k old.0 new.0
  pub reopen :
      k.is_broken old.0 ≡ true → (result ≡ Err fault.Store) × (new.0 ≡ old.0) × (new.1 ≡ old.1)
  pub fault : IfWorks k old.0 new.0 (λ s. result ≡ Err fault.Store → k.may_fail)
  pub told : IfSound k old.0 new.0
      (λ s. HasToldHistory s w (waybill_of s.cargo w) old.1 new.1 result)

-- The output of a look-up.

-- the object in the answer to GET /v1/waybills/AWB, None if the waybill isn't declared
abbrev pub waybill_found : ℕ → State → Option Data
waybill_found w s = option_map (waybill_data w) (waybill_of s.cargo w)

-- the object in the answer to GET /v1/stock/AWB, None if the number isn't in stock
abbrev pub holder_found : ℕ → State → Option Data
holder_found w s = option_map (holder_data w) (s.cargo.holders w)

abbrev pub found_line : Option Data → List ℕ
found_line (Some d) = compact_text d ++ 10 ∷ []
found_line None = codes "unknown\n"

-- The line was written, and the result is good if there is an object; or a prefix of the line was
-- written, and the writer failed or wrote 0 bytes. If the keeper failed or memory ran out, nothing
-- was written.
abbrev pub HasToldFound : Option Data → Given → Given → Result Bool RunFault → Type 0
HasToldFound found old new (Ok good) =
    (good ≡ is_some found) × (new.bytes ≡ old.bytes ++ found_line found)
HasToldFound found old new (Err fault.Write) =
    ((sent : ℕ) × (new.bytes ≡ old.bytes ++ take sent (found_line found))) × HasCause old new
HasToldFound found old new (Err fault.Read) = ⊥
HasToldFound found old new (Err fault.Memory) = new ≡ old
HasToldFound found old new (Err fault.Store) = new ≡ old

-- The line of the station's object was written, or a prefix, and nothing changed. A broken station
-- returns nothing; any other returns Store only if its store may fail.
pub record HasLookedUp {K : Type 0} (found : State → Option Data) (k : Keeping K) (old new : Printed K)
    (result : Result Bool RunFault) : Type 0 where
  pub reads : OnlyReads k old.0 new.0
  pub reopen :
      k.is_broken old.0 ≡ true → (result ≡ Err fault.Store) × (new.0 ≡ old.0) × (new.1 ≡ old.1)
  pub fault : k.is_broken old.0 ≡ false → result ≡ Err fault.Store → k.may_fail
  pub told :
      (s : State) → k.keeps old.0 s → k.is_sound new.0 → HasToldFound (found s) old.1 new.1 result

-- Items of one input, such as the rows of a list, or several inputs, answered one after another.

-- Items were answered, each from where the one before it ended; the first has this number. They are
-- good if each item is.
abbrev pub AreAnswered : {A C : Type 0} → (ℕ → A → C → C → Result Bool RunFault → Type 0) → ℕ
    → List A → C → C → Bool → Type 0
AreAnswered Step number [] old new good = (new ≡ old) × (good ≡ true)
AreAnswered {A} {C} Step number (item ∷ items) old new good =
    (mid : C) × ((one rest : Bool) × Step number item old mid (Ok one)
    × AreAnswered Step (number + 1) items mid new rest × (good ≡ (one && rest)))

-- These items were answered, and then no further item could be read as the reader failed or memory
-- ran out; or the next one ended the call, by any other fault than the reader's.
abbrev pub HasEndedAt : {A C : Type 0} → (ℕ → A → C → C → Result Bool RunFault → Type 0) → List A
    → Option A → C → C → RunFault → Type 0
HasEndedAt Step items None old new e =
    IsReadersFault e × ((good : Bool) × AreAnswered Step 1 items old new good)
HasEndedAt {A} {C} Step items (Some item) old new e =
    (e ≡ fault.Read → ⊥) × ((mid : C) × ((good : Bool) × AreAnswered Step 1 items old mid good
    × Step (length items + 1) item mid new (Err e)))

abbrev pub items_read : {A : Type 0} → List A → Option A → List A
items_read items None = items
items_read items (Some item) = items ++ item ∷ []

-- they are the first items of a text
abbrev pub AreFirst : {A : Type 0} → (List ℕ → List A) → List A → List ℕ → Type 0
AreFirst {A} items_of items bytes = (more : List A) × (items_of bytes ≡ items ++ more)

-- Every item was answered, or those up to a fault. `left` is the text, if it is known.
abbrev pub HaveBeenAnswered : {A C : Type 0} → (List ℕ → List A)
    → (ℕ → A → C → C → Result Bool RunFault → Type 0) → Option (List ℕ) → C → C
    → Result Bool RunFault → Type 0
HaveBeenAnswered {A} items_of Step left old new (Ok good) =
    (items : List A) × IfSome left (λ bytes. items ≡ items_of bytes)
    × AreAnswered Step 1 items old new good
HaveBeenAnswered {A} items_of Step left old new (Err e) =
    (items : List A) × ((next : Option A) × IfSome left (AreFirst items_of (items_read items next))
    × HasEndedAt Step items next old new e)

-- `n` steps were made, each from where the one before it ended. They are good if each is.
abbrev pub AreMade : {C : Type 0} → (C → C → Result Bool RunFault → Type 0) → ℕ → C → C → Bool
    → Type 0
AreMade {C} Step zero old new good = (new ≡ old) × (good ≡ true)
AreMade {C} Step (suc n) old new good =
    (mid : C) × ((before one : Bool) × AreMade Step n old mid before × Step mid new (Ok one)
    × (good ≡ (before && one)))

-- all of them; or some of them, and the next one ended the call
abbrev pub HaveBeenMade : {C : Type 0} → (C → C → Result Bool RunFault → Type 0) → ℕ → C → C
    → Result Bool RunFault → Type 0
HaveBeenMade {C} Step count old new (Ok good) = AreMade Step count old new good
HaveBeenMade {C} Step count old new (Err e) =
    (n : ℕ) × (n < count)
    × ((mid : C) × ((before : Bool) × AreMade Step n old mid before × Step mid new (Err e)))

-- puts a byte before the first line
abbrev pub in_front : ℕ → List (List ℕ) → List (List ℕ)
in_front b [] = (b ∷ []) ∷ []
in_front b (line ∷ lines) = (b ∷ line) ∷ lines

abbrev pub lines_of : List ℕ → List (List ℕ)
lines_of [] = []
lines_of (b ∷ bs) = if b == 10 then (b ∷ []) ∷ lines_of bs else in_front b (lines_of bs)

-- the lines of a text, each as far as it is kept
abbrev pub kept_lines : List ℕ → List (List ℕ)
kept_lines text = map kept (lines_of text)

-- the output of `init`
abbrev pub made_line : List ℕ → List ℕ
made_line here = codes "ok " ++ here ++ codes "\n"

-- The line of the new station was written; or a prefix, and the writer failed or wrote 0 bytes. The
-- station stays as it was created.
pub record HasToldMade {K : Type 0} (here : List ℕ) (old new : Printed K) (result : Result Bool RunFault) : Type 0 where
  pub same : new.0 ≡ old.0
  pub good : IfOk result (λ good. good ≡ true)
  pub all : OnOk result (new.1.bytes ≡ old.1.bytes ++ made_line here)
  pub sent : HasSent (made_line here) old.1 new.1
  pub why : IfErr result (λ e. e ≡ fault.Write)
  pub cause : OnErr result (HasCause old.1 new.1)

-- nothing was done or written
pub record HasIdled {K : Type 0} (old new : Printed K) (result : Result Bool RunFault) : Type 0 where
  pub same : new.0 ≡ old.0
  pub nothing : new.1 ≡ old.1
  pub good : result ≡ Ok true

-- The effect of each command on its keeper, its reader and its writers, and its result. The
-- service, the upgrade of a file and the dry run don't run here.
abbrev pub HasDone : {K I W E : Type 0} → LineCommand → List ℕ → Keeping K → Ends I W E → LocalMinute
    → K × Reached I W E → K × Reached I W E → Result Bool RunFault → Type 0
HasDone command.Init here k e at old new r =
    HasToldMade here (printed_to e old) (printed_to e new) r
HasDone command.Migrate here k e at old new r =
    HasIdled (printed_to e old) (printed_to e new) r
HasDone command.Stock here k e at old new r =
    HaveBeenAnswered stock_rows (HasAnsweredRow k at e.told) (e.remaining old.1.reader) (call_to e old) (call_to e new) r
    × IsReadToEnd (e.given new.1.reader) r
HasDone (command.Take paths) here k e at old new r =
    HaveBeenMade (HasTakenNext (λ bytes. HasAnswered k at e.told None) e.given e.turned) (length paths.items)
    (call_to e old, old.1.reader) (call_to e new, new.1.reader) r
HasDone (command.Act verb key) here k e at old new r =
    HasAnsweredAsked (IsCommandAsked verb key) k at e.told (call_to e old, e.given old.1.reader)
    (call_to e new, e.given new.1.reader) r
HasDone command.Acts here k e at old new r =
    HaveBeenAnswered kept_lines (HasAnsweredLine k at e.told) (e.remaining old.1.reader) (call_to e old) (call_to e new) r
    × IsReadToEnd (e.given new.1.reader) r
HasDone (command.Outbox f) here k e at old new r =
    HasReportedGood (λ s. IsListing f s (listing.All report.Pending)) k (printed_to e old) (printed_to e new) r
HasDone (command.Report l f) here k e at old new r =
    HasReportedGood (λ s. IsListing f s l) k (printed_to e old) (printed_to e new) r
HasDone (command.Waybill w) here k e at old new r =
    HasLookedUp (waybill_found w) k (printed_to e old) (printed_to e new) r
HasDone (command.Holder w) here k e at old new r =
    HasLookedUp (holder_found w) k (printed_to e old) (printed_to e new) r
HasDone (command.History w) here k e at old new r =
    HasReadHistory k w (printed_to e old) (printed_to e new) r
HasDone (command.Read path) here k e at old new r =
    HasIdled (printed_to e old) (printed_to e new) r
HasDone (command.Serve port count) here k e at old new r =
    HasIdled (printed_to e old) (printed_to e new) r

-- The reasons on standard error, by command.

-- For a command that reads inputs the reasons are described with each input, and the other commands
-- write nothing.
abbrev pub HasGivenReasons : {K I W E : Type 0} → LineCommand → Keeping K → Ends I W E → LocalMinute
    → K × Reached I W E → K × Reached I W E → Result Bool RunFault → Type 0
HasGivenReasons command.Stock k e at old new r = Unit {0}
HasGivenReasons (command.Take paths) k e at old new r = Unit {0}
HasGivenReasons (command.Act verb key) k e at old new r = Unit {0}
HasGivenReasons command.Acts k e at old new r = Unit {0}
HasGivenReasons _ k e at old new r = new.1.errors ≡ old.1.errors
