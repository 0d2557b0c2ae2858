-- Requests in the input of a command, their outcome, and the faults of a run.
use Rattle.std.specs.Prelude.{◌≡◌, ℕ, ◌≤◌, Bool, false, List, [], ◌∷◌, ◌++◌, length, codes, decimal, Option, Some, None, IsUtf8, ◌<◌, ◌⊎◌, true, if◌then◌else◌, Result, Ok, Err, OnOk, IfErr, take}
use Rattle.cli_run.specs.Common.{Data, read, LocalMinute, most_bytes, TextFault, IsBodyOf, Command, Verb, Meant, IsTelegram, telegram_fault, refusal_of, Answer, Done, Refused, Keyed, Wire, is_done, State, step, reply_text, refusal_text, ErrorKind, Given, HasCause, NoneFailed, Keeping, ActFault, Request, RunFault}
use Rattle.csv.specs.declared.error.ErrorKind.TheVariants as kind
use Rattle.station_core.specs.declared.answer.ActFault.TheVariants as act
use Rattle.cli_run.specs.declared.request.Request.TheVariants as asked
use Rattle.cli_run.specs.declared.telling.RunFault.TheVariants as fault

-- Requests in the input of a command, and the answers to them.

-- the bytes are this telegram, or they are refused by their fault
abbrev pub IsTelegramAsked : List ℕ → Request → Type 0
IsTelegramAsked bytes (asked.Input i) = (t : Meant) × IsTelegram bytes t × (i ≡ Wire t)
IsTelegramAsked bytes (asked.Refused refusal) = (told : TextFault) × (telegram_fault bytes ≡ Some told) × (refusal ≡ refusal_of told)
IsTelegramAsked bytes _ = ⊥

-- the bytes are a JSON body of this command of the verb
abbrev pub IsSaid : Verb → List ℕ → Command → Type 0
IsSaid verb bytes command = (length bytes ≤ most_bytes) × IsUtf8 bytes × ((d : Data) × (read bytes ≡ Some d) × IsBodyOf verb d command)

-- the bytes have this command, under the key, or no command
abbrev pub IsCommandAsked : Verb → List ℕ → List ℕ → Request → Type 0
IsCommandAsked verb key bytes (asked.Input i) = (command : Command) × IsSaid verb bytes command × (i ≡ Keyed key command)
IsCommandAsked verb key bytes (asked.Bad other body) = (command : Command) → ¬ (IsSaid verb bytes command)
IsCommandAsked verb key bytes _ = ⊥

-- the bytes are a body under a verb and a key, or a telegram
abbrev pub IsAskedUnder : Option (Verb × List ℕ) → List ℕ → Request → Type 0
IsAskedUnder (Some head) = IsCommandAsked head.0 head.1
IsAskedUnder None = IsTelegramAsked

abbrev pub answer_text : Answer → List ℕ
answer_text (Done reply) = reply_text reply
answer_text (Refused refusal) = refusal_text refusal

-- the text of the answer at a moment: that of the station's step, or a text that doesn't depend on
-- the station
abbrev pub asked_text : State → Request → LocalMinute → List ℕ
asked_text s (asked.Input i) at = answer_text (step s i at).answer
asked_text s (asked.Refused refusal) at = refusal_text refusal
asked_text s (asked.Bad verb body) at = codes "body bad"
asked_text s (asked.BadLine line) at = codes "bad"

-- an answer after the number of its line of `acts`; a command that reads one input has no number
abbrev pub numbered : Option ℕ → List ℕ → List ℕ
numbered None answer = answer
numbered (Some number) answer = codes "line " ++ decimal number ++ 32 ∷ answer

-- an answer after the key of its line of `acts`
abbrev pub keyed : Option ℕ → List ℕ → List ℕ → List ℕ
keyed None key answer = answer
keyed (Some number) key answer = key ++ 32 ∷ answer

-- an answer after the name of the line: the key of a command, otherwise the number
abbrev pub named : Option ℕ → Request → List ℕ → List ℕ
named number (asked.Input (Keyed key command)) answer = keyed number key answer
named number (asked.Input (Wire t)) answer = numbered number answer
named number (asked.Refused refusal) answer = numbered number answer
named number (asked.Bad verb body) answer = answer
named number (asked.BadLine line) answer = numbered number answer

abbrev pub asked_line : Option ℕ → State → Request → LocalMinute → List ℕ
asked_line number s asks at = named number asks (asked_text s asks at ++ 10 ∷ [])

abbrev pub asked_good : State → Request → LocalMinute → Bool
asked_good s (asked.Input i) at = is_done (step s i at).answer
asked_good s _ at = false

abbrev pub asked_after : State → Request → LocalMinute → State
asked_after s (asked.Input i) at = (step s i at).state
asked_after s _ at = s

-- Faults of a run: their causes, and what they leave.

-- a keeper that returns Reopen has a store that failed
abbrev pub run_fault : ActFault → RunFault
run_fault act.Memory = fault.Memory
run_fault _ = fault.Store

-- the writer's fault is returned only if a call of it failed, or wrote 0 bytes
abbrev pub WriteHasCause : {X : Type 0} → Result X RunFault → Given → Given → Type 0
WriteHasCause result old new = result ≡ Err fault.Write → HasCause old new

-- What a result tells of the writer. A fault other than the writer's is returned only if the writer
-- didn't fail.
pub record TellsWriting {X : Type 0} (old new : Given) (result : Result X RunFault) : Type 0 where
  pub cause : WriteHasCause result old new
  pub told : IfErr result (λ e. (e ≡ fault.Write) ⊎ NoneFailed old new)
  pub untroubled : OnOk result (NoneFailed old new)

-- The station must be opened again after a fault exactly if its store failed.
abbrev pub IsShutAfter : RunFault → Bool → Type 0
IsShutAfter fault.Store broken = broken ≡ true
IsShutAfter _ broken = broken ≡ false

-- the state kept after a run, and the states that reopening may find
pub record Kept : Type 1 where
  pub keeps : State → Type 0
  pub may_find : Option State → Type 0

-- the same of a keeper
abbrev pub kept_by : {K : Type 0} → Keeping K → K → Kept
kept_by k keeper = record { keeps = k.keeps keeper; may_find = k.may_find keeper }

-- the fault of a run whose reader fails, or for which memory runs out
abbrev pub reader_fault : ErrorKind → RunFault
reader_fault (kind.Io e) = fault.Read
reader_fault _ = fault.Memory

-- the corrected result of a run, once it is known whether the reader failed
abbrev pub told_by : Result Bool RunFault → Bool → Result Bool RunFault
told_by (Ok good) failed = if failed then Err fault.Read else Ok good
told_by (Err fault.Read) failed = if failed then Err fault.Read else Err fault.Memory
told_by (Err e) failed = Err e

abbrev pub IsReadersFault : RunFault → Type 0
IsReadersFault e = (e ≡ fault.Read) ⊎ (e ≡ fault.Memory)

-- `Read` is returned only if the reader failed, and the end of the input is reached only if it
-- didn't.
pub record IsReadToEnd (read_new : Given) (result : Result Bool RunFault) : Type 0 where
  pub read_cause : result ≡ Err fault.Read → 0 < read_new.failures
  pub no_failure : OnOk result (read_new.failures ≡ 0)

-- The outcome of a request or a row, whether it was answered or not.

-- A prefix of a line was written, as the writer failed or wrote 0 bytes. Or memory ran out for the
-- line, and nothing was written.
pub record HasToldPart (line : List ℕ) (old new : Given) (e : RunFault) : Type 0 where
  pub why : (e ≡ fault.Write) ⊎ ((e ≡ fault.Memory) × (new.bytes ≡ old.bytes))
  pub sent : ℕ
  pub part : new.bytes ≡ old.bytes ++ take sent line
  pub cause : e ≡ fault.Write → HasCause old new

-- A request or a row was answered: its line was written, and the station keeps the state after it.
pub record IsAnswered (text : List ℕ) (accepted : Bool) (next : State) (good : Bool) (before after : List ℕ) (keeps : State → Type 0) : Type 0 where
  pub line : after ≡ before ++ text
  pub good_is : good ≡ accepted
  pub state : keeps next

-- It acted, and a prefix of its line was written: the writer failed or wrote 0 bytes. Or memory ran
-- out for the line, and nothing was written.
pub record HasActed (text : List ℕ) (next : State) (e : RunFault) (before after : List ℕ) (keeps : State → Type 0) : Type 0 where
  pub why : (e ≡ fault.Write) ⊎ ((e ≡ fault.Memory) × (after ≡ before))
  pub sent : ℕ
  pub line : after ≡ before ++ take sent text
  pub state : keeps next

-- It didn't act, as memory ran out, or may have acted if the store failed; and nothing was written.
pub record HasNotActed (s next : State) (e : RunFault) (before after : List ℕ) (left : Kept) : Type 0 where
  pub why : (e ≡ fault.Memory) ⊎ (e ≡ fault.Store)
  pub nothing : after ≡ before
  pub memory : e ≡ fault.Memory → left.keeps s
  pub states : (found : Option State) → left.may_find found → (found ≡ Some s)
      ⊎ ((e ≡ fault.Store) × (found ≡ Some next))

-- it stopped the command, whether it acted or not
abbrev pub IsStopped : List ℕ → State → State → RunFault → List ℕ → List ℕ → Kept → Type 0
IsStopped text s next e before after left =
    HasActed text next e before after left.keeps ⊎ HasNotActed s next e before after left

-- A request on a broken station, which isn't called.

-- a line that isn't an acceptance was written, or a prefix
abbrev pub HasToldLine : List ℕ → Given → Given → Result Bool RunFault → Type 0
HasToldLine line old new (Ok good) = (good ≡ false) × (new.bytes ≡ old.bytes ++ line)
HasToldLine line old new (Err e) = HasToldPart line old new e

-- A request that doesn't need the station gets its line; an input is answered Store, and nothing is
-- written.
abbrev pub IsAnsweredShut : Option ℕ → Request → Given → Given → Result Bool RunFault → Type 0
IsAnsweredShut number (asked.Refused refusal) old new r = HasToldLine (numbered number (refusal_text refusal ++ 10 ∷ [])) old new r
IsAnsweredShut number (asked.Bad verb body) old new r = HasToldLine (codes "body bad\n") old new r
IsAnsweredShut number (asked.BadLine line) old new r = HasToldLine (numbered number (codes "bad\n")) old new r
IsAnsweredShut number (asked.Input i) old new (Ok good) = ⊥
IsAnsweredShut number (asked.Input i) old new (Err e) = (e ≡ fault.Store) × (new ≡ old)
