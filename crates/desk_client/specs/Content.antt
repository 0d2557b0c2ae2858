-- Answers to commands and telegrams, and the status of a call.
use Rattle.std.specs.Prelude.{◌≡◌, ◌==◌, ◌&&◌, ◌||◌, ℕ, ◌^◌, nat_lt, List, [], ◌∷◌, ◌++◌, codes, decimal, Option, Some, None, option_map, option_and_then, if◌then◌else◌, string_bytes, IsUtf8, ◌⊎◌, Bool, true, false, drop, Result, Ok, Err}
use Rattle.desk_client.specs.Common.{bytes_eq, where_true, Data, get, as_number, as_u64, as_str, read, Given, Input, Keyed, Wire, RunFault, is_unread, Request, named, HasToldPart, reason_head, HasGivenReason, HasToldWhy, Call, IsAnsweredShut, Response, AskFault, LastTry}
use Rattle.cli_run.specs.declared.telling.RunFault.TheVariants as fault
use Rattle.cli_run.specs.declared.request.Request.TheVariants as asked
use Rattle.desk_client.specs.Try.{Talk, IsAnswered}
use Rattle.desk_client.specs.declared.content.Content.{Content}
use Rattle.desk_client.specs.declared.content.Content.TheVariants as content
use Rattle.desk_client.specs.declared.ask.AskFault.TheVariants as vain
use Rattle.desk_client.specs.declared.lines.Heard.{Heard}
use Rattle.desk_client.specs.declared.reading.LastTry.TheVariants as last

-- The content of an answer to a command or a telegram.

abbrev pub ok_line : ℕ → List ℕ
ok_line count = codes "ok " ++ decimal count

-- a refusal without a detail ends with its number
abbrev pub refused_line : ℕ → List ℕ → List ℕ
refused_line number [] = codes "refused " ++ decimal number
refused_line number (b ∷ detail) = codes "refused " ++ decimal number ++ 32 ∷ b ∷ detail

-- a member that is a non-negative number
abbrev pub count_of : List ℕ → Data → Option ℕ
count_of name d = option_and_then as_u64 (option_and_then as_number (get name d))

-- the count of an accepted input: at most that of 32 bits
abbrev pub count_told : Data → Option ℕ
count_told d =
    option_and_then (λ count. where_true (nat_lt count (2 ^ 32)) count) (count_of (codes "count") d)

abbrev pub refusal_told : Data → Option (ℕ × List ℕ)
refusal_told d =
    option_and_then (λ number. option_map (λ detail. (number, detail)) (option_and_then as_str (get (codes "detail") d))) (count_of (codes "refused") d)

-- A refusal of the station has status 409, and 400 if a telegram can't be read; a body that isn't a
-- command has status 400 and a word. A command has no other answers.
abbrev pub refused_told : ℕ → ℕ × List ℕ → Option (List ℕ)
refused_told status (number, detail) =
    if (status == 409) || ((status == 400) && ((number == 301) || (number == 302))) then Some (refused_line number detail)
    else if ((status == 400) && (number == 400)) && bytes_eq detail (codes "body") then Some (codes "body bad")
    else None

-- the line, without its end
abbrev pub told_line : ℕ → Data → Option (List ℕ)
told_line status d =
    if status == 200 then option_map ok_line (count_told d)
    else option_and_then (refused_told status) (refusal_told d)

-- the content of a body under a status; 200 means that it was accepted
abbrev pub HasContent : ℕ → List ℕ → Content → Type 0
HasContent status body (content.Line good line) =
    (good ≡ (status == 200)) × IsUtf8 body
    × ((d : Data) × (read body ≡ Some d) × (told_line status d ≡ Some (string_bytes line)))
HasContent status body content.Nothing = (d : Data) → IsUtf8 body → read body ≡ Some d → told_line status d ≡ None

-- The line in an answer, and its effect.

abbrev pub body_of : Response → List ℕ
body_of a = drop a.start a.bytes.items

-- a service that doesn't answer is returned like a store that failed
abbrev pub service_fault : AskFault → RunFault
service_fault vain.Memory = fault.Memory
service_fault _ = fault.Store

-- the answer has this line; or it isn't a desk's; or memory ran out
abbrev pub HasUnderstoodLine : Response → Result Heard RunFault → Type 0
HasUnderstoodLine a (Ok heard) = HasContent a.status (body_of a) (content.Line heard.good heard.text)
HasUnderstoodLine a (Err fault.Store) = HasContent a.status (body_of a) content.Nothing
HasUnderstoodLine a (Err e) = e ≡ fault.Memory

-- the service was asked, and its answer has this line; or it didn't answer
abbrev pub HasHeard : List ℕ → ℕ → Talk → Talk → Result Heard RunFault → Type 0
HasHeard request most old new (Ok heard) =
    (a : Response) × IsAnswered most request old new (Ok a) × HasUnderstoodLine a (Ok heard)
HasHeard request most old new (Err e) =
    ((a : Response) × IsAnswered most request old new (Ok a) × HasUnderstoodLine a (Err e))
    ⊎ ((f : AskFault) × IsAnswered most request old new (Err f) × (e ≡ service_fault f))

-- a telegram that was read is refused as unreadable: the date of its flight isn't an existing day
abbrev pub is_late : Input → List ℕ → Bool
is_late (Keyed key command) text = false
is_late (Wire telegram) text = bytes_eq text (codes "refused 301 2 date")

-- The service answered with a line, which was written, with the reason if a telegram can't be read.
pub record HasToldHeard {E : Type 0} (taken : E → Given) (number : Option ℕ) (input : Input) (old new : Call Talk E) (heard : Heard) : Type 0 where
  pub line : new.sent.bytes ≡ old.sent.bytes ++ named number (asked.Input input) (string_bytes heard.text ++ 10 ∷ [])
  pub reason : HasToldWhy taken (is_late input (string_bytes heard.text)) (reason_head number (asked.Input input)) old.errors new.errors

-- There was no answer, and nothing was written; or a prefix of the answer's line was written.
abbrev pub HasStoppedInput : {E : Type 0} → Option ℕ → Input → Call Talk E → Call Talk E → Result Heard RunFault → RunFault → Type 0
HasStoppedInput number input old new (Err e) f = (f ≡ e) × (new.sent ≡ old.sent)
HasStoppedInput number input old new (Ok heard) f =
    HasToldPart (named number (asked.Input input) (string_bytes heard.text ++ 10 ∷ [])) old.sent new.sent f

-- an input was sent to the service, and answered in this way
abbrev pub HasAnsweredInput : {E : Type 0} → (E → Given) → Option ℕ → Input → List ℕ → ℕ → Call Talk E → Call Talk E
    → Result Bool RunFault → Type 0
HasAnsweredInput taken number input request most old new (Ok good) =
    (heard : Heard) × HasHeard request most old.keeper new.keeper (Ok heard)
    × HasToldHeard taken number input old new heard × (good ≡ heard.good)
HasAnsweredInput taken number input request most old new (Err e) =
    (new.errors ≡ old.errors)
    × ((heard : Result Heard RunFault) × HasHeard request most old.keeper new.keeper heard
    × HasStoppedInput number input old new heard e)

-- a request that isn't for the service can't be read
abbrev pub cant_be_read : Request → Bool
cant_be_read (asked.Refused refusal) = is_unread refusal
cant_be_read _ = true

-- it gets its line and its reason, and the service isn't asked
pub record HasAnsweredUnread {E : Type 0} (taken : E → Given) (number : Option ℕ) (asks : Request) (old new : Call Talk E) (result : Result Bool RunFault) : Type 0 where
  pub same : new.keeper ≡ old.keeper
  pub line : IsAnsweredShut number asks old.sent new.sent result
  pub reason : HasGivenReason taken (cant_be_read asks) (reason_head number asks) old.errors new.errors result

-- the request was answered
abbrev pub HasAnswered : {E : Type 0} → (E → Given) → Option ℕ → Request → List ℕ → ℕ → Call Talk E → Call Talk E
    → Result Bool RunFault → Type 0
HasAnswered taken number (asked.Input input) request most old new result =
    HasAnsweredInput taken number input request most old new result
HasAnswered taken number asks request most old new result =
    HasAnsweredUnread taken number asks old new result

-- The exit status of a call to a service, and its fault line.

-- the line of a fault; Store means the service
abbrev pub fault_line : RunFault → List ℕ
fault_line fault.Read = codes "fault read\n"
fault_line fault.Write = codes "fault write\n"
fault_line fault.Memory = codes "fault memory\n"
fault_line fault.Store = codes "fault service\n"

-- the reason for an answer that isn't a desk's
abbrev pub no_desk : List ℕ
no_desk = codes "the answer isn't a cargo desk's; pass the port of the service to --at"

-- the reason for a fault, and what to do
abbrev pub fault_why : AskFault → Option (List ℕ)
fault_why vain.Refused = Some (codes "connection refused; start the service on this port, or pass its port to --at")
fault_why vain.Write = Some (codes "the connection ended before the whole answer; call again, with the same keys")
fault_why vain.Read = Some (codes "the connection ended before the whole answer; call again, with the same keys")
fault_why vain.Late = Some (codes "no answer in time; the service is busy or hangs: call again later, with the same keys")
fault_why vain.Memory = None
fault_why vain.Cut = Some (codes "the connection ended before the whole answer; call again, with the same keys")
fault_why vain.Long = Some (codes "the answer is longer than a cargo desk's; pass the port of the service to --at")
fault_why vain.Foreign = Some no_desk

-- the same from the outcome of the last try; a desk that answers 503 says why on its own output
abbrev pub last_why : LastTry → Option (List ℕ)
last_why last.Nothing = None
last_why (last.Answered status) = if status == 503 then None else Some no_desk
last_why (last.Failed e) = fault_why e

-- the line of a service that didn't answer, and the reason, with its port
abbrev pub service_text : ℕ → Option (List ℕ) → List ℕ
service_text port None = fault_line fault.Store
service_text port (Some why) = codes "fault service\nport " ++ (decimal port ++ (codes ": " ++ why ++ 10 ∷ []))

abbrev pub fault_text : ℕ → LastTry → RunFault → List ℕ
fault_text port how fault.Store = service_text port (last_why how)
fault_text port how e = fault_line e

abbrev pub status_of : Result Bool RunFault → ℕ
status_of (Ok true) = 0
status_of (Ok false) = 1
status_of (Err e) = 3
