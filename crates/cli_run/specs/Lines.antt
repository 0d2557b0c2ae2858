-- Lines of `acts` and rows of stock lists, and their effect.
use Rattle.std.specs.Prelude.{◌≡◌, ◌≤◌, ℕ, ◌+◌, List, length, take, codes, Some, IsTrue, IsUtf8, ◌⊎◌, Bool, true, false, None, Option, Result, Err, IfErr, IfOk, ◌||◌, Ok, ◌&&◌, [], ◌∷◌, ◌++◌, ◌==◌, nat_le, if◌then◌else◌, decimal, is_some}
use Rattle.cli_run.specs.Common.{Data, string, get, read, most_bytes, TextFault, IsBodyOf, member_count, word, Command, Verb, IsTelegram, telegram_fault, refusal_of, is_key, Keyed, Wire, LocalMinute, Given, IfWorks, Keeping, StaysIfBroken, StaysInService, bytes_eq, State, Request, RunFault, option_map, option_and_then, list_all, is_digit, decimal_value, key_of, is_agent_code, Run, Order, TakeIn, Issue, GiveBack, Void, default_config, records, strip_bom, Stock, Input, Answer, is_done, after_all, answers_of}
use Rattle.cli_run.specs.Ends.{Call, most_come, HasCome, HasFailed, IsWithin}
use Rattle.cli_run.specs.Requests.{IsShutAfter, TellsWriting, kept_by, asked_after, asked_good, asked_line, IsAnswered, IsStopped, HasToldLine, IsAnsweredShut, answer_text, keyed}
use Rattle.cli_run.specs.Seen.{HasExplained, HasGivenReason}
use Rattle.cli_run.specs.declared.request.Request.TheVariants as act
use Rattle.cli_run.specs.declared.telling.RunFault.TheVariants as fault

-- Requests in lines of `acts`.

-- an object of a verb, a key and a body, and nothing else
pub record IsFrame (d : Data) (verb : Verb) (key : List ℕ) (body : Data) : Type 0 where
  pub members : member_count d ≡ Some 3
  pub verb_is : get (codes "verb") d ≡ Some (string (word verb))
  pub key_is : get (codes "key") d ≡ Some (string key)
  pub valid : IsTrue (is_key key)
  pub body_is : get (codes "body") d ≡ Some body

-- an object of a telegram's text, and nothing else
pub record IsWired (d : Data) (text : List ℕ) : Type 0 where
  pub members : member_count d ≡ Some 1
  pub text_is : get (codes "telegram") d ≡ Some (string text)

-- the request in the value of a line: a command under its key, a telegram, or neither
abbrev pub Asks : List ℕ → Data → Request → Type 0
Asks line d (act.Input (Keyed key command)) =
    (verb : Verb) × ((body : Data) × IsFrame d verb key body × IsBodyOf verb body command)
Asks line d (act.Input (Wire t)) = (text : List ℕ) × IsWired d text × IsTelegram text t
Asks line d (act.Refused refusal) =
    (text : List ℕ) × IsWired d text
    × ((told : TextFault) × (telegram_fault text ≡ Some told) × (refusal ≡ refusal_of told))
Asks line d (act.BadLine same) =
    (same.now ≡ line) × ((verb : Verb) (key : List ℕ) (body : Data) (command : Command)
    → IsFrame d verb key body → ¬ (IsBodyOf verb body command))
    × ((text : List ℕ) → ¬ (IsWired d text))
Asks line d (act.Bad verb body) = ⊥

-- the largest length of a line and its end: a body or a telegram, and 4,096 bytes around it
abbrev pub most_line : ℕ
most_line = most_bytes + 4_096

-- What is kept of a line, with its end: all of it, or of a line that is too long its first bytes,
-- one more than a line may have.
abbrev pub kept : List ℕ → List ℕ
kept line = take (most_line + 1) line

-- a line of JSON has this value, and isn't too long
abbrev pub IsWritten : List ℕ → Data → Type 0
IsWritten line d = (length line ≤ most_line) × IsUtf8 line × (read line ≡ Some d)

-- The request in a line, as far as it is kept, from its value. A line that is too long has no
-- value, so it is bad; what is kept of it is still too long.
abbrev pub IsActAsked : List ℕ → Request → Type 0
IsActAsked line (act.BadLine same) =
    (same.now ≡ line) × ((d : Data) → IsWritten line d → Asks line d (act.BadLine same))
IsActAsked line asks = (d : Data) × IsWritten line d × Asks line d asks

-- The effect of a request, and of a command that reads one.

-- The request was done and answered, or the run stopped there. It returns the writer's fault
-- exactly if the writer failed or wrote 0 bytes, and the store's exactly if the station must be
-- opened again. `number` is the number of its line of `acts`, if it has one.
pub record HasAnswered {K E : Type 0} (k : Keeping K) (at : LocalMinute) (taken : E → Given)
    (number : Option ℕ) (asks : Request) (old new : Call K E) (result : Result Bool RunFault) : Type 0 where
  pub service : StaysInService k old.keeper new.keeper result
  pub breaks : k.is_broken old.keeper ≡ false
      → IfErr result (λ e. IsShutAfter e (k.is_broken new.keeper))
  pub answered : IfWorks k old.keeper new.keeper (λ s. IfOk result (λ good.
      IsAnswered (asked_line number s asks at) (asked_good s asks at) (asked_after s asks at) good
      old.sent.bytes new.sent.bytes (k.keeps new.keeper)))
  pub stopped : IfWorks k old.keeper new.keeper (λ s. IfErr result (λ e.
      IsStopped (asked_line number s asks at) s (asked_after s asks at) e
      old.sent.bytes new.sent.bytes (kept_by k new.keeper)))
  pub unread : result ≡ Err fault.Read → ⊥
  pub writing : TellsWriting old.sent new.sent result
  -- after any fault except the writer's, nothing was written
  pub unwritten : IfErr result (λ e. (e ≡ fault.Write) ⊎ (new.sent ≡ old.sent))
  -- a broken station stays as it is, and isn't called
  pub same : StaysIfBroken k old.keeper new.keeper
  pub reopen : k.is_broken old.keeper ≡ true → IsAnsweredShut number asks old.sent new.sent result
  -- if the request can't be read, its reason was written to the errors
  pub explained : HasExplained number k asks at taken old new result

-- What can't be read gets its line, or a prefix of it, and then its reason: the output and the
-- errors before and after.
pub record HasToldUnread {E : Type 0} (taken : E → Given) (line : List ℕ) (unread : Bool)
    (head : List ℕ) (old new : Given × E) (result : Result Bool RunFault) : Type 0 where
  pub told : HasToldLine line old.0 new.0 result
  pub writing : TellsWriting old.0 new.0 result
  pub unwritten : IfErr result (λ e. (e ≡ fault.Write) ⊎ (new.0 ≡ old.0))
  pub not_read : result ≡ Err fault.Read → ⊥
  pub reasons : HasGivenReason taken unread head old.1 new.1 result

-- the input was received, and the request in its bytes was answered
pub record HasReceived {C : Type 0} (IsAsked : List ℕ → Request → Type 0)
    (Answers : List ℕ → Request → C → C → Result Bool RunFault → Type 0) (read_old read_new : Given)
    (old new : C) (result : Result Bool RunFault) : Type 0 where
  pub bytes : List ℕ
  pub come : HasCome most_bytes read_old read_new bytes
  pub asks : Request
  pub asked : IsAsked bytes asks
  pub answer : Answers bytes asks old new result

-- the reader failed, or memory ran out before the request was known: nothing was done or written
pub record HasNotReceived {C : Type 0} (old new : C) (result : Result Bool RunFault) : Type 0 where
  pub same : new ≡ old
  pub why : (result ≡ Err fault.Read) ⊎ (result ≡ Err fault.Memory)

-- A command over one input. `Read` is returned only if the reader failed, and only a prefix of an
-- input that is too long is read.
pub record HasRunInput {C : Type 0} (IsAsked : List ℕ → Request → Type 0)
    (Answers : List ℕ → Request → C → C → Result Bool RunFault → Type 0) (read_old read_new : Given)
    (old new : C) (result : Result Bool RunFault) : Type 0 where
  pub answered : HasReceived IsAsked Answers read_old read_new old new result
      ⊎ HasNotReceived old new result
  pub read_cause : result ≡ Err fault.Read → HasFailed read_old read_new
  pub read_told : IfErr result (λ e. (e ≡ fault.Read) ⊎ (read_new.failures ≡ read_old.failures))
  pub most : IsWithin most_come read_old read_new

-- the same with a station that answers
abbrev pub HasAnsweredAsked : {K E : Type 0} → (List ℕ → Request → Type 0) → Keeping K → LocalMinute
    → (E → Given) → Call K E × Given → Call K E × Given → Result Bool RunFault → Type 0
HasAnsweredAsked IsAsked k at taken old new result =
    HasRunInput IsAsked (λ bytes. HasAnswered k at taken None) old.1 new.1 old.0 new.0 result

-- The effect of a line of `acts`.

-- the line has only its end: LF, or CR and LF
abbrev pub is_blank : List ℕ → Bool
is_blank line = bytes_eq line (codes "\n") || bytes_eq line (codes "\r\n")

-- an empty line does nothing
pub record HasSkipped {K E : Type 0} (line : List ℕ) (old new : Call K E)
    (result : Result Bool RunFault) : Type 0 where
  pub blank : is_blank line ≡ true
  pub same : new ≡ old
  pub good : result ≡ Ok true

-- memory ran out before the line was read: nothing was done or written
pub record HasNotHeard {K E : Type 0} (old new : Call K E) (result : Result Bool RunFault) : Type 0 where
  pub same : new ≡ old
  pub why : result ≡ Err fault.Memory

-- the line has this request, which was answered
pub record HasHeard {K E : Type 0} (k : Keeping K) (at : LocalMinute) (taken : E → Given) (number : ℕ)
    (line : List ℕ) (old new : Call K E) (result : Result Bool RunFault) : Type 0 where
  pub asks : Request
  pub blank : is_blank line ≡ false
  pub asked : IsActAsked line asks
  pub answer : HasAnswered k at taken (Some number) asks old new result

-- The line with this number was answered. An empty line is skipped.
abbrev pub HasAnsweredLine : {K E : Type 0} → Keeping K → LocalMinute → (E → Given) → ℕ → List ℕ
    → Call K E → Call K E → Result Bool RunFault → Type 0
HasAnsweredLine k at taken number line old new result =
    HasSkipped line old new result ⊎ (HasNotHeard old new result
    ⊎ HasHeard k at taken number line old new result)

-- The answered lines of `acts` together: a run of the station over their requests.

-- The requests of lines, each with the line's number; the first line has `number`. An empty line
-- has no request.
abbrev pub AreAsked : ℕ → List (List ℕ) → List (ℕ × Request) → Type 0
AreAsked number [] asked = asked ≡ []
AreAsked number (line ∷ lines) asked =
    ((is_blank line ≡ true) × AreAsked (number + 1) lines asked)
    ⊎ ((is_blank line ≡ false) × ((asks : Request) × ((rest : List (ℕ × Request)) × IsActAsked line asks
    × (asked ≡ (number, asks) ∷ rest) × AreAsked (number + 1) lines rest)))

abbrev pub acts_after : State → List (ℕ × Request) → LocalMinute → State
acts_after s [] at = s
acts_after s (one ∷ more) at = acts_after (asked_after s one.1 at) more at

abbrev pub acts_lines : State → List (ℕ × Request) → LocalMinute → List ℕ
acts_lines s [] at = []
acts_lines s (one ∷ more) at =
    asked_line (Some one.0) s one.1 at ++ acts_lines (asked_after s one.1 at) more at

abbrev pub acts_good : State → List (ℕ × Request) → LocalMinute → Bool
acts_good s [] at = true
acts_good s (one ∷ more) at = asked_good s one.1 at && acts_good (asked_after s one.1 at) more at

-- The requests of the lines were done in order, and answered.
pub record HasRunActs (number : ℕ) (s : State) (at : LocalMinute) (lines : List (List ℕ))
    (before after : List ℕ) (keeps : State → Type 0) (good : Bool) : Type 0 where
  pub asked : List (ℕ × Request)
  pub are : AreAsked number lines asked
  pub written : after ≡ before ++ acts_lines s asked at
  pub state : keeps (acts_after s asked at)
  pub good_is : good ≡ acts_good s asked at

-- Rows of a stock list: key, verb, prefix, serial, count and agent.

-- a number of `least` to `most` digits
abbrev pub digits_of : ℕ → ℕ → List ℕ → Option ℕ
digits_of least most text = if nat_le least (length text) && nat_le (length text) most && list_all is_digit text then Some (decimal_value text) else None

-- a prefix of three digits, a serial of seven, and a count of one to seven
abbrev pub run_of : List ℕ → List ℕ → List ℕ → Option Run
run_of prefix serial count =
    option_and_then (λ p. option_and_then (λ s. option_map (λ n. record { first = key_of p s; count = n }) (digits_of 1 7 count)) (digits_of 7 7 serial)) (digits_of 3 3 prefix)

abbrev pub with_agent : List ℕ → Order → Option Order
with_agent agent order = if is_agent_code agent then Some order else None

abbrev pub without_agent : List ℕ → Order → Option Order
without_agent agent order = if length agent == 0 then Some order else None

-- only issue and return have an agent
abbrev pub order_of : List ℕ → Run → List ℕ → Option Order
order_of verb run agent =
    if bytes_eq verb (codes "take-in") then without_agent agent (TakeIn run)
    else if bytes_eq verb (codes "void") then without_agent agent (Void run)
    else if bytes_eq verb (codes "issue") then with_agent agent (Issue run agent)
    else if bytes_eq verb (codes "return") then with_agent agent (GiveBack run agent)
    else None

abbrev pub asked_by : List ℕ → List ℕ → List ℕ → List ℕ → List ℕ → List ℕ → Option (List ℕ × Order)
asked_by key verb prefix serial count agent =
    if is_key key then option_and_then (λ run. option_map (λ order. (key, order)) (order_of verb run agent)) (run_of prefix serial count) else None

-- the key and the order of a row, if it is well formed
abbrev pub row_asks : List (List ℕ) → Option (List ℕ × Order)
row_asks (key ∷ verb ∷ prefix ∷ serial ∷ count ∷ agent ∷ []) = asked_by key verb prefix serial count agent
row_asks _ = None

-- The rows of a stock list, and their inputs.

abbrev pub Row : Type 0
Row = List (List ℕ)

-- the line of a malformed row
abbrev pub bad_line : ℕ → List ℕ
bad_line number = codes "row " ++ decimal number ++ codes " bad\n"

-- the start of a row's reason
abbrev pub row_head : List ℕ
row_head = codes "line "

-- the input of a row, from its key and its order
abbrev pub input_of : List ℕ × Order → Input
input_of asked = Keyed asked.0 (Stock asked.1)

-- the records of a text, as the crate `csv` defines them
abbrev pub stock_rows : List ℕ → List Row
stock_rows bytes = records default_config (strip_bom bytes)

-- The effect of a row of a stock list.

-- A malformed row gets its line and its reason, and the desk isn't called.
pub record HasToldBadRow {K E : Type 0} (taken : E → Given) (number : ℕ) (old new : Call K E)
    (result : Result Bool RunFault) : Type 0 where
  pub same : new.keeper ≡ old.keeper
  pub told : HasToldUnread taken (bad_line number) true row_head (old.sent, old.errors) (new.sent, new.errors) result

-- A row with an order was answered as the request of the order under its key.
abbrev pub HasAnsweredAsks : {K E : Type 0} → Keeping K → LocalMinute → (E → Given) → ℕ
    → Option (List ℕ × Order) → Call K E → Call K E → Result Bool RunFault → Type 0
HasAnsweredAsks k at taken number None old new result = HasToldBadRow taken number old new result
HasAnsweredAsks k at taken number (Some order) old new result =
    HasAnswered k at taken (Some number) (act.Input (input_of order)) old new result

abbrev pub HasAnsweredRow : {K E : Type 0} → Keeping K → LocalMinute → (E → Given) → ℕ → Row
    → Call K E → Call K E → Result Bool RunFault → Type 0
HasAnsweredRow k at taken number row = HasAnsweredAsks k at taken number (row_asks row)

-- A stock list as a run of the station: the orders of its rows, and their answers.

-- the orders of rows as inputs, each at the list's moment, in order
abbrev pub inputs_of : List (Option (List ℕ × Order)) → LocalMinute → List (Input × LocalMinute)
inputs_of [] at = []
inputs_of (None ∷ more) at = inputs_of more at
inputs_of (Some order ∷ more) at = (input_of order, at) ∷ inputs_of more at

-- The lines of rows, from the answers to their orders: each row with an order takes the next
-- answer.
abbrev pub answered_lines : ℕ → List (Option (List ℕ × Order)) → List Answer → List ℕ
answered_lines number [] answers = []
answered_lines number (None ∷ more) answers = bad_line number ++ answered_lines (number + 1) more answers
answered_lines number (Some order ∷ more) [] = []
answered_lines number (Some order ∷ more) (answer ∷ answers) =
    keyed (Some number) order.0 (answer_text answer ++ 10 ∷ []) ++ answered_lines (number + 1) more answers

-- The orders of the rows were done in order, and answered. The run is good if every row has an
-- order, and every answer accepts it.
pub record HasRunList (number : ℕ) (s : State) (at : LocalMinute) (asks : List (Option (List ℕ × Order)))
    (before after : List ℕ) (keeps : State → Type 0) (good : Bool) : Type 0 where
  pub written : after ≡ before ++ answered_lines number asks (answers_of s (inputs_of asks at))
  pub state : keeps (after_all s (inputs_of asks at))
  pub good_is : good ≡ (list_all (λ (order : Option (List ℕ × Order)). is_some order) asks
      && list_all is_done (answers_of s (inputs_of asks at)))
