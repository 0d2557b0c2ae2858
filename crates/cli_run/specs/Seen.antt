-- Dry runs, and standard error after the line of a command.
use Rattle.std.specs.Prelude.{◌≡◌, ℕ, Bool, true, false, Option, Some, None, Result, Ok, Err, OnOk, List, codes, ◌⊎◌, not, [], ◌∷◌, ◌++◌}
use Rattle.cli_run.specs.Common.{LocalMinute, Answer, Done, Refused, Input, Keyed, Wire, Given, State, step, HasReason, is_unread, numbered_head, Keeping, most_bytes, TextFault, Refusal, refusal_of, IsLook, IsLookFault, has_doubt, look_text, Look, refusal_text, RunFault, Request}
use Rattle.cli_run.specs.Ends.{Call, HasCome}
use Rattle.cli_run.specs.Requests.{IsReadersFault, HasToldPart}
use Rattle.cli_run.specs.declared.request.Request.TheVariants as asked
use Rattle.cli_run.specs.declared.telling.RunFault.TheVariants as run_fault

-- Standard error after the line of a command.

-- true if an answer says that a telegram can't be read
abbrev pub is_unread_answer : Answer → Bool
is_unread_answer (Done reply) = false
is_unread_answer (Refused refusal) = is_unread refusal

-- true if an input can't be read, by its answer; false for commands, however answered
abbrev pub answered_unread : Input → Answer → Bool
answered_unread (Keyed key command) answer = false
answered_unread (Wire telegram) answer = is_unread_answer answer

-- true if a request at a moment can't be read
abbrev pub asked_unread : State → Request → LocalMinute → Bool
asked_unread s (asked.Input i) at = answered_unread i (step s i at).answer
asked_unread s (asked.Refused refusal) at = is_unread refusal
asked_unread s (asked.Bad verb body) at = true
asked_unread s (asked.BadLine line) at = true

-- true for a command that was read, which has no reason
abbrev pub is_command : Request → Bool
is_command (asked.Input (Keyed key command)) = true
is_command _ = false

-- the start of a telegram's reason, with the number if it is a line of `acts`; that of a malformed
-- line; and that of any request
abbrev pub telegram_head : Option ℕ → List ℕ
telegram_head None = codes "telegram: "
telegram_head (Some number) = numbered_head number

abbrev pub line_head : Option ℕ → List ℕ
line_head None = codes "line "
line_head (Some number) = numbered_head number

abbrev pub reason_head : Option ℕ → Request → List ℕ
reason_head number (asked.Input (Keyed key command)) = codes "body: "
reason_head number (asked.Input (Wire telegram)) = telegram_head number
reason_head number (asked.Refused refusal) = telegram_head number
reason_head number (asked.Bad verb body) = codes "body: "
reason_head number (asked.BadLine line) = line_head number

-- The reason why something can't be read was written, or a prefix of it; otherwise nothing was.
abbrev pub HasToldWhy : {E : Type 0} → (E → Given) → Bool → List ℕ → E → E → Type 0
HasToldWhy taken true head old new = HasReason head (taken old).bytes (taken new).bytes
HasToldWhy taken false head old new = new ≡ old

-- The same for a command that may have stopped, which writes nothing. What can't be read isn't
-- accepted.
abbrev pub HasGivenReason : {E : Type 0} → (E → Given) → Bool → List ℕ → E → E
    → Result Bool RunFault → Type 0
HasGivenReason taken unread head old new (Ok good) =
    HasToldWhy taken unread head old new × (unread ≡ true → good ≡ false)
HasGivenReason taken unread head old new (Err e) = new ≡ old

-- The request was answered, and its reason given if it can't be read. Nothing is written if it was
-- accepted.
pub record HasExplained {K E : Type 0} (number : Option ℕ) (k : Keeping K) (asks : Request)
    (at : LocalMinute) (taken : E → Given) (old new : Call K E) (result : Result Bool RunFault) : Type 0 where
  pub quiet : result ≡ Ok true → new.errors ≡ old.errors
  pub unread : Bool
  pub given : HasGivenReason taken unread (reason_head number asks) old.errors new.errors result
  pub read : is_command asks ≡ true → unread ≡ false
  pub why : (s : State) → k.keeps old.keeper s → k.is_broken old.keeper ≡ false
      → k.is_sound new.keeper → OnOk result (unread ≡ asked_unread s asks at)

-- The output of a dry run.

-- the dry run of a telegram; it is good if nothing is doubtful
pub record HasLook (bytes text : List ℕ) (good unread : Bool) : Type 0 where
  pub look : Look
  pub is_look : IsLook bytes look
  pub text_is : text ≡ look_text look
  pub good_is : good ≡ not (has_doubt look)
  pub unread_is : unread ≡ false

-- the refusal of bytes that aren't a telegram, or whose flight's day no year has
pub record HasRefusal (bytes text : List ℕ) (good unread : Bool) : Type 0 where
  pub told : TextFault
  pub fault : IsLookFault bytes told
  pub text_is : text ≡ refusal_text (refusal_of told) ++ 10 ∷ []
  pub good_is : good ≡ false
  pub unread_is : unread ≡ is_unread (refusal_of told)

-- the text for these bytes, whether it is good, and whether there is a reason on the errors
abbrev pub IsSeen : List ℕ → List ℕ → Bool → Bool → Type 0
IsSeen bytes text good unread = HasLook bytes text good unread ⊎ HasRefusal bytes text good unread

-- true if a refusal says why a telegram can't be read
abbrev pub has_reason : Option Refusal → Bool
has_reason None = false
has_reason (Some refusal) = is_unread refusal

-- the bytes were received, and their dry run was written; then the reason why they can't be read
pub record HasSeen {E : Type 0} (read_old read_new sent_old sent_new : Given) (taken : E → Given)
    (errors_old errors_new : E) (good : Bool) : Type 0 where
  pub bytes : List ℕ
  pub come : HasCome most_bytes read_old read_new bytes
  pub text : List ℕ
  pub unread : Bool
  pub seen : IsSeen bytes text good unread
  pub written : sent_new.bytes ≡ sent_old.bytes ++ text
  pub reason : HasToldWhy taken unread (telegram_head None) errors_old errors_new

-- the bytes were received, and the writer stopped after a prefix of their dry run
pub record HasSeenPart (read_old read_new sent_old sent_new : Given) (e : RunFault) : Type 0 where
  pub bytes : List ℕ
  pub come : HasCome most_bytes read_old read_new bytes
  pub text : List ℕ
  pub good : Bool
  pub unread : Bool
  pub seen : IsSeen bytes text good unread
  pub why : e ≡ run_fault.Write
  pub part : HasToldPart text sent_old sent_new e

-- A dry run that a fault ended: the reader failed or memory ran out, and nothing was written; or
-- the writer failed or wrote 0 bytes, and a prefix of the dry run was written.
abbrev pub HasStoppedLook : Given → Given → Given → Given → RunFault → Type 0
HasStoppedLook read_old read_new sent_old sent_new e =
    (IsReadersFault e × (sent_new ≡ sent_old)) ⊎ HasSeenPart read_old read_new sent_old sent_new e
