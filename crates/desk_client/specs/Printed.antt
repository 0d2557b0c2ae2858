-- Reports printed as they arrive.
use Rattle.std.specs.Prelude.{◌≡◌, ℕ, List, ◌++◌, Result, Ok, Err, ⊤, ◌⊎◌, ◌<◌, ◌≤◌, Bool, true, false, [], ◌∷◌, drop, length, ◌^◌, Option, None}
use Rattle.desk_client.specs.Common.{Given, HasCause, HasSent, NoneFailed, RunFault, Form, HasFailed, Detail, Answer, Done, Refused, Reply, history_reply, json_reply, look_reply, report_reply, RequestHead, print_request, HeadAsks, head_asks, key_of, head_of, HasHead, AskFault, Response, LastTry}
use Rattle.cli_run.specs.declared.telling.RunFault.TheVariants as run
use Rattle.shipment_machine.specs.declared.plans.Detail.TheVariants as detail
use Rattle.desk_client.specs.Try.{Talk}
use Rattle.desk_client.specs.Whole.{has_end, mark_of, IsFront}
use Rattle.desk_client.specs.Content.{body_of, service_fault, told_line}
use Rattle.desk_client.specs.declared.ask.AskFault.TheVariants as fault
use Rattle.desk_client.specs.declared.reading.LastTry.TheVariants as last
use Rattle.desk_client.specs.declared.printing.PrintFault.{PrintFault}
use Rattle.desk_client.specs.declared.printing.PrintFault.TheVariants as print

-- The bytes received of an answer.

-- some bytes were read, or none
abbrev pub HasGiven : Given → Given → Type 0
HasGiven old new = (part : List ℕ) × (new.bytes ≡ old.bytes ++ part)

-- a reader stops if it fails, or if memory runs out
abbrev pub IsReadersFault : {T : Type 0} → Result T AskFault → Type 0
IsReadersFault (Ok x) = ⊤
IsReadersFault (Err fault.Read) = ⊤
IsReadersFault (Err fault.Memory) = ⊤
IsReadersFault (Err _) = ⊥

-- the held text of a report: the byte that was printed last, and at least two that aren't printed
pub record IsHeld (form : Form) (held : List ℕ) : Type 0 where
  pub tail : List ℕ
  pub held_is : held ≡ mark_of form ∷ tail
  pub some : 2 ≤ length tail

-- A prefix of the held text was printed from its second byte on, and the rest is held.
pub record HasPrintedMore (form : Form) (held_old held_new : List ℕ) (old new : Given) : Type 0 where
  pub gone : List ℕ
  pub part : List ℕ
  pub held_is : held_old ≡ gone ++ held_new
  pub held : IsHeld form held_new
  pub part_is : mark_of form ∷ part ≡ gone ++ mark_of form ∷ []
  pub some : (part ≡ []) ⊎ (2 ≤ length part)
  pub unended : has_end (mark_of form ∷ part) ≡ false
  pub printed : new.bytes ≡ old.bytes ++ part
  pub smooth : NoneFailed old new

-- or nothing was: the writer failed, or memory ran out before
abbrev pub HasTurned : Form → List ℕ → List ℕ → Given → Given → Result (Unit {0}) PrintFault → Type 0
HasTurned form held_old held_new old new (Ok x) = HasPrintedMore form held_old held_new old new
HasTurned form held_old held_new old new (Err print.Write) = HasSent (drop 1 held_old) old new × HasCause old new
HasTurned form held_old held_new old new (Err (print.Rest fault.Memory)) = new ≡ old
HasTurned form held_old held_new old new (Err (print.Rest _)) = ⊥

-- The held text was printed from its second byte on, and it ends like a report; or it doesn't, and
-- nothing was printed.
abbrev pub HasPrintedLast : List ℕ → Given → Given → Result (Unit {0}) PrintFault → Type 0
HasPrintedLast held old new (Ok x) = (has_end held ≡ true) × (new.bytes ≡ old.bytes ++ drop 1 held)
HasPrintedLast held old new (Err print.Write) = HasSent (drop 1 held) old new × HasCause old new
HasPrintedLast held old new (Err (print.Rest fault.Cut)) = (has_end held ≡ false) × (new ≡ old)
HasPrintedLast held old new (Err (print.Rest _)) = ⊥

-- a printable prefix of a text was printed, and no write failed
pub record HasPrintedFront (form : Form) (text : List ℕ) (old new : Given) : Type 0 where
  pub front : List ℕ
  pub rest : List ℕ
  pub text_is : text ≡ front ++ rest
  pub is_front : IsFront form front
  pub printed : new.bytes ≡ old.bytes ++ front
  pub smooth : NoneFailed old new

-- The reason why the rest of a body wasn't received: the connection ended, and the body doesn't end
-- like a report; or a read failed; or memory ran out.
abbrev pub HasStopped : AskFault → List ℕ → Given → Given → Type 0
HasStopped fault.Cut body old new = (old.idle < new.idle) × (has_end body ≡ false)
HasStopped fault.Read body old new = HasFailed old new
HasStopped fault.Late body old new = HasFailed old new
HasStopped fault.Memory body old new = ⊤
HasStopped _ body old new = ⊥

-- A body was printed, of which this much had been received: all of it; or a prefix, if the writer
-- failed or wrote 0 bytes; or a printable prefix, if the rest wasn't received.
abbrev pub HasPrintedBody : Form → List ℕ → Given → Given → Given → Given → Result (Unit {0}) PrintFault → Type 0
HasPrintedBody form body read_old read_new old new (Ok x) =
    (more : List ℕ) × (read_new.bytes ≡ read_old.bytes ++ more) × (read_old.idle < read_new.idle)
    × (has_end (body ++ more) ≡ true) × (new.bytes ≡ old.bytes ++ (body ++ more))
HasPrintedBody form body read_old read_new old new (Err print.Write) =
    (more : List ℕ) × (read_new.bytes ≡ read_old.bytes ++ more)
    × HasSent (body ++ more) old new × HasCause old new
HasPrintedBody form body read_old read_new old new (Err (print.Rest e)) =
    (more : List ℕ) × (read_new.bytes ≡ read_old.bytes ++ more)
    × HasPrintedFront form (body ++ more) old new × HasStopped e (body ++ more) read_old read_new

-- nothing was done except reading on
pub record HasReadOn (old new : Talk) : Type 0 where
  pub tried : new.tried ≡ old.tried
  pub opened : new.opened ≡ old.opened
  pub sent : new.sent ≡ old.sent

-- the outcome of the try in which the report began
abbrev pub last_after : Result (Unit {0}) PrintFault → LastTry → LastTry
last_after (Err (print.Rest e)) how = last.Failed e
last_after _ how = how

abbrev pub call_ended : Result (Unit {0}) PrintFault → Result Bool RunFault
call_ended (Ok x) = Ok true
call_ended (Err print.Write) = Err run.Write
call_ended (Err (print.Rest e)) = Err (service_fault e)

-- The rest of the report was read over the same connection, and printed in this way.
pub record HasPrinted (form : Form) (a : Response) (talk_old talk_new : Talk) (old new : Given) (result : Result Bool RunFault) : Type 0 where
  pub ended : Result (Unit {0}) PrintFault
  pub body : HasPrintedBody form (body_of a) talk_old.come talk_new.come old new ended
  pub same : HasReadOn talk_old talk_new
  pub last_is : talk_new.last ≡ last_after ended talk_old.last
  pub result_is : result ≡ call_ended ended

-- The line in a reply.

abbrev pub reply_line : Reply → Option (List ℕ)
reply_line (json_reply status allow d) = told_line status d
reply_line (look_reply status seen) = None
reply_line (history_reply w known) = None
reply_line (report_reply name) = None

-- the number of pieces fits into 64 bits, and a count into 32
abbrev pub AreFew : Detail → Type 0
AreFew (detail.Pieces pieces) = pieces < 2 ^ 64
AreFew _ = ⊤

abbrev pub HasFew : Answer → Type 0
HasFew (Done reply) = reply.count < 2 ^ 32
HasFew (Refused refusal) = AreFew refusal.detail

-- A desk's reading of a request.

-- the bytes begin with a head of this request and this key, and this body follows
pub record IsRead (bytes : List ℕ) (asks : HeadAsks) (key : Option (List ℕ)) (body : List ℕ) : Type 0 where
  pub head : RequestHead
  pub has : HasHead bytes head
  pub asks_is : head_asks (head_of head) ≡ asks
  pub key_is : key_of (head_of head).fields ≡ key
  pub body_is : drop (length (print_request head)) bytes ≡ body
