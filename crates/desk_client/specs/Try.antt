-- Questions to a service, and their tries.
use Rattle.std.specs.Prelude.{ℕ, List, [], ◌++◌, length, codes, decimal, ◌≡◌, ◌≤◌, ◌<◌, Bool, true, drop, take, Option, Some, None, Result, Ok, Err, ⊤, ◌+◌, ◌-◌, ◌^◌, min, ◌⊎◌, false}
use Rattle.desk_client.specs.Common.{number_text, word, rows_path, segments, gets, got_history, got_holder, got_waybill, path_text, Form, Given, HasCause, HasCome, HasFailed, HasGrown, call, Call, Response, AskFault, LastTry}
use Rattle.desk_client.specs.Whole.{IsBegun, IsCutShort, IsNeverWhole, IsNotWhole, IsWhole}
use Rattle.desk_client.specs.declared.question.Question.{Question}
use Rattle.desk_client.specs.declared.question.Question.TheVariants as question
use Rattle.desk_client.specs.declared.ask.AskFault.TheVariants as fault
use Rattle.desk_client.specs.declared.ask.Until.{Until}
use Rattle.desk_client.specs.declared.ask.Until.TheVariants as until
use Rattle.desk_client.specs.declared.reading.LastTry.TheVariants as last
use Rattle.desk_client.specs.declared.reading.RemoteDesk.{RemoteDesk}

-- The bytes sent for a question.

-- the largest size of an answer that is one JSON object
abbrev pub most_answer : ℕ
most_answer = 65_536

-- rows and histories are limited only by the machine's memory
abbrev pub most_row_bytes : ℕ
most_row_bytes = 18_446_744_073_709_551_615

abbrev pub most_of : Question → ℕ
most_of (question.Rows l f) = most_row_bytes
most_of (question.History w) = most_row_bytes
most_of _ = most_answer

-- The lines of a request's head.
abbrev pub command_lines : List ℕ → List ℕ
command_lines name = codes "POST /v1/act/" ++ (name ++ codes " HTTP/1.1\r\nHost: 127.0.0.1\r\nConnection: close\r\n")

abbrev pub key_line : List ℕ → List ℕ
key_line key = codes "Request-Key: " ++ (key ++ codes "\r\n")

abbrev pub length_line : ℕ → List ℕ
length_line len = codes "Content-Length: " ++ (decimal len ++ codes "\r\n\r\n")

-- the head of a command, from its word, its key and its length
abbrev pub command_head : List ℕ → List ℕ → ℕ → List ℕ
command_head name key len = command_lines name ++ (key_line key ++ length_line len)

abbrev pub telegram_head : ℕ → List ℕ
telegram_head len =
    codes "POST /v1/telegrams HTTP/1.1\r\nHost: 127.0.0.1\r\nConnection: close\r\nContent-Length: " ++ decimal len ++ codes "\r\n\r\n"

abbrev pub get_request : List ℕ → List ℕ
get_request path = codes "GET " ++ path ++ codes " HTTP/1.1\r\nHost: 127.0.0.1\r\nConnection: close\r\n\r\n"

abbrev pub waybill_path : ℕ → List ℕ
waybill_path w = path_text (segments (gets (got_waybill (number_text w))))

abbrev pub history_path : ℕ → List ℕ
history_path w = path_text (segments (gets (got_history (number_text w))))

abbrev pub holder_path : ℕ → List ℕ
holder_path w = path_text (segments (gets (got_holder (number_text w))))

-- the request of each question: its head and its body
abbrev pub command_request : List ℕ → List ℕ → List ℕ → List ℕ
command_request name key body = command_head name key (length body) ++ body

abbrev pub telegram_request : List ℕ → List ℕ
telegram_request text = telegram_head (length text) ++ text

abbrev pub request_of : Question → List ℕ
request_of (question.Command verb key body) = command_request (word verb) key body.now
request_of (question.Telegram text) = telegram_request text.now
request_of (question.Waybill w) = get_request (waybill_path w) ++ []
request_of (question.History w) = get_request (history_path w) ++ []
request_of (question.Holder w) = get_request (holder_path w) ++ []
request_of (question.Rows l f) = get_request (rows_path l f) ++ []

-- The effect of one question over one connection.

-- the request was sent; or a prefix, and the writer failed or wrote 0 bytes
abbrev pub HasSent : List ℕ → Given → Given → Result (Unit {0}) AskFault → Type 0
HasSent request old new (Ok x) = new.bytes ≡ old.bytes ++ request
HasSent request old new (Err fault.Write) = ((sent : ℕ) × (new.bytes ≡ old.bytes ++ take sent request)) × HasCause old new
HasSent request old new (Err _) = ⊥

-- the bytes end before the whole answer; or aren't a prefix of any; or are too long
abbrev pub IsNoAnswer : AskFault → ℕ → List ℕ → Type 0
IsNoAnswer fault.Cut most came = (length came ≤ most) × IsNotWhole came × IsCutShort came
IsNoAnswer fault.Foreign most came = (length came ≤ most) × IsNeverWhole came
IsNoAnswer fault.Long most came = most < length came
IsNoAnswer _ most came = ⊥

-- the bytes are this whole answer; or they aren't a whole answer
abbrev pub HasUnderstood : ℕ → List ℕ → Result Response AskFault → Type 0
HasUnderstood most came (Ok a) =
    (length came ≤ most) × (a.bytes.items ≡ came) × (a.start ≤ length came)
    × IsWhole came a.status (drop a.start came) × (a.begun ≡ None)
HasUnderstood most came (Err e) = IsNoAnswer e most came

-- The bytes received up to the end of the connection are this whole answer.
pub record HasAnswer (most : ℕ) (old new : Given) (a : Response) : Type 0 where
  pub come : HasCome most old new a.bytes.items
  pub few : length a.bytes.items ≤ most
  pub within : a.start ≤ length a.bytes.items
  pub whole : IsWhole a.bytes.items a.status (drop a.start a.bytes.items)

-- The bytes received are a report up to a printable prefix of its body, and no read failed.
pub record HasBegun (form : Form) (old new : Given) (a : Response) (end : ℕ) : Type 0 where
  pub come : HasGrown old new [] a.bytes.items
  pub good : a.status ≡ 200
  pub begun : IsBegun form a.bytes.items a.start end

-- the largest size of an answer that is read
abbrev pub most_by : Until → ℕ
most_by (until.End most) = most
most_by (until.Rows form) = most_row_bytes

-- Only rows are returned before their whole answer was received.
abbrev pub HasTaken : Until → Given → Given → Response → Option ℕ → Type 0
HasTaken (until.End most) old new a begun = HasAnswer most old new a
HasTaken (until.Rows form) old new a None = HasAnswer most_row_bytes old new a
HasTaken (until.Rows form) old new a (Some end) = HasBegun form old new a end

-- An answer was read as far as requested. Or there is none: the reader failed, or memory ran out,
-- or the bytes received up to the end of the connection aren't a whole answer. A reader that timed
-- out has failed.
abbrev pub HasRead : Until → Given → Given → Result Response AskFault → Type 0
HasRead until old new (Ok a) = HasTaken until old new a a.begun
HasRead until old new (Err fault.Refused) = ⊥
HasRead until old new (Err fault.Write) = ⊥
HasRead until old new (Err fault.Read) = HasFailed old new
HasRead until old new (Err fault.Late) = HasFailed old new
HasRead until old new (Err fault.Memory) = ⊤
HasRead until old new (Err e) = (came : List ℕ) × HasCome (most_by until) old new came × IsNoAnswer e (most_by until) came

-- The request was sent, and its answer was read; or a prefix of the request was sent, and nothing
-- was read.
abbrev pub HasAsked : Until → List ℕ → Given → Given → Given → Given → Result Response AskFault → Type 0
HasAsked until request sent_old sent_new read_old read_new (Err fault.Write) =
    ((sent : ℕ) × (sent_new.bytes ≡ sent_old.bytes ++ take sent request)) × HasCause sent_old sent_new × (read_new ≡ read_old)
HasAsked until request sent_old sent_new read_old read_new result =
    (sent_new.bytes ≡ sent_old.bytes ++ request) × HasRead until read_old read_new result

-- a failed read is late if the reader timed out
abbrev pub by_time : Bool → AskFault → AskFault
by_time true fault.Read = fault.Late
by_time late e = e

-- A count that stays at the largest number that the program can count to.

abbrev pub one_more : ℕ → ℕ
one_more n = min (n + 1) (2 ^ 64 - 1)

-- Questions in several tries.

-- the history of a service: how many connections were tried and opened, what was sent and received
-- over all of them, and the outcome of the last try
pub record Talk : Type 0 where
  pub tried : ℕ
  pub opened : ℕ
  pub sent : Given
  pub come : Given
  pub last : LastTry

abbrev pub talk : {C I O : Type 0} → (C → ℕ) → (C → ℕ) → (I → Given) → (O → Given) → RemoteDesk C I O → Talk
talk tried opened given taken s =
    record { tried = tried s.connections; opened = opened s.connections; sent = taken s.writer; come = given s.reader; last = s.last }

abbrev pub last_of : Result Response AskFault → LastTry
last_of (Ok a) = last.Answered a.status
last_of (Err e) = last.Failed e

-- The request was sent over another connection, and its answer read.
pub record HasTalked (until : Until) (request : List ℕ) (old new : Talk) (result : Result Response AskFault) : Type 0 where
  pub tried : new.tried ≡ one_more old.tried
  pub one : new.opened ≡ old.opened + 1
  pub asked : HasAsked until request old.sent new.sent old.come new.come result

-- A connection was refused, and nothing was sent.
pub record IsRefused (old new : Talk) (result : Result Response AskFault) : Type 0 where
  pub why : result ≡ Err fault.Refused
  pub tried : new.tried ≡ one_more old.tried
  pub none : new.opened ≡ old.opened
  pub unsent : new.sent ≡ old.sent
  pub unread : new.come ≡ old.come

-- the connection was refused, or the request was sent and its answer read
abbrev pub IsRefusedOrTalked : Until → List ℕ → Talk → Talk → Result Response AskFault → Type 0
IsRefusedOrTalked until request old new result = IsRefused old new result ⊎ HasTalked until request old new result

-- one try, whose outcome is recorded
abbrev pub HasTried : Until → List ℕ → Talk → Talk → Result Response AskFault → Type 0
HasTried until request old new result = IsRefusedOrTalked until request old new result × (new.last ≡ last_of result)

-- the question is sent again after this fault: no desk answered, or its answer broke off
abbrev pub is_vain : AskFault → Bool
is_vain fault.Memory = false
is_vain fault.Long = false
is_vain fault.Foreign = false
is_vain _ = true

-- the question isn't sent again
abbrev pub IsSettled : Result Response AskFault → Type 0
IsSettled (Ok a) = Unit {0}
IsSettled (Err e) = is_vain e ≡ false

-- a try, and another one if it was in vain
abbrev pub HasTriedAgain : (Talk → Talk → Result Response AskFault → Type 0)
    → (Talk → Talk → Result Response AskFault → Type 0) → Talk → Talk → Result Response AskFault → Type 0
HasTriedAgain Once More old new result =
    (Once old new result × IsSettled result)
    ⊎ ((mid : Talk) × ((e : AskFault) × (is_vain e ≡ true) × Once old mid (Err e) × More mid new result))

-- at most two tries with the same bytes
abbrev pub HasTriedTwice : Until → List ℕ → Talk → Talk → Result Response AskFault → Type 0
HasTriedTwice until request old new result =
    HasTriedAgain (HasTried until request) (HasTried until request) old new result

abbrev pub HasTriedThrice : Until → List ℕ → Talk → Talk → Result Response AskFault → Type 0
HasTriedThrice until request old new result =
    HasTriedAgain (HasTried until request) (HasTriedTwice until request) old new result

-- the question was asked in at most three tries; or memory ran out before, and nothing was done
abbrev pub IsAskedUntil : Until → List ℕ → Talk → Talk → Result Response AskFault → Type 0
IsAskedUntil until request old new result =
    ((result ≡ Err fault.Memory) × (new ≡ old)) ⊎ HasTriedThrice until request old new result

-- the same, with the answer read to its end
abbrev pub IsAnswered : ℕ → List ℕ → Talk → Talk → Result Response AskFault → Type 0
IsAnswered most request old new result = IsAskedUntil (until.End most) request old new result

-- the state of a call, by the history of its service
abbrev pub talked : {S E : Type 0} → (S → Talk) → Call S E → Call Talk E
talked talk c = call (talk c.keeper) c.sent c.errors
