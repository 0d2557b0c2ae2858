-- The effect of each command that asks a service.
use Rattle.std.specs.Prelude.{◌≡◌, ◌⊎◌, ◌==◌, ◌&&◌, ◌||◌, ℕ, Bool, true, false, List, [], ◌∷◌, ◌++◌, codes, is_some, Option, Some, None, Result, Ok, Err, option_and_then, ⊤, ◌≤◌, string_bytes, length}
use Rattle.desk_client.specs.Common.{list_all, bytes_eq, number_text, is_printable, Form, HasCause, HasSent, Given, RunFault, Data, depth, read, max_depth, word, Verb, IsActAsked, IsFrame, IsWired, IsWritten, is_blank, HasNotHeard, HasSkipped, Request, Call, number as json_number, unsigned, string, object, member, no_members, compact_text, padded, prefix_of, serial_of, Run, Order, TakeIn, Issue, GiveBack, Void, IsBodyOf, order_verb, Stock, IsSaid, input_of, Row, HasToldBadRow, row_asks, IsReadToEnd, HaveBeenAnswered, kept_lines, HaveBeenMade, stock_rows, LineCommand, HasRunInput, IsCommandAsked, HasTakenNext, rows_path, Response, AskFault}
use Rattle.cli_run.specs.declared.telling.RunFault.TheVariants as fault
use Rattle.reports.specs.declared.report.Listing.TheVariants as listing
use Rattle.reports.specs.declared.report.Report.TheVariants as report
use Rattle.cli_words.specs.declared.line.LineCommand.TheVariants as command
use Rattle.desk_client.specs.Try.{Talk, IsAnswered, IsAskedUntil, talked, get_request, command_request, most_answer, telegram_request, history_path, holder_path, most_row_bytes, waybill_path}
use Rattle.desk_client.specs.Whole.{behind, ends_in, IsBegun, IsOfForm}
use Rattle.desk_client.specs.Content.{body_of, service_fault, HasAnswered, HasAnsweredInput}
use Rattle.desk_client.specs.Printed.{HasPrinted}
use Rattle.desk_client.specs.declared.ask.Until.TheVariants as until
use Rattle.desk_client.specs.declared.lines.Posted.{Posted}

-- Reports and look-ups with a service.

-- the state of a call: the history of the service, and the output
pub record Shown : Type 0 where
  pub talk : Talk
  pub sent : Given

abbrev pub shown : Talk → Given → Shown
shown talk sent = record { talk = talk; sent = sent }

-- a desk's own answer for an unknown number
abbrev pub is_unknown : Response → Bool
is_unknown a = (a.status == 404) && bytes_eq (body_of a) (codes "{\"detail\":\"\",\"refused\":404}")

-- a text was written, with this result; or a prefix, and the writer failed or wrote 0 bytes
abbrev pub HasShown : List ℕ → Bool → Given → Given → Result Bool RunFault → Type 0
HasShown text good old new (Ok g) = (new.bytes ≡ old.bytes ++ text) × (g ≡ good)
HasShown text good old new (Err e) = (e ≡ fault.Write) × HasSent text old new × HasCause old new

-- an answer that isn't a desk's: nothing was written
abbrev pub HasShownNothing : Given → Given → Result Bool RunFault → Type 0
HasShownNothing old new result = (new ≡ old) × (result ≡ Err fault.Store)

abbrev pub HasRows : Form → Response → Type 0
HasRows f a = (a.status ≡ 200) × IsOfForm f a.bytes.items × (ends_in f (body_of a) ≡ true)

-- an answer with rows in the form: they are written unchanged; for any other answer nothing is
-- written
abbrev pub HasShownRows : Form → Response → Given → Given → Result Bool RunFault → Type 0
HasShownRows f a old new result =
    (HasRows f a × HasShown (body_of a) true old new result)
    ⊎ ((¬ HasRows f a) × HasShownNothing old new result)

-- a text that begins with the object of a number, as a desk prints it
abbrev pub has_object_front : ℕ → List ℕ → Bool
has_object_front w text =
    is_some (option_and_then (behind (codes "\","))
    (option_and_then (behind (number_text w)) (behind (codes "{\"awb\":\"") text)))

-- the object of a number: one line of printable ASCII
abbrev pub is_object_of : ℕ → List ℕ → Bool
is_object_of w text = has_object_front w text && list_all is_printable text

-- the bytes of a text of lines
abbrev pub is_text_byte : ℕ → Bool
is_text_byte b = is_printable b || ((b == 10) || (b == 13))

-- the history of a waybill: lines of printable ASCII that begin with its record
abbrev pub is_history_of : ℕ → List ℕ → Bool
is_history_of w text = has_object_front w text && list_all is_text_byte text

-- the look-ups: the test of an answer's body, and the end of its output
pub record LookUp : Type 0 where
  pub shows : List ℕ → Bool
  pub end : List ℕ

-- the object of a number, on a line; the history of a waybill
abbrev pub object_look : ℕ → LookUp
object_look w = record { shows = is_object_of w; end = 10 ∷ [] }

abbrev pub history_look : ℕ → LookUp
history_look w = record { shows = is_history_of w; end = [] }

abbrev pub has_found : LookUp → Response → Bool
has_found look a = (a.status == 200) && look.shows (body_of a)

-- an answer that a number is unknown: that is written; for any other answer nothing is
abbrev pub HasShownUnknown : Response → Given → Given → Result Bool RunFault → Type 0
HasShownUnknown a old new result =
    ((is_unknown a ≡ true) × HasShown (codes "unknown\n") false old new result)
    ⊎ ((is_unknown a ≡ false) × HasShownNothing old new result)

-- an answer to a look-up: its body is written, or that the number is unknown; for any other answer
-- nothing is written
abbrev pub HasShownFound : LookUp → Response → Given → Given → Result Bool RunFault → Type 0
HasShownFound look a old new result =
    ((has_found look a ≡ true) × HasShown (body_of a ++ look.end) true old new result)
    ⊎ ((has_found look a ≡ false) × HasShownUnknown a old new result)

-- the service was asked, and its answer was shown; or it didn't answer, and nothing was written
abbrev pub HasLooked : (Response → Given → Given → Result Bool RunFault → Type 0) → ℕ → List ℕ → Shown → Shown
    → Result Bool RunFault → Type 0
HasLooked Shows most request old new result =
    ((a : Response) × IsAnswered most request old.talk new.talk (Ok a) × Shows a old.sent new.sent result)
    ⊎ ((f : AskFault) × IsAnswered most request old.talk new.talk (Err f) × (new.sent ≡ old.sent)
    × (result ≡ Err (service_fault f)))

abbrev pub rows_request : List ℕ → List ℕ
rows_request path = get_request path ++ []

-- an answer with rows of which a prefix was received, or a whole one
abbrev pub IsTakenRows : Form → Response → Option ℕ → Type 0
IsTakenRows f a None = ⊤
IsTakenRows f a (Some end) = IsBegun f a.bytes.items a.start end

-- its rows were printed: of a whole answer at once, otherwise as they arrive
abbrev pub HasShownTaken : Form → Response → Option ℕ → Talk → Talk → Given → Given → Result Bool RunFault → Type 0
HasShownTaken f a None talk_old talk_new old new result = (talk_new ≡ talk_old) × HasShownRows f a old new result
HasShownTaken f a (Some end) talk_old talk_new old new result = HasPrinted f a talk_old talk_new old new result

-- The service was asked for rows, which were printed without further tries; or it didn't answer,
-- and nothing was written.
abbrev pub HasAskedRows : List ℕ → Form → Shown → Shown → Result Bool RunFault → Type 0
HasAskedRows path f old new result =
    ((a : Response) × ((mid : Talk) × IsAskedUntil (until.Rows f) (rows_request path) old.talk mid (Ok a)
    × HasShownTaken f a a.begun mid new.talk old.sent new.sent result))
    ⊎ ((e : AskFault) × IsAskedUntil (until.Rows f) (rows_request path) old.talk new.talk (Err e) × (new.sent ≡ old.sent)
    × (result ≡ Err (service_fault e)))

-- The content of a line of `acts` for a service.

abbrev pub request_by : Option (Verb × List ℕ) → List ℕ → List ℕ
request_by (Some (verb, key)) text = command_request (word verb) key text
request_by None text = telegram_request text

abbrev pub posted_request : Posted → List ℕ
posted_request p = request_by p.head (string_bytes p.text)

-- the request has the body of a command's line, in a text that is read back as that body
pub record IsPostedCommand (d : Data) (request : List ℕ) : Type 0 where
  pub verb : Verb
  pub key : List ℕ
  pub body : Data
  pub text : List ℕ
  pub frame : IsFrame d verb key body
  pub reads_back : depth body ≤ max_depth → read text ≡ Some body
  pub request_is : request ≡ command_request (word verb) key text

-- the request has the text of a telegram's line
pub record IsPostedTelegram (d : Data) (request : List ℕ) : Type 0 where
  pub text : List ℕ
  pub wired : IsWired d text
  pub request_is : request ≡ telegram_request text

-- the line is neither
pub record IsNoPost (d : Data) : Type 0 where
  pub no_command : (verb : Verb) (key : List ℕ) (body : Data) → ¬ (IsFrame d verb key body)
  pub no_telegram : (text : List ℕ) → ¬ (IsWired d text)

abbrev pub IsPosted : Data → List ℕ → Type 0
IsPosted d request = IsPostedCommand d request ⊎ (IsPostedTelegram d request ⊎ IsNoPost d)

-- the line has this request, which was answered with its content sent to the service
pub record HasHeardLine {E : Type 0} (taken : E → Given) (number : ℕ) (line : List ℕ) (old new : Call Talk E)
    (result : Result Bool RunFault) : Type 0 where
  pub asks : Request
  pub request : List ℕ
  pub asked : IsActAsked line asks
  pub posted : (d : Data) → IsWritten line d → IsPosted d request
  pub answer : HasAnswered taken (Some number) asks request most_answer old new result

abbrev pub HasHeardValue : {E : Type 0} → (E → Given) → ℕ → List ℕ → Call Talk E → Call Talk E → Result Bool RunFault → Type 0
HasHeardValue taken number line old new result =
    HasNotHeard old new result ⊎ HasHeardLine taken number line old new result

-- The line with this number was answered. An empty line is skipped.
abbrev pub HasAnsweredLine : {E : Type 0} → (E → Given) → ℕ → List ℕ → Call Talk E → Call Talk E → Result Bool RunFault → Type 0
HasAnsweredLine taken number line old new result =
    HasSkipped line old new result
    ⊎ ((is_blank line ≡ false) × HasHeardValue taken number line old new result)

-- The effect of a request that is sent to a service.

-- the request in a text was answered by sending that text, under the verb and the key of a command
abbrev pub HasAnsweredText : {S E : Type 0} → (S → Talk) → (E → Given) → Option (Verb × List ℕ) → List ℕ → Request
    → Call S E → Call S E → Result Bool RunFault → Type 0
HasAnsweredText talk taken head text asks old new result =
    HasAnswered taken None asks (request_by head text) most_answer (talked talk old) (talked talk new) result

-- The JSON body of a stock order.

-- the count, and the prefix and the serial of the first number
abbrev pub run_object : ℕ → List ℕ → List ℕ → Data
run_object count prefix serial =
    object (member (codes "count") (json_number (unsigned count))
    (member (codes "prefix") (string prefix) (member (codes "serial") (string serial) no_members)))

abbrev pub agents_object : List ℕ → ℕ → List ℕ → List ℕ → Data
agents_object agent count prefix serial =
    object (member (codes "agent") (string agent) (member (codes "count") (json_number (unsigned count))
    (member (codes "prefix") (string prefix) (member (codes "serial") (string serial) no_members))))

-- the object of a run, with a prefix of three digits and a serial of seven
abbrev pub run_data : Run → Data
run_data run = run_object run.count (padded 3 (prefix_of run.first)) (padded 7 (serial_of run.first))

abbrev pub agents_data : Run → List ℕ → Data
agents_data run agent =
    agents_object agent run.count (padded 3 (prefix_of run.first)) (padded 7 (serial_of run.first))

abbrev pub order_data : Order → Data
order_data (TakeIn run) = run_data run
order_data (Issue run agent) = agents_data run agent
order_data (GiveBack run agent) = agents_data run agent
order_data (Void run) = run_data run

-- the text of a value, which is read as that value
abbrev pub IsTextOf : Data → List ℕ → Type 0
IsTextOf d text = (text ≡ compact_text d) × (read text ≡ Some d)

-- the text of an order's body, which is read as the order
pub record IsOrderText (order : Order) (text : List ℕ) : Type 0 where
  pub text_is : IsTextOf (order_data order) text
  pub body : IsBodyOf (order_verb order) (order_data order) (Stock order)

-- The effect of a stock list's rows.

-- the request of an order under its key
abbrev pub order_request : List ℕ → Order → List ℕ
order_request key order = command_request (word (order_verb order)) key (compact_text (order_data order))

-- memory ran out before the service was asked: nothing was done or written
abbrev pub HasNotBegun : {E : Type 0} → Call Talk E → Call Talk E → Result Bool RunFault → Type 0
HasNotBegun old new result = (new ≡ old) × (result ≡ Err fault.Memory)

-- the service was sent the order, in a body that a desk reads as the order, and answered
abbrev pub HasAnsweredOrder : {E : Type 0} → (E → Given) → ℕ → List ℕ → Order → Call Talk E → Call Talk E → Result Bool RunFault → Type 0
HasAnsweredOrder taken number key order old new result =
    HasNotBegun old new result
    ⊎ (IsSaid (order_verb order) (compact_text (order_data order)) (Stock order)
    × HasAnsweredInput taken (Some number) (input_of (key, order)) (order_request key order) most_answer old new result)

abbrev pub HasAnsweredAsks : {E : Type 0} → (E → Given) → ℕ → Option (List ℕ × Order) → Call Talk E → Call Talk E → Result Bool RunFault → Type 0
HasAnsweredAsks taken number None old new result = HasToldBadRow taken number old new result
HasAnsweredAsks taken number (Some asked) old new result = HasAnsweredOrder taken number asked.0 asked.1 old new result

abbrev pub HasAnsweredRow : {E : Type 0} → (E → Given) → ℕ → Row → Call Talk E → Call Talk E → Result Bool RunFault → Type 0
HasAnsweredRow taken number row old new result = HasAnsweredAsks taken number (row_asks row) old new result

abbrev pub shown_at : {S E : Type 0} → (S → Talk) → Call S E → Shown
shown_at talk c = shown (talk c.keeper) c.sent

-- nothing was done or written
abbrev pub HasIdled : {E : Type 0} → Call Talk E → Call Talk E → Result Bool RunFault → Type 0
HasIdled old new r = (new ≡ old) × (r ≡ Ok true)

-- the commands that read inputs, over a service with this history
abbrev pub HasDone : {S I E : Type 0} → LineCommand → (S → Talk) → (I → Given) → (I → I → Type 0) → (E → Given) → Option (List ℕ)
    → Call S E × I → Call S E × I → Result Bool RunFault → Type 0
HasDone command.Stock talk given turned taken left old new r =
    HaveBeenAnswered stock_rows (λ number row old new. HasAnsweredRow taken number row (talked talk old) (talked talk new)) left old.0 new.0 r
    × IsReadToEnd (given new.1) r
HasDone (command.Take paths) talk given turned taken left old new r =
    HaveBeenMade (HasTakenNext (HasAnsweredText talk taken None) given turned) (length paths.items) old new r
HasDone (command.Act verb key) talk given turned taken left old new r =
    HasRunInput (IsCommandAsked verb key) (HasAnsweredText talk taken (Some (verb, key))) (given old.1) (given new.1) old.0 new.0 r
HasDone command.Acts talk given turned taken left old new r =
    HaveBeenAnswered kept_lines (λ number line old new. HasAnsweredLine taken number line (talked talk old) (talked talk new)) left old.0 new.0 r
    × IsReadToEnd (given new.1) r
HasDone (command.Outbox f) talk given turned taken left old new r =
    HasAskedRows (rows_path (listing.All report.Pending) f) f (shown_at talk old.0) (shown_at talk new.0) r
HasDone (command.Report l f) talk given turned taken left old new r =
    HasAskedRows (rows_path l f) f (shown_at talk old.0) (shown_at talk new.0) r
HasDone (command.History w) talk given turned taken left old new r =
    HasLooked (HasShownFound (history_look w)) most_row_bytes (get_request (history_path w) ++ []) (shown_at talk old.0) (shown_at talk new.0) r
HasDone (command.Waybill w) talk given turned taken left old new r =
    HasLooked (HasShownFound (object_look w)) most_answer (get_request (waybill_path w) ++ []) (shown_at talk old.0) (shown_at talk new.0) r
HasDone (command.Holder w) talk given turned taken left old new r =
    HasLooked (HasShownFound (object_look w)) most_answer (get_request (holder_path w) ++ []) (shown_at talk old.0) (shown_at talk new.0) r
HasDone command.Init talk given turned taken left old new r = HasIdled (talked talk old.0) (talked talk new.0) r
HasDone command.Migrate talk given turned taken left old new r = HasIdled (talked talk old.0) (talked talk new.0) r
HasDone (command.Read path) talk given turned taken left old new r = HasIdled (talked talk old.0) (talked talk new.0) r
HasDone (command.Serve port count) talk given turned taken left old new r = HasIdled (talked talk old.0) (talked talk new.0) r
