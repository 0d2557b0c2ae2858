-- A received request, and parts of its answer.
use Rattle.std.specs.Prelude.{◌≡◌, ℕ, ◌+◌, ◌<◌, ◌≤◌, Option, List, length, [], Some, None, ◌++◌, codes, decimal, Result, IfErr, IfOk, ◌⊎◌}
use Rattle.http_desk.specs.Common.{RequestHead, print_request, boolean, string, compact_text, number_text, Waybill, since_text, IfSound, IfWorks, IsMemoryOrStore, IsReadersFault, Keeping, OnlyReads, State, ActFault, ReportCause, Verb, word, IsReason, HeadWants}
use Rattle.station_core.specs.declared.answer.ActFault.TheVariants as act
use Rattle.reports.specs.declared.report.ReportCause.TheVariants as cause
use Rattle.http_desk.specs.Reply.{head_of, HasHead, HasNoHead, HasWants, pair_data}
use Rattle.http_desk.specs.Request.{head_asks, key_of, fault, HeadAsks, refuses, looks_up, sends, meant, Place, posts, gets}
use Rattle.http_desk.specs.declared.wanted.HeadWants.TheVariants as wants
use Rattle.http_desk.specs.declared.request.Came.{Came}
use Rattle.http_desk.specs.declared.request.Came.TheVariants as came
use Rattle.http_desk.specs.declared.request.Asks.{Asks}
use Rattle.http_desk.specs.declared.request.Asks.TheVariants as asks

-- A received request.

abbrev pub HasBody : HeadWants → ℕ → List ℕ → Type 0
HasBody (wants.Now w) start bytes = Unit {0}
HasBody (wants.Body post n) start bytes = start + n ≤ length bytes

-- the head has a body, which isn't complete
abbrev pub HasPartBody : HeadWants → ℕ → List ℕ → Type 0
HasPartBody (wants.Now w) start bytes = ⊥
HasPartBody (wants.Body post n) start bytes = length bytes < start + n

-- the bytes begin with a head of this request and key, and its body starts at `start`
pub record BeginsWith (bytes : List ℕ) (w : HeadWants) (key : Option (List ℕ))
    (start : ℕ) : Type 0 where
  pub head : RequestHead
  pub has : HasHead bytes head
  pub wants : HasWants (head_asks (head_of head)) w
  pub key_is : key ≡ key_of (head_of head).fields
  pub start_is : start ≡ length (print_request head)

-- there is no head, or a head with its whole body
abbrev pub HasRequest : List ℕ → Came → Type 0
HasRequest bytes came.NoHead = HasNoHead bytes
HasRequest bytes (came.Head w key start) = BeginsWith bytes w key start × HasBody w start bytes

-- The program's reading of a head.

abbrev pub got_at : Place → HeadAsks
got_at (gets got) = looks_up got
got_at (posts posted) = refuses (fault 404 [])

abbrev pub posted_at : Place → ℕ → HeadAsks
posted_at (posts posted) n = sends posted n
posted_at (gets got) n = refuses (fault 404 [])

-- the request, for the place of its route
abbrev pub asks_meant : Option Place → Asks → HeadAsks
asks_meant None asks = refuses (fault 404 [])
asks_meant (Some place) (asks.Refused f) = refuses (meant f)
asks_meant (Some place) asks.Got = got_at place
asks_meant (Some place) (asks.Posted n) = posted_at place n

-- The members of a waybill as text, in four parts.

abbrev pub first_members : ℕ → Waybill → List ℕ
first_members w known =
    codes "{\"awb\":"
    ++ (compact_text (string (number_text w))
    ++ (codes ",\"delivered\":"
    ++ (compact_text (pair_data known.delivered)
    ++ (codes ",\"departed\":" ++ (compact_text (pair_data known.departed) ++ codes ",")))))

abbrev pub second_members : Waybill → List ℕ
second_members known =
    codes "\"destination\":"
    ++ (compact_text (string known.declared.destination)
    ++ (codes ",\"found\":"
    ++ (compact_text (pair_data known.found)
    ++ (codes ",\"goods\":" ++ (compact_text (string known.declared.goods) ++ codes ",")))))

abbrev pub third_members : Waybill → List ℕ
third_members known =
    codes "\"missing\":"
    ++ (compact_text (pair_data known.missing)
    ++ (codes ",\"notified\":"
    ++ (compact_text (boolean known.declared.notified)
    ++ (codes ",\"origin\":" ++ (compact_text (string known.declared.origin) ++ codes ",")))))

abbrev pub stored_members : Waybill → List ℕ
stored_members known =
    codes "\"store\":"
    ++ (compact_text (pair_data known.store)
    ++ (codes ",\"taken\":"
    ++ (compact_text (pair_data known.taken)
    ++ (codes ",\"tenths\":"
    ++ (decimal known.declared.tenths
    ++ (codes ",\"transferred\":" ++ (compact_text (pair_data known.transferred) ++ codes "}")))))))

abbrev pub last_members : Waybill → List ℕ
last_members known =
    codes "\"pieces\":"
    ++ (decimal known.declared.pieces
    ++ (codes ",\"since\":"
    ++ (compact_text (string (since_text known.declared.since))
    ++ (codes "," ++ stored_members known))))

-- Texts that are read from a working station.

-- Reading changes nothing, and returns this of the state. It fails only as a reader does.
pub record ReadsText {K A : Type 0} (k : Keeping K) (old new : K) (result : Result A ActFault)
    (Is : State → A → Type 0) : Type 0 where
  pub reads : OnlyReads k old new
  pub kind : IfErr result IsMemoryOrStore
  pub fault : IfWorks k old new (λ s. IfErr result (IsReadersFault k.may_fail))
  pub value : IfSound k old new (λ s. IfOk result (Is s))

-- the fault of a report that is written into memory
abbrev pub act_fault : ReportCause → ActFault
act_fault cause.Write = act.Memory
act_fault (cause.Act act.Memory) = act.Memory
act_fault (cause.Act e) = act.Store

-- a text, and then another one of the state
abbrev pub IsBehind : List ℕ → (List ℕ → Type 0) → List ℕ → Type 0
IsBehind front Is whole = (text : List ℕ) × Is text × (whole ≡ front ++ text)

-- Lines on standard error: why the body of a request was refused.

-- the request of a command or of a telegram, and the reason: a line of printable ASCII
abbrev pub IsRefusalLine : List ℕ → Type 0
IsRefusalLine line =
    ((verb : Verb) × (reason : List ℕ) × IsReason (codes "body: ") reason
    × (line ≡ codes "POST /v1/act/" ++ (word verb ++ (codes ": " ++ reason))))
    ⊎ ((reason : List ℕ) × IsReason (codes "telegram: ") reason
    × (line ≡ codes "POST /v1/telegrams: " ++ reason))
