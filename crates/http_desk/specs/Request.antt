-- Requests: their paths, keys and bodies, by the tests in their order.
use Rattle.std.specs.Prelude.{ℕ, ◌==◌, Bool, nat_lt, if◌then◌else◌, Option, None, List, [], ◌∷◌, ◌++◌, take, drop, length, codes, ◌&&◌, nat_le, ◌-◌, ◌^◌, Some, option_map, option_and_then, true, false, ◌≡◌, ◌⊎◌, ◌||◌, not, map, Result, Ok, Err, IsUtf8, IsTrue, ◌<◌, ◌≤◌, decimal, ⊤, string_bytes}
use Rattle.http_desk.specs.Common.{position_or_len, before_first, after_first, bytes_eq, list_all, decimal_value, where_true, result_ok, number_of, Designator, flight_of, is_agent_code, day_of, FlightDate, State, IsListing, listing_called, Form, Listing, Report, Verb, verb_called, to_ascii_lowercase, Data, boolean, string, number, unsigned, object, member, no_members, read, compact_text, is_printable, most_bytes, TextFault, Refusal, detail_text, Command, IsBodyOf, Meant, IsTelegram, telegram_fault, refusal_of, IsLook, IsLookFault, look_object, Look, is_key, Input, Keyed, Wire, is_ascii_graphic, IsNumber, number_text, IsDesignator, flight_text, day_line, word, Printout}
use Rattle.awb_number.specs.Number.{is_digit}
use Rattle.reports.specs.declared.layout.Form.TheVariants as form
use Rattle.reports.specs.declared.report.Listing.TheVariants as listing
use Rattle.reports.specs.declared.report.Report.TheVariants as report
use Rattle.http_desk.specs.Keys.{key_in, key_segment}
use Rattle.http_desk.specs.declared.route.Route.{Route}
use Rattle.http_desk.specs.declared.route.Route.TheVariants as route
use Rattle.http_desk.specs.declared.serve.FaultTold.{FaultTold}
use Rattle.http_desk.specs.declared.request.Values.{Values}
use Rattle.http_desk.specs.declared.request.Values.TheVariants as given
use Rattle.http_desk.specs.declared.asking.Body.{Body}
use Rattle.http_desk.specs.declared.asking.Body.TheVariants as body

-- Segments of a path.

-- the path of segments, each after a slash
abbrev pub joined : List (List ℕ) → List ℕ
joined [] = []
joined (last ∷ []) = 47 ∷ last
joined (first ∷ next ∷ more) = 47 ∷ (first ++ joined (next ∷ more))

abbrev pub path_text : List (List ℕ) → List ℕ
path_text segments = codes "/v1" ++ joined segments

abbrev pub is_slash : ℕ → Bool
is_slash b = b == 47

abbrev pub has_slash : List ℕ → Bool
has_slash text = nat_lt (position_or_len is_slash text) (length text)

-- a text as one part, or as two at its first slash
abbrev pub by_slash : {A : Type 0} → (List ℕ → A) → (List ℕ → List ℕ → A) → List ℕ → A
by_slash one two text =
    if has_slash text then two (before_first is_slash text) (after_first is_slash text)
    else one text

-- a path by its one, two or three segments, of which the third has the rest
abbrev pub by_segments : {A : Type 0} → (List ℕ → Option A) → (List ℕ → List ℕ → Option A)
    → (List ℕ → List ℕ → List ℕ → Option A) → List ℕ → Option A
by_segments one two three path =
    if bytes_eq (take 4 path) (codes "/v1/")
    then by_slash one (λ first later. by_slash (two first) (three first) later) (drop 4 path)
    else None

-- Numbers in a head or a path.

-- one to ten digits
abbrev pub is_number : List ℕ → Bool
is_number text = nat_le 1 (length text) && nat_le (length text) 10 && list_all is_digit text

abbrev pub number_told : List ℕ → Option ℕ
number_told text = where_true (is_number text) (decimal_value text)

-- Rows that a path requests, and their form.

-- the text has the rows of the state, in the form
abbrev pub IsPrinted : State → Printout → List ℕ → Type 0
IsPrinted s p text = IsListing p.form s p.listing text

abbrev pub as_text : Report → Printout
as_text name = record { listing = listing.All name; form = form.Text }

-- `.json` at the end requests that form
abbrev pub is_json : List ℕ → Bool
is_json path = bytes_eq (drop (length path - 5) path) (codes ".json")

-- a number of one to ten digits that a row can have
abbrev pub row_number : List ℕ → Option ℕ
row_number text = option_and_then (λ n. where_true (nat_lt n (2 ^ 32)) n) (number_told text)

abbrev pub agent_code : List ℕ → Option (List ℕ)
agent_code text = where_true (is_agent_code text) text

abbrev pub flight_on : List ℕ → Designator → Option FlightDate
flight_on day flight = option_map (λ d. record { flight = flight; day = d }) (day_of day)

abbrev pub flight_date : List ℕ → List ℕ → Option FlightDate
flight_date flight day = option_and_then (flight_on day) (flight_of flight)

-- the rows of a flight: its manifest, or its arrivals
abbrev pub flight_part : List ℕ → List ℕ → List ℕ → Option Listing
flight_part flight day part =
    if bytes_eq part (codes "arrivals") then option_map listing.Arrivals (flight_date flight day)
    else None

unfoldable pub flight_rows : List ℕ → List ℕ → Option Listing
flight_rows flight rest =
    by_slash (λ day. option_map listing.Manifest (flight_date flight day)) (flight_part flight) rest

abbrev pub agent_rows : List ℕ → List ℕ → Option Listing
agent_rows code part =
    if bytes_eq part (codes "stock") then option_map listing.AgentStock (agent_code code) else None

abbrev pub waybill_rows : List ℕ → ℕ → Option Listing
waybill_rows part w =
    if bytes_eq part (codes "movements") then Some (listing.Movements w)
    else if bytes_eq part (codes "sent") then Some (listing.Sent w)
    else if bytes_eq part (codes "trail") then Some (listing.Trail w)
    else None

-- a kind and a side are these words
abbrev pub are : List ℕ → List ℕ → List ℕ → List ℕ → Bool
are kind side word other = bytes_eq kind word && bytes_eq side other

-- the rows of a kind after a number, or the last ones
abbrev pub numbered_rows : List ℕ → List ℕ → ℕ → Option Listing
numbered_rows kind side n =
    if are kind side (codes "movements") (codes "after") then Some (listing.MovementsAfter n)
    else if are kind side (codes "movements") (codes "last") then Some (listing.MovementsLast n)
    else if are kind side (codes "outbox") (codes "after") then Some (listing.PendingAfter n)
    else if are kind side (codes "sent") (codes "after") then Some (listing.SentAfter n)
    else if are kind side (codes "trail") (codes "after") then Some (listing.TrailAfter n)
    else if are kind side (codes "trail") (codes "last") then Some (listing.TrailLast n)
    else None

-- the rows at the segments of a path
abbrev pub rows_word : List ℕ → Option Listing
rows_word word =
    if bytes_eq word (codes "outbox") then Some (listing.All report.Pending)
    else if bytes_eq word (codes "station") then Some (listing.All report.Station)
    else None

abbrev pub rows_named : List ℕ → List ℕ → Option Listing
rows_named kind name =
    if bytes_eq kind (codes "reports") then listing_called name
    else if bytes_eq kind (codes "keys") then option_map listing.Kept (key_in name)
    else None

abbrev pub rows_part : List ℕ → List ℕ → List ℕ → Option Listing
rows_part kind second third =
    if bytes_eq kind (codes "agents") then agent_rows second third
    else if bytes_eq kind (codes "flights") then flight_rows second third
    else if bytes_eq kind (codes "waybills")
    then option_and_then (waybill_rows third) (result_ok (number_of second))
    else option_and_then (numbered_rows kind second) (row_number third)

abbrev pub rows_at : List ℕ → Option Listing
rows_at path = by_segments rows_word rows_named rows_part path

abbrev pub in_form : Form → Listing → Printout
in_form f l = record { listing = l; form = f }

abbrev pub printout_at : List ℕ → Option Printout
printout_at path =
    if is_json path then option_map (in_form form.Json) (rows_at (take (length path - 5) path))
    else option_map (in_form form.Text) (rows_at path)

-- The desk's routes, and the path of each.

-- the part before a question mark
abbrev pub path_of : List ℕ → List ℕ
path_of target = before_first (λ b. b == 63) target

-- Routes: commands, telegrams and dry runs are posted, look-ups are GETs.
pub data Posted : Type 0 where
  posted_command : Verb → Posted
  posted_check : Verb → Posted
  posted_telegram : Posted
  posted_look : Posted

-- a dry run calls no station
abbrev pub is_dry : Posted → Bool
is_dry (posted_check verb) = true
is_dry posted_look = true
is_dry _ = false

pub data Got : Type 0 where
  got_waybill : List ℕ → Got
  got_history : List ℕ → Got
  got_holder : List ℕ → Got
  got_report : Printout → Got

pub data Place : Type 0 where
  posts : Posted → Place
  gets : Got → Place

-- the pages at the segments of a path
abbrev pub page_word : List ℕ → Option Place
page_word word =
    if bytes_eq word (codes "telegrams") then Some (posts posted_telegram)
    else if bytes_eq word (codes "read") then Some (posts posted_look)
    else None

abbrev pub page_named : List ℕ → List ℕ → Option Place
page_named kind name =
    if bytes_eq kind (codes "act")
    then option_map (λ verb. posts (posted_command verb)) (verb_called name)
    else if bytes_eq kind (codes "check")
    then option_map (λ verb. posts (posted_check verb)) (verb_called name)
    else if bytes_eq kind (codes "waybills") && nat_lt 0 (length name)
    then Some (gets (got_waybill name))
    else if bytes_eq kind (codes "stock") && nat_lt 0 (length name)
    then Some (gets (got_holder name))
    else None

abbrev pub page_part : List ℕ → List ℕ → List ℕ → Option Place
page_part kind name part =
    if bytes_eq kind (codes "waybills") && (bytes_eq part (codes "history") && nat_lt 0 (length name))
    then Some (gets (got_history name))
    else None

abbrev pub page_at : List ℕ → Option Place
page_at path = by_segments page_word page_named page_part path

-- the page at the path, or else the rows that it requests
abbrev pub asked_place : Option Place → List ℕ → Option Place
asked_place (Some place) path = Some place
asked_place None path = option_map (λ p. gets (got_report p)) (printout_at path)

abbrev pub place_of : List ℕ → Option Place
place_of target = asked_place (page_at (path_of target)) (path_of target)

-- a route of the program
abbrev pub place_told : Route → Place
place_told (route.Command verb) = posts (posted_command verb)
place_told (route.Check verb) = posts (posted_check verb)
place_told route.Telegrams = posts posted_telegram
place_told route.Look = posts posted_look
place_told (route.Waybill name) = gets (got_waybill name.now)
place_told (route.History name) = gets (got_history name.now)
place_told (route.Stock name) = gets (got_holder name.now)
place_told (route.Report name) = gets (got_report name)

-- Requests, by the tests in their order.

-- a request's head: its fields are names and values, without spaces and tabs around them
pub record Head : Type 0 where
  pub method : List ℕ
  pub target : List ℕ
  pub fields : List (List ℕ × List ℕ)

-- A fault is answered with its status and a word, which may be empty. A wrong method is answered
-- with the allowed one in a line of its own.
pub record Fault : Type 0 where
  pub status : ℕ
  pub word : List ℕ
  pub allow : Option (List ℕ)

abbrev pub fault : ℕ → List ℕ → Fault
fault status word = record { status = status; word = word; allow = None }

abbrev pub wrong_method : List ℕ → Fault
wrong_method allowed = record { status = 405; word = []; allow = Some allowed }

-- names are compared in any case
abbrev pub is_named : List ℕ → List ℕ × List ℕ → Bool
is_named name field = bytes_eq (map to_ascii_lowercase field.0) name

abbrev pub values_of : List ℕ → List (List ℕ × List ℕ) → List (List ℕ)
values_of name [] = []
values_of name (field ∷ fields) =
    if is_named name field then field.1 ∷ values_of name fields else values_of name fields

-- a length is a number, and at most 65,536
abbrev pub within_length : Option ℕ → Result ℕ Fault
within_length None = Err (fault 400 (codes "length"))
within_length (Some n) = if nat_le n most_bytes then Ok n else Err (fault 413 [])

abbrev pub length_in : List ℕ → Result ℕ Fault
length_in value = within_length (number_told value)

abbrev pub length_among : List (List ℕ) → Result ℕ Fault
length_among [] = Err (fault 411 [])
length_among (value ∷ []) = length_in value
length_among (value ∷ other ∷ values) = Err (fault 400 (codes "length"))

-- a transfer encoding counts as a missing length
abbrev pub length_beside : List (List ℕ) → List (List ℕ) → Result ℕ Fault
length_beside [] lengths = length_among lengths
length_beside (encoding ∷ encodings) lengths = Err (fault 411 [])

abbrev pub body_length : List (List ℕ × List ℕ) → Result ℕ Fault
body_length fields =
    length_beside (values_of (codes "transfer-encoding") fields)
    (values_of (codes "content-length") fields)

-- The request in a head: it is refused, it is a GET, or it posts a body of some length.
pub data HeadAsks : Type 0 where
  refuses : Fault → HeadAsks
  looks_up : Got → HeadAsks
  sends : Posted → ℕ → HeadAsks

abbrev pub sends_body : Posted → Result ℕ Fault → HeadAsks
sends_body posted (Ok n) = sends posted n
sends_body posted (Err f) = refuses f

abbrev pub place_asks : Head → Option Place → HeadAsks
place_asks head None = refuses (fault 404 [])
place_asks head (Some (posts posted)) =
    if bytes_eq head.method (codes "POST") then sends_body posted (body_length head.fields)
    else refuses (wrong_method (codes "POST"))
place_asks head (Some (gets got)) =
    if bytes_eq head.method (codes "GET") then looks_up got
    else refuses (wrong_method (codes "GET"))

-- The origin of a request, if a browser names it. Only the host's own pages are allowed: this
-- scheme followed by the host.
abbrev pub is_at : List ℕ → List ℕ → List ℕ → Bool
is_at scheme host origin =
    bytes_eq (take (length scheme) origin) scheme && bytes_eq (drop (length scheme) origin) host

abbrev pub is_own : List ℕ → List ℕ → Bool
is_own host origin = is_at (codes "http://") host origin || is_at (codes "https://") host origin

-- an origin is foreign unless the host is named once and the origin is its own
abbrev pub is_foreign_to : List (List ℕ) → List ℕ → Bool
is_foreign_to (host ∷ []) origin = not (is_own host origin)
is_foreign_to _ origin = true

-- a request without an origin isn't foreign; a request with several is
abbrev pub is_foreign_among : List (List ℕ) → List (List ℕ) → Bool
is_foreign_among hosts [] = false
is_foreign_among hosts (origin ∷ []) = is_foreign_to hosts origin
is_foreign_among hosts (origin ∷ other ∷ origins) = true

abbrev pub is_foreign : List (List ℕ × List ℕ) → Bool
is_foreign fields =
    is_foreign_among (values_of (codes "host") fields) (values_of (codes "origin") fields)

-- the request of a page of the host, or of no page
abbrev pub own_asks : Head → HeadAsks
own_asks head = place_asks head (place_of head.target)

abbrev pub head_asks : Head → HeadAsks
head_asks head =
    if is_foreign head.fields then refuses (fault 400 (codes "origin")) else own_asks head

-- the key of a posted command: there is exactly one, and it is valid
abbrev pub key_among : List (List ℕ) → Option (List ℕ)
key_among (key ∷ []) = if is_key key then Some key else None
key_among _ = None

abbrev pub key_of : List (List ℕ × List ℕ) → Option (List ℕ)
key_of fields = key_among (values_of (codes "request-key") fields)

-- The content of a body: it is refused with a word, it isn't a telegram, it is a dry run, a dry run
-- of what isn't a telegram, or an input for the station.
pub data BodyAsks : Type 0 where
  bad_body : Fault → BodyAsks
  unreadable : Refusal → BodyAsks
  looks_at : List ℕ → BodyAsks
  misreads : List ℕ → BodyAsks
  for_station : Input → BodyAsks

-- the bytes are JSON of this command of the verb
abbrev pub IsSaid : Verb → List ℕ → Command → Type 0
IsSaid verb bytes command =
    IsUtf8 bytes × ((d : Data) × (read bytes ≡ Some d) × IsBodyOf verb d command)

-- whether a body is a command of its verb, with a reason in printable ASCII if it isn't
abbrev pub good_data : Data
good_data = object (member (codes "good") (boolean true) no_members)

abbrev pub bad_data : List ℕ → Data
bad_data reason =
    object (member (codes "good") (boolean false)
    (member (codes "reason") (string reason) no_members))

abbrev pub IsChecked : Verb → List ℕ → Data → Type 0
IsChecked verb bytes d =
    ((command : Command) × IsSaid verb bytes command × (d ≡ good_data))
    ⊎ (((command : Command) → ¬ (IsSaid verb bytes command))
    × ((reason : List ℕ) × IsTrue (list_all is_printable reason) × (d ≡ bad_data reason)))

abbrev pub IsCheckAsked : Verb → List ℕ → BodyAsks → Type 0
IsCheckAsked verb bytes asks =
    (d : Data) × IsChecked verb bytes d × (asks ≡ looks_at (compact_text d))

abbrev pub IsCommandAsked : Verb → Option (List ℕ) → List ℕ → BodyAsks → Type 0
IsCommandAsked verb None bytes asks = asks ≡ bad_body (fault 400 (codes "key"))
IsCommandAsked verb (Some key) bytes asks =
    ((command : Command) × IsSaid verb bytes command × (asks ≡ for_station (Keyed key command)))
    ⊎ (((command : Command) → ¬ (IsSaid verb bytes command))
    × (asks ≡ bad_body (fault 400 (codes "body"))))

abbrev pub IsTelegramAsked : List ℕ → BodyAsks → Type 0
IsTelegramAsked bytes asks =
    ((t : Meant) × IsTelegram bytes t × (asks ≡ for_station (Wire t)))
    ⊎ ((told : TextFault) × (telegram_fault bytes ≡ Some told)
    × (asks ≡ unreadable (refusal_of told)))

abbrev pub misread_data : ℕ → List ℕ → List ℕ → Data
misread_data refused detail reason =
    object (member (codes "detail") (string detail)
    (member (codes "reason") (string reason)
    (member (codes "refused") (number (unsigned refused)) no_members)))

-- the refusal of a telegram that can't be read, with a reason in printable ASCII
abbrev pub IsMisread : Refusal → List ℕ → Type 0
IsMisread refusal text =
    (reason : List ℕ) × IsTrue (list_all is_printable reason)
    × (text ≡ compact_text (misread_data refusal.number (detail_text refusal.detail) reason))

abbrev pub IsLookAsked : List ℕ → BodyAsks → Type 0
IsLookAsked bytes asks =
    ((look : Look) × IsLook bytes look × (asks ≡ looks_at (look_object look)))
    ⊎ ((told : TextFault) × IsLookFault bytes told
    × ((text : List ℕ) × IsMisread (refusal_of told) text × (asks ≡ misreads text)))

abbrev pub IsAskedUnder : Posted → Option (List ℕ) → List ℕ → BodyAsks → Type 0
IsAskedUnder (posted_command verb) key bytes asks = IsCommandAsked verb key bytes asks
IsAskedUnder (posted_check verb) key bytes asks = IsCheckAsked verb bytes asks
IsAskedUnder posted_telegram key bytes asks = IsTelegramAsked bytes asks
IsAskedUnder posted_look key bytes asks = IsLookAsked bytes asks

abbrev pub IsAsked : Posted → List (List ℕ × List ℕ) → List ℕ → BodyAsks → Type 0
IsAsked posted fields bytes asks = IsAskedUnder posted (key_of fields) bytes asks

-- The paths: the segments of each place.

-- bytes without a question mark
abbrev pub is_path_byte : ℕ → Bool
is_path_byte b = nat_lt b 256 && not (b == 63)

abbrev pub IsPath : List ℕ → Type 0
IsPath path = list_all is_path_byte path ≡ true

-- a name in a path: at least one byte, without a slash
abbrev pub IsName : List ℕ → Type 0
IsName name = (0 < length name) × (has_slash name ≡ false)

abbrev pub report_segments : Report → List (List ℕ)
report_segments report.Stock = codes "reports" ∷ codes "stock" ∷ []
report_segments report.Announced = codes "reports" ∷ codes "announced" ∷ []
report_segments report.Shed = codes "reports" ∷ codes "shed" ∷ []
report_segments report.ShedDays = codes "reports" ∷ codes "shed-days" ∷ []
report_segments report.Flights = codes "reports" ∷ codes "flights" ∷ []
report_segments report.Expected = codes "reports" ∷ codes "expected" ∷ []
report_segments report.Irregularities = codes "reports" ∷ codes "irregularities" ∷ []
report_segments report.IrregularityDays = codes "reports" ∷ codes "irregularity-days" ∷ []
report_segments report.Movements = codes "reports" ∷ codes "movements" ∷ []
report_segments report.Trail = codes "reports" ∷ codes "trail" ∷ []
report_segments report.Pending = codes "outbox" ∷ []
report_segments report.Sent = codes "reports" ∷ codes "sent" ∷ []
report_segments report.Station = codes "reports" ∷ codes "station" ∷ []

abbrev pub rows_segments : Listing → List (List ℕ)
rows_segments (listing.All r) = report_segments r
rows_segments listing.OpenFlights = codes "reports" ∷ codes "open-flights" ∷ []
rows_segments listing.OpenExpected = codes "reports" ∷ codes "open-expected" ∷ []
rows_segments listing.OpenIrregularities = codes "reports" ∷ codes "open-irregularities" ∷ []
rows_segments (listing.AgentStock code) = codes "agents" ∷ code ∷ codes "stock" ∷ []
rows_segments (listing.Movements w) = codes "waybills" ∷ number_text w ∷ codes "movements" ∷ []
rows_segments (listing.MovementsAfter n) = codes "movements" ∷ codes "after" ∷ decimal n ∷ []
rows_segments (listing.MovementsLast n) = codes "movements" ∷ codes "last" ∷ decimal n ∷ []
rows_segments (listing.Trail w) = codes "waybills" ∷ number_text w ∷ codes "trail" ∷ []
rows_segments (listing.TrailAfter n) = codes "trail" ∷ codes "after" ∷ decimal n ∷ []
rows_segments (listing.TrailLast n) = codes "trail" ∷ codes "last" ∷ decimal n ∷ []
rows_segments (listing.PendingAfter n) = codes "outbox" ∷ codes "after" ∷ decimal n ∷ []
rows_segments (listing.SentAfter n) = codes "sent" ∷ codes "after" ∷ decimal n ∷ []
rows_segments (listing.Sent w) = codes "waybills" ∷ number_text w ∷ codes "sent" ∷ []
rows_segments (listing.Kept key) = codes "keys" ∷ key_segment key ∷ []
rows_segments (listing.Manifest f) = codes "flights" ∷ flight_text f.flight ∷ day_line f.day ∷ []
rows_segments (listing.Arrivals f) =
    codes "flights" ∷ flight_text f.flight ∷ day_line f.day ∷ codes "arrivals" ∷ []

abbrev pub segments : Place → List (List ℕ)
segments (posts (posted_command verb)) = codes "act" ∷ word verb ∷ []
segments (posts (posted_check verb)) = codes "check" ∷ word verb ∷ []
segments (posts posted_telegram) = codes "telegrams" ∷ []
segments (posts posted_look) = codes "read" ∷ []
segments (gets (got_waybill name)) = codes "waybills" ∷ name ∷ []
segments (gets (got_history name)) = codes "waybills" ∷ name ∷ codes "history" ∷ []
segments (gets (got_holder name)) = codes "stock" ∷ name ∷ []
segments (gets (got_report p)) = rows_segments p.listing

abbrev pub report_path : Report → List ℕ
report_path r = path_text (report_segments r)

abbrev pub listing_path : Listing → List ℕ
listing_path l = path_text (rows_segments l)

-- rows as JSON have `.json` at the end
abbrev pub rows_path : Listing → Form → List ℕ
rows_path l form.Text = listing_path l
rows_path l form.Json = listing_path l ++ codes ".json"

-- a page: what is posted, a waybill or its history, and a number, each by its name
abbrev pub IsPage : Place → Type 0
IsPage (posts posted) = ⊤
IsPage (gets (got_waybill name)) = IsName name
IsPage (gets (got_history name)) = IsName name
IsPage (gets (got_holder name)) = IsName name
IsPage (gets (got_report p)) = ⊥

abbrev pub LeadsToPage : List ℕ → Place → Type 0
LeadsToPage path place = IsPage place × (path ≡ path_text (segments place))

-- the path leads to no page, and requests rows
pub record LeadsToRows (path : List ℕ) (place : Place) : Type 0 where
  pub no_page : (page : Place) → ¬ (LeadsToPage path page)
  pub printout : Printout
  pub asks : printout_at path ≡ Some printout
  pub is : place ≡ gets (got_report printout)

abbrev pub LeadsTo : List ℕ → Place → Type 0
LeadsTo path place = LeadsToPage path place ⊎ LeadsToRows path place

-- the values of a listing are in range: a code, a number, a row's number, a key, and a flight on a
-- day that is read back from its text
abbrev pub IsListed : Listing → Type 0
IsListed (listing.AgentStock code) = IsTrue (is_agent_code code)
IsListed (listing.Movements w) = IsNumber w
IsListed (listing.MovementsAfter n) = n < 2 ^ 32
IsListed (listing.MovementsLast n) = n < 2 ^ 32
IsListed (listing.Trail w) = IsNumber w
IsListed (listing.TrailAfter n) = n < 2 ^ 32
IsListed (listing.TrailLast n) = n < 2 ^ 32
IsListed (listing.PendingAfter n) = n < 2 ^ 32
IsListed (listing.SentAfter n) = n < 2 ^ 32
IsListed (listing.Sent w) = IsNumber w
IsListed (listing.Kept key) = IsTrue (is_key key)
IsListed (listing.Manifest f) = IsDesignator f.flight × (day_of (day_line f.day) ≡ Some f.day)
IsListed (listing.Arrivals f) = IsDesignator f.flight × (day_of (day_line f.day) ≡ Some f.day)
IsListed _ = ⊤

-- the size of the longest path that is printed, in bytes
abbrev pub most_path : ℕ
most_path = 140

-- a printed path: graphic bytes that lead to the place
pub record IsPathOf (path : List ℕ) (place : Place) : Type 0 where
  pub graphic : list_all is_ascii_graphic path ≡ true
  pub some : 0 < length path
  pub few : length path ≤ most_path
  pub leads : place_of path ≡ Some place

abbrev pub HasPath : Place → Type 0
HasPath place = IsPathOf (path_text (segments place)) place

-- The program's reading of header fields.

-- a lower-case name
abbrev pub IsSmall : List ℕ → Type 0
IsSmall name = map to_ascii_lowercase name ≡ name

-- a fault of the program
abbrev pub meant : FaultTold → Fault
meant f = record {
  status = f.status;
  word = f.word.now;
  allow = option_map (λ method. method.now) f.allow;
}

abbrev pub length_meant : Result ℕ FaultTold → Result ℕ Fault
length_meant (Ok n) = Ok n
length_meant (Err f) = Err (meant f)

-- no field, one, or several
abbrev pub AreTold : Values → List (List ℕ) → Type 0
AreTold given.Nothing found = found ≡ []
AreTold (given.One value) found = found ≡ value.now ∷ []
AreTold given.More found =
    (first : List ℕ) × (next : List ℕ) × (rest : List (List ℕ)) × (found ≡ first ∷ next ∷ rest)

-- The program's reading of a body.

abbrev pub body_meant : Body → BodyAsks
body_meant (body.Bad word) = bad_body (fault 400 word.now)
body_meant (body.Unreadable refusal) = unreadable refusal
body_meant (body.Look seen) = looks_at (string_bytes seen)
body_meant (body.Misread text) = misreads (string_bytes text)
body_meant (body.Input i) = for_station i
