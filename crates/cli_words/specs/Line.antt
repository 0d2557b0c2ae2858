-- The meaning of the words of a call.
use Rattle.std.specs.Prelude.{ℕ, List, Ok, ◌≡◌, ◌⊎◌, Bool, true, false, ◌∷◌, ◌++◌, Option, Some, None, IsTrue, codes, option_map, if◌then◌else◌, ◌≤◌, ◌||◌, is_some, map, IsSome, IfSome}
use Rattle.std.specs.Str.Parse.{ParsesUnsigned}
use Rattle.agent_stock.specs.Fields.{is_agent_code}
use Rattle.awb_number.specs.Number.{number_of}
use Rattle.imp_fields.specs.Fields.{flight_of, airport_of}
use Rattle.shipment_machine.specs.declared.flight.FlightDate.{FlightDate}
use Rattle.desk_commands.specs.Command.{day_of, word}
use Rattle.reports.specs.Reports.{report_called}
use Rattle.reports.specs.declared.layout.Form.{Form}
use Rattle.reports.specs.declared.layout.Form.TheVariants as form
use Rattle.reports.specs.declared.report.Listing.{Listing}
use Rattle.reports.specs.declared.report.Listing.TheVariants as listing
use Rattle.reports.specs.declared.report.Report.{Report}
use Rattle.reports.specs.declared.report.Report.TheVariants as report
use Rattle.cli_words.specs.declared.words.ReportWords.{ReportWords}
use Rattle.cli_words.specs.declared.line.Line.{Line}
use Rattle.cli_words.specs.declared.line.LineCommand.{LineCommand}
use Rattle.cli_words.specs.declared.line.LineCommand.TheVariants as command
use Rattle.cli_words.specs.declared.words.Words.{Words}
use Rattle.cli_words.specs.declared.words.Request.{Request}
use Rattle.cli_words.specs.declared.words.Request.TheVariants as request

-- Numbers as words.

-- a decimal number of at most `bits` bits
abbrev pub IsNumber : ℕ → List ℕ → ℕ → Type 0
IsNumber bits text n = ParsesUnsigned {E = Unit {0}} bits 10 text (Ok n)

-- The listing that the words of `report` request.

abbrev pub form_of : Bool → Form
form_of json = if json then form.Json else form.Text

-- open rows: flights that haven't departed, expectations that aren't checked in, and waybills whose
-- missing and found pieces don't even out
abbrev pub IsOpen : Report → Listing → Type 0
IsOpen report.Flights l = l ≡ listing.OpenFlights
IsOpen report.Expected l = l ≡ listing.OpenExpected
IsOpen report.Irregularities l = l ≡ listing.OpenIrregularities
IsOpen _ l = ⊥

abbrev pub HasAgent : Report → List ℕ → Listing → Type 0
HasAgent report.Stock code l = IsTrue (is_agent_code code) × (l ≡ listing.AgentStock code)
HasAgent _ code l = ⊥

-- the moves, the trail or the status messages of a waybill
abbrev pub IsOfWaybill : Report → List ℕ → Listing → Type 0
IsOfWaybill report.Movements text l = (w : ℕ) × (number_of text ≡ Ok w) × (l ≡ listing.Movements w)
IsOfWaybill report.Trail text l = (w : ℕ) × (number_of text ≡ Ok w) × (l ≡ listing.Trail w)
IsOfWaybill report.Sent text l = (w : ℕ) × (number_of text ≡ Ok w) × (l ≡ listing.Sent w)
IsOfWaybill _ text l = ⊥

-- the moves, the trail or the messages after a number
abbrev pub IsAfter : Report → List ℕ → Listing → Type 0
IsAfter report.Movements text l = (n : ℕ) × IsNumber 32 text n × (l ≡ listing.MovementsAfter n)
IsAfter report.Trail text l = (n : ℕ) × IsNumber 32 text n × (l ≡ listing.TrailAfter n)
IsAfter report.Sent text l = (n : ℕ) × IsNumber 32 text n × (l ≡ listing.SentAfter n)
IsAfter _ text l = ⊥

-- the last moves, or the last lines of the trail
abbrev pub IsLast : Report → List ℕ → Listing → Type 0
IsLast report.Movements text l = (n : ℕ) × IsNumber 32 text n × (l ≡ listing.MovementsLast n)
IsLast report.Trail text l = (n : ℕ) × IsNumber 32 text n × (l ≡ listing.TrailLast n)
IsLast _ text l = ⊥

-- the whole report, or the part that one of the words after its name requests: its flight, --open,
-- --agent, --awb, --after and --last
abbrev pub IsPart : Report → Option (List ℕ) → Bool → Option (List ℕ) → Option (List ℕ)
    → Option (List ℕ) → Option (List ℕ) → Listing → Type 0
IsPart r None false None None None None l = l ≡ listing.All r
IsPart r None true None None None None l = IsOpen r l
IsPart r None false (Some code) None None None l = HasAgent r code l
IsPart r None false None (Some text) None None l = IsOfWaybill r text l
IsPart r None false None None (Some text) None l = IsAfter r text l
IsPart r None false None None None (Some text) l = IsLast r text l
IsPart r _ _ _ _ _ _ l = ⊥

abbrev pub HasPart : Report → ReportWords → Listing → Type 0
HasPart r words l =
    IsPart r (option_map (λ text. text.now) words.flight) words.open
    (option_map (λ text. text.now) words.agent) (option_map (λ text. text.now) words.awb)
    (option_map (λ text. text.now) words.after) (option_map (λ text. text.now) words.last) l

-- a flight, a slash and its day: `LH400/2026-01-12`
abbrev pub IsFlightDay : List ℕ → FlightDate → Type 0
IsFlightDay text f =
    (flight day : List ℕ) × (text ≡ flight ++ 47 ∷ day) × (flight_of flight ≡ Some f.flight)
    × (day_of day ≡ Some f.day)

-- rows of a flight allow no word except the flight
abbrev pub IsOfFlight : Option (List ℕ) → Bool → Option (List ℕ) → Option (List ℕ)
    → Option (List ℕ) → Option (List ℕ) → FlightDate → Type 0
IsOfFlight (Some text) false None None None None f = IsFlightDay text f
IsOfFlight _ _ _ _ _ _ f = ⊥

abbrev pub HasFlight : ReportWords → FlightDate → Type 0
HasFlight words f =
    IsOfFlight (option_map (λ text. text.now) words.flight) words.open
    (option_map (λ text. text.now) words.agent) (option_map (λ text. text.now) words.awb)
    (option_map (λ text. text.now) words.after) (option_map (λ text. text.now) words.last) f

-- the manifest of a flight, its arrivals, or a report or a part of it
abbrev pub IsListed : ReportWords → Listing → Type 0
IsListed words l =
    ((words.name.now ≡ codes "manifest")
    × ((f : FlightDate) × HasFlight words f × (l ≡ listing.Manifest f)))
    ⊎ ((words.name.now ≡ codes "arrivals")
    × ((f : FlightDate) × HasFlight words f × (l ≡ listing.Arrivals f)))
    ⊎ ((r : Report) × (report_called words.name.now ≡ Some r) × HasPart r words l)

-- A new file needs its path and its airport, and an upgrade the path. A port and a count are at
-- least 1.
abbrev pub IsCalled : LineCommand → Type 0 → Type 0 → Type 0
IsCalled command.Init HasFile HasAirport = HasFile × HasAirport
IsCalled command.Migrate HasFile HasAirport = HasFile
IsCalled (command.Serve port count) HasFile HasAirport = (1 ≤ port) × IfSome count (λ k. 1 ≤ k)
IsCalled _ HasFile HasAirport = Unit {0}

-- a running service can do anything except create, upgrade or serve a station
abbrev pub is_asked : LineCommand → Bool
is_asked command.Init = false
is_asked command.Migrate = false
is_asked (command.Serve port count) = false
is_asked _ = true

-- a command line for a running service names no file and no airport of its own
pub record AsksService (line : Line) : Type 0 where
  pub no_file : line.db ≡ None
  pub no_airport : line.station ≡ None
  pub asked : is_asked line.command ≡ true

abbrev pub IsLine : Line → Type 0
IsLine line =
    IsCalled line.command (IsSome line.db) (IsSome line.station)
    × IfSome line.at (λ port. (1 ≤ port) × AsksService line)

-- each word of a command is read by its own rule
abbrev pub Means : Request → LineCommand → Type 0
Means request.Init command.Init = Unit {0}
Means request.Migrate command.Migrate = Unit {0}
Means request.Stock command.Stock = Unit {0}
Means (request.Take files) (command.Take paths) =
    map (λ path. path.now) paths.items ≡ map (λ file. file.now) files.items
Means (request.Act verb key) (command.Act v k) = (word v ≡ verb.now) × (k ≡ key.now)
Means request.Acts command.Acts = Unit {0}
Means (request.Read file) (command.Read path) = path.now ≡ file.now
Means (request.Outbox None json) (command.Outbox f) = f ≡ form_of json
Means (request.Outbox (Some after) json) (command.Report l f) =
    ((n : ℕ) × IsNumber 32 after.now n × (l ≡ listing.PendingAfter n)) × (f ≡ form_of json)
Means (request.Report words) (command.Report l f) = IsListed words l × (f ≡ form_of words.json)
Means (request.Station json) (command.Report l f) = (l ≡ listing.All report.Station) × (f ≡ form_of json)
Means (request.Key key json) (command.Report l f) = (l ≡ listing.Kept key.now) × (f ≡ form_of json)
Means (request.History number) (command.History w) = number_of number.now ≡ Ok w
Means (request.Waybill number) (command.Waybill w) = number_of number.now ≡ Ok w
Means (request.Holder number) (command.Holder w) = number_of number.now ≡ Ok w
Means (request.Serve port count) (command.Serve p None) = IsNumber 16 port.now p
Means (request.Serve port (Some count)) (command.Serve p (Some k)) = IsNumber 16 port.now p × IsNumber 32 count.now k
Means _ _ = ⊥

-- the airport, if one is named
abbrev pub IsStation : Option (List ℕ) → Option (List ℕ) → Type 0
IsStation None airport = airport ≡ None
IsStation (Some text) airport = IsSome airport × (airport ≡ airport_of text)

-- the port of the service, if one is named
abbrev pub IsAt : Option (List ℕ) → Option ℕ → Type 0
IsAt None port = port ≡ None
IsAt (Some text) (Some port) = IsNumber 16 text port × (1 ≤ port)
IsAt (Some text) None = ⊥

-- the words name a file, an airport or a zone, which a running service has itself
abbrev pub has_own : Words → Bool
has_own words = is_some words.options.db || is_some words.options.station || is_some words.options.zone

-- the rule of the zone, UTC0 by default
abbrev pub rule_of : Option (List ℕ) → List ℕ
rule_of None = codes "UTC0"
rule_of (Some rule) = rule

-- the command line has the meaning of the words
pub record IsMeant (words : Words) (line : Line) : Type 0 where
  pub db : line.db ≡ words.options.db
  pub at : IsAt (option_map (λ text. text.now) words.options.at) line.at
  pub beside : IfSome line.at (λ port. has_own words ≡ false)
  pub station : IsStation (option_map (λ text. text.now) words.options.station) line.station
  pub zone : line.zone.now ≡ rule_of (option_map (λ text. text.now) words.options.zone)
  pub command : Means words.request line.command
