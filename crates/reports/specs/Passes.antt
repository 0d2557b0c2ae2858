-- Sums and days that are made in one pass, and the progress of a report.
use Rattle.std.specs.Prelude.{◌≡◌, ℕ, ◌<◌, ◌≤◌, ◌==◌, ◌||◌, nat_lt, Bool, true, false, Option, List, take, length, filter, ◌&&◌, if◌then◌else◌, [], ◌∷◌, ◌+◌, ◌-◌, cond, Some, None, ◌++◌, ◌⊎◌, Result, Ok, Err}
use Rattle.reports.specs.Common.{AllZip, slice_get, option_map, found, missing, store, Cargo, Move, irregular_rows, shed_rows, IrregularRow, ShedRow, flat_map, sum_by, amount, built, pieces_of, same_place, tenths_of, waybills_of, Amount, FlightDate, Built, Departed, get, unwrap_or, eq_by_cmp, nat_cmp, in_store, Place, Missing, Surplus, Given, Sent, HasCause, NoneFailed, OneFailed, IfSound, IsReadersFault, Keeping, OnlyReads, State, Dated, ManifestRow}
use Rattle.station_core.specs.declared.answer.ActFault.TheVariants as act
use Rattle.reports.specs.declared.days.Lasting.{Lasting}
use Rattle.reports.specs.declared.days.Lasting.TheVariants as lasting
use Rattle.reports.specs.declared.tallies.Count.{Count}
use Rattle.reports.specs.declared.tallies.Tallies.{Tallies}
use Rattle.reports.specs.declared.tallies.FlightSums.{FlightSums}
use Rattle.reports.specs.declared.days.Flow.{Flow}
use Rattle.reports.specs.declared.days.Gathering.{Gathering}
use Rattle.reports.specs.declared.days.Spell.{Spell}
use Rattle.reports.specs.declared.report.ReportCause.{ReportCause}
use Rattle.reports.specs.declared.report.ReportCause.TheVariants as cause
use Rattle.reports.specs.declared.report.ReportFault.{ReportFault}
use Rattle.reports.specs.declared.sink.LineSink.{LineSink}

-- Since when a waybill has had pieces in store, or missing or found ones.

-- the movements of a waybill, in order
abbrev pub own_moves : List Move → ℕ → List Move
own_moves book w = filter (λ m. m.awb == w) book

-- what lasts, after these movements: pieces are in store, or some are missing or were found
abbrev pub lasts : Lasting → ℕ → List Move → Bool
lasts lasting.Stored w moves = nat_lt 0 (store moves w).pieces
lasts lasting.Irregular w moves = nat_lt 0 (missing moves w).pieces || nat_lt 0 (found moves w).pieces

-- The number of movements before the one since which it has lasted: it did not hold before that
-- one, and holds after it and after each later one. All movements, if it doesn't hold now.
pub record IsSince (holds : List Move → Bool) (moves : List Move) (n : ℕ) : Type 0 where
  pub within : n ≤ length moves
  pub before : holds (take n moves) ≡ false
  pub later : (k : ℕ) → n < k → k ≤ length moves → holds (take k moves) ≡ true

-- the day of that movement
abbrev pub IsDay : (List Move → Bool) → List Move → Option ℕ → Type 0
IsDay holds moves day = (n : ℕ) × IsSince holds moves n × (day ≡ option_map (λ m. m.at.day) (slice_get moves n))

abbrev pub IsDayOf : Lasting → Cargo → ℕ → Option ℕ → Type 0
IsDayOf lasting s w day = IsDay (lasts lasting w) (own_moves s.book w) day

-- rows, each with its day
abbrev pub AreDated : {Row : Type 0} → Lasting → (Row → ℕ) → Cargo → List Row → List (Dated Row) → Type 0
AreDated lasting awb_of s rows dated = AllZip (λ row one. (one.row ≡ row) × IsDayOf lasting s (awb_of row) one.since) rows dated

-- the waybills with pieces in store, and those with missing or found pieces, each with its day
abbrev pub AreShedDays : Cargo → List (Dated ShedRow) → Type 0
AreShedDays s dated = (rows : List ShedRow) × (rows ≡ shed_rows s) × AreDated lasting.Stored (λ row. row.awb) s rows dated

abbrev pub AreIrregularityDays : Cargo → List (Dated IrregularRow) → Type 0
AreIrregularityDays s dated = (rows : List IrregularRow) × (rows ≡ irregular_rows s) × AreDated lasting.Irregular (λ row. row.awb) s rows dated

-- The manifest of a flight: for each waybill the amount built for the flight now, and the amount
-- that departed with it.

-- true if a move takes what is built for a flight away with it
abbrev pub leaves : FlightDate → Move → Bool
leaves f m = same_place (Built f) m.from && same_place Departed m.to

-- the sum of a waybill's moves that left with a flight
abbrev pub takes_away : (Move → ℕ) → ℕ → FlightDate → Move → ℕ
takes_away measure w f m = if (m.awb == w) && leaves f m then measure m else 0

abbrev pub departed_with : List Move → ℕ → FlightDate → Amount
departed_with book w f = amount (sum_by (takes_away pieces_of w f) book) (sum_by (takes_away tenths_of w f) book)

-- a waybill's row; true if it has pieces
abbrev pub manifest_row : List Move → FlightDate → ℕ → ManifestRow
manifest_row book f w = record { awb = w; built = built book w f; departed = departed_with book w f }

abbrev pub has_pieces : ManifestRow → Bool
has_pieces row = nat_lt 0 row.built.pieces || nat_lt 0 row.departed.pieces

-- the rows with pieces, ascending by waybill
abbrev pub manifest_of : List Move → FlightDate → List ManifestRow
manifest_of book f = flat_map (λ w. if has_pieces (manifest_row book f w) then manifest_row book f w ∷ [] else []) (waybills_of book)

abbrev pub manifest_rows : Cargo → FlightDate → List ManifestRow
manifest_rows s f = manifest_of s.book f

-- Sums of a flight's movements by waybill, made in one pass.

-- a waybill without movements
abbrev pub zero : Count
zero = record { pieces = 0; tenths = 0 }

abbrev pub nothing_of : ℕ → FlightSums
nothing_of w = record { awb = w; brought = zero; removed = zero; departed = zero }

-- a count with another movement, if it is counted
abbrev pub counted : Bool → Move → Count → Count
counted true m c = record { pieces = c.pieces + m.pieces; tenths = c.tenths + m.tenths }
counted false m c = c

-- the sums of a waybill with another movement
abbrev pub with_move : FlightDate → Move → FlightSums → FlightSums
with_move f m t = record {
  awb = t.awb;
  brought = counted (same_place (Built f) m.to) m t.brought;
  removed = counted (same_place (Built f) m.from) m t.removed;
  departed = counted (leaves f m) m t.departed;
}

abbrev pub row_of : FlightSums → ManifestRow
row_of t = record {
  awb = t.awb;
  built = amount (t.brought.pieces - t.removed.pieces) (t.brought.tenths - t.removed.tenths);
  departed = amount t.departed.pieces t.departed.tenths;
}

abbrev pub listed : FlightSums → List ManifestRow
listed t = if has_pieces (row_of t) then row_of t ∷ [] else []

-- the sums of a waybill so far
abbrev pub tally_in : Tallies → ℕ → FlightSums
tally_in t w = unwrap_or (get nat_cmp t.by_number w) (nothing_of w)

-- no movements yet
pub record IsNew (f : FlightDate) (new : Tallies) : Type 0 where
  pub flight : new.flight ≡ f
  pub none : (w : ℕ) → get nat_cmp new.by_number w ≡ None
  pub room : new.is_full ≡ false

-- a movement is added to the sums of its waybill, or it doesn't fit
abbrev pub TakesMove : Tallies → Move → Bool → Tallies → Type 0
TakesMove old m true new =
    (new.flight ≡ old.flight) × (new.is_full ≡ old.is_full)
    × ((w : ℕ) → get nat_cmp new.by_number w ≡ cond (eq_by_cmp nat_cmp m.awb w) (Some (with_move old.flight m (tally_in old m.awb))) (get nat_cmp old.by_number w))
TakesMove old m false new = new.is_full ≡ true

-- A waybill's movements, summed in one pass, with the day since which it has lasted.

-- sums with another movement, by whether it comes to the places and whether it goes from them
abbrev pub flow_with : Bool → Bool → Move → Flow → Flow
flow_with comes goes m f = record { came = counted comes m f.came; went = counted goes m f.went }

abbrev pub still : Flow
still = record { came = zero; went = zero }

-- a waybill without movements
abbrev pub start_of : ℕ → Lasting → Spell
start_of w kind = record { awb = w; lasting = kind; kept = still; surplus = still; since = None; is_full = false }

-- pieces at the place make it last
abbrev pub is_there : Lasting → Place → Bool
is_there lasting.Stored place = in_store place
is_there lasting.Irregular place = same_place Missing place

abbrev pub is_kept : Flow → Bool
is_kept f = nat_lt f.went.pieces f.came.pieces

abbrev pub is_found : Flow → Bool
is_found f = nat_lt f.came.pieces f.went.pieces

abbrev pub lasts_by : Lasting → Flow → Flow → Bool
lasts_by lasting.Stored kept surplus = is_kept kept
lasts_by lasting.Irregular kept surplus = is_kept kept || is_found surplus

abbrev pub spell_lasts : Spell → Bool
spell_lasts s = lasts_by s.lasting s.kept s.surplus

-- the sums after a movement
abbrev pub moved_spell : Move → Spell → Spell
moved_spell m s = record s {
  kept = flow_with ((m.awb == s.awb) && is_there s.lasting m.to) ((m.awb == s.awb) && is_there s.lasting m.from) m s.kept;
  surplus = flow_with ((m.awb == s.awb) && same_place Surplus m.to) ((m.awb == s.awb) && same_place Surplus m.from) m s.surplus;
}

-- the day since which it lasts, by whether it does, the day before, and the movement's day
abbrev pub since_after : Bool → Option ℕ → ℕ → Option ℕ
since_after false since day = None
since_after true None day = Some day
since_after true (Some since) day = Some since

abbrev pub next_spell : Move → Spell → Spell
next_spell m s = record (moved_spell m s) { since = since_after (spell_lasts (moved_spell m s)) s.since m.at.day }

-- a movement is added, or it doesn't fit
abbrev pub TakesNext : Spell → Move → Bool → Spell → Type 0
TakesNext old m true new = new ≡ next_spell m old
TakesNext old m false new = new.is_full ≡ true

-- a row is kept, or it doesn't fit
abbrev pub TakesRow : {Row : Type 0} → Gathering Row → Row → Bool → Gathering Row → Type 0
TakesRow old row true new = (new.is_full ≡ old.is_full) × (new.rows.items ≡ old.rows.items ++ row ∷ [])
TakesRow old row false new = new.is_full ≡ true

-- Reports that broke off.

-- the station must be opened again, and nothing was written
abbrev pub IsReopen : Result (Unit {0}) ReportFault → Type 0
IsReopen result = result ≡ Err (record { sent = 0; cause = cause.Act act.Reopen })

-- a broken station stays as it is, and so does the writer
abbrev pub OnlyReopens : {K : Type 0} → Keeping K → K × Given → K × Given → Result (Unit {0}) ReportFault
    → Type 0
OnlyReopens k old new result =
    k.is_broken old.0 ≡ true → IsReopen result × (new.0 ≡ old.0) × (new.1 ≡ old.1)

-- on a station that isn't broken: the writer's fault, memory ran out, or the store's fault, if it
-- may fail
abbrev pub IsCause : Type 0 → ReportCause → Type 0
IsCause may_fail cause.Write = Unit {0}
IsCause may_fail (cause.Act e) = IsReadersFault may_fail e

-- after a fault of the writer it failed or wrote 0 bytes; after another fault it did neither
abbrev pub HasTold : ReportCause → Given → Given → Type 0
HasTold cause.Write old new = HasCause old new
HasTold (cause.Act e) old new = (new.failures ≡ old.failures) × (new.idle ≡ old.idle)

-- After a fault of the writer exactly one write failed. After another fault none did, and either
-- nothing was written, or the whole text before the report and at least one byte of the report.
abbrev pub StopsBy : List ℕ → ReportCause → ℕ → Given → Given → Type 0
StopsBy front cause.Write sent old new = OneFailed old new
StopsBy front (cause.Act e) sent old new = NoneFailed old new × ((sent ≡ 0) ⊎ (length front < sent))

-- the end of a report, whatever the station keeps
abbrev pub StopsWriting : List ℕ → Given → Given → Result (Unit {0}) ReportFault → Type 0
StopsWriting front old new (Ok x) = NoneFailed old new
StopsWriting front old new (Err e) = StopsBy front e.cause e.sent old new

-- the returned number of bytes was written, and they are a prefix of the text
abbrev pub IsBegun : List ℕ → ReportFault → Given → Given → Type 0
IsBegun text e old new = Sent old new text e.sent × HasTold e.cause old new

-- `sent` bytes were written
abbrev pub HaveGone : ℕ → Given → Given → Type 0
HaveGone sent old new = (out : List ℕ) × (length out ≡ sent) × (new.bytes ≡ old.bytes ++ out)

-- the same for a report that is described by a property, after the text before it: for one of its
-- texts, or for each
abbrev pub IsBegunBy : (List ℕ → Type 0) → List ℕ → ReportFault → Given → Given → Type 0
IsBegunBy Is front e old new =
    ((text : List ℕ) × Is text × IsBegun (front ++ text) e old new)
    ⊎ ((text : List ℕ) → Is text → IsBegun (front ++ text) e old new)

-- A report ended: its text was written, or a prefix. The fault is never a refusal, and is Reopen
-- only of a broken station.
abbrev pub HasEnded : Type 0 → Type 0 → List ℕ → Given → Given
    → Result (Unit {0}) ReportFault → Type 0
HasEnded open_station may_fail text old new (Ok x) = new.bytes ≡ old.bytes ++ text
HasEnded open_station may_fail text old new (Err e) =
    IsBegun text e old new × (open_station → IsCause may_fail e.cause)

-- the same for a report that is described by a property, after the text before it
abbrev pub HasEndedBy : Type 0 → Type 0 → (List ℕ → Type 0) → List ℕ → Given → Given
    → Result (Unit {0}) ReportFault → Type 0
HasEndedBy open_station may_fail Is front old new (Ok x) =
    (text : List ℕ) × Is text × (new.bytes ≡ old.bytes ++ (front ++ text))
HasEndedBy open_station may_fail Is front old new (Err e) =
    IsBegunBy Is front e old new × HaveGone e.sent old new × HasTold e.cause old new
    × (open_station → IsCause may_fail e.cause)

-- the same for each text of the report: there is at most one
pub record HasEndedEach (open_station may_fail : Type 0) (Is : List ℕ → Type 0) (front : List ℕ) (old new : Given) (result : Result (Unit {0}) ReportFault) : Type 0 where
  pub text : (text : List ℕ) → Is text
      → HasEnded open_station may_fail (front ++ text) old new result

-- A report with these texts, behind the text before it: the keeper is only read, a broken one
-- reopens, and the writer got a text of the report or a prefix.
pub record WritesReport {K : Type 0} (k : Keeping K) (Is : State → List ℕ → Type 0) (front : List ℕ) (old new : K × Given) (result : Result (Unit {0}) ReportFault) : Type 0 where
  pub reads : OnlyReads k old.0 new.0
  pub reopen : OnlyReopens k old new result
  pub writes : StopsWriting front old.1 new.1 result
  pub ended : IfSound k old.0 new.0 (λ s. HasEndedBy (k.is_broken old.0 ≡ false) k.may_fail (Is s)
      front old.1 new.1 result)
  pub each : IfSound k old.0 new.0 (λ s. HasEndedEach (k.is_broken old.0 ≡ false) k.may_fail (Is s)
      front old.1 new.1 result)

-- the same of rows of any kind, if each has a byte and there is one list of them
pub record WritesRows {K : Type 0} (k : Keeping K) (HaveBytes : Type 0) (AreOne : State → Type 0) (Is : State → List ℕ → Type 0) (front : List ℕ) (old new : K × Given) (result : Result (Unit {0}) ReportFault) : Type 0 where
  pub reads : OnlyReads k old.0 new.0
  pub reopen : OnlyReopens k old new result
  pub writes : HaveBytes → StopsWriting front old.1 new.1 result
  pub ended : IfSound k old.0 new.0 (λ s. HasEndedBy (k.is_broken old.0 ≡ false) k.may_fail (Is s)
      front old.1 new.1 result)
  pub each : IfSound k old.0 new.0 (λ s. AreOne s
      → HasEndedEach (k.is_broken old.0 ≡ false) k.may_fail (Is s) front old.1 new.1 result)

-- The progress of a report.

-- the history of the writer, the buffered bytes, the numbers of rows taken and bytes written, and
-- the reason why no more are
pub record Progress : Type 0 where
  pub given : Given
  pub waiting : List ℕ
  pub rows : ℕ
  pub sent : ℕ
  pub cause : Option ReportCause

abbrev pub progress_of : {W P : Type 0} → (W → Given) → LineSink W P → Progress
progress_of taken sink = record { given = taken sink.writer.now; waiting = sink.gathered.now.items ++ sink.front.now; rows = sink.rows; sent = sink.sent; cause = sink.cause }

-- nothing was written yet
abbrev pub IsStart : Progress → Type 0
IsStart p = (p.rows ≡ 0) × (p.sent ≡ 0) × (p.cause ≡ None)

-- one write failed or wrote 0 bytes; or memory ran out, and nothing was written
abbrev pub IsWhy : ReportCause → Given → Given → Type 0
IsWhy cause.Write old new = OneFailed old new
IsWhy (cause.Act e) old new = (e ≡ act.Memory) × (new ≡ old)

-- the line was appended to the buffer
pub record Waits (line : List ℕ) (old new : Progress) : Type 0 where
  pub given : new.given ≡ old.given
  pub waiting : new.waiting ≡ old.waiting ++ line
  pub sent : new.sent ≡ old.sent

-- the buffer and the line were written
pub record HasGone (line : List ℕ) (old new : Progress) : Type 0 where
  pub bytes : new.given.bytes ≡ old.given.bytes ++ (old.waiting ++ line)
  pub failures : new.given.failures ≡ old.given.failures
  pub idle : new.given.idle ≡ old.given.idle
  pub waiting : new.waiting ≡ []
  pub sent : new.sent ≡ old.sent + length (old.waiting ++ line)

-- a prefix of the buffer and the line was written
pub record HasStuck (line : List ℕ) (why : ReportCause) (old new : Progress) : Type 0 where
  pub part : ℕ
  pub within : part ≤ length (old.waiting ++ line)
  pub bytes : new.given.bytes ≡ old.given.bytes ++ take part (old.waiting ++ line)
  pub sent : new.sent ≡ old.sent + part
  pub cause : IsWhy why old.given new.given

abbrev pub Takes : List ℕ → Progress → Bool → Progress → Type 0
Takes line old true new = (Waits line old new ⊎ HasGone line old new) × (new.rows ≡ old.rows + 1) × (new.cause ≡ old.cause)
Takes line old false new = (why : ReportCause) × (new.cause ≡ Some why) × HasStuck line why old new

-- The end of a report after all its rows: the buffer and the end were written, or a prefix.
abbrev pub Ends : (ℕ → List ℕ) → Progress → Progress → Result (Unit {0}) ReportFault → Type 0
Ends end old new (Ok x) = HasGone (end old.rows) old new
Ends end old new (Err e) = HasStuck (end old.rows) e.cause old new × (e.sent ≡ new.sent)

-- Rows selected from those that are handed out.

-- a selected row adds its piece; any other adds nothing
abbrev pub TakesWanted : Bool → List ℕ → Progress → Bool → Progress → Type 0
TakesWanted true piece old go new = Takes piece old go new
TakesWanted false piece old go new = (go ≡ true) × (new ≡ old)

-- there is at most one list of these rows
abbrev pub AreOne : {Row : Type 0} → (List Row → Type 0) → Type 0
AreOne {Row} AreRows = (these others : List Row) → AreRows these → AreRows others → these ≡ others

-- each row has at least one byte
abbrev pub HaveBytes : {Row : Type 0} → (Row → List ℕ) → Type 0
HaveBytes {Row} line_of = (row : Row) → 0 < length (line_of row)
