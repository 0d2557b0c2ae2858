-- How a run of a report ends, by how the report ended.
use Rattle.cli_run.proofs.Common.{ActFault, Err, Given, HasCause, List, Ok, OnOk, Result, State, [], run_fault, ℕ, ◌≡◌}
use Rattle.station_core.specs.Keeping.{IsReadersFault}
use Rattle.station_core.specs.declared.answer.ActFault.TheVariants as act
use Rattle.reports.specs.Passes.{HasEnded, HasEndedBy, HasTold, IsCause, StopsBy, StopsWriting}
use Rattle.reports.specs.declared.report.ReportCause.{ReportCause}
use Rattle.reports.specs.declared.report.ReportCause.TheVariants as cause
use Rattle.reports.specs.declared.report.ReportFault.{ReportFault}
use Rattle.cli_run.specs.declared.telling.RunFault.TheVariants as fault
use Rattle.reports.specs.declared.layout.Form.{Form}
use Rattle.reports.specs.declared.report.Listing.{Listing}
use Rattle.reports.specs.Reports.{IsListing}
use Rattle.cli_run.specs.Done.{cause_fault, run_ended, HasReported, StopsReport}

pub store_fails : (May : Type 0) (e : ActFault) → IsReadersFault May e → run_fault e ≡ fault.Store → May
store_fails May act.Memory is told = cc
store_fails May (act.Refused refusal) is told = absurd is
store_fails May act.Store is told = is
store_fails May act.Reopen is told = absurd is

no_write : (e : ActFault) → run_fault e ≡ fault.Write → ⊥
no_write act.Memory is = cc
no_write _ is = cc

no_read : (e : ActFault) → run_fault e ≡ fault.Read → ⊥
no_read act.Memory is = cc
no_read _ is = cc

told_write : (why : ReportCause) (old new : Given) → HasTold why old new → cause_fault why ≡ fault.Write → HasCause old new
told_write cause.Write old new told is = told
told_write (cause.Act e) old new told is = absurd (no_write e is)

never_read : (why : ReportCause) → cause_fault why ≡ fault.Read → ⊥
never_read cause.Write is = cc
never_read (cause.Act e) is = no_read e is

pub reported : (open_station may_fail : Type 0) (text : List ℕ) (old new : Given) (r : Result (Unit {0}) ReportFault) → HasEnded open_station may_fail text old new r → HasReported text old new (run_ended r)
reported open_station may_fail text old new (Ok x) ended = ended
reported open_station may_fail text old new (Err e) ended = ((e.sent, ended.0.0.1), told_write e.cause old new ended.0.1, never_read e.cause)

-- one text is the report
pub report_told : (open_station may_fail : Type 0) (s : State) (f : Form) (l : Listing) (old new : Given) (r : Result (Unit {0}) ReportFault)
    → HasEndedBy open_station may_fail (IsListing f s l) [] old new r
    → OnOk (run_ended r) ((text : List ℕ) × IsListing f s l text × HasReported text old new (run_ended r))
report_told open_station may_fail s f l old new (Ok x) ended = ended
report_told open_station may_fail s f l old new (Err e) ended = tt

-- a store that fails may fail
store_cause : (May : Type 0) (why : ReportCause) → IsCause May why → cause_fault why ≡ fault.Store → May
store_cause May cause.Write is told = cc
store_cause May (cause.Act e) is told = store_fails May e is told

pub report_fault : (open_station may_fail : Type 0) (s : State) (f : Form) (l : Listing) (old new : Given) (r : Result (Unit {0}) ReportFault)
    → HasEndedBy open_station may_fail (IsListing f s l) [] old new r → open_station → run_ended r ≡ Err fault.Store → may_fail
report_fault open_station may_fail s f l old new (Ok x) ended works is = cc
report_fault open_station may_fail s f l old new (Err e) (begun, gone, told, why) works is =
    store_cause may_fail e.cause (why works) (let told_by : cause_fault e.cause ≡ fault.Store = cc in told_by)

stops_by : (why : ReportCause) (sent : ℕ) (old new : Given) → StopsBy [] why sent old new → StopsReport old new (Err (cause_fault why))
stops_by cause.Write sent old new stops = stops
stops_by (cause.Act act.Memory) sent old new stops = stops.0
stops_by (cause.Act _) sent old new stops = stops.0

pub stops_writing : (old new : Given) (r : Result (Unit {0}) ReportFault) → StopsWriting [] old new r → StopsReport old new (run_ended r)
stops_writing old new (Ok x) stops = stops
stops_writing old new (Err e) stops = stops_by e.cause e.sent old new stops
