-- What a service leaves of its station, and its clock.
use Rattle.std.specs.Prelude.{◌≡◌, ◌⊎◌, ◌≤◌, ℕ, false, List, [], ◌∷◌, length, All, Result, IfOk, Bool, true, Option, Some, None, Ok, Err, ◌++◌, ◌+◌, ◌*◌, ℤ, pos, ◌+ℤ◌}
use Rattle.station_days.specs.Date.{LocalMinute, first_moment_day, last_moment_day}
use Rattle.station_core.specs.Ends.{SendsLine}
use Rattle.station_core.specs.Given.{Given, nothing_given}
use Rattle.station_core.specs.Keeping.{Keeping, IfWorks, KeepsSound, StaysIfBroken, IsAfterAnswered}
use Rattle.http_desk.specs.declared.serve.Served.{Served}
use Rattle.http_desk.specs.declared.serve.ServeFault.{ServeFault}
use Rattle.http_desk.specs.Came.{IsRefusalLine}
use Rattle.http_desk.specs.Reply.{station_after, HasServed, AsksInput}
use Rattle.station_core.specs.declared.answer.ActFault.{ActFault}
use Rattle.station_core.specs.declared.answer.ActFault.TheVariants as act
use Rattle.station_core.specs.declared.answer.Input.{Input}
use Rattle.station_core.specs.Step.{State}
use Rattle.http_desk.specs.declared.serve.ServeFault.TheVariants as serve
use Rattle.jiff.specs.Placed.{IsPosixZone}
use Rattle.jiff.specs.ZoneView.{plain_zone}
use Rattle.jiff_core.specs.Calendar.{IsBetween}
use Rattle.jiff_core.specs.Date.{epoch_day}
use Rattle.jiff_core.specs.DateTime.{civil_nanos}
use Rattle.jiff_core.specs.Timestamp.{nanos_of_seconds}
use Rattle.jiff_core.specs.declared.civil.datetime.DateTime.{DateTime}
use Rattle.jiff_tz.specs.Zone.{offset_at}
use Rattle.desk_server.specs.declared.zone.Zone.{Zone}

-- What the connections of a service leave of its station.

-- A connection that was served: its moment, the bytes that came on it, and its end: its answer, or
-- why it had none.
pub record Exchange : Type 0 where
  pub at : LocalMinute
  pub came : List ℕ
  pub end : Result Served ServeFault

-- One connection was served. What came on it is a request or a beginning of one, what went out is
-- its answer or a beginning of that, and the station keeps the state after it. The answer says that
-- the station has to be opened again exactly if the station broke. A broken one stays as it is.
pub record HasServedOne {K : Type 0} (k : Keeping K) (one : Exchange) (old new : K) : Type 0 where
  pub sent : Given
  pub served :
      IfWorks k old new (λ s. HasServed s one.at one.came nothing_given sent (station_after k new) one.end)
  pub told : IfWorks k old new (λ s. IfOk one.end (λ served. served.reopen ≡ k.is_broken new))
  pub same : StaysIfBroken k old new
  pub premise : KeepsSound k old new

-- The service goes on after a connection: the answer doesn't say that the station has to be opened
-- again.
abbrev pub GoesOn : Exchange → Type 0
GoesOn one = IfOk one.end (λ served. served.reopen ≡ false)

-- These connections were served, the last one first, each after the one before it. The service went
-- on after all before the last.
abbrev pub HaveServed : {K : Type 0} → Keeping K → List Exchange → K → K → Type 0
HaveServed k [] old new = new ≡ old
HaveServed {K} k (one ∷ before) old new =
    (mid : K) × HaveServed k before old mid × All GoesOn before × HasServedOne k one mid new

-- At most so many connections were served; if this holds, the service goes on after all of them.
abbrev pub AtMost : {K : Type 0} → Keeping K → ℕ → Type 0 → K → K → Type 0
AtMost k most is_good old new = (all : List Exchange) × HaveServed k all old new
    × (length all ≤ most) × (is_good → All GoesOn all)

-- Nothing was written, or the line of a refused body as far as the writer took it.
abbrev pub HasExplained : Given → Given → Type 0
HasExplained old new = (new ≡ old) ⊎ ((line : List ℕ) × IsRefusalLine line × SendsLine line old new)

-- The inputs that acted in a service, however it ended.

-- the request of a connection has this input for the station, at the connection's moment
abbrev pub HasInput : Exchange → Input × LocalMinute → Type 0
HasInput one i = (i.1 ≡ one.at) × AsksInput one.came i.0

-- Inputs of these connections, of which the last is the first: of each one or none, in their order.
abbrev pub AreAskedBy : List Exchange → List (Input × LocalMinute) → Type 0
AreAskedBy [] inputs = inputs ≡ []
AreAskedBy (one ∷ before) inputs =
    AreAskedBy before inputs
    ⊎ ((earlier : List (Input × LocalMinute)) × (last : Input × LocalMinute) × AreAskedBy before earlier
    × HasInput one last × (inputs ≡ earlier ++ last ∷ []))

-- no write of an answer failed
abbrev pub IsWritten : Result Served ServeFault → Type 0
IsWritten (Ok served) = Unit {0}
IsWritten (Err serve.Read) = Unit {0}
IsWritten (Err (serve.Write sent)) = ⊥

abbrev pub WasWritten : Exchange → Type 0
WasWritten one = IsWritten one.end

-- the station's fault that ended the inputs, if the station broke
abbrev pub store_fault : Bool → Option ActFault
store_fault true = Some act.Store
store_fault false = None

-- Some inputs of the connections were answered, all of them if the station works. Reopening finds
-- the state after them and, if the station broke, perhaps after one more. It works if the service
-- went on after each connection, and no write failed.
pub record HasServedInputs (all : List Exchange) (s : State) (is_broken : Bool) (may_find : Option State → Type 0) : Type 0 where
  pub inputs : List (Input × LocalMinute)
  pub asked : AreAskedBy all inputs
  pub answered : ℕ
  pub whole : is_broken ≡ false → answered ≡ length inputs
  pub works : All GoesOn all → All WasWritten all → is_broken ≡ false
  pub left : (found : Option State) → may_find found
      → IsAfterAnswered s inputs answered (store_fault is_broken) found

-- Local time in a zone, and its moment.

abbrev pub FollowsRule : List ℕ → Zone → Type 0
FollowsRule rule zone = IsPosixZone rule (plain_zone zone.zone)

-- the local date and time at the instant, in nanoseconds since 1970-01-01 in UTC
abbrev pub Shows : Zone → ℤ → DateTime → Type 0
Shows zone instant local = civil_nanos local ≡ instant +ℤ nanos_of_seconds (offset_at (plain_zone zone.zone) instant)

-- the moment has this day and this minute
abbrev pub IsMinuteOf : DateTime → LocalMinute → Type 0
IsMinuteOf local m = (pos m.day ≡ epoch_day local.date) × (m.minute ≡ local.time.hour * 60 + local.time.minute)

-- from 2000-01-01 to 2099-12-31
abbrev pub IsWithinDays : DateTime → Type 0
IsWithinDays local = IsBetween (pos first_moment_day) (pos last_moment_day) (epoch_day local.date)
