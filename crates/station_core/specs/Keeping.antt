-- The effect of an input on a station and its store.
use Rattle.std.specs.Prelude.{◌≡◌, ◌⊎◌, ℕ, ◌+◌, ◌<◌, Bool, true, false, Result, Ok, Err, IfErr, IfOk, OnOk, OnErr, List, take, length, Option, Some, None, ◌-◌, ◌==◌, IsTrue, string_bytes, ◌++◌, map}
use Rattle.station_core.specs.Common.{Cargo, LocalMinute, HandedOut, is_sorted, find, option_map, unwrap_or, nat_cmp, amount, less, Amount, Balances, after_order, Order, FlightDate, Move, balances_of, built, waybills_on, declaration, IsCommand, command_text, Command, Reply, Answer, IrregularRow, ShedRow}
use Rattle.station_core.specs.Step.{State, step, after_all, Kept, keeping, keeping_text, sent}
use Rattle.station_core.specs.declared.answer.Answer.TheVariants as answer
use Rattle.station_core.specs.declared.answer.ActFault.{ActFault}
use Rattle.station_core.specs.declared.answer.ActFault.TheVariants as fault
use Rattle.station_core.specs.declared.answer.Input.{Input}
use Rattle.station_core.specs.declared.stored.KeptReply.{KeptReply}
use Rattle.station_core.specs.declared.stored.Load.{Load}
use Rattle.station_core.specs.declared.stored.Sizes.{Sizes}
use Rattle.station_core.specs.declared.stored.Summary.{Summary}
use Rattle.station_core.specs.declared.stored.WaybillBalances.{WaybillBalances}

-- The effect of an input on a station, whatever the answer.

-- The keeper is broken afterwards exactly after Store.
abbrev pub Breaks : Result Reply ActFault → Bool → Type 0
Breaks (Ok reply) broken = broken ≡ false
Breaks (Err (fault.Refused refusal)) broken = broken ≡ false
Breaks (Err fault.Memory) broken = broken ≡ false
Breaks (Err fault.Store) broken = broken ≡ true
Breaks (Err fault.Reopen) broken = ⊥

-- The answer is that of the step, and the state after it is kept, or the one before.
abbrev pub Acts : State → Input → LocalMinute → Result Reply ActFault → (State → Type 0) → Type 0
Acts old i at (Ok reply) keeps = ((step old i at).answer ≡ answer.Done reply) × keeps (step old i at).state
Acts old i at (Err (fault.Refused refusal)) keeps = ((step old i at).answer ≡ answer.Refused refusal) × keeps old
Acts old i at (Err fault.Memory) keeps = keeps old
Acts old i at (Err fault.Store) keeps = Unit {0}
Acts old i at (Err fault.Reopen) keeps = ⊥

-- States that reopening may find: after Ok the state after the input, after Refused or Memory the
-- one before, after Store either.
abbrev pub Leaves : State → Input → LocalMinute → Result Reply ActFault → Option State → Type 0
Leaves old i at (Ok reply) found = found ≡ Some (step old i at).state
Leaves old i at (Err (fault.Refused refusal)) found = found ≡ Some old
Leaves old i at (Err fault.Memory) found = found ≡ Some old
Leaves old i at (Err fault.Store) found = (found ≡ Some old) ⊎ (found ≡ Some (step old i at).state)
Leaves old i at (Err fault.Reopen) found = ⊥

-- the same, with refusals as answers
abbrev pub Answers : State → Input → LocalMinute → Result Answer ActFault → (State → Type 0)
    → Type 0
Answers old i at (Ok given) keeps = ((step old i at).answer ≡ given) × keeps (step old i at).state
Answers old i at (Err fault.Memory) keeps = keeps old
Answers old i at (Err e) keeps = Unit {0}

abbrev pub MayLeave : State → Input → LocalMinute → Result Answer ActFault → Option State → Type 0
MayLeave old i at (Ok given) found = found ≡ Some (step old i at).state
MayLeave old i at (Err e) found = (found ≡ Some old) ⊎ ((e ≡ fault.Store) × (found ≡ Some (step old i at).state))

-- a station that isn't broken leaves an input unanswered only by Memory or Store
abbrev pub IsMemoryOrStore : ActFault → Type 0
IsMemoryOrStore fault.Memory = Unit {0}
IsMemoryOrStore fault.Store = Unit {0}
IsMemoryOrStore _ = ⊥

-- true if broken afterwards: exactly if a Store ended the inputs
abbrev pub IsBrokenAfter : ActFault → Bool → Type 0
IsBrokenAfter fault.Store broken = broken ≡ true
IsBrokenAfter _ broken = broken ≡ false

abbrev pub IsBrokenAtEnd : Option ActFault → Bool → Type 0
IsBrokenAtEnd None broken = broken ≡ false
IsBrokenAtEnd (Some e) broken = IsBrokenAfter e broken

-- a broken station does no input
abbrev pub IsMemoryOrReopen : ActFault → Type 0
IsMemoryOrReopen fault.Memory = Unit {0}
IsMemoryOrReopen fault.Reopen = Unit {0}
IsMemoryOrReopen _ = ⊥

abbrev pub IsMemory : ActFault → Type 0
IsMemory e = e ≡ fault.Memory

-- a reader never refuses, and its store fails only if it may
abbrev pub IsReadersFault : Type 0 → ActFault → Type 0
IsReadersFault may_fail fault.Memory = Unit {0}
IsReadersFault may_fail fault.Store = may_fail
IsReadersFault may_fail _ = ⊥

-- The state after the answered inputs or, if Store ended them, perhaps after one more.
abbrev pub IsAfterAnswered : State → List (Input × LocalMinute) → ℕ → Option ActFault → Option State
    → Type 0
IsAfterAnswered s inputs answered ended found =
    (found ≡ Some (after_all s (take answered inputs)))
    ⊎ ((ended ≡ Some fault.Store) × (answered < length inputs) × (found ≡ Some (after_all s (take (answered + 1) inputs))))

-- What a contract sees of a keeper.
pub record Keeping (K : Type 0) : Type 1 where
  -- it keeps this state
  pub keeps : K → State → Type 0
  -- the disk has returned what was written, and kept what it confirmed
  pub is_clean : K → Type 0
  -- the premise of the contracts: the keeper is clean, and nothing else is wrong with its storage
  pub is_sound : K → Type 0
  -- every call returns Reopen
  pub is_broken : K → Bool
  -- the states that reopening may find after a crash at this moment; None if the tables mean none
  pub may_find : K → Option State → Type 0
  -- a consequence of Store from a keeper that isn't broken: absurd in memory
  pub may_fail : Type 0

-- what a contract sees of a value with a keeper inside
abbrev pub around : {W K : Type 0} → (W → K) → Keeping K → Keeping W
around keeper k = record {
  keeps = λ w. k.keeps (keeper w);
  is_clean = λ w. k.is_clean (keeper w);
  is_sound = λ w. k.is_sound (keeper w);
  is_broken = λ w. k.is_broken (keeper w);
  may_find = λ w. k.may_find (keeper w);
  may_fail = k.may_fail;
}

-- A call ends cleanliness and soundness only if the disk fails.
pub record KeepsPremise {K : Type 0} (is_clean is_sound : K → Type 0) (old new : K) : Type 0 where
  pub clean : is_clean new → is_clean old
  pub still : is_sound old → is_clean new → is_sound new
  pub sound : is_sound new → is_sound old

abbrev pub KeepsSound : {K : Type 0} → Keeping K → K → K → Type 0
KeepsSound k old new = KeepsPremise k.is_clean k.is_sound old new

-- a call that is answered leaves a working keeper working
abbrev pub KeepsWorking : {K A E : Type 0} → Keeping K → K → K → Result A E → Type 0
KeepsWorking k old new result = k.is_broken old ≡ false → OnOk result (k.is_broken new ≡ false)

-- what every call leaves of a keeper
pub record StaysInService {K A E : Type 0} (k : Keeping K) (old new : K) (result : Result A E) : Type 0 where
  pub premise : KeepsSound k old new
  pub works : KeepsWorking k old new result

abbrev pub StaysIfBroken : {K : Type 0} → Keeping K → K → K → Type 0
StaysIfBroken k old new = k.is_broken old ≡ true → new ≡ old

-- A broken keeper does nothing until the station is opened again.
abbrev pub Reopens : {K A : Type 0} → Keeping K → K → K → Result A ActFault → Type 0
Reopens k old new result = k.is_broken old ≡ true → (result ≡ Err fault.Reopen) × (new ≡ old)

-- A reader changes nothing: the state, what reopening finds, and what other calls return stay the
-- same.
pub record OnlyReads {K : Type 0} (k : Keeping K) (old new : K) : Type 0 where
  pub breaks : k.is_broken new ≡ k.is_broken old
  pub premise : KeepsSound k old new
  pub same : (s : State) → k.keeps old s → k.is_sound new → k.keeps new s
  pub leaves :
      k.is_sound new → (found : Option State) → k.may_find new found → k.may_find old found

-- This holds of the state that the keeper kept, if its storage is still sound; the same of a keeper
-- that works.
abbrev pub IfSound : {K : Type 0} → Keeping K → K → K → (State → Type 0) → Type 0
IfSound k old new Holds = (s : State) → k.keeps old s → k.is_sound new → Holds s

abbrev pub IfWorks : {K : Type 0} → Keeping K → K → K → (State → Type 0) → Type 0
IfWorks k old new Holds =
    (s : State) → k.keeps old s → k.is_broken old ≡ false → k.is_sound new → Holds s

-- whatever reopening may find is this
abbrev pub FindsOnly : {K : Type 0} → Keeping K → K → (Option State → Type 0) → Type 0
FindsOnly k keeper Is = (found : Option State) → k.may_find keeper found → Is found

-- A reader of one value changes nothing and returns this of the state.
pub record Reads {K A : Type 0} (k : Keeping K) (old new : K) (result : Result A ActFault) (Is : State → A → Type 0) : Type 0 where
  pub reopen : Reopens k old new result
  pub fault : k.is_broken old ≡ false → IfErr result (IsReadersFault k.may_fail)
  pub reads : OnlyReads k old new
  pub value : IfSound k old new (λ s. IfOk result (Is s))

-- A reader of rows changes nothing. At Ok its sink took all rows in order, or those up to the row
-- at which it stopped; at Err a prefix. A broken station hands out nothing.
pub record HandsOutOf {K S Row : Type 0} (k : Keeping K) (old new : K) (result : Result (Unit {0}) ActFault)
    (takes : S → Row → Bool → S → Type 0) (AreRows : State → List Row → Type 0) (from to : S) : Type 0 where
  pub reopen : k.is_broken old ≡ true → (result ≡ Err fault.Reopen) × (new ≡ old) × (to ≡ from)
  pub fault : k.is_broken old ≡ false → IfErr result (IsReadersFault k.may_fail)
  pub reads : OnlyReads k old new
  pub rows : (s : State) → k.keeps old s → k.is_sound new
      → OnOk result ((rows : List Row) × AreRows s rows × HandedOut takes rows from to)
  pub beginning : (s : State) → k.keeps old s → k.is_sound new
      → OnErr result ((rows : List Row) → AreRows s rows → (n : ℕ)
      × HandedOut takes (take n rows) from to)
  -- whatever it returns, the sink took some rows in order
  pub took : (rows : List Row) × HandedOut takes rows from to

-- the same of rows that depend on the cargo alone
abbrev pub HandsOut : {K S Row : Type 0} → Keeping K → K → K → Result (Unit {0}) ActFault
    → (S → Row → Bool → S → Type 0) → (Cargo → List Row → Type 0) → S → S → Type 0
HandsOut k old new result takes AreRows from to =
    HandsOutOf k old new result takes (λ s. AreRows s.cargo) from to

-- Values that a store returns from a state, and the changes that its calls make.

abbrev pub kept_of : KeptReply → Kept
kept_of row = record { request = string_bytes row.request; count = row.count }

-- the text of a command in range
pub record IsRequest (text : List ℕ) : Type 0 where
  pub command : Command
  pub in_range : IsCommand command
  pub is : text ≡ command_text command

abbrev pub sizes_of : Cargo → Sizes
sizes_of c = record { moves = length c.book; lines = length c.trail; messages = length c.outbox }

-- the airport, the numbers of rows, and that of the last confirmed message
abbrev pub summary_of : Cargo → Summary
summary_of c = record { here = c.here; sizes = sizes_of c; confirmed = c.confirmed }

-- the amounts built on a flight, ascending
abbrev pub load_on : List Move → FlightDate → ℕ → Load
load_on book flight w = record { awb = w; amount = built book w flight }

abbrev pub loads_on : List Move → FlightDate → List Load
loads_on book flight = map (load_on book flight) (waybills_on book flight)

-- The balances of all waybills, ascending, each once. A waybill that isn't listed has none.
abbrev pub nothing : Balances
nothing = record {
  taken = amount 0 0;
  found = amount 0 0;
  free = amount 0 0;
  missing = amount 0 0;
  departed = amount 0 0;
  delivered = amount 0 0;
  transferred = amount 0 0;
}

pub record AreAllBalances (book : List Move) (rows : List WaybillBalances) : Type 0 where
  pub rising : IsTrue (is_sorted nat_cmp (map (λ row. (row.awb, row.balances)) rows))
  pub same : (w : ℕ) → balances_of book w
      ≡ unwrap_or (option_map (λ row. row.balances) (find (λ row. w == row.awb) rows)) nothing

-- the amount in store by these balances
abbrev pub left_of : (Amount → ℕ) → Balances → ℕ
left_of measure b = measure b.taken + measure b.found - (measure b.departed + measure b.delivered + measure b.missing + measure b.transferred)

abbrev pub stored_of : Balances → Amount
stored_of b = amount (left_of (λ a. a.pieces) b) (left_of (λ a. a.tenths) b)

abbrev pub irregular_by : Cargo → WaybillBalances → IrregularRow
irregular_by s row = record {
  awb = row.awb;
  origin = (declaration s row.awb).origin;
  destination = (declaration s row.awb).destination;
  missing = row.balances.missing;
  found = row.balances.found;
}

abbrev pub shed_by : Cargo → WaybillBalances → ShedRow
shed_by s row = record {
  awb = row.awb;
  origin = (declaration s row.awb).origin;
  destination = (declaration s row.awb).destination;
  free = row.balances.free;
  built = less (stored_of row.balances) row.balances.free;
  notified = (declaration s row.awb).notified;
}

-- Changes of a state.

abbrev pub on_cargo : (Cargo → Cargo) → State → State
on_cargo f s = record s { cargo = f s.cargo }

abbrev pub with_moves : List Move → State → State
with_moves moves = on_cargo (λ c. record c { book = c.book ++ moves })

abbrev pub with_messages : List (List ℕ) → State → State
with_messages texts = on_cargo (sent texts)

abbrev pub with_order : Order → State → State
with_order order = on_cargo (λ c. record c { holders = after_order c.holders order })

abbrev pub with_key : List ℕ → Kept → State → State
with_key key one s = record s { kept_keys = keeping s.kept_keys key one }

abbrev pub with_text : List ℕ → ℕ → State → State
with_text text count s = record s { kept_texts = keeping_text s.kept_texts text count }
