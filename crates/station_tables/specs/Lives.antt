-- Calls of a station, and the lives of a file.
use Rattle.std.specs.Prelude.{◌≡◌, ◌⊎◌, Bool, true, false, List, [], ◌∷◌, ◌++◌, Option, Some, None, Result, Ok, Err, ℕ, ◌+◌, ◌<◌, take, length}
use Rattle.station_tables.specs.Common.{LocalMinute, ActFault, Answer, Input, RetryEvent, sent, cut_before, cut_after, reopened, started, ActsOnce, committed, State, step, after_all, flat_map, IsConserved, AreBalances, IsAfterAnswered, IsLawfulState}
use Rattle.station_core.specs.declared.answer.ActFault.TheVariants as fault

-- Calls of a station and of its openings, and the events of a caller that repeats its inputs.

-- a call with its result: `act`, with refusals as answers; `attach`, with whether it opened the
-- station; and `attach_and_repeat`, with its answer, if any
pub data Call : Type 0 where
  acted : Input → LocalMinute → Result Answer ActFault → Call
  attached : Bool → Call
  repeated : Input → LocalMinute → Option Answer → Call

-- a station's state, and whether it works; one that must be opened again doesn't
pub record Desk : Type 0 where
  pub state : State
  pub works : Bool

abbrev pub at : State → Bool → Desk
at s works = record { state = s; works = works }

-- the state before an input or after it, on a station that must be opened again
abbrev pub IsCut : State → Input → LocalMinute → Desk → Type 0
IsCut s i m new = (new ≡ at s false) ⊎ (new ≡ at (step s i m).state false)

-- The effect of a call on the desk, by the calls' contracts. A station that must be opened again
-- answers nothing.
abbrev pub Does : Desk → Call → Desk → Type 0
Does old (acted i m (Ok answer)) new = (old.works ≡ true) × (answer ≡ (step old.state i m).answer) × (new ≡ at (step old.state i m).state true)
Does old (acted i m (Err fault.Store)) new = (old.works ≡ true) × IsCut old.state i m new
Does old (acted i m (Err _)) new = new ≡ old
Does old (attached true) new = new ≡ at old.state true
Does old (attached false) new = new ≡ at old.state false
Does old (repeated i m (Some answer)) new = (answer ≡ (step old.state i m).answer) × (new ≡ at (step old.state i m).state true)
Does old (repeated i m None) new = IsCut old.state i m new

abbrev pub DoAll : Desk → List Call → Desk → Type 0
DoAll old [] new = new ≡ old
DoAll old (call ∷ calls) new = (mid : Desk) × Does old call mid × DoAll mid calls new

-- The events of a call: an answer was sent, or Store cut the input off before or after its commit;
-- an opening is an event of its own; a call that did nothing has none.
abbrev pub StandsFor : Call → List RetryEvent → Type 0
StandsFor (acted i m (Ok answer)) events = events ≡ sent i m ∷ []
StandsFor (acted i m (Err fault.Store)) events = (events ≡ cut_before i m ∷ []) ⊎ (events ≡ cut_after i m ∷ [])
StandsFor (acted i m (Err _)) events = events ≡ []
StandsFor (attached true) events = events ≡ reopened ∷ []
StandsFor (attached false) events = events ≡ []
StandsFor (repeated i m (Some answer)) events = events ≡ reopened ∷ sent i m ∷ []
StandsFor (repeated i m None) events = (events ≡ []) ⊎ (events ≡ reopened ∷ cut_before i m ∷ []) ⊎ (events ≡ reopened ∷ cut_after i m ∷ [])

abbrev pub StandForAll : List Call → List RetryEvent → Type 0
StandForAll [] events = events ≡ []
StandForAll (call ∷ calls) events = (first : List RetryEvent) × (more : List RetryEvent) × (events ≡ first ++ more) × StandsFor call first × StandForAll calls more

-- The calls have such events, so each accepted input acts once; and the state is that of the inputs
-- in the order of their first commits.
pub record CallsActOnce (start : State) (calls : List Call) (found : State) : Type 0 where
  pub events : List RetryEvent
  pub stand : StandForAll calls events
  pub once : ActsOnce start events
  pub state : found ≡ after_all start (committed (started start) events)

-- The lives of a file: in each, a station opens it, is given inputs, and ends.

-- The inputs given to a station, the number answered, and the fault that ended them, if any. Then
-- it returned its connection, or was cut off.
pub record Life : Type 0 where
  pub inputs : List (Input × LocalMinute)
  pub answered : ℕ
  pub ended : Option ActFault

-- An upgrade of the file is a life of its own without inputs.
abbrev pub migration : Life
migration = record { inputs = []; answered = 0; ended = None }

-- the next opening finds this state
abbrev pub IsAfterLife : State → Life → State → Type 0
IsAfterLife s life found = IsAfterAnswered s life.inputs life.answered life.ended (Some found)

-- one life after another, each from the state that its opening found
abbrev pub AreLives : State → List Life → State → Type 0
AreLives s [] found = found ≡ s
AreLives s (life ∷ lives) found = (mid : State) × IsAfterLife s life mid × AreLives mid lives found

-- The inputs of a life that count are those answered and, if it ended with Store, at most one more.
abbrev pub Counts : Life → List (Input × LocalMinute) → Type 0
Counts life inputs =
    (inputs ≡ take life.answered life.inputs)
    ⊎ ((life.ended ≡ Some fault.Store) × (life.answered < length life.inputs) × (inputs ≡ take (life.answered + 1) life.inputs))

abbrev pub AreCounted : List Life → List (List (Input × LocalMinute)) → Type 0
AreCounted [] [] = Unit {0}
AreCounted (life ∷ lives) (inputs ∷ more) = Counts life inputs × AreCounted lives more
AreCounted _ _ = ⊥

-- all inputs that count, life after life
abbrev pub in_order : List (List (Input × LocalMinute)) → List (Input × LocalMinute)
in_order counted = flat_map (λ inputs. inputs) counted

-- The state after all inputs that count: it is lawful, and for each waybill what was received or
-- found is in store, departed, delivered, transferred or missing, in pieces and in tenths, and the
-- amounts shown are the balances of its moves.
pub record IsAfterLives (first : State) (lives : List Life) (found : State) : Type 0 where
  pub counted : List (List (Input × LocalMinute))
  pub each : AreCounted lives counted
  pub state : found ≡ after_all first (in_order counted)
  pub lawful : IsLawfulState found
  pub conserved : (w : ℕ) → IsConserved found.cargo.book w
  pub shown : (w : ℕ) → AreBalances found.cargo.book w
