-- Callers that repeat their inputs, and the ranges of inputs.
use Rattle.std.specs.Prelude.{◌≡◌, Bool, true, false, ◌&&◌, IsTrue, is_none, if◌then◌else◌, ◌⊎◌, List, [], ◌∷◌, ◌++◌, Some, ◌≤◌, IfSome}
use Rattle.station_core.specs.Common.{AllByRecursion, list_any, bytes_eq, LocalMinute, command_text, list_all, is_line, IsNumber, IsPieces, IsTenths, most_parts, is_airport, IsDesignator, IsCalendarDay, is_goods, CargoLine, InboundLine, Content, Fwb, Ffm, Fsu, IsCommand, Reply, Answer, Done, Refused}
use Rattle.station_core.specs.Step.{State, repeated, step, after_all, answers_of}
use Rattle.station_core.specs.Readers.{is_key}
use Rattle.station_core.specs.declared.answer.Input.{Input}
use Rattle.station_core.specs.declared.answer.Input.TheVariants.{Keyed, Wire}

-- A caller that repeats its inputs, and a station whose power may fail at any moment.

-- an input is sent and answered; an input is cut off before its commit, or after it; the station is
-- opened again
pub data RetryEvent : Type 0 where
  sent : Input → LocalMinute → RetryEvent
  cut_before : Input → LocalMinute → RetryEvent
  cut_after : Input → LocalMinute → RetryEvent
  reopened : RetryEvent

-- the state, whether the station runs, and the answers given
pub record World : Type 0 where
  pub state : State
  pub is_up : Bool
  pub told : List (Input × Answer)

-- the world after an event; a station that is down does nothing until it is opened
abbrev pub world_after : World → RetryEvent → World
world_after world (sent i m) = if world.is_up then record { state = (step world.state i m).state; is_up = true; told = world.told ++ (i, (step world.state i m).answer) ∷ [] } else world
world_after world (cut_before i m) = record world { is_up = false }
world_after world (cut_after i m) = if world.is_up then record { state = (step world.state i m).state; is_up = false; told = world.told } else world
world_after world reopened = record world { is_up = true }

abbrev pub after_events : World → List RetryEvent → World
after_events world [] = world
after_events world (event ∷ events) = after_events (world_after world event) events

abbrev pub is_done : Answer → Bool
is_done (Done reply) = true
is_done (Refused refusal) = false

-- true if an input commits: it is new, and accepted
abbrev pub commits : State → Input → LocalMinute → Bool
commits s i m = is_none (repeated s i) && is_done (step s i m).answer

-- the inputs that an event commits, each with its moment
abbrev pub committed_by : World → RetryEvent → List (Input × LocalMinute)
committed_by world (sent i m) = if world.is_up && commits world.state i m then (i, m) ∷ [] else []
committed_by world (cut_before i m) = []
committed_by world (cut_after i m) = if world.is_up && commits world.state i m then (i, m) ∷ [] else []
committed_by world reopened = []

-- the inputs in the order of their first commits
abbrev pub committed : World → List RetryEvent → List (Input × LocalMinute)
committed world [] = []
committed world (event ∷ events) = committed_by world event ++ committed (world_after world event) events

-- true if two inputs have the same identity: a key, or a telegram's text
abbrev pub same_identity : Input → Input → Bool
same_identity (Keyed key command) (Keyed other again) = bytes_eq key other
same_identity (Wire telegram) (Wire other) = bytes_eq telegram.text other.text
same_identity _ _ = false

-- true if two inputs are the same request: equal identities and equal commands
abbrev pub same_request : Input → Input → Bool
same_request (Keyed key command) (Keyed other again) = bytes_eq key other && bytes_eq (command_text command) (command_text again)
same_request (Wire telegram) (Wire other) = bytes_eq telegram.text other.text
same_request _ _ = false

-- no identity occurs twice
abbrev pub EachOnce : List (Input × LocalMinute) → Type 0
EachOnce [] = Unit {0}
EachOnce (i ∷ is) = (list_any (λ (j : Input × LocalMinute). same_identity i.0 j.0) is ≡ false) × EachOnce is

-- a request is among the inputs of a run, answered with this reply
abbrev pub StandsIn : List (Input × LocalMinute) → List Answer → Input → Reply → Type 0
StandsIn (j ∷ js) (answer ∷ answers) i reply = (IsTrue (same_request i j.0) × (answer ≡ Done reply)) ⊎ StandsIn js answers i reply
StandsIn _ _ i reply = ⊥

abbrev pub IfDone : Answer → (Reply → Type 0) → Type 0
IfDone (Done reply) P = P reply
IfDone (Refused refusal) P = Unit {0}

-- a running station that has answered nothing
abbrev pub started : State → World
started start = record { state = start; is_up = true; told = [] }

-- the reply to a request that the station has stored
abbrev pub WasKept : State → Input → Reply → Type 0
WasKept start i reply = repeated start i ≡ Some (Done reply)

-- Whatever is sent, cut off and repeated from a state: the state is that after the committed
-- inputs, each once, in order, and each reply is the run's, or was stored before. A new station has
-- stored none.
pub record ActsOnce (start : State) (events : List RetryEvent) : Type 0 where
  pub state : (after_events (started start) events).state ≡ after_all start (committed (started start) events)
  pub once : EachOnce (committed (started start) events)
  pub told : AllByRecursion (λ (t : Input × Answer). IfDone t.1 (λ reply. WasKept start t.0 reply
      ⊎ StandsIn (committed (started start) events)
      (answers_of start (committed (started start) events)) t.0 reply))
      (after_events (started start) events).told

-- The ranges of inputs, guaranteed by their types.

abbrev pub IsCargoLine : CargoLine → Type 0
IsCargoLine c =
    IsNumber c.awb × IsTrue (is_airport c.origin) × IsTrue (is_airport c.destination) × IsPieces c.pieces × IsTenths c.tenths
    × IfSome c.total IsPieces × IsTrue (is_goods c.goods)

abbrev pub IsInboundLine : InboundLine → Type 0
IsInboundLine l = IsTrue (is_airport l.unload) × IsCargoLine l.cargo

abbrev pub IsContent : Content → Type 0
IsContent (Fwb c) = IsCargoLine c
IsContent (Ffm p) =
    (1 ≤ p.sequence) × (p.sequence ≤ most_parts) × IsDesignator p.flight × IsCalendarDay p.date × IsTrue (is_airport p.loaded)
    × AllByRecursion IsInboundLine p.lines
IsContent (Fsu u) = IsNumber u.awb × IsTrue (list_all is_line u.lines)

abbrev pub IsInput : Input → Type 0
IsInput (Keyed key command) = IsTrue (is_key key) × IsCommand command
IsInput (Wire telegram) = IsContent telegram.content

abbrev pub AreInputs : List (Input × LocalMinute) → Type 0
AreInputs inputs = AllByRecursion (λ (one : Input × LocalMinute). IsInput one.0) inputs
