-- The state of a station, its steps, and texts of its answers.
use Rattle.std.specs.Prelude.{ℕ, Bool, ◌&&◌, nat_le, if◌then◌else◌, Option, Some, None, Result, Ok, Err, IsSome, IfSome, List, [], ◌∷◌, ◌++◌, map, length, decimal, Vec, codes}
use Rattle.station_core.specs.Common.{bytes_eq, LocalMinute, run_of, order_refusal, after_order, Order, Part, Notice, ShipmentCommand, Refusal, Detail, Cargo, opening_cargo, Outcome, effect, carried_out, IsLawful, Content, notice_text, command_text, Answer, Done, Refused, Reply}
use Rattle.shipment_machine.specs.declared.command.ShipmentCommand.TheVariants as shipment
use Rattle.shipment_machine.specs.declared.plans.Detail.TheVariants as detail
use Rattle.telegrams.specs.declared.telegram.Content.TheVariants as content
use Rattle.desk_commands.specs.declared.command.Command.TheVariants as command
pub use Rattle.imp_fields.specs.Message.{why_word}
pub use Rattle.shipment_machine.specs.Effect.{flight_date_text, detail_text, refused_with, refusal_text}
use Rattle.station_core.specs.declared.answer.Input.{Input}
use Rattle.station_core.specs.declared.answer.Input.TheVariants.{Keyed, Wire}

-- The state of a station, one step, and a run of steps.

-- the entry under a key: the command's text, and the count in its reply
pub record Kept : Type 0 where
  pub request : List ℕ
  pub count : ℕ

-- The state of a station: its cargo and stock, and what it accepted under each key and for each
-- telegram's text.
pub record State : Type 0 where
  pub cargo : Cargo
  pub kept_keys : List ℕ → Option Kept
  pub kept_texts : List ℕ → Option ℕ

-- an empty station
abbrev pub opening : List ℕ → State
opening here = record { cargo = opening_cargo here; kept_keys = λ _. None; kept_texts = λ _. None }

-- A lawful state: its cargo is lawful, and the text of each noted part of a manifest is stored.
pub record IsLawfulState (s : State) : Type 0 where
  pub cargo : IsLawful s.cargo
  pub parts : (part : Part) → IfSome (s.cargo.parts part) (λ text. IsSome (s.kept_texts text))

-- Answers.
abbrev pub accepted : ℕ → Answer
accepted count = Done (record { count = count })

abbrev pub refused : ℕ → Answer
refused number = Refused (record { number = number; detail = detail.Nothing })

-- Repeats.

-- a known key: the stored count for an equal command, 501 for a different one
abbrev pub repeated_key : Kept → List ℕ → Answer
repeated_key kept text = if bytes_eq kept.request text then accepted kept.count else refused 501

abbrev pub key_answer : Option Kept → List ℕ → Option Answer
key_answer None text = None
key_answer (Some kept) text = Some (repeated_key kept text)

-- a known telegram: the stored count
abbrev pub text_answer : Option ℕ → Option Answer
text_answer None = None
text_answer (Some count) = Some (accepted count)

-- the answer to an input whose key or text is known
abbrev pub repeated : State → Input → Option Answer
repeated s (Keyed key command) = key_answer (s.kept_keys key) (command_text command)
repeated s (Wire telegram) = text_answer (s.kept_texts telegram.text)

-- New inputs.

-- the effect of an input: the cargo and the stock, the messages sent, and the count
pub record Acted : Type 0 where
  pub cargo : Cargo
  pub notices : List Notice
  pub count : ℕ

abbrev pub waybill_or_nothing : Option ℕ → Detail
waybill_or_nothing None = detail.Nothing
waybill_or_nothing (Some w) = detail.Waybill w

abbrev pub stock_acted : Cargo → Order → Option (ℕ × Option ℕ) → Result Acted Refusal
stock_acted s order None = Ok (record { cargo = record s { holders = after_order s.holders order }; notices = []; count = (run_of order).count })
stock_acted s order (Some refusal) = Err (record { number = refusal.0; detail = waybill_or_nothing refusal.1 })

abbrev pub cargo_acted : List ℕ → Cargo → Result Outcome Refusal → Result Acted Refusal
cargo_acted text s (Ok done) = Ok (record { cargo = carried_out text done s; notices = done.notices; count = done.count })
cargo_acted text s (Err refusal) = Err refusal

abbrev pub shipment_of : Content → ShipmentCommand
shipment_of (content.Fwb line) = shipment.Fwb line
shipment_of (content.Ffm p) = shipment.Ffm (record { number = p.sequence; flight = p.flight; date = p.date; loaded = p.loaded; lines = p.lines })
shipment_of (content.Fsu u) = shipment.Fsu (record { awb = u.awb; lines = u.lines })

-- the effect of a new input
abbrev pub acted : Cargo → Input → LocalMinute → Result Acted Refusal
acted s (Keyed key (command.Stock order)) at = stock_acted s order (order_refusal s.holders order)
acted s (Keyed key (command.Cargo desk)) at = cargo_acted [] s (effect s (shipment.Desk desk) at)
acted s (Wire telegram) at = cargo_acted telegram.text s (effect s (shipment_of telegram.content) at)

abbrev pub sent : List (List ℕ) → Cargo → Cargo
sent texts s = record s { outbox = s.outbox ++ texts }

abbrev pub with_notices : Acted → Cargo
with_notices a = sent (map notice_text a.notices) a.cargo

-- the largest number of rows in one list: moves, trail lines, messages
abbrev pub most_rows : ℕ
most_rows = 4_294_967_295

-- no list exceeds this number
abbrev pub has_room : Cargo → Bool
has_room s = nat_le (length s.book) most_rows && nat_le (length s.trail) most_rows && nat_le (length s.outbox) most_rows

-- stores a request and its count
abbrev pub keeping : (List ℕ → Option Kept) → List ℕ → Kept → List ℕ → Option Kept
keeping kept key one = λ k. if bytes_eq k key then Some one else kept k

abbrev pub keeping_text : (List ℕ → Option ℕ) → List ℕ → ℕ → List ℕ → Option ℕ
keeping_text kept text count = λ t. if bytes_eq t text then Some count else kept t

abbrev pub kept_with : Input → ℕ → State → State
kept_with (Keyed key command) count s = record s { kept_keys = keeping s.kept_keys key (record { request = command_text command; count = count }) }
kept_with (Wire telegram) count s = record s { kept_texts = keeping_text s.kept_texts telegram.text count }

-- One step.

-- an answer, and the state after it
pub record Stepped : Type 0 where
  pub answer : Answer
  pub state : State

abbrev pub stepped : Answer → State → Stepped
stepped answer state = record { answer = answer; state = state }

-- a new input: a refusal changes nothing, and 402 is tested last
abbrev pub first_time : State → Input → Result Acted Refusal → Stepped
first_time s input (Err refusal) = stepped (Refused refusal) s
first_time s input (Ok a) =
    if has_room (with_notices a) then stepped (accepted a.count) (kept_with input a.count (record s { cargo = with_notices a }))
    else stepped (refused 402) s

abbrev pub answered : State → Input → LocalMinute → Option Answer → Stepped
answered s input at (Some answer) = stepped answer s
answered s input at None = first_time s input (acted s.cargo input at)

-- A known input gets the stored answer, and a new one acts.
abbrev pub step : State → Input → LocalMinute → Stepped
step s input at = answered s input at (repeated s input)

-- Runs: the state after inputs in order, and their answers.
abbrev pub after_all : State → List (Input × LocalMinute) → State
after_all s [] = s
after_all s (one ∷ more) = after_all (step s one.0 one.1).state more

abbrev pub answers_of : State → List (Input × LocalMinute) → List Answer
answers_of s [] = []
answers_of s (one ∷ more) = (step s one.0 one.1).answer ∷ answers_of (step s one.0 one.1).state more

-- Replies, refusals and notices as texts.

-- ok 10
abbrev pub reply_text : Reply → List ℕ
reply_text reply = codes "ok " ++ decimal reply.count

-- the texts in rows of bytes
abbrev pub texts_in : {Z : Type 0} → List (Vec ℕ Z) → List (List ℕ)
texts_in rows = map (λ text. text.items) rows
