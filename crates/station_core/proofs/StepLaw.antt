-- A step leaves a lawful station lawful.
use Rattle.station_core.proofs.Common.{Acted, AllByRecursion, Answer, Bool, Cargo, DeskCommand, Err, GiveBack, IfOk, IfSome, InboundLine, Input, IsContent, IsDeskCommand, IsInboundLine, IsInput, IsLawfulState, IsSome, Issue, Keyed, List, LocalMinute, None, Ok, Option, Order, Refusal, Result, Some, State, TakeIn, Void, Wire, [], accepted, acted, answered, arith, bytes_eq, cargo_acted, false, first_time, has_room, if◌then◌else◌, keeping_text, kept_with, length, length-append, map, notice_text, refl, refused, repeated, same_part, sent, shipment_of, step, stepped, stock_acted, true, with_notices, written, written_all, ℕ, ⊤, ◌++◌, ◌+◌, ◌∷◌, ◌≡◌, ◌≤◌}
use Rattle.std.proofs.lemmas.List.Elements.{All-from_recursion}
use Rattle.agent_stock.specs.Stock.{Holders, covers, run_of, holder_after, order_refusal, after_order}
use Rattle.agent_stock.specs.declared.stock.Holder.{Holder}
use Rattle.agent_stock.specs.declared.stock.Holder.TheVariants.{Used}
use Rattle.agent_stock.specs.declared.stock.Holder.TheVariants as holder
use Rattle.shipment_machine.specs.declared.moves.Place.{Place}
use Rattle.shipment_machine.specs.declared.moves.Place.TheVariants.{Hand, Surplus, Free, Built, Departed, Delivered, Missing, Transferred}
use Rattle.shipment_machine.specs.declared.moves.Move.{Move}
use Rattle.shipment_machine.specs.declared.moves.Part.{Part}
use Rattle.shipment_machine.specs.declared.command.DeskCommand.TheVariants as desk
use Rattle.shipment_machine.specs.declared.command.ShipmentCommand.TheVariants as shipment
use Rattle.shipment_machine.specs.declared.plans.Change.{Change}
use Rattle.shipment_machine.specs.declared.plans.Change.TheVariants.{Declare, UseUp, NoteFlight, Expect, NotePart, Trail, Confirm}
use Rattle.shipment_machine.specs.Effect.{Outcome, used_up, unless_refused, first_refusal, rule, effect, carried_out}
use Rattle.shipment_machine.specs.Lawful.{IsLawful, IsLawfulMove, IsNoted, IsProper, HasPieces}
use Rattle.shipment_machine.proofs.KeepsAll.{keeps_lawful}
use Rattle.telegrams.specs.declared.telegram.Content.{Content}
use Rattle.telegrams.specs.declared.telegram.Content.TheVariants as content
use Rattle.desk_commands.specs.declared.command.Command.TheVariants as command
use Rattle.station_core.proofs.RetryLaw.{bytes_eq_refl}

-- Another stock and another outbox leave the rest of a lawful cargo lawful.

module _ (s : Cargo) (h : Holders) (o : List (List ℕ)) where
  abbrev with : Cargo
  with = record s { holders = h; outbox = o }

  noted : (p : Place) → IsNoted s p → IsNoted with p
  noted Hand n = n
  noted Surplus n = n
  noted Free n = n
  noted (Built flight) n = n
  noted Departed n = n
  noted Delivered n = n
  noted Missing n = n
  noted Transferred n = n

  moved : (book : List Move) → AllByRecursion (IsLawfulMove s) book → AllByRecursion (IsLawfulMove with) book
  moved [] all = all
  moved (m ∷ book) all = (
    record {
      pair = all.0.pair;
      some = all.0.some;
      not_more = all.0.not_more;
      declared = all.0.declared;
      noted_from = noted m.from all.0.noted_from;
      noted_to = noted m.to all.0.noted_to;
      names_from = all.0.names_from;
      names_to = all.0.names_to;
    },
    moved book all.1,
  )

  pub still_lawful : IsLawful s → ((w : ℕ) → h w ≡ Some Used → IsSome (s.declared w)) → s.confirmed ≤ length o → IsLawful with
  still_lawful law used mark = record {
    stocked = law.stocked;
    covered = law.covered;
    within = law.within;
    declarations = law.declarations;
    expectations = law.expectations;
    moves = moved s.book law.moves;
    trail = law.trail;
    used = used;
    closed = law.closed;
    departed = law.departed;
    empty = law.empty;
    room = law.room;
    outbound = law.outbound;
    mark = mark;
  }

pub sent_lawful : (texts : List (List ℕ)) (s : Cargo) → IsLawful s → IsLawful (sent texts s)
sent_lawful texts s law =
    still_lawful s s.holders (s.outbox ++ texts) law law.used
    (let l : length (s.outbox ++ texts) ≡ length s.outbox + length texts = length-append s.outbox texts in let m : s.confirmed ≤ length s.outbox = law.mark in omega (arith, l, m))

-- Orders on the stock.

pub never_used : (order : Order) → ◌≡◌ {A = Option Holder} (Some (holder_after order)) (Some Used) → ⊥
never_used (TakeIn run) e = cc
never_used (Issue run agent) e = cc
never_used (GiveBack run agent) e = cc
never_used (Void run) e = cc

used_before : (s : Cargo) (order : Order) → IsLawful s → (w : ℕ) → after_order s.holders order w ≡ Some Used → IsSome (s.declared w)
used_before s order law w used =
    elim (covers (run_of order) w) as (λ b. (if b then Some (holder_after order) else s.holders w) ≡ Some Used → IsSome (s.declared w)) [
      | true ↦ λ e. absurd (never_used order e)
      | false ↦ λ e. law.used w e
    ] used

pub ordered_lawful : (s : Cargo) (order : Order) → IsLawful s → IsLawful (record s { holders = after_order s.holders order })
ordered_lawful s order law = still_lawful s (after_order s.holders order) s.outbox law (used_before s order law) law.mark

-- The parts of manifests: what a telegram notes is its own text, and the desk notes none.

abbrev pub AreKept : Cargo → (List ℕ → Option ℕ) → Type 0
AreKept s kept = (part : Part) → IfSome (s.parts part) (λ text. IsSome (kept text))

written_kept : (text : List ℕ) (kept : List ℕ → Option ℕ) (change : Change) (s : Cargo) → IsSome (kept text) → AreKept s kept → AreKept (written text change s) kept
written_kept text kept (Declare w declared) s here all = all
written_kept text kept (UseUp w) s here all = all
written_kept text kept (NoteFlight flight outbound) s here all = all
written_kept text kept (Expect flight w expected) s here all = all
written_kept text kept (NotePart part) s here all =
    λ k. elim (same_part k part) as (λ b. IfSome (if b then Some text else s.parts k) (λ text. IsSome (kept text))) [ true ↦ here | false ↦ all k ]
written_kept text kept (Trail w line) s here all = all
written_kept text kept (Confirm upto) s here all = all

pub all_written_kept : (text : List ℕ) (kept : List ℕ → Option ℕ) (changes : List Change) (s : Cargo) → IsSome (kept text) → AreKept s kept → AreKept (written_all text changes s) kept
all_written_kept text kept [] s here all = all
all_written_kept text kept (change ∷ changes) s here all = all_written_kept text kept changes (written text change s) here (written_kept text kept change s here all)

kept_more : (kept : List ℕ → Option ℕ) (text : List ℕ) (count : ℕ) (other : List ℕ) → IsSome (kept other) → IsSome (keeping_text kept text count other)
kept_more kept text count other some = elim (bytes_eq other text) as (λ b. IsSome (if b then Some count else kept other)) [ true ↦ refl | false ↦ some ]

eq_itself : (a : List ℕ) → bytes_eq a a ≡ true
eq_itself a = bytes_eq_refl a

pub kept_now : (kept : List ℕ → Option ℕ) (text : List ℕ) (count : ℕ) → IsSome (keeping_text kept text count text)
kept_now kept text count = rw (eq_itself text) refl

pub if_more : (o : Option (List ℕ)) (kept : List ℕ → Option ℕ) (text : List ℕ) (count : ℕ) → IfSome o (λ t. IsSome (kept t)) → IfSome o (λ t. IsSome (keeping_text kept text count t))
if_more None kept text count h = h
if_more (Some t) kept text count h = kept_more kept text count t h

abbrev NotesNone : List Change → Type 0
NotesNone [] = ⊤
NotesNone (NotePart part ∷ changes) = ⊥
NotesNone (_ ∷ changes) = NotesNone changes

pub same_parts : (text : List ℕ) (kept : List ℕ → Option ℕ) (changes : List Change) (s : Cargo) → NotesNone changes → AreKept s kept → AreKept (written_all text changes s) kept
same_parts text kept [] s none all = all
same_parts text kept (Declare w declared ∷ changes) s none all = same_parts text kept changes (written text (Declare w declared) s) none all
same_parts text kept (UseUp w ∷ changes) s none all = same_parts text kept changes (written text (UseUp w) s) none all
same_parts text kept (NoteFlight flight outbound ∷ changes) s none all = same_parts text kept changes (written text (NoteFlight flight outbound) s) none all
same_parts text kept (Expect flight w expected ∷ changes) s none all = same_parts text kept changes (written text (Expect flight w expected) s) none all
same_parts text kept (NotePart part ∷ changes) s none all = absurd none
same_parts text kept (Trail w line ∷ changes) s none all = same_parts text kept changes (written text (Trail w line) s) none all
same_parts text kept (Confirm upto ∷ changes) s none all = same_parts text kept changes (written text (Confirm upto) s) none all

abbrev pub Quiet : Result Outcome Refusal → Type 0
Quiet r = IfOk r (λ done. NotesNone done.changes)

unless : (o : Option Refusal) (r : Result Outcome Refusal) → Quiet r → Quiet (unless_refused o r)
unless None r quiet = quiet
unless (Some refusal) r quiet = tt

used_quiet : (who : Option Holder) (w : ℕ) → NotesNone (used_up who w)
used_quiet None w = tt
used_quiet (Some holder.Desk) w = tt
used_quiet (Some (holder.Agent code)) w = tt
used_quiet (Some holder.Used) w = tt
used_quiet (Some holder.Void) w = tt

noted_quiet : (b : Bool) (change : Change) → NotesNone (change ∷ []) → NotesNone (if b then change ∷ [] else [])
noted_quiet true change quiet = quiet
noted_quiet false change quiet = tt

outcome_quiet : (s : Cargo) (c : DeskCommand) (at : LocalMinute) → Quiet (rule s (shipment.Desk c) at).outcome
outcome_quiet s (desk.Book w origin destination p t goods) at = used_quiet (s.holders w) w
outcome_quiet s (desk.Manifest w flight unload p) at = noted_quiet _ _ tt
outcome_quiet s c at = tt

pub desk_quiet : (s : Cargo) (c : DeskCommand) (at : LocalMinute) → Quiet (effect s (shipment.Desk c) at)
desk_quiet s c at = unless (first_refusal (rule s (shipment.Desk c) at).refusals) (rule s (shipment.Desk c) at).outcome (outcome_quiet s c at)

-- The types of inputs give each declared and each announced line a piece.

desk_proper : (c : DeskCommand) → IsDeskCommand c → IsProper (shipment.Desk c)
desk_proper (desk.Book w origin destination p t goods) range = range.3.0
desk_proper (desk.Amend w origin destination p t goods) range = range.3.0
desk_proper c range = tt

lines_proper : (lines : List InboundLine) → AllByRecursion IsInboundLine lines → AllByRecursion HasPieces lines
lines_proper [] all = tt
lines_proper (l ∷ lines) all = (all.0.1.3.0, lines_proper lines all.1)

content_proper : (c : Content) → IsContent c → IsProper (shipment_of c)
content_proper (content.Fwb line) range = range.3.0
content_proper (content.Ffm part) range = All-from_recursion HasPieces part.lines (lines_proper part.lines range.5)
content_proper (content.Fsu update) range = range.1

-- One step.

abbrev pub texts_after : State → Input → ℕ → List ℕ → Option ℕ
texts_after s (Keyed key command) count = s.kept_texts
texts_after s (Wire telegram) count = keeping_text s.kept_texts telegram.text count

-- what an input makes of a lawful station
pub record LeavesLawful (s : State) (input : Input) (a : Acted) : Type 0 where
  pub cargo : IsLawful a.cargo
  pub parts : AreKept a.cargo (texts_after s input a.count)

cargo_done : (s : State) (input : Input) (text : List ℕ) (r : Result Outcome Refusal)
    → IfOk r (λ done. IsLawful (carried_out text done s.cargo)) → IfOk r (λ done. AreKept (carried_out text done s.cargo) (texts_after s input done.count))
    → IfOk (cargo_acted text s.cargo r) (LeavesLawful s input)
cargo_done s input text (Ok done) law kept = record { cargo = law; parts = kept }
cargo_done s input text (Err refusal) law kept = tt

desk_kept : (s : State) (r : Result Outcome Refusal) → Quiet r → AreKept s.cargo s.kept_texts → IfOk r (λ done. AreKept (carried_out [] done s.cargo) s.kept_texts)
desk_kept s (Ok done) quiet all = same_parts [] s.kept_texts done.changes (record (s.cargo) { book = s.cargo.book ++ done.moves }) quiet all
desk_kept s (Err refusal) quiet all = tt

wire_kept : (s : State) (text : List ℕ) (r : Result Outcome Refusal) → AreKept s.cargo s.kept_texts → IfOk r (λ done. AreKept (carried_out text done s.cargo) (keeping_text s.kept_texts text done.count))
wire_kept s text (Ok done) all =
    all_written_kept text (keeping_text s.kept_texts text done.count) done.changes (record (s.cargo) { book = s.cargo.book ++ done.moves }) (kept_now s.kept_texts text done.count)
    (λ part. if_more (s.cargo.parts part) s.kept_texts text done.count (all part))
wire_kept s text (Err refusal) all = tt

stock_done : (s : State) (key : List ℕ) (order : Order) (o : Option (ℕ × Option ℕ)) → IsLawfulState s → IfOk (stock_acted s.cargo order o) (LeavesLawful s (Keyed key (command.Stock order)))
stock_done s key order None law = record { cargo = ordered_lawful s.cargo order law.cargo; parts = law.parts }
stock_done s key order (Some refusal) law = tt

acted_lawful : (s : State) (input : Input) (at : LocalMinute) → IsInput input → IsLawfulState s → IfOk (acted s.cargo input at) (LeavesLawful s input)
acted_lawful s (Keyed key (command.Stock order)) at range law = stock_done s key order (order_refusal s.cargo.holders order) law
acted_lawful s (Keyed key (command.Cargo c)) at range law =
    cargo_done s (Keyed key (command.Cargo c)) [] (effect s.cargo (shipment.Desk c) at)
    (keeps_lawful s.cargo (shipment.Desk c) at [] law.cargo (desk_proper c range.1))
    (desk_kept s (effect s.cargo (shipment.Desk c) at) (desk_quiet s.cargo c at) law.parts)
acted_lawful s (Wire telegram) at range law =
    cargo_done s (Wire telegram) telegram.text (effect s.cargo (shipment_of telegram.content) at)
    (keeps_lawful s.cargo (shipment_of telegram.content) at telegram.text law.cargo (content_proper telegram.content range))
    (wire_kept s telegram.text (effect s.cargo (shipment_of telegram.content) at) law.parts)

kept_lawful : (s : State) (input : Input) (a : Acted) → LeavesLawful s input a → IsLawfulState (kept_with input a.count (record s { cargo = with_notices a }))
kept_lawful s (Keyed key command) a law = record { cargo = sent_lawful (map notice_text a.notices) a.cargo law.cargo; parts = law.parts }
kept_lawful s (Wire telegram) a law = record { cargo = sent_lawful (map notice_text a.notices) a.cargo law.cargo; parts = law.parts }

first_lawful : (s : State) (input : Input) (r : Result Acted Refusal) → IsLawfulState s → IfOk r (LeavesLawful s input) → IsLawfulState (first_time s input r).state
first_lawful s input (Err refusal) law after = law
first_lawful s input (Ok a) law after =
    let next = kept_with input a.count (record s { cargo = with_notices a }) in
    elim (has_room (with_notices a)) as (λ b. IsLawfulState (if b then stepped (accepted a.count) next else stepped (refused 402) s).state) [
      | true ↦ kept_lawful s input a after
      | false ↦ law
    ]

answered_lawful : (s : State) (input : Input) (at : LocalMinute) (o : Option Answer) → IsInput input → IsLawfulState s → IsLawfulState (answered s input at o).state
answered_lawful s input at (Some answer) range law = law
answered_lawful s input at None range law = first_lawful s input (acted s.cargo input at) law (acted_lawful s input at range law)

pub step_lawful : (s : State) (input : Input) (at : LocalMinute) → IsInput input → IsLawfulState s → IsLawfulState (step s input at).state
step_lawful s input at range law = answered_lawful s input at (repeated s input) range law
