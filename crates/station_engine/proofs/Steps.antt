-- What a step comes to.
use Rattle.station_engine.proofs.Common.{Acted, Bool, Err, IfOk, IfPlanned, Input, IsAfter, IsEffect, IsLawfulState, IsNewTo, IsPlanned, List, LocalMinute, None, Ok, Option, Outcome, Plan, Result, Serves, Some, State, StaysLawful, Stepped, [], accepted, acted, answered, ap, append-nil, cargo_acted, carried_out, effect, false, first_time, has_room, inl, inr, keeping_text, kept_with, map, notice_text, outcome_of, refused, repeated, sent, shipment_of, step, stepped, stock_acted, subst, sym, true, waybill_or_nothing, with_notices, with_order, with_plan, ℕ, ◌++◌, ◌∙◌, ◌≡◌, ◌⊎◌}
use Rattle.std.specs.Bool.{if◌then◌else◌}
use Rattle.agent_stock.specs.Stock.{run_of, order_refusal, after_order}
use Rattle.agent_stock.specs.declared.stock.Order.{Order}
use Rattle.shipment_machine.specs.declared.command.DeskCommand.{DeskCommand}
use Rattle.shipment_machine.specs.declared.command.ShipmentCommand.{ShipmentCommand}
use Rattle.shipment_machine.specs.declared.command.ShipmentCommand.TheVariants as shipment
use Rattle.shipment_machine.specs.declared.plans.Refusal.{Refusal}
use Rattle.shipment_machine.specs.Lawful.{IsLawful}
use Rattle.desk_commands.specs.declared.command.Command.TheVariants as command
use Rattle.station_core.specs.declared.answer.Answer.{Answer}
use Rattle.station_core.specs.declared.answer.Answer.TheVariants.{Refused}
use Rattle.station_core.specs.declared.answer.Input.TheVariants.{Keyed, Wire}
use Rattle.station_core.proofs.StepLaw.{AreKept, Quiet, all_written_kept, desk_quiet, if_more, kept_now, ordered_lawful, same_parts, sent_lawful, texts_after}

-- A step, by what is known of its input.

pub known_step : (s : State) (i : Input) (at : LocalMinute) (a : Answer) → repeated s i ≡ Some a → step s i at ≡ stepped a s
known_step s i at a known = ap (answered s i at) known

new_step : (s : State) (i : Input) (at : LocalMinute) → repeated s i ≡ None → step s i at ≡ first_time s i (acted s.cargo i at)
new_step s i at unknown = ap (answered s i at) unknown

pub refused_step : (s : State) (i : Input) (at : LocalMinute) (r : Refusal) → repeated s i ≡ None → acted s.cargo i at ≡ Err r → step s i at ≡ stepped (Refused r) s
refused_step s i at r unknown is = new_step s i at unknown ∙ ap (first_time s i) is

abbrev after : State → Input → Acted → State
after s i a = kept_with i a.count (record s { cargo = with_notices a })

by_room : (s : State) (i : Input) (a : Acted) (b : Bool) → has_room (with_notices a) ≡ b → first_time s i (Ok a) ≡ (if b then stepped (accepted a.count) (after s i a) else stepped (refused 402) s)
by_room s i a b room = ap (λ c. if c then stepped (accepted a.count) (after s i a) else stepped (refused 402) s) room

pub done_step : (s : State) (i : Input) (at : LocalMinute) (a : Acted) → repeated s i ≡ None → acted s.cargo i at ≡ Ok a → has_room (with_notices a) ≡ true → step s i at ≡ stepped (accepted a.count) (after s i a)
done_step s i at a unknown is room = new_step s i at unknown ∙ ap (first_time s i) is ∙ by_room s i a true room

pub full_step : (s : State) (i : Input) (at : LocalMinute) (a : Acted) → repeated s i ≡ None → acted s.cargo i at ≡ Ok a → has_room (with_notices a) ≡ false → step s i at ≡ stepped (refused 402) s
full_step s i at a unknown is room = new_step s i at unknown ∙ ap (first_time s i) is ∙ by_room s i a false room

pub serves_by : (s : State) (i : Input) (at : LocalMinute) (keeps : State → Type 0) (a : Answer) (t : State) → step s i at ≡ stepped a t → keeps t → Serves s i at keeps a
serves_by s i at keeps a t is kept = record { answer = ap (λ (d : Stepped). d.answer) is; state = subst keeps (sym (ap (λ (d : Stepped). d.state) is)) kept }

-- what a commit may have left is what was found before, or the state after the step
pub found_after : {P Q : Type 0} (s : State) (i : Input) (at : LocalMinute) (a : Answer) (t : State) (found : Option State) → step s i at ≡ stepped a t → IsLawfulState t → (P → Q) → P ⊎ (found ≡ Some t) → Q ⊎ IsAfter s i at found
found_after s i at a t found is law before (inl p) = inl (before p)
found_after s i at a t found is law before (inr e) =
    let same : (step s i at).state ≡ t = ap (λ (d : Stepped). d.state) is in
    inr (record { lawful = subst IsLawfulState (sym same) law; is = e ∙ ap Some (sym same) })

-- The texts of parts of manifests stay kept.

abbrev PartsKept : State → Input → Acted → Type 0
PartsKept s i a = AreKept a.cargo (texts_after s i a.count)

stock_parts : (s : State) (key : List ℕ) (order : Order) (o : Option (ℕ × Option ℕ)) → AreKept s.cargo s.kept_texts → IfOk (stock_acted s.cargo order o) (PartsKept s (Keyed key (command.Stock order)))
stock_parts s key order None all = all
stock_parts s key order (Some refusal) all = tt

desk_parts : (s : State) (key : List ℕ) (c : DeskCommand) (r : Result Outcome Refusal) → Quiet r → AreKept s.cargo s.kept_texts → IfOk (cargo_acted [] s.cargo r) (PartsKept s (Keyed key (command.Cargo c)))
desk_parts s key c (Ok done) quiet all = same_parts [] s.kept_texts done.changes (record (s.cargo) { book = s.cargo.book ++ done.moves }) quiet all
desk_parts s key c (Err refusal) quiet all = tt

wire_parts : (s : State) (text : List ℕ) (r : Result Outcome Refusal) → AreKept s.cargo s.kept_texts → IfOk (cargo_acted text s.cargo r) (λ a. AreKept a.cargo (keeping_text s.kept_texts text a.count))
wire_parts s text (Ok done) all =
    all_written_kept text (keeping_text s.kept_texts text done.count) done.changes (record (s.cargo) { book = s.cargo.book ++ done.moves }) (kept_now s.kept_texts text done.count)
    (λ part. if_more (s.cargo.parts part) s.kept_texts text done.count (all part))
wire_parts s text (Err refusal) all = tt

acted_parts : (s : State) (i : Input) (at : LocalMinute) → AreKept s.cargo s.kept_texts → IfOk (acted s.cargo i at) (PartsKept s i)
acted_parts s (Keyed key (command.Stock order)) at all = stock_parts s key order (order_refusal s.cargo.holders order) all
acted_parts s (Keyed key (command.Cargo c)) at all = desk_parts s key c (effect s.cargo (shipment.Desk c) at) (desk_quiet s.cargo c at) all
acted_parts s (Wire telegram) at all = wire_parts s telegram.text (effect s.cargo (shipment_of telegram.content) at) all

parts_after : (s : State) (i : Input) (at : LocalMinute) (a : Acted) → acted s.cargo i at ≡ Ok a → AreKept s.cargo s.kept_texts → PartsKept s i a
parts_after s i at a is all = subst (λ r. IfOk r (PartsKept s i)) is (acted_parts s i at all)

lawful_with : (s : State) (i : Input) (a : Acted) → IsLawful a.cargo → PartsKept s i a → IsLawfulState (after s i a)
lawful_with s (Keyed key command) a law parts = record { cargo = sent_lawful (map notice_text a.notices) a.cargo law; parts = parts }
lawful_with s (Wire telegram) a law parts = record { cargo = sent_lawful (map notice_text a.notices) a.cargo law; parts = parts }

-- A lawful state stays lawful under an input whose cargo does.
pub lawful_after : (s : State) (i : Input) (at : LocalMinute) (a : Acted) → IsLawfulState s → acted s.cargo i at ≡ Ok a → IsLawful a.cargo → IsLawfulState (after s i a)
lawful_after s i at a law is cargo = lawful_with s i a cargo (parts_after s i at a is law.parts)

-- A plan that is carried out.

pub planned_by : (s : State) (i : Input) (at : LocalMinute) (text : List ℕ) (command : ShipmentCommand) (made : Result Plan Refusal) (plan : Plan) → made ≡ Ok plan → IsNewTo i s → acted s.cargo i at ≡ cargo_acted text s.cargo (effect s.cargo command at)
    → IsEffect (effect s.cargo command at) made × IfPlanned (StaysLawful s.cargo) made → IsPlanned s i at text plan
planned_by s i at text command made plan is new does so =
    let known = subst (λ m. IsEffect (effect s.cargo command at) m × IfPlanned (StaysLawful s.cargo) m) is so in
    record { lawful = new.0; unknown = new.1; does = does ∙ ap (cargo_acted text s.cargo) known.0; stays = known.1 text }

module _ (s : State) (i : Input) (at : LocalMinute) (text : List ℕ) (plan : Plan) (messages : List (List ℕ)) (planned : IsPlanned s i at text plan) (sends : messages ≡ map notice_text plan.notices.items) where
  abbrev does : Acted
  does = record { cargo = carried_out text (outcome_of plan) s.cargo; notices = plan.notices.items; count = plan.count }

  sends_them : with_notices does ≡ sent messages (carried_out text (outcome_of plan) s.cargo)
  sends_them = ap (λ texts. sent texts (carried_out text (outcome_of plan) s.cargo)) (sym sends)

  abbrev pub after_plan : State
  after_plan = kept_with i plan.count (with_plan text plan messages s)

  is_after : after s i does ≡ after_plan
  is_after = ap (λ c. kept_with i plan.count (record s { cargo = c })) sends_them

  pub plan_step : has_room (sent messages (carried_out text (outcome_of plan) s.cargo)) ≡ true → step s i at ≡ stepped (accepted plan.count) after_plan
  plan_step room = done_step s i at does planned.unknown planned.does (ap has_room sends_them ∙ room) ∙ ap (stepped (accepted plan.count)) is_after

  pub plan_full : has_room (sent messages (carried_out text (outcome_of plan) s.cargo)) ≡ false → step s i at ≡ stepped (refused 402) s
  plan_full room = full_step s i at does planned.unknown planned.does (ap has_room sends_them ∙ room)

  pub plan_lawful : IsLawfulState after_plan
  plan_lawful = subst IsLawfulState is_after (lawful_after s i at does planned.lawful planned.does planned.stays)

-- An order that is carried out.

module _ (s : State) (i : Input) (at : LocalMinute) (order : Order) (law : IsLawfulState s) (unknown : repeated s i ≡ None) (is : acted s.cargo i at ≡ stock_acted s.cargo order (order_refusal s.cargo.holders order)) where
  pub order_refused : (number : ℕ) (lowest : Option ℕ) → order_refusal s.cargo.holders order ≡ Some (number, lowest)
      → step s i at ≡ stepped (Refused (record { number = number; detail = waybill_or_nothing lowest })) s
  order_refused number lowest due = refused_step s i at (record { number = number; detail = waybill_or_nothing lowest }) unknown (is ∙ ap (stock_acted s.cargo order) due)

  abbrev orders : Acted
  orders = record { cargo = record (s.cargo) { holders = after_order s.cargo.holders order }; notices = []; count = (run_of order).count }

  abbrev after_it : ℕ → State
  after_it n = kept_with i n (with_order order s)

  unsent : after s i orders ≡ after_it (run_of order).count
  unsent = λ k. kept_with i (run_of order).count (record s { cargo = record (s.cargo) { holders = after_order s.cargo.holders order; outbox = append-nil s.cargo.outbox k } })

  accepts : order_refusal s.cargo.holders order ≡ None → acted s.cargo i at ≡ Ok orders
  accepts none = is ∙ ap (stock_acted s.cargo order) none

  pub order_step : (n : ℕ) → n ≡ (run_of order).count → order_refusal s.cargo.holders order ≡ None → has_room s.cargo ≡ true → step s i at ≡ stepped (accepted n) (after_it n)
  order_step n count none room =
      done_step s i at orders unknown (accepts none) (ap (λ o. has_room (record (s.cargo) { outbox = o })) (append-nil s.cargo.outbox) ∙ room)
      ∙ ap (stepped (accepted (run_of order).count)) unsent ∙ ap (λ m. stepped (accepted m) (after_it m)) (sym count)

  pub order_lawful : (n : ℕ) → n ≡ (run_of order).count → order_refusal s.cargo.holders order ≡ None → IsLawfulState (after_it n)
  order_lawful n count none = subst IsLawfulState (unsent ∙ ap after_it (sym count)) (lawful_after s i at orders law (accepts none) (ordered_lawful s.cargo order law.cargo))
