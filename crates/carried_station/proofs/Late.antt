-- A repeat of an input that only the old station knows changes no cargo.
use Rattle.std.proofs.Common.{◌≡◌, ◌∙◌, refl, sym, ap, subst, arith, ℕ, ◌-◌, ◌==◌, Bool, true, false, true≢false, ◌||◌, List, [], ◌∷◌, length, map, Option, Some, None, IfSome, IsSome, is_none, nat_lt, append-nil, Result, Ok, Err}
use Rattle.std.specs.Bool.{if◌then◌else◌, ⊤}
use Rattle.std.specs.List.{filter}
use Rattle.std.specs.Str.{bytes_eq}
use Rattle.std.proofs.lemmas.Bool.{or_parts, ltb-false}
use Rattle.std.proofs.lemmas.Option.{none-some}
use Rattle.std.proofs.lemmas.Slice.Eq.{bytes_eq-Decides}
use Rattle.station_days.specs.Date.{LocalMinute}
use Rattle.shipment_machine.specs.Book.{built}
use Rattle.shipment_machine.specs.Cargo.{Cargo, declaration, loads_of}
use Rattle.shipment_machine.specs.Effect.{Outcome, effect, Rule, first_refusal, rule, unless_refused}
use Rattle.shipment_machine.specs.Lawful.{IsLawful}
use Rattle.shipment_machine.specs.declared.command.DeskCommand.{DeskCommand}
use Rattle.shipment_machine.specs.declared.command.DeskCommand.TheVariants as desk
use Rattle.shipment_machine.specs.declared.command.ShipmentCommand.TheVariants as order
use Rattle.shipment_machine.specs.declared.flight.FlightDate.{FlightDate}
use Rattle.shipment_machine.specs.declared.plans.Change.TheVariants as change
use Rattle.shipment_machine.specs.declared.plans.Detail.TheVariants as detail
use Rattle.shipment_machine.specs.declared.plans.Refusal.{Refusal}
use Rattle.shipment_machine.specs.declared.view.FlightLoad.{FlightLoad}
use Rattle.shipment_machine.proofs.LawfulView.{none_on}
use Rattle.desk_commands.specs.Command.{command_text}
use Rattle.desk_commands.specs.declared.command.Command.{Command}
use Rattle.desk_commands.specs.declared.command.Command.TheVariants as command
use Rattle.telegrams.specs.declared.telegram.Content.{Content}
use Rattle.telegrams.specs.declared.telegram.Content.TheVariants as content
use Rattle.station_core.specs.Retries.{WasKept}
use Rattle.station_core.specs.Step.{Acted, IsLawfulState, Kept, State, accepted, acted, answered, cargo_acted, first_time, has_room, key_answer, kept_with, refused, repeated, repeated_key, shipment_of, step, stepped, text_answer, with_notices}
use Rattle.station_core.specs.declared.answer.Answer.TheVariants.{Done}
use Rattle.station_core.specs.declared.answer.Input.{Input}
use Rattle.station_core.specs.declared.answer.Input.TheVariants.{Keyed, Wire}
use Rattle.station_core.specs.declared.answer.Reply.{Reply}
use Rattle.carried_station.specs.Carried.{Choice, MayCarry, carried, carried_cargo, if_carried, is_known_command, is_known_desk, is_known_text}
use Rattle.carried_station.specs.Laws.{IsLate, IsProper}
use Rattle.carried_station.proofs.Kept.{cargo_kept}

-- Inputs that change no cargo.

-- the effect is a refusal, or leaves the cargo as it was
abbrev Leaves : Cargo → Result Acted Refusal → Type 0
Leaves s (Ok a) = with_notices a ≡ s
Leaves s (Err refusal) = ⊤

rests : (s : State) (input : Input) (a : Result Acted Refusal) → Leaves s.cargo a → (first_time s input a).state.cargo ≡ s.cargo
rests s input (Err refusal) same = refl
rests s (Keyed key order) (Ok a) same = elim (has_room (with_notices a)) as (λ b. (if b then stepped (accepted a.count) (kept_with (Keyed key order) a.count (record s { cargo = with_notices a })) else stepped (refused 402) s).state.cargo ≡ s.cargo) [
  | true ↦ same
  | false ↦ refl
]
rests s (Wire telegram) (Ok a) same = elim (has_room (with_notices a)) as (λ b. (if b then stepped (accepted a.count) (kept_with (Wire telegram) a.count (record s { cargo = with_notices a })) else stepped (refused 402) s).state.cargo ≡ s.cargo) [
  | true ↦ same
  | false ↦ refl
]

-- the first test of a rule holds, or the second
abbrev FirstHolds : List (Bool × Refusal) → Type 0
FirstHolds [] = ⊥
FirstHolds (one ∷ more) = one.0 ≡ true

abbrev SecondHolds : List (Bool × Refusal) → Type 0
SecondHolds [] = ⊥
SecondHolds (one ∷ more) = FirstHolds more

at_first : (s : Cargo) (text : List ℕ) (tests : List (Bool × Refusal)) (outcome : Result Outcome Refusal) → FirstHolds tests → Leaves s (cargo_acted text s (unless_refused (first_refusal tests) outcome))
at_first s text [] outcome holds = absurd holds
at_first s text (one ∷ more) outcome holds = elim one.0 as (λ b. b ≡ true → Leaves s (cargo_acted text s (unless_refused (if b then Some one.1 else first_refusal more) outcome))) [
  | true ↦ λ _. tt
  | false ↦ λ e. absurd (true≢false (sym e))
] holds

at_second : (s : Cargo) (text : List ℕ) (tests : List (Bool × Refusal)) (outcome : Result Outcome Refusal) → SecondHolds tests → Leaves s (cargo_acted text s (unless_refused (first_refusal tests) outcome))
at_second s text [] outcome holds = absurd holds
at_second s text (one ∷ more) outcome holds = elim one.0 as (λ b. Leaves s (cargo_acted text s (unless_refused (if b then Some one.1 else first_refusal more) outcome))) [
  | true ↦ tt
  | false ↦ at_first s text more outcome holds
]

-- Inputs that only the old station knows.
module _ (s : State) (c : Choice) (law : IsLawful (carried_cargo c s.cargo)) where
  undeclared : (w : ℕ) → c.waybill w ≡ false → is_none ((carried_cargo c s.cargo).declared w) ≡ true
  undeclared w left = ap (λ b. is_none (if_carried b (s.cargo.declared w))) left

  unnoted : (f : FlightDate) → c.flight f ≡ false → (carried_cargo c s.cargo).flights f ≡ None
  unnoted f left = ap (λ b. if_carried b (s.cargo.flights f)) left

  nothing_on : (f : FlightDate) → c.flight f ≡ false → (length (loads_of (carried_cargo c s.cargo) f) == 0) ≡ true
  nothing_on f left = ap (λ (ws : List ℕ). length {A = FlightLoad} (map (λ w. record { awb = w; declared = declaration (carried_cargo c s.cargo) w; load = built (carried_cargo c s.cargo).book w f }) ws) == 0)
      (none_on (carried_cargo c s.cargo) f law (unnoted f left))

  -- a number past the last message is refused, and the last one is confirmed already
  confirmed_again : (n upto : ℕ) (t : Bool) → (nat_lt upto n || nat_lt n upto) ≡ t → t ≡ false → upto ≡ n
  confirmed_again n upto t is off =
      let parts = or_parts (nat_lt upto n) (nat_lt n upto) (is ∙ off) in
      omega (arith, ltb-false upto n parts.0, ltb-false n upto parts.1)

  confirm_leaves : (upto : ℕ) (at : LocalMinute) → Leaves (carried_cargo c s.cargo) (cargo_acted [] (carried_cargo c s.cargo) (effect (carried_cargo c s.cargo) (order.Desk (desk.Confirm upto)) at))
  confirm_leaves upto at =
      let new : Cargo = carried_cargo c s.cargo in
      let n : ℕ = length (filter c.message s.cargo.outbox) in
      elim (nat_lt upto n || nat_lt n upto) as (λ t. (nat_lt upto n || nat_lt n upto) ≡ t
      → Leaves new (cargo_acted [] new (unless_refused (if t then Some (record { number = 401; detail = detail.Messages n n }) else None)
      (Ok (record { moves = []; notices = []; changes = change.Confirm upto ∷ []; count = upto - n }))))) [
        | true ↦ λ _. tt
        | false ↦ λ is. let last = confirmed_again n upto false is refl in
            λ i. record new { book = append-nil new.book i; outbox = append-nil new.outbox i; confirmed = last i }
      ] refl

  desk_leaves : (command : DeskCommand) (at : LocalMinute) → is_known_desk c command ≡ false
      → Leaves (carried_cargo c s.cargo) (cargo_acted [] (carried_cargo c s.cargo) (effect (carried_cargo c s.cargo) (order.Desk command) at))
  desk_leaves (desk.Book w origin destination pieces tenths goods) at left = absurd (true≢false left)
  desk_leaves (desk.Amend w origin destination pieces tenths goods) at left = let r : Rule = rule (carried_cargo c s.cargo) (order.Desk (desk.Amend w origin destination pieces tenths goods)) at in at_first (carried_cargo c s.cargo) [] r.refusals r.outcome (undeclared w left)
  desk_leaves (desk.Receive w pieces tenths name) at left = let r : Rule = rule (carried_cargo c s.cargo) (order.Desk (desk.Receive w pieces tenths name)) at in at_first (carried_cargo c s.cargo) [] r.refusals r.outcome (undeclared w left)
  desk_leaves (desk.Withdraw w pieces name) at left = let r : Rule = rule (carried_cargo c s.cargo) (order.Desk (desk.Withdraw w pieces name)) at in at_first (carried_cargo c s.cargo) [] r.refusals r.outcome (undeclared w left)
  desk_leaves (desk.Manifest w flight unload pieces) at left = let r : Rule = rule (carried_cargo c s.cargo) (order.Desk (desk.Manifest w flight unload pieces)) at in at_first (carried_cargo c s.cargo) [] r.refusals r.outcome (undeclared w left)
  desk_leaves (desk.Offload w flight pieces) at left = let r : Rule = rule (carried_cargo c s.cargo) (order.Desk (desk.Offload w flight pieces)) at in at_first (carried_cargo c s.cargo) [] r.refusals r.outcome (undeclared w left)
  desk_leaves (desk.Reroute flight unload) at left = let r : Rule = rule (carried_cargo c s.cargo) (order.Desk (desk.Reroute flight unload)) at in at_first (carried_cargo c s.cargo) [] r.refusals r.outcome (ap is_none (unnoted flight left))
  desk_leaves (desk.Depart flight) at left = let r : Rule = rule (carried_cargo c s.cargo) (order.Desk (desk.Depart flight)) at in at_second (carried_cargo c s.cargo) [] r.refusals r.outcome (nothing_on flight left)
  desk_leaves (desk.CheckIn w flight counted) at left = let r : Rule = rule (carried_cargo c s.cargo) (order.Desk (desk.CheckIn w flight counted)) at in at_first (carried_cargo c s.cargo) [] r.refusals r.outcome (undeclared w left)
  desk_leaves (desk.Strike w flight pieces) at left = let r : Rule = rule (carried_cargo c s.cargo) (order.Desk (desk.Strike w flight pieces)) at in at_first (carried_cargo c s.cargo) [] r.refusals r.outcome (undeclared w left)
  desk_leaves (desk.Notify w name) at left = let r : Rule = rule (carried_cargo c s.cargo) (order.Desk (desk.Notify w name)) at in at_first (carried_cargo c s.cargo) [] r.refusals r.outcome (undeclared w left)
  desk_leaves (desk.Deliver w pieces name) at left = let r : Rule = rule (carried_cargo c s.cargo) (order.Desk (desk.Deliver w pieces name)) at in at_first (carried_cargo c s.cargo) [] r.refusals r.outcome (undeclared w left)
  desk_leaves (desk.Transfer w pieces airline) at left = let r : Rule = rule (carried_cargo c s.cargo) (order.Desk (desk.Transfer w pieces airline)) at in at_first (carried_cargo c s.cargo) [] r.refusals r.outcome (undeclared w left)
  desk_leaves (desk.Missing w pieces flight) at left = let r : Rule = rule (carried_cargo c s.cargo) (order.Desk (desk.Missing w pieces flight)) at in at_first (carried_cargo c s.cargo) [] r.refusals r.outcome (undeclared w left)
  desk_leaves (desk.Found w pieces tenths flight) at left = let r : Rule = rule (carried_cargo c s.cargo) (order.Desk (desk.Found w pieces tenths flight)) at in at_first (carried_cargo c s.cargo) [] r.refusals r.outcome (undeclared w left)
  desk_leaves (desk.Confirm upto) at left = confirm_leaves upto at

  command_leaves : (key : List ℕ) (order : Command) (at : LocalMinute) → is_known_command c order ≡ false → Leaves (carried_cargo c s.cargo) (acted (carried_cargo c s.cargo) (Keyed key order) at)
  command_leaves key (command.Stock order) at left = absurd (true≢false left)
  command_leaves key (command.Cargo order) at left = desk_leaves order at left

  telegram_leaves : (text : List ℕ) (said : Content) (at : LocalMinute) → is_known_text c said ≡ false
      → Leaves (carried_cargo c s.cargo) (cargo_acted text (carried_cargo c s.cargo) (effect (carried_cargo c s.cargo) (shipment_of said) at))
  telegram_leaves text (content.Fwb line) at left = absurd (true≢false left)
  telegram_leaves text (content.Ffm part) at left = absurd (true≢false left)
  telegram_leaves text (content.Fsu status) at left =
      let r : Rule = rule (carried_cargo c s.cargo) (shipment_of (content.Fsu status)) at in
      at_first (carried_cargo c s.cargo) text r.refusals r.outcome (undeclared status.awb left)

-- What was kept.

-- the entry of a key is that of the command that was accepted
key_kept : (o : Option Kept) (text : List ℕ) (reply : Reply) → key_answer o text ≡ Some (Done reply) → (kept : Kept) × (o ≡ Some kept) × (kept.request ≡ text)
key_kept None text reply e = absurd (none-some (Done reply) e)
key_kept (Some kept) text reply e = (kept, refl, same_request (bytes_eq kept.request text) refl e)
  where
    same_request : (b : Bool) → bytes_eq kept.request text ≡ b → Some (if b then accepted kept.count else refused 501) ≡ Some (Done reply) → kept.request ≡ text
    same_request true is e = (bytes_eq-Decides kept.request text).0 is
    same_request false is e = cc

-- an entry that isn't known any more was left out
key_left : (b : Bool) (kept : Kept) (text : List ℕ) → key_answer (if_carried b (Some kept)) text ≡ None → b ≡ false
key_left false kept text e = refl
key_left true kept text e = absurd (none-some (repeated_key kept text) (sym e))

text_left : (b : Bool) (o : Option ℕ) (reply : Reply) → text_answer o ≡ Some (Done reply) → text_answer (if_carried b o) ≡ None → b ≡ false
text_left false o reply e f = refl
text_left true o reply e f = absurd (none-some (Done reply) (sym f ∙ e))

text_kept : (o : Option ℕ) (reply : Reply) → text_answer o ≡ Some (Done reply) → IsSome o
text_kept None reply e = absurd (none-some (Done reply) e)
text_kept (Some count) reply e = refl

module _ (s : State) (day : ℕ) (c : Choice) (law : IsLawfulState s) (may : MayCarry s day c) where
  late_leaves : (input : Input) (at : LocalMinute) (reply : Reply) → IsProper input → WasKept s input reply → repeated (carried c s) input ≡ None → Leaves (carried_cargo c s.cargo) (acted (carried_cargo c s.cargo) input at)
  late_leaves (Keyed key order) at reply proper kept unknown =
      let was = key_kept (s.kept_keys key) (command_text order) reply kept in
      let left : c.key key ≡ false = key_left (c.key key) was.0 (command_text order) (ap (λ o. key_answer (if_carried (c.key key) o) (command_text order)) (sym was.1) ∙ unknown) in
      let said : c.key key ≡ is_known_command c order = subst (λ o. IfSome o (λ kept. kept.request ≡ command_text order → c.key key ≡ is_known_command c order)) was.1 (may.keys key order proper) was.2 in
      command_leaves s c (cargo_kept s day c law.cargo may) key order at (sym said ∙ left)
  late_leaves (Wire telegram) at reply proper kept unknown =
      let left : c.text telegram.text ≡ false = text_left (c.text telegram.text) (s.kept_texts telegram.text) reply kept unknown in
      let said : c.text telegram.text ≡ is_known_text c telegram.content = may.texts telegram proper (text_kept (s.kept_texts telegram.text) reply kept) in
      telegram_leaves s c (cargo_kept s day c law.cargo may) telegram.text telegram.content at (sym said ∙ left)

pub late_rests : (s : State) (day : ℕ) (c : Choice) (input : Input) (at : LocalMinute) → IsLawfulState s → MayCarry s day c → IsLate s c input → (step (carried c s) input at).state.cargo ≡ (carried c s).cargo
late_rests s day c input at law may late =
    ap (λ o. (answered (carried c s) input at o).state.cargo) late.unknown
    ∙ rests (carried c s) input (acted (carried c s).cargo input at) (late_leaves s day c law may input at late.reply late.proper late.kept late.unknown)
