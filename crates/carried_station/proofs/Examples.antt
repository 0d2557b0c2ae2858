-- The worked rows: three waybills of March, of which one is left out in December.
use Rattle.std.proofs.Common.{◌≡◌, ◌∷◌, [], refl, ℕ, ◌*◌, ◌+◌, Bool, true, false, not, ◌||◌, ◌&&◌, ◌==◌, Some, None, List, length, map, codes, arith, sym, subst, true≢false, Option, IfSome, IsSome, get_or, ◌∙◌, ap, take, drop, ◌++◌, Result, Ok, Err}
use Rattle.std.specs.Prelude.{IsTrue, ◌↔◌}
use Rattle.std.specs.Bool.{if◌then◌else◌}
use Rattle.std.specs.Fmt.{digits}
use Rattle.std.specs.List.{list_any}
use Rattle.std.specs.Str.{bytes_eq}
use Rattle.station_days.specs.Date.{LocalMinute, day_line}
use Rattle.agent_stock.specs.declared.stock.Holder.TheVariants.{Desk, Used}
use Rattle.agent_stock.specs.declared.stock.Order.TheVariants.{TakeIn, Issue, GiveBack, Void}
use Rattle.std.proofs.lemmas.Bool.{eqb-true}
use Rattle.std.proofs.lemmas.Option.{none-some}
use Rattle.std.proofs.lemmas.Slice.Eq.{bytes_eq-Decides}
use Rattle.awb_number.specs.Number.{IsNumber, number_of, number_text}
use Rattle.awb_number.specs.declared.awb.AwbFault.{AwbFault}
use Rattle.awb_number.proofs.NumberLaws.{number_again}
use Rattle.shipment_machine.proofs.FlightKeys.{same-is}
use Rattle.shipment_machine.specs.Book.{amount, store, same_flight_date}
use Rattle.shipment_machine.specs.Effect.{is_closed}
use Rattle.shipment_machine.specs.Lawful.{departs_with}
use Rattle.shipment_machine.specs.declared.flight.FlightDate.{FlightDate}
use Rattle.shipment_machine.specs.declared.moves.Declared.{Declared}
use Rattle.shipment_machine.specs.declared.moves.Outbound.{Outbound}
use Rattle.shipment_machine.specs.declared.command.DeskCommand.{DeskCommand}
use Rattle.shipment_machine.specs.declared.command.DeskCommand.TheVariants.{Book, Amend, Receive, Withdraw, Manifest, Offload, Reroute, Depart, CheckIn, Strike, Notify, Deliver, Transfer, Missing, Found, Confirm}
use Rattle.desk_commands.specs.Command.{IsCommand, command_text}
use Rattle.desk_commands.specs.declared.command.Command.{Command}
use Rattle.desk_commands.specs.declared.command.Command.TheVariants.{Stock, Cargo}
use Rattle.station_core.specs.declared.answer.Input.{Input}
use Rattle.station_core.specs.declared.answer.Input.TheVariants.{Keyed}
use Rattle.station_core.specs.declared.answer.Answer.{Answer}
use Rattle.station_core.specs.declared.answer.Answer.TheVariants.{Done, Refused}
use Rattle.station_core.specs.Step.{Kept, State, after_all, answers_of, opening, refusal_text, reply_text}
use Rattle.carried_station.specs.Carried.{Choice, is_known_command, MayCarry, NamesCarried, carried, carried_moves, is_carried_flight, names, names_built}
use Rattle.carried_station.specs.Finished.{IsFinished}
use Rattle.carried_station.specs.Laws.{IsLate}

-- Short forms.

-- 3 March 2025, 10:00
abbrev ten : LocalMinute
ten = record { day = 20150; minute = 10 * 60 }

-- 1 December 2025
abbrev december : ℕ
december = 20423

abbrev pub flight : ℕ → FlightDate
flight number = record { flight = record { carrier = codes "LH"; number = number; suffix = None }; day = 20150 }

abbrev printed : Answer → List ℕ
printed (Done reply) = reply_text reply
printed (Refused refusal) = refusal_text refusal

abbrev desk : List ℕ → DeskCommand → Input × LocalMinute
desk key command = (Keyed key (Cargo command), ten)

abbrev w1 : ℕ
w1 = 201234567

abbrev w2 : ℕ
w2 = 201234568

abbrev w3 : ℕ
w3 = 201234569

-- Three waybills are booked and received, and built on two flights. The second is taken off again,
-- and both flights leave. All eleven messages are confirmed.
abbrev inputs : List (Input × LocalMinute)
inputs =
    (Keyed (codes "t1") (Stock (TakeIn (record { first = w1; count = 4 }))), ten)
    ∷ (Keyed (codes "i1") (Stock (Issue (record { first = w1; count = 3 }) (codes "ACME"))), ten)
    ∷ desk (codes "b1") (Book w1 (codes "FRA") (codes "JFK") 10 1000 (codes "PARTS"))
    ∷ desk (codes "b2") (Book w2 (codes "FRA") (codes "JFK") 5 500 (codes "PARTS"))
    ∷ desk (codes "b3") (Book w3 (codes "FRA") (codes "ORD") 2 200 (codes "PARTS"))
    ∷ desk (codes "r1") (Receive w1 10 1000 (codes "ACME"))
    ∷ desk (codes "r2") (Receive w2 5 500 (codes "ACME"))
    ∷ desk (codes "r3") (Receive w3 2 200 (codes "ACME"))
    ∷ desk (codes "m1") (Manifest w1 (flight 400) (codes "JFK") 10)
    ∷ desk (codes "m2") (Manifest w2 (flight 400) (codes "JFK") 5)
    ∷ desk (codes "o2") (Offload w2 (flight 400) 5)
    ∷ desk (codes "m3") (Manifest w3 (flight 430) (codes "ORD") 2)
    ∷ desk (codes "d1") (Depart (flight 400))
    ∷ desk (codes "d2") (Depart (flight 430))
    ∷ desk (codes "c1") (Confirm 11) ∷ []

abbrev old : State
old = after_all (opening (codes "FRA")) inputs

example_messages : length old.cargo.outbox ≡ 11
unfolding digits day_line
example_messages = refl

example_confirmed : old.cargo.confirmed ≡ 11
unfolding digits day_line
example_confirmed = refl

-- What is finished.

-- the third has left
example_finished : IsFinished old.cargo december w3
unfolding digits day_line
example_finished = record {
  declared = omega arith;
  moved = ((λ _. omega arith), ((λ _. omega arith), ((λ _. omega arith), ((λ _. omega arith), ((λ _. omega arith), ((λ _. omega arith), ((λ _. omega arith), ((λ _. omega arith), ((λ _. omega arith), tt)))))))));
  stored = refl;
  missing = refl;
  expected = λ _. tt;
}

-- the second is in store
example_in_store : store old.cargo.book w2 ≡ amount 5 500
unfolding digits day_line
example_in_store = refl

-- What is carried: the second, and the first.

abbrev has_key : List (List ℕ) → List ℕ → Bool
has_key listed key = list_any (λ k. bytes_eq k key) listed

abbrev choice_of : (ℕ → Bool) → Choice
choice_of waybill = record {
  waybill = waybill;
  flight = same_flight_date (flight 400);
  part = λ _. false;
  message = λ text. (waybill w1 && names w1 text) || (waybill w2 && names w2 text) || (waybill w3 && names w3 text);
  key = λ key. not (has_key (codes "r3" ∷ codes "m3" ∷ codes "d2" ∷ codes "c1" ∷ []) key);
  text = λ _. false;
}

abbrev second_alone : Choice
second_alone = choice_of (λ w. w == w2)

abbrev two : Choice
two = choice_of (λ w. not (w == w3))

-- the second was built on LH400, which left without it: with it goes the first, which left with it
example_was_built : list_any (names_built (flight 400)) (carried_moves second_alone old.cargo.book) ≡ true
unfolding digits day_line
example_was_built = refl

example_left_without : list_any (departs_with (flight 400)) (carried_moves second_alone old.cargo.book) ≡ false
unfolding digits day_line
example_left_without = refl

example_left_with : list_any (departs_with (flight 400)) (carried_moves two old.cargo.book) ≡ true
unfolding digits day_line
example_left_with = refl

abbrev new : State
new = carried two old

example_moves : length new.cargo.book ≡ 6
unfolding digits day_line
example_moves = refl

example_in_store_still : store new.cargo.book w2 ≡ amount 5 500
unfolding digits day_line
example_in_store_still = refl

example_flight : is_closed (new.cargo.flights (flight 400)) ≡ true
unfolding digits day_line
example_flight = refl

example_no_flight : new.cargo.flights (flight 430) ≡ None
unfolding digits day_line
example_no_flight = refl

-- the number of the third is in stock no more
example_used : new.cargo.holders w1 ≡ Some Used
unfolding digits day_line
example_used = refl

example_left_out : new.cargo.holders w3 ≡ None
unfolding digits day_line
example_left_out = refl

example_unused : new.cargo.holders (w3 + 1) ≡ Some Desk
unfolding digits day_line
example_unused = refl

-- the messages: of the third those of its receipt, its building and its departure, and the manifest
example_named : map (names w3) old.cargo.outbox ≡ false ∷ false ∷ true ∷ false ∷ false ∷ false ∷ true ∷ false ∷ false ∷ true ∷ true ∷ []
unfolding digits day_line
example_named = refl

example_seven : length new.cargo.outbox ≡ 7
unfolding digits day_line
example_seven = refl

example_all_confirmed : new.cargo.confirmed ≡ 7
unfolding digits day_line
example_all_confirmed = refl

-- Later inputs: what the old station answered, and what the new one does.

abbrev answers : State → List (Input × LocalMinute) → List (List ℕ)
answers s again = map printed (answers_of s again)

-- a kept key: as before, though the third isn't declared any more
example_known : answers new (desk (codes "b3") (Book w3 (codes "FRA") (codes "ORD") 2 200 (codes "PARTS")) ∷ desk (codes "r1") (Receive w1 10 1000 (codes "ACME")) ∷ [])
    ≡ codes "ok 2" ∷ codes "ok 10" ∷ []
unfolding digits day_line
example_known = refl

-- a key that is known no more: refused
example_unknown : answers new (desk (codes "r3") (Receive w3 2 200 (codes "ACME")) ∷ desk (codes "d2") (Depart (flight 430)) ∷ desk (codes "c1") (Confirm 11) ∷ [])
    ≡ codes "refused 201 020-12345690" ∷ codes "refused 209 LH430/2025-03-03" ∷ codes "refused 401 7 7" ∷ []
unfolding digits day_line
example_unknown = refl

-- a new key: a flight that left stays closed, and the number can come again
example_closed : answers new (desk (codes "n1") (Manifest w2 (flight 400) (codes "JFK") 1) ∷ []) ≡ codes "refused 208 LH400/2025-03-03" ∷ []
unfolding digits day_line
example_closed = refl

example_again : answers new (desk (codes "n2") (Book w3 (codes "FRA") (codes "ORD") 3 300 (codes "PARTS")) ∷ []) ≡ codes "ok 3" ∷ []
unfolding digits day_line
example_again = refl

-- The two may be carried: this choice meets the conditions. Of the keys only that of the receipt of
-- the third is taken into account.

abbrev receipt : Command
receipt = Cargo (Receive w3 2 200 (codes "ACME"))

abbrev entry : Kept
entry = record { request = command_text receipt; count = 2 }

example_entry : old.kept_keys (codes "r3") ≡ Some entry
unfolding digits day_line
example_entry = refl

abbrev few : State
few = record old { kept_keys = λ key. if bytes_eq key (codes "r3") then Some entry else None }

only_third : (w : ℕ) → not (w == w3) ≡ false → IsFinished old.cargo december w
only_third w left = elim (w == w3) as (λ b. (w == w3) ≡ b → not b ≡ false → IsFinished old.cargo december w) [
  | true ↦ λ is _. subst (λ v. IsFinished old.cargo december v) (sym (eqb-true w w3 is)) example_finished
  | false ↦ λ _ e. absurd (true≢false e)
] refl left

abbrev to_jfk : Bool → Outbound
to_jfk closed = record { unload = codes "JFK"; closed = closed }

abbrev to_ord : Bool → Outbound
to_ord closed = record { unload = codes "ORD"; closed = closed }

neither : (a b : Bool) (w x y z : Outbound) → a ≡ false → b ≡ false → (if a then Some w else (if b then Some x else (if a then Some y else (if b then Some z else None)))) ≡ None
neither true b w x y z e f = absurd (true≢false e)
neither false true w x y z e f = absurd (true≢false f)
neither false false w x y z e f = refl

-- the two flights are noted, and no other
noted : (f : FlightDate) (P : FlightDate → Type 0) → P (flight 400) → P (flight 430) → (old.cargo.flights f ≡ None → P f) → P f
unfolding digits day_line
noted f P first second none =
    elim (same_flight_date f (flight 430)) as (λ b. same_flight_date f (flight 430) ≡ b → P f) [
      | true ↦ λ is. subst P (sym (same-is f (flight 430) is)) second
      | false ↦ λ not430. elim (same_flight_date f (flight 400)) as (λ b. same_flight_date f (flight 400) ≡ b → P f) [
        | true ↦ λ is. subst P (sym (same-is f (flight 400) is)) first
        | false ↦ λ not400. none (neither (same_flight_date f (flight 430)) (same_flight_date f (flight 400)) (to_ord true) (to_jfk true) (to_ord false) (to_jfk false) not430 not400)
      ] refl
    ] refl

abbrev to_airport : List ℕ → ℕ → ℕ → Declared
to_airport destination pieces tenths =
    record { origin = codes "FRA"; destination = destination; pieces = pieces; tenths = tenths; goods = codes "PARTS"; notified = false; since = Some 20150 }

none_of : (a b c : Bool) (x y z : Declared) → a ≡ false → b ≡ false → c ≡ false → (if a then Some x else (if b then Some y else (if c then Some z else None))) ≡ None
none_of true b c x y z e f g = absurd (true≢false e)
none_of false true c x y z e f g = absurd (true≢false f)
none_of false false true x y z e f g = absurd (true≢false g)
none_of false false false x y z e f g = refl

nothing_noted : (o : Option Outbound) (P : Outbound → Type 0) → o ≡ None → IfSome o P
nothing_noted None P e = tt
nothing_noted (Some o) P e = absurd (none-some o (sym e))

nothing_declared : (o : Option Declared) → o ≡ None → IsSome o → ⊥
nothing_declared None e some = true≢false (sym some)
nothing_declared (Some d) e some = none-some d (sym e)

only_three : (w : ℕ) (P : ℕ → Type 0) → P w1 → P w2 → P w3 → (old.cargo.declared w ≡ None → P w) → P w
unfolding digits day_line
only_three w P first second third none =
    elim (w == w3) as (λ b. (w == w3) ≡ b → P w) [
      | true ↦ λ is. subst P (sym (eqb-true w w3 is)) third
      | false ↦ λ not3. elim (w == w2) as (λ b. (w == w2) ≡ b → P w) [
        | true ↦ λ is. subst P (sym (eqb-true w w2 is)) second
        | false ↦ λ not2. elim (w == w1) as (λ b. (w == w1) ≡ b → P w) [
          | true ↦ λ is. subst P (sym (eqb-true w w1 is)) first
          | false ↦ λ not1. none (none_of (w == w3) (w == w2) (w == w1) (to_airport (codes "ORD") 2 200) (to_airport (codes "JFK") 5 500) (to_airport (codes "JFK") 10 1000) not3 not2 not1)
        ] refl
      ] refl
    ] refl

carried_message : (text : List ℕ) (w : ℕ) → IsSome (old.cargo.declared w) → not (w == w3) ≡ true → names w text ≡ true → two.message text ≡ true
    → IsTrue (two.message text) ↔ NamesCarried two old.cargo text
unfolding digits day_line
carried_message text w declared carried named is = ((λ _. (w, declared, carried, named)), (λ _. is))

left_message : (text : List ℕ) → two.message text ≡ false → names w1 text ≡ false → names w2 text ≡ false → IsTrue (two.message text) ↔ NamesCarried two old.cargo text
unfolding digits day_line
left_message text off not1 not2 = (
  (λ e. absurd (true≢false (sym e ∙ off))),
  (λ told. absurd (only_three told.0 (λ w. IsSome (old.cargo.declared w) → not (w == w3) ≡ true → names w text ≡ true → ⊥)
      (λ _ _ e. true≢false (sym e ∙ not1)) (λ _ _ e. true≢false (sym e ∙ not2)) (λ _ e _. true≢false (sym e)) (λ none some _ _. nothing_declared (old.cargo.declared told.0) none some) told.1 told.2 told.3)),
)

abbrev message_at : ℕ → List ℕ
message_at n = get_or old.cargo.outbox n []

-- a text that begins with the word of a receipt
abbrev is_receipt : List ℕ → Bool
is_receipt text = bytes_eq (take 8 text) (codes "receive" ++ (10 ∷ []))

abbrev number_or : Result ℕ AwbFault → ℕ
number_or (Ok w) = w
number_or (Err fault) = 0

same_number : (w : ℕ) → IsNumber w → number_text w ≡ number_text w3 → w ≡ w3
same_number w proper same = ap number_or (sym (number_again w proper) ∙ ap number_of same ∙ number_again w3 (omega arith))

-- the command of this text isn't known any more
unknown : (command : Command) → IsCommand command → is_receipt (command_text command) ≡ true → take 12 (drop 8 (command_text command)) ≡ number_text w3 → is_known_command two command ≡ false
unfolding digits day_line
unknown (Cargo (Receive w pieces tenths name)) proper is same = ap (λ v. not (v == w3)) (same_number w proper.0 same)
unknown (Cargo (Book w origin destination pieces tenths goods)) proper is same = absurd (true≢false (sym is))
unknown (Cargo (Amend w origin destination pieces tenths goods)) proper is same = absurd (true≢false (sym is))
unknown (Cargo (Withdraw w pieces name)) proper is same = absurd (true≢false (sym is))
unknown (Cargo (Manifest w flight unload pieces)) proper is same = absurd (true≢false (sym is))
unknown (Cargo (Offload w flight pieces)) proper is same = absurd (true≢false (sym is))
unknown (Cargo (Reroute flight unload)) proper is same = absurd (true≢false (sym is))
unknown (Cargo (Depart flight)) proper is same = absurd (true≢false (sym is))
unknown (Cargo (CheckIn w flight counted)) proper is same = absurd (true≢false (sym is))
unknown (Cargo (Strike w flight pieces)) proper is same = absurd (true≢false (sym is))
unknown (Cargo (Notify w name)) proper is same = absurd (true≢false (sym is))
unknown (Cargo (Deliver w pieces name)) proper is same = absurd (true≢false (sym is))
unknown (Cargo (Transfer w pieces airline)) proper is same = absurd (true≢false (sym is))
unknown (Cargo (Missing w pieces flight)) proper is same = absurd (true≢false (sym is))
unknown (Cargo (Found w pieces tenths flight)) proper is same = absurd (true≢false (sym is))
unknown (Cargo (Confirm upto)) proper is same = absurd (true≢false (sym is))
unknown (Stock (TakeIn run)) proper is same = absurd (true≢false (sym is))
unknown (Stock (Issue run agent)) proper is same = absurd (true≢false (sym is))
unknown (Stock (GiveBack run agent)) proper is same = absurd (true≢false (sym is))
unknown (Stock (Void run)) proper is same = absurd (true≢false (sym is))

only_receipt : (key : List ℕ) (command : Command) → IsCommand command
    → IfSome (few.kept_keys key) (λ kept. kept.request ≡ command_text command → two.key key ≡ is_known_command two command)
unfolding digits day_line
only_receipt key command proper = elim (bytes_eq key (codes "r3")) as (λ b. bytes_eq key (codes "r3") ≡ b
    → IfSome (if b then Some entry else None) (λ kept. kept.request ≡ command_text command → two.key key ≡ is_known_command two command)) [
      | true ↦ λ is same. subst (λ k. two.key k ≡ false) (sym ((bytes_eq-Decides key (codes "r3")).0 is)) refl
          ∙ sym (unknown command proper (ap is_receipt (sym same)) (ap (λ text. take 12 (drop 8 text)) (sym same)))
      | false ↦ λ _. tt
    ] refl

example_may : MayCarry few december two
unfolding digits day_line
example_may = record {
  finished = only_third;
  flights = λ f. noted f (λ f. IfSome (old.cargo.flights f) (λ o. two.flight f ≡ is_carried_flight two december old.cargo.book f o)) refl refl (λ none. nothing_noted (old.cargo.flights f) (λ o. two.flight f ≡ is_carried_flight two december old.cargo.book f o) none);
  left = λ f named closed. subst (λ f. list_any (departs_with f) (carried_moves two old.cargo.book) ≡ true) (same-is (flight 400) f named) refl;
  parts = λ p. tt;
  manifests = λ p. tt;
  confirmed = example_confirmed ∙ sym example_messages;
  messages = (carried_message (message_at 0) w1 refl refl refl refl, (carried_message (message_at 1) w2 refl refl refl refl, (left_message (message_at 2) refl refl refl, (carried_message (message_at 3) w1 refl refl refl refl, (carried_message (message_at 4) w2 refl refl refl refl, (carried_message (message_at 5) w2 refl refl refl refl, (left_message (message_at 6) refl refl refl, (carried_message (message_at 7) w1 refl refl refl refl, (carried_message (message_at 8) w1 refl refl refl refl, (left_message (message_at 9) refl refl refl, (left_message (message_at 10) refl refl refl, tt)))))))))));
  keys = only_receipt;
  texts = λ telegram said kept. cc;
}

-- the receipt of the third is a late repeat
example_late : IsLate few two (Keyed (codes "r3") receipt)
unfolding digits day_line
example_late = record {
  proper = (omega arith, (omega arith, omega arith), omega arith, refl);
  reply = record { count = 2 };
  kept = refl;
  unknown = refl;
}
