-- The same writes, stated of the rows and the keys that were made of the values.
use Rattle.row_codec.proofs.Common.{Confirm, Declare, Declared, Expect, Expected, ExpectedKey, Flight, FlightDate, FlightKey, IsRequest, IsTrue, Kept, List, Means, Message, NoteFlight, NotePart, Outbound, Part, PartKey, Some, State, Tables, Trail, TrailLine, Waybill, [], ap, changing_waybill, confirming, expected_key, expected_row, flight_key, flight_text, get_by, is_count, is_designator, is_expected_row, is_flight_row, is_key, is_move_row, is_part_row, is_trail_row, is_utf8, is_waybill_row, length, line_row, message_row, move_by, move_row, on_cargo, outbound_row, part_key, pos, subst, sym, true, waybill_id, waybill_row, with_expected, with_flight, with_kept, with_kept_text, with_key, with_message, with_messages, with_move, with_part, with_text, with_trail_line, with_waybill, written, ℕ, ℤ, ◌+◌, ◌∙◌, ◌∷◌, ◌≡◌}
use Rattle.row_codec.proofs.KeptRow.{kept_row}
use Rattle.shipment_machine.specs.declared.moves.Expected as cargo
use Rattle.shipment_machine.specs.declared.moves.Move as cargo_move
use Rattle.station_core.specs.Step as step
use Rattle.station_schema.specs.Tables.{Move}
use Rattle.row_codec.proofs.Confirming.{confirms}
use Rattle.row_codec.proofs.Declaring.{declares, declares_again}
use Rattle.row_codec.proofs.Keeping.{keeps_key, keeps_text}
use Rattle.row_codec.proofs.Moving.{HasMove, adds_move}
use Rattle.row_codec.proofs.Noting.{notes_flight, expects, notes_part}
use Rattle.row_codec.proofs.Numbering.{adds_line, adds_message}
use Rattle.row_codec.proofs.Telling.{moves_counted}

module _ (t : Tables) (s : State) (means : Means t (Some s)) where
  pub waybill_written : (text : List ℕ) (w : ℕ) (d : Declared) (row : Waybill) → row ≡ waybill_row w d → is_waybill_row (waybill_row w d) ≡ true
      → Means (with_waybill row t) (Some (on_cargo (written text (Declare w d)) s))
  waybill_written text w d row is fits = subst (λ (r : Waybill). Means (with_waybill r t) (Some (on_cargo (written text (Declare w d)) s))) (sym is) (declares t w d s text fits means)

  pub waybill_changed : (text : List ℕ) (w : ℕ) (d : Declared) (row was : Waybill) → row ≡ waybill_row w d → is_waybill_row (waybill_row w d) ≡ true → get_by waybill_id t.waybills (pos w) ≡ Some was
      → Means (changing_waybill row t) (Some (on_cargo (written text (Declare w d)) s))
  waybill_changed text w d row was is fits has = subst (λ (r : Waybill). Means (changing_waybill r t) (Some (on_cargo (written text (Declare w d)) s))) (sym is) (declares_again t w d s text fits means was has)

  pub flight_written : (text flight : List ℕ) (day : ℤ) (f : FlightDate) (o : Outbound) (row : Flight) → flight ≡ flight_text f.flight → day ≡ pos f.day → row ≡ outbound_row o
      → is_designator f.flight ≡ true → is_flight_row (flight_key f, outbound_row o) ≡ true → Means (with_flight (flight, day) row t) (Some (on_cargo (written text (NoteFlight f o)) s))
  flight_written text flight day f o row is_flight is_day is may fits =
      let e : ◌≡◌ {A = FlightKey × Flight} ((flight, day), row) (flight_key f, outbound_row o) = λ i. ((is_flight i, is_day i), is i) in
      subst (λ (x : FlightKey × Flight). Means (with_flight x.0 x.1 t) (Some (on_cargo (written text (NoteFlight f o)) s))) (sym e) (notes_flight t f o may s text fits means)

  pub expected_written : (text flight : List ℕ) (day awb : ℤ) (f : FlightDate) (w : ℕ) (expected : cargo.Expected) (row : Expected) → flight ≡ flight_text f.flight → day ≡ pos f.day → awb ≡ pos w
      → row ≡ expected_row expected → is_designator f.flight ≡ true → is_expected_row (expected_key f w, expected_row expected) ≡ true
      → Means (with_expected (flight, (day, awb)) row t) (Some (on_cargo (written text (Expect f w expected)) s))
  expected_written text flight day awb f w expected row is_flight is_day is_awb is may fits =
      let e : ◌≡◌ {A = ExpectedKey × Expected} ((flight, (day, awb)), row) (expected_key f w, expected_row expected) = λ i. ((is_flight i, (is_day i, is_awb i)), is i) in
      subst (λ (x : ExpectedKey × Expected). Means (with_expected x.0 x.1 t) (Some (on_cargo (written text (Expect f w expected)) s))) (sym e) (expects t f w expected may s text fits means)

  pub part_written : (text flight airport body : List ℕ) (day number : ℤ) (p : Part) → flight ≡ flight_text p.flight.flight → day ≡ pos p.flight.day → airport ≡ p.airport → number ≡ pos p.number → body ≡ text
      → is_designator p.flight.flight ≡ true → is_part_row (part_key p, text) ≡ true → Means (with_part (flight, (day, (airport, number))) body t) (Some (on_cargo (written text (NotePart p)) s))
  part_written text flight airport body day number p is_flight is_day is_airport is_number is may fits =
      let e : ◌≡◌ {A = PartKey × List ℕ} ((flight, (day, (airport, number))), body) (part_key p, text) = λ i. ((is_flight i, (is_day i, (is_airport i, is_number i))), is i) in
      subst (λ (x : PartKey × List ℕ). Means (with_part x.0 x.1 t) (Some (on_cargo (written text (NotePart p)) s))) (sym e) (notes_part t p text may s fits means)

  pub key_kept : (id key : List ℕ) (one : step.Kept) (row : Kept) → id ≡ key → row ≡ kept_row one → is_key key ≡ true → is_utf8 one.request ≡ true → is_count (pos one.count) ≡ true → IsRequest one.request → Means (with_kept id row t) (Some (with_key key one s))
  key_kept id key one row is_id is valid text counts asked =
      let e : ◌≡◌ {A = List ℕ × Kept} (id, row) (key, kept_row one) = λ i. (is_id i, is i) in
      subst (λ (x : List ℕ × Kept). Means (with_kept x.0 x.1 t) (Some (with_key key one s))) (sym e) (keeps_key t s means key one valid text counts asked)

  pub text_kept : (body text : List ℕ) (number : ℤ) (count : ℕ) → body ≡ text → number ≡ pos count → is_utf8 text ≡ true → is_count (pos count) ≡ true → Means (with_kept_text body number t) (Some (with_text text count s))
  text_kept body text number count is_body is_number is counts =
      let e : ◌≡◌ {A = List ℕ × ℤ} (body, number) (text, pos count) = λ i. (is_body i, is_number i) in
      subst (λ (x : List ℕ × ℤ). Means (with_kept_text x.0 x.1 t) (Some (with_text text count s))) (sym e) (keeps_text t s means text count is counts)

  pub line_written : (n w : ℕ) (line text : List ℕ) (row : TrailLine) → row ≡ line_row n w line → is_trail_row (line_row n w line) ≡ true → n ≡ length s.cargo.trail + 1
      → Means (with_trail_line row t) (Some (on_cargo (written text (Trail w line)) s))
  line_written n w line text row is fits next = subst (λ (r : TrailLine). Means (with_trail_line r t) (Some (on_cargo (written text (Trail w line)) s))) (sym is) (adds_line t s n means w line text fits next)

  pub message_written : (n : ℕ) (text : List ℕ) (row : Message) → row ≡ message_row n text → is_utf8 text ≡ true → n ≡ length s.cargo.outbox + 1 → Means (with_message row t) (Some (with_messages (text ∷ []) s))
  message_written n text row is fits next = subst (λ (r : Message). Means (with_message r t) (Some (with_messages (text ∷ []) s))) (sym is) (adds_message t s n means text fits next)

  pub mark_written : (text : List ℕ) (number : ℤ) (upto : ℕ) → number ≡ pos upto → is_count (pos upto) ≡ true → Means (confirming number t) (Some (on_cargo (written text (Confirm upto)) s))
  mark_written text number upto is counts = subst (λ (z : ℤ). Means (confirming z t) (Some (on_cargo (written text (Confirm upto)) s))) (sym is) (confirms upto t s text counts means)

  pub move_written : (n : ℕ) (m : cargo_move.Move) (row : Move) → row ≡ move_row n m → n ≡ length s.cargo.book + 1 → IsTrue (is_move_row (move_row n m)) → move_by (move_row n m) ≡ m → HasMove t (with_move row t) m
  move_written n m row is next fits again =
      subst (λ (r : Move). HasMove t (with_move r t) m) (sym is) (adds_move t n m means.0.book means.0.moves (next ∙ ap (λ k. k + 1) (sym (moves_counted t s means))) fits again)
