-- What is in store, missing or expected is the same before and after.
use Rattle.std.proofs.Common.{◌≡◌, ◌∙◌, refl, sym, ap, ℕ, ◌==◌, true, false, ◌&&◌, List, [], ◌∷◌, ◌++◌, Option, Some, None, IfSome, nat_lt}
use Rattle.std.specs.Bool.{if◌then◌else◌}
use Rattle.std.specs.List.{filter, flat_map}
use Rattle.std.specs.Option.{unwrap_or}
use Rattle.std.specs.Prelude.{IsTrue}
use Rattle.std.proofs.lemmas.Bool.{eqb-true}
use Rattle.std.proofs.lemmas.Map.Views.{any-filter_same}
use Rattle.shipment_machine.specs.declared.flight.FlightDate.{FlightDate}
use Rattle.shipment_machine.specs.declared.moves.Amount.{Amount}
use Rattle.shipment_machine.specs.declared.moves.Declared.{Declared}
use Rattle.shipment_machine.specs.declared.moves.Expected.{Expected}
use Rattle.shipment_machine.specs.declared.moves.Move.{Move}
use Rattle.shipment_machine.specs.declared.moves.Place.TheVariants.{Free, Missing}
use Rattle.shipment_machine.specs.Book.{in_store, less, missing, same_place, waybills_of}
use Rattle.shipment_machine.specs.Cargo.{Cargo, undeclared}
use Rattle.shipment_machine.proofs.OnFlight.{Rising-waybills_of, is_in-waybills_of}
use Rattle.shipment_machine.proofs.Rising.{Rising-filter, is_in-filter, same_rising}
use Rattle.station_core.specs.Readers.{asked_of, expected_for, is_in_shed, shed_row, shed_rows}
use Rattle.station_core.specs.Step.{State}
use Rattle.station_core.specs.declared.rows.ExpectedQuery.TheVariants.{Open}
use Rattle.station_core.specs.declared.rows.ShedRow.{ShedRow}
use Rattle.carried_station.specs.Carried.{Choice, MayCarry, carried, carried_cargo, carried_moves, if_carried}
use Rattle.carried_station.proofs.Sums.{same_held, nothing_held}

-- the waybills of the carried moves
carried_waybills : (c : Choice) (book : List Move) → waybills_of (carried_moves c book) ≡ filter c.waybill (waybills_of book)
carried_waybills c book = same_rising _ _ (Rising-waybills_of (carried_moves c book)) (Rising-filter c.waybill (waybills_of book) (Rising-waybills_of book)) (λ w.
    is_in-waybills_of w (carried_moves c book)
    ∙ any-filter_same (λ (m : Move). m.awb == w) (λ m. c.waybill m.awb) (c.waybill w) (λ m e. ap c.waybill (eqb-true m.awb w e)) book
    ∙ ap (λ b. c.waybill w && b) (sym (is_in-waybills_of w book))
    ∙ sym (is_in-filter c.waybill w (waybills_of book)))

-- the row of a waybill, if it is in store
abbrev row_of : Cargo → ℕ → List ShedRow
row_of s w = if is_in_shed s w then shed_row s w ∷ [] else []

abbrev row_by : ℕ → Option Declared → Amount → Amount → List ShedRow
row_by w declared stored free =
    if nat_lt 0 stored.pieces then record {
      awb = w;
      origin = (unwrap_or declared undeclared).origin;
      destination = (unwrap_or declared undeclared).destination;
      free = free;
      built = less stored free;
      notified = (unwrap_or declared undeclared).notified;
    } ∷ [] else []

module _ (s : State) (day : ℕ) (c : Choice) (may : MayCarry s day c) where
  same_row : (w : ℕ) → c.waybill w ≡ true → row_of (carried_cargo c s.cargo) w ≡ row_of s.cargo w
  same_row w on =
      let declared : if_carried (c.waybill w) (s.cargo.declared w) ≡ s.cargo.declared w = ap (λ b. if_carried b (s.cargo.declared w)) on in
      let stored = same_held c s.cargo.book w on in_store in
      let loose = same_held c s.cargo.book w on (same_place Free) in
      λ i. row_by w (declared i) (stored i) (loose i)

  no_row : (w : ℕ) → c.waybill w ≡ false → [] ≡ row_of s.cargo w
  no_row w off = ap (λ n. if nat_lt 0 n then shed_row s.cargo w ∷ [] else []) (sym (may.finished w off).stored)

  same_rows : (ws : List ℕ) → flat_map (row_of (carried_cargo c s.cargo)) (filter c.waybill ws) ≡ flat_map (row_of s.cargo) ws
  same_rows [] = refl
  same_rows (w ∷ ws) = elim (c.waybill w) as (λ b. c.waybill w ≡ b → flat_map (row_of (carried_cargo c s.cargo)) (if b then w ∷ filter c.waybill ws else filter c.waybill ws) ≡ row_of s.cargo w ++ flat_map (row_of s.cargo) ws) [
    | true ↦ λ on. λ i. same_row w on i ++ same_rows ws i
    | false ↦ λ off. λ i. no_row w off i ++ same_rows ws i
  ] refl

  pub same_shed : shed_rows (carried c s).cargo ≡ shed_rows s.cargo
  same_shed = ap (flat_map (row_of (carried_cargo c s.cargo))) (carried_waybills c s.cargo.book) ∙ same_rows (waybills_of s.cargo.book)

  pub same_missing : (w : ℕ) → (missing (carried c s).cargo.book w).pieces ≡ (missing s.cargo.book w).pieces
  same_missing w = elim (c.waybill w) as (λ b. c.waybill w ≡ b → (missing (carried_moves c s.cargo.book) w).pieces ≡ (missing s.cargo.book w).pieces) [
    | true ↦ λ on. ap (λ a. a.pieces) (same_held c s.cargo.book w on (same_place Missing))
    | false ↦ λ off. ap (λ a. a.pieces) (nothing_held c s.cargo.book w off (same_place Missing)) ∙ sym (may.finished w off).missing
  ] refl

  closed_line : (f : FlightDate) (o : Option Expected) → IfSome o (λ e. IsTrue e.checked) → None ≡ asked_of Open f o
  closed_line f None closed = refl
  closed_line f (Some e) closed = ap (λ b. if b then None else Some e) (sym closed)

  pub same_expected : (f : FlightDate) (w : ℕ) → expected_for Open (carried c s).cargo.expected f w ≡ expected_for Open s.cargo.expected f w
  same_expected f w = elim (c.waybill w) as (λ b. c.waybill w ≡ b → asked_of Open f (if_carried b (s.cargo.expected f w)) ≡ asked_of Open f (s.cargo.expected f w)) [
    | true ↦ λ _. refl
    | false ↦ λ off. closed_line f (s.cargo.expected f w) ((may.finished w off).expected f)
  ] refl
