-- What the rows say of a waybill's balances.
use Rattle.std.proofs.Common.{◌≡◌, ℕ, ℤ, pos, ◌-ℤ◌, false, List, Some, None, option_map, refl, sym, ap, ◌∙◌}
use Rattle.row_codec.proofs.Common.{AreBuilds, AreCounts, Build, Built, Count, FinMap, FlightDate, IsTrue, Move, Place, Tally, build_cmp, build_here, build_row, count_cmp, count_here, count_row, drawn, flight_text, get, held, is_built, is_designator, moved_in, moved_out, pieces_of, place_code, running, running_in, running_on, same_place, tenths_of, unless_nothing}
use Rattle.shipment_machine.specs.Book.{amount}
use Rattle.shipment_machine.specs.declared.moves.Amount.{Amount}
use Rattle.row_codec.proofs.Tests.{left, left_over}
use Rattle.row_codec.proofs.Storing.{no_sum, sum_there, zero_tally}
use Rattle.row_codec.proofs.Codes.{plain_again}
use Rattle.row_codec.proofs.TotalsWritten.{written_again}

module _ (book : List Move) (w : ℕ) (place : Place) where
  -- by the balance of the place
  pub held_is : (r : Tally) (a : Amount) → r ≡ running book w place → r.pieces ≡ pos a.pieces → r.tenths ≡ pos a.tenths → a ≡ held book w (same_place place)
  held_is r a is p t =
      let pieces = left (moved_in pieces_of book w (same_place place)) (moved_out pieces_of book w (same_place place)) a.pieces (sym (ap (λ (x : Tally). x.pieces) is) ∙ p) in
      let tenths = left (moved_in tenths_of book w (same_place place)) (moved_out tenths_of book w (same_place place)) a.tenths (sym (ap (λ (x : Tally). x.tenths) is) ∙ t) in
      λ i. record { pieces = pieces i; tenths = tenths i }

  pub drawn_is : (r : Tally) (a : Amount) → r ≡ running book w place → pos 0 -ℤ r.pieces ≡ pos a.pieces → pos 0 -ℤ r.tenths ≡ pos a.tenths → a ≡ drawn book w (same_place place)
  drawn_is r a is p t =
      let pieces = left_over (moved_in pieces_of book w (same_place place)) (moved_out pieces_of book w (same_place place)) a.pieces (sym (ap (λ (x : Tally). pos 0 -ℤ x.pieces) is) ∙ p) in
      let tenths = left_over (moved_in tenths_of book w (same_place place)) (moved_out tenths_of book w (same_place place)) a.tenths (sym (ap (λ (x : Tally). pos 0 -ℤ x.tenths) is) ∙ t) in
      λ i. record { pieces = pieces i; tenths = tenths i }

module _ (counts : FinMap count_cmp Count) (book : List Move) (are : AreCounts counts book) (w : ℕ) (place : Place) (plain : is_built place ≡ false) (code : ℤ) (is_code : code ≡ pos (place_code place)) where
  at_code : get counts (pos w, code) ≡ option_map count_row (unless_nothing (running book w place))
  at_code = ap (λ z. get counts (pos w, z)) is_code ∙ are (pos w, pos (place_code place)) ∙ ap (count_here (running book) w) (plain_again place plain)

  pub sum_told : (t : Tally) → Some t ≡ option_map running_in (get counts (pos w, code)) → t ≡ running book w place
  sum_told = sum_there count_row running_in (λ r. refl) (running book w place) (get counts (pos w, code)) at_code

  pub sum_none : None ≡ option_map running_in (get counts (pos w, code)) → zero_tally ≡ running book w place
  sum_none = no_sum count_row running_in (λ r. refl) (running book w place) (get counts (pos w, code)) at_code

  pub held_nothing : None ≡ option_map running_in (get counts (pos w, code)) → amount 0 0 ≡ held book w (same_place place)
  held_nothing found = held_is book w place zero_tally (amount 0 0) (sum_none found) refl refl

  pub drawn_nothing : None ≡ option_map running_in (get counts (pos w, code)) → amount 0 0 ≡ drawn book w (same_place place)
  drawn_nothing found = drawn_is book w place zero_tally (amount 0 0) (sum_none found) refl refl

module _ (builds : FinMap build_cmp Build) (book : List Move) (are : AreBuilds builds book) (w : ℕ) (f : FlightDate) (designator : IsTrue (is_designator f.flight)) where
  pub at_flight : get builds (flight_text f.flight, (pos f.day, pos w)) ≡ option_map build_row (unless_nothing (running book w (Built f)))
  at_flight = are (flight_text f.flight, (pos f.day, pos w)) ∙ ap (build_here (running book) f.day w) (written_again f.flight designator)

  pub carried_told : (t : Tally) → Some t ≡ option_map running_on (get builds (flight_text f.flight, (pos f.day, pos w))) → t ≡ running book w (Built f)
  carried_told = sum_there build_row running_on (λ r. refl) (running book w (Built f)) _ at_flight

  pub carried_none : None ≡ option_map running_on (get builds (flight_text f.flight, (pos f.day, pos w))) → zero_tally ≡ running book w (Built f)
  carried_none = no_sum build_row running_on (λ r. refl) (running book w (Built f)) _ at_flight
