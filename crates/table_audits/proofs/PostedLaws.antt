-- A row of `moves` as it is posted.
use Rattle.table_audits.proofs.Common.{AreBeside, Bool, Built, Equal, Flight, FlightDate, FlightEntry, FlightKey, IsGoodRow, IsLawfulMove, IsNoted, IsPosted, IsPosting, IsSome, IsSpotOf, List, Move, NamesFlight, None, OnFlight, Option, Outbound, Place, Plain, Some, Spot, Waybill, [], and_from, and_parts, ap, ap₂, are_flight_columns, arith, cargo_in, columns_again, columns_of, cond, entries, false, flight_cmp, flight_date_of, flight_entry, flight_in, flight_key, flight_same, get, get_or, has_waybill, int_eq, ints, is_built, is_day, is_designator, is_fit_move, is_flight_text, is_move_row, is_pair, is_within, length, listed_in, map, move_by, nat_tests, natural, negsuc, none_is, option_map, outbound_by, place_code, pos, posting_in, refl, slice_get, some_is, subst, sym, true, true≢false, ℕ, ℤ, ◌&&◌, ◌<◌, ◌==◌, ◌||◌, ◌∙◌, ◌∷◌, ◌≡◌, ◌≤◌}
use Rattle.shipment_machine.specs.Cargo.{Cargo}
use Rattle.station_schema.specs.Tables as table
use Rattle.table_audits.proofs.DeclaredLaws.{declared_from, declared_back}
use Rattle.table_audits.proofs.FlightRows.{flight_at}
use Rattle.table_audits.proofs.Lists.{element, got_map}
use Rattle.table_audits.proofs.Listed.{IsNamed, row_named, noted_row}
use Rattle.table_audits.proofs.Places.{read_names}

-- ---- the flight of a row

-- the row of the flight that a move's row has, by its place
module _ (t : table.Tables) (ws : List Waybill) (fs : List FlightEntry) (by : AreBeside t ws (map flight_entry fs)) (row : table.Move) (i : ℕ) (low : i < length fs)
    (same : (d : FlightEntry) → flight_cmp (flight_entry (get_or fs i d)).0 (row.flight, row.fday) ≡ Equal) where
  flight_found : (g : FlightDate) → flight_date_of row.flight row.fday ≡ Some g → IsSpotOf t (Built g) (OnFlight i)
  flight_found g names =
      let x = element fs i low in
      let key : (flight_entry x.0).0 ≡ (row.flight, row.fday) = flight_same (flight_entry x.0).0 (row.flight, row.fday) (ap (λ y. flight_cmp (flight_entry y).0 (row.flight, row.fday)) (sym (x.2 x.0)) ∙ same x.0) in
      let here : slice_get (entries t.flights) i ≡ Some (flight_entry x.0) = ap (λ l. slice_get l i) by.flights_are ∙ got_map flight_entry fs i x.0 x.1 in
      let one : IsNamed (flight_entry x.0) = row_named t.flights by.within i (flight_entry x.0) here in
      let it : flight_in (flight_entry x.0) ≡ g = some_is (flight_in (flight_entry x.0)) g (sym one.date ∙ ap (λ (k : FlightKey). flight_date_of k.0 k.1) key ∙ names) in
      subst (λ (f : FlightDate). IsSpotOf t (Built f) (OnFlight i)) it (record {
        spot_is = (flight_in (flight_entry x.0), refl, got_map flight_in (entries t.flights) i (flight_entry x.0) here);
        noted = subst (λ (o : Option Outbound). IsSome o) (sym (noted_row t.flights by.within i (flight_entry x.0) here)) refl;
      })

  pub found_spot : (p : Place) → is_built p ≡ true → NamesFlight p (flight_date_of row.flight row.fday) → IsSpotOf t p (OnFlight i)
  found_spot (Built g) built names = flight_found g names
  found_spot _ built names = absurd (true≢false (sym built))

no_outbound : (b : Bool) (o : Option Flight) → o ≡ None → IsSome (cond b (option_map outbound_by o) None) → ⊥
no_outbound true None e is = true≢false (sym is)
no_outbound true (Some x) e is = true≢false (sym (none_is x (sym e)))
no_outbound false o e is = true≢false (sym is)

no_text : (text : List ℕ) (day : ℤ) → (length text == 0) ≡ true → flight_date_of text day ≡ None
no_text [] day h = refl
no_text (b ∷ text) day h = absurd (let no : ⊥ = grind (arith, nat_tests) in no)

key_of : (text : List ℕ) (day : ℤ) (f : FlightDate) → are_flight_columns text day ≡ true → flight_date_of text day ≡ Some f → flight_key f ≡ (text, day)
key_of text day f columns is = go ((length text == 0) && int_eq day (pos 0)) refl columns
  where
    go : (b : Bool) → ((length text == 0) && int_eq day (pos 0)) ≡ b → (b || (is_flight_text text && is_day day)) ≡ true → flight_key f ≡ (text, day)
    go true e h = absurd (true≢false (sym (none_is f (sym (no_text text day (and_parts (length text == 0) (int_eq day (pos 0)) e).0) ∙ is))))
    go false e h =
        let a = and_parts (is_flight_text text) (is_day day) h in
        let g = flight_at text day a.0 a.1 in
        let key : flight_key g.0 ≡ (text, day) = ap₂ (λ x y. (x, y)) g.2 g.3 in
        let one : g.0 ≡ f = some_is g.0 f (sym (columns_again g.0 g.1) ∙ ap (λ (k : FlightKey). flight_date_of k.0 k.1) key ∙ is) in
        ap flight_key (sym one) ∙ key

pub lost_spot : (t : table.Tables) (row : table.Move) → are_flight_columns row.flight row.fday ≡ true → get t.flights (row.flight, row.fday) ≡ None
    → (p : Place) → is_built p ≡ true → NamesFlight p (flight_date_of row.flight row.fday) → IsNoted (cargo_in t) p → ⊥
lost_spot t row columns none (Built g) built names noted =
    no_outbound (is_designator g.flight) (get t.flights (flight_key g)) (ap (get t.flights) (key_of row.flight row.fday g columns names) ∙ none) noted
lost_spot t row columns none _ built names noted = true≢false (sym built)

-- ---- a place that isn't built

noted_plain : (s : Cargo) (p : Place) → is_built p ≡ false → IsNoted s p
noted_plain s (Built f) h = absurd (true≢false h)
noted_plain s _ h = tt

pub plain_spot : (t : table.Tables) (p : Place) (code : ℤ) → is_built p ≡ false → code ≡ pos (place_code p) → IsSpotOf t p (Plain code)
plain_spot t p code not_built is = record { spot_is = (not_built, is); noted = noted_plain (cargo_in t) p not_built }

-- ---- a row

within_natural : (low high : ℕ) (z : ℤ) → is_within low high z ≡ true → (low ≤ natural z) × (natural z ≤ high)
within_natural low high (pos n) h = (grind (arith, ints), grind (arith, ints))
within_natural low high (negsuc n) h = absurd (let no : ⊥ = grind (arith, ints) in no)

module _ (t : table.Tables) (ws : List Waybill) (fs : List (FlightKey × Flight)) (by : AreBeside t ws fs) (row : table.Move) (m : Move) (is : m ≡ move_by row) where
  module _ (within : is_move_row row ≡ true) where
    pub read_columns : are_flight_columns row.flight row.fday ≡ true
    read_columns = (columns_of row within).columns

    pub names_from : NamesFlight m.from (flight_date_of row.flight row.fday)
    names_from = subst (λ (x : Move). NamesFlight x.from (flight_date_of row.flight row.fday)) (sym is) (read_names row.src (flight_date_of row.flight row.fday) (columns_of row within).from)

    pub names_to : NamesFlight m.to (flight_date_of row.flight row.fday)
    names_to = subst (λ (x : Move). NamesFlight x.to (flight_date_of row.flight row.fday)) (sym is) (read_names row.dst (flight_date_of row.flight row.fday) (columns_of row within).to)

    pub posted_row : is_fit_move ws m ≡ true → (from to : Spot) → IsSpotOf t m.from from → IsSpotOf t m.to to → IsPosted t row (posting_in m from to)
    posted_row h from to a b =
        let fit = and_parts (is_pair m.from m.to) (has_waybill ws (pos m.awb)) h in
        let pieces = within_natural 1 9999 row.pieces (columns_of row within).pieces in
        let number : natural row.pieces ≡ m.pieces = ap (λ (x : Move). x.pieces) (sym is) in
        let named : flight_date_of row.flight row.fday ≡ m.flight = ap (λ (x : Move). x.flight) (sym is) in
        record {
          good = record {
            within = within;
            lawful = subst (IsLawfulMove (cargo_in t)) is (record {
              pair = fit.0;
              some = subst (λ n. 1 ≤ n) number pieces.0;
              not_more = subst (λ n. n ≤ 9999) number pieces.1;
              declared = declared_from t.waybills m.awb (ap (λ l. has_waybill l (pos m.awb)) by.waybills_are ∙ fit.1);
              noted_from = a.noted;
              noted_to = b.noted;
              names_from = subst (NamesFlight m.from) named names_from;
              names_to = subst (NamesFlight m.to) named names_to;
            });
          };
          posted = subst (IsPosting (listed_in t) (posting_in m from to)) is (record { awb_is = refl; from_is = a.spot_is; to_is = b.spot_is; pieces_is = refl; tenths_is = refl });
        }

  lawful_there : IsGoodRow t row → IsLawfulMove (cargo_in t) m
  lawful_there good = subst (IsLawfulMove (cargo_in t)) (sym is) good.lawful

  pub good_fits : IsGoodRow t row → is_fit_move ws m ≡ true
  good_fits good =
      let law = lawful_there good in
      and_from (is_pair m.from m.to) (has_waybill ws (pos m.awb)) law.pair (ap (λ l. has_waybill l (pos m.awb)) (sym by.waybills_are) ∙ declared_back t.waybills m.awb law.declared)

  pub nowhere_from : (IsNoted (cargo_in t) m.from → ⊥) → IsGoodRow t row → ⊥
  nowhere_from none good = none (lawful_there good).noted_from

  pub nowhere_to : (IsNoted (cargo_in t) m.to → ⊥) → IsGoodRow t row → ⊥
  nowhere_to none good = none (lawful_there good).noted_to
