-- The flights that rows of `flight` name.
use Rattle.table_audits.proofs.Common.{AllByRecursion, AreFlightsOf, FinMap, Flight, FlightDate, FlightKey, IsAscending, Less, List, None, Option, Some, [], and_parts, ap, ap₂, ascending-map, ascending_from_map, columns_again, cond-true, each_entry, entries, entries_rise, flight_cmp, flight_date_of, flight_in, flight_key, flight_total, flights_in, flights_of, get, is_designator, is_flight_row, list_all, map, nowhere, option_map, outbound_by, refl, slice_get, subst, sym, true, ℕ, ◌∙◌, ◌∷◌, ◌≡◌}
use Rattle.std.specs.Option.{unwrap_or}
use Rattle.table_audits.proofs.FlightRows.{flight_at}
use Rattle.sqlite_keyed.proofs.ListLemmas.{all-slice_get}

-- a row within range names a flight, under whose key it stands
pub record IsNamed (row : FlightKey × Flight) : Type 0 where
  pub designator : is_designator (flight_in row).flight ≡ true
  pub key : flight_key (flight_in row) ≡ row.0
  pub date : flight_date_of row.0.0 row.0.1 ≡ Some (flight_in row)

pub named_by : (f : FlightDate) (v : Flight) → is_designator f.flight ≡ true → flight_in (flight_key f, v) ≡ f
named_by f v is = ap (λ (o : Option FlightDate). unwrap_or o nowhere) (columns_again f is)

pub named : (row : FlightKey × Flight) → is_flight_row row ≡ true → IsNamed row
named row fits =
    let a = and_parts _ _ (and_parts _ _ (and_parts _ _ fits).0).0 in
    let f = flight_at row.0.0 row.0.1 a.0 a.1 in
    let key : flight_key f.0 ≡ row.0 = ap₂ (λ x y. (x, y)) f.2 f.3 in
    subst (λ (k : FlightKey). IsNamed (k, row.1)) key (itself f.0 f.1)
  where
    itself : (f : FlightDate) → is_designator f.flight ≡ true → IsNamed (flight_key f, row.1)
    itself f is = record {
      designator = ap (λ (g : FlightDate). is_designator g.flight) (named_by f row.1 is) ∙ is;
      key = ap flight_key (named_by f row.1 is);
      date = columns_again f is ∙ ap (λ (g : FlightDate). Some g) (sym (named_by f row.1 is));
    }

each_named : (rows : List (FlightKey × Flight)) → list_all is_flight_row rows ≡ true → AllByRecursion IsNamed rows
each_named [] all = tt
each_named (row ∷ rows) all = (named row (and_parts (is_flight_row row) (list_all is_flight_row rows) all).0, each_named rows (and_parts (is_flight_row row) (list_all is_flight_row rows) all).1)

same_keys : (rows : List (FlightKey × Flight)) → AllByRecursion IsNamed rows → map flight_key (flights_of rows) ≡ map (λ (row : FlightKey × Flight). row.0) rows
same_keys [] all = refl
same_keys (row ∷ rows) all = ap₂ (λ k (ks : List FlightKey). k ∷ ks) all.0.key (same_keys rows all.1)

designators : (rows : List (FlightKey × Flight)) → AllByRecursion IsNamed rows → AllByRecursion (λ (f : FlightDate). is_designator f.flight ≡ true) (flights_of rows)
designators [] all = tt
designators (row ∷ rows) all = (all.0.designator, designators rows all.1)

module _ (m : FinMap flight_cmp Flight) (all : list_all is_flight_row (entries m) ≡ true) where
  each : AllByRecursion IsNamed (entries m)
  each = each_named (entries m) all

  keys : map flight_key (flights_of (entries m)) ≡ map (λ (row : FlightKey × Flight). row.0) (entries m)
  keys = same_keys (entries m) each

  pub flights_are : AreFlightsOf (flights_of (entries m)) (entries m)
  flights_are = record {
    keys = keys;
    each = designators (entries m) each;
    rising = ascending_from_map (λ a b. flight_cmp a b ≡ Less) flight_key (flights_of (entries m))
        (subst (IsAscending (λ a b. flight_cmp a b ≡ Less)) (sym keys) (ascending-map (λ a b. flight_cmp a b ≡ Less) (λ (row : FlightKey × Flight). row.0) (entries m) (entries_rise flight_cmp flight_total m)));
  }

  -- what is noted of the flight of a row
  pub noted_row : (i : ℕ) (row : FlightKey × Flight) → slice_get (entries m) i ≡ Some row → flights_in m (flight_in row) ≡ Some (outbound_by row.1)
  noted_row i row is =
      let one : IsNamed row = all-slice_get IsNamed (entries m) i row is each in
      let found : get m row.0 ≡ Some row.1 = all-slice_get (λ (e : FlightKey × Flight). get m e.0 ≡ Some e.1) (entries m) i row is
      (each_entry flight_cmp flight_total (λ e. get m e.0 ≡ Some e.1) m (λ k v has. has)) in
      cond-true (is_designator (flight_in row).flight) (option_map outbound_by (get m (flight_key (flight_in row)))) None one.designator
      ∙ ap (option_map outbound_by) (ap (get m) one.key ∙ found)

  pub row_named : (i : ℕ) (row : FlightKey × Flight) → slice_get (entries m) i ≡ Some row → IsNamed row
  row_named i row is = all-slice_get IsNamed (entries m) i row is each
