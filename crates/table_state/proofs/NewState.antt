-- The tables of a new station mean a station with nothing in it.
use Rattle.table_state.proofs.Common.{Bool, Build, BuildKey, Count, CountKey, Designator, Expected, Flight, FlightDate, HasThese, IsAscii, IsCounted, IsOpening, IsReadable, IsTrue, Kept, KnownCounts, Knows, List, Means, None, Option, Ordering, Part, Place, Shows, Some, State, Stock, StockKey, Tables, View, [], ap, arith, at_rest, build_cmp, build_here, build_in, count_cmp, count_here, count_in, empty, entries, expected_by, expected_cmp, expected_in, expected_key, false, find, flight_cmp, flight_key, flights_in, get, get-empty, holder_by, if◌then◌else◌, is_airport, is_designator, kept_by, kept_cmp, kept_text_cmp, len-empty, len-entries, length, meaning_of, natural, negsuc, opening, opening_cargo, outbound_by, part_cmp, part_key, parts_in, plain_place, pos, refl, running, same_meaning, stands_for, stock_cmp, subst, sym, true, written_flight, ℕ, ℤ, ◌∙◌, ◌∷◌, ◌≡◌}
use Rattle.std.specs.Option.{option_map, option_and_then}
use Rattle.desk_commands.proofs.Ascii.{IsAscii-airport}
use Rattle.station_core.specs.Step as step

none_of : {X : Type 0} (xs : List X) → length xs ≡ 0 → xs ≡ []
none_of [] e = refl
none_of (x ∷ xs) e = absurd (omega arith)

no_entries : {K : Type 0} (R : K → K → Ordering) (V : Type 0) → entries (empty {X = V} {R = R}) ≡ []
no_entries R V = none_of (entries (empty {X = V} {R = R})) (sym (len-entries (empty {X = V} {R = R})) ∙ len-empty R V)

either_none : {X : Type 0} (b : Bool) → ◌≡◌ {A = Option X} (if b then None else None) None
either_none true = refl
either_none false = refl

no_flights : (f : FlightDate) → flights_in empty f ≡ None
no_flights f = ap (λ o. if is_designator f.flight then option_map outbound_by o else None) (get-empty flight_cmp (flight_key f)) ∙ either_none (is_designator f.flight)

no_expected : (f : FlightDate) (w : ℕ) → expected_in empty f w ≡ None
no_expected f w = ap (λ o. if is_designator f.flight then option_map expected_by o else None) (get-empty expected_cmp (expected_key f w)) ∙ either_none (is_designator f.flight)

no_parts : (p : Part) → parts_in empty p ≡ None
no_parts p = ap (λ o. if is_designator p.flight.flight then o else None) (get-empty part_cmp (part_key p)) ∙ either_none (is_designator p.flight.flight)

nothing_counted : (w : ℕ) (place : Option Place) → count_here (running []) w place ≡ None
nothing_counted w None = refl
nothing_counted w (Some place) = refl

no_counts : (key : CountKey) → get (empty {X = Count} {R = count_cmp}) key ≡ count_in (running []) key
no_counts (pos w, code) = get-empty count_cmp (pos w, code) ∙ sym (nothing_counted w (plain_place code))
no_counts (negsuc w, code) = get-empty count_cmp (negsuc w, code)

nothing_built : (day w : ℕ) (flight : Option Designator) → build_here (running []) day w flight ≡ None
nothing_built day w None = refl
nothing_built day w (Some flight) = refl

no_builds : (key : BuildKey) → get (empty {X = Build} {R = build_cmp}) key ≡ build_in (running []) key
no_builds (text, (pos day, pos w)) = get-empty build_cmp (text, (pos day, pos w)) ∙ sym (nothing_built day w (written_flight text))
no_builds (text, (pos day, negsuc w)) = get-empty build_cmp (text, (pos day, negsuc w))
no_builds (text, (negsuc day, w)) = get-empty build_cmp (text, (negsuc day, w))

pub meaning_opening : (here : List ℕ) → meaning_of (opening here) ≡ step.opening here
meaning_opening here = λ i. record {
  cargo = record (opening_cargo here) {
    holders = λ n. option_and_then (λ (row : StockKey × Stock). holder_by row.1) (find (stands_for n) (no_entries stock_cmp Stock i));
    flights = λ f. no_flights f i;
    expected = λ f w. no_expected f w i;
    parts = λ p. no_parts p i;
  };
  kept_keys = λ key. option_map kept_by (get-empty {X = Kept} kept_cmp key i);
  kept_texts = λ text. option_map natural (get-empty {X = ℤ} kept_text_cmp text i);
}

none_some : (row : Kept) → ◌≡◌ {A = Option Kept} None (Some row) → ⊥
none_some row has = absurd (cc)

none_kept : (key : List ℕ) (row : Kept) → get (empty {X = Kept} {R = kept_cmp}) key ≡ Some row → ⊥
none_kept key row has = none_some row (sym (get-empty {X = Kept} kept_cmp key) ∙ has)

pub opening_readable : (here : List ℕ) → IsTrue (is_airport here) → IsReadable (opening here)
opening_readable here airport = record {
  station = rw airport refl;
  old = refl;
  waybills = refl;
  stock = record { rows = rw (no_entries stock_cmp Stock) refl; apart = rw (no_entries stock_cmp Stock) refl };
  flights = rw (no_entries flight_cmp Flight) refl;
  moves = refl;
  book = refl;
  expected = rw (no_entries expected_cmp Expected) refl;
  parts = rw (no_entries part_cmp (List ℕ)) refl;
  trail = refl;
  lines = refl;
  messages = refl;
  outbox = refl;
  kept = rw (no_entries kept_cmp Kept) refl;
  requests = λ key row has. absurd (none_kept key row has);
  kept_texts = rw (no_entries kept_text_cmp ℤ) refl;
  counts = no_counts;
  builds = no_builds;
}

pub opening_means : (here : List ℕ) → IsTrue (is_airport here) → Means (opening here) (Some (step.opening here))
opening_means here airport = (opening_readable here airport, meaning_opening here)

-- a store whose tables mean a state
pub shown : (v : View) (t : Tables) (s : State) (here : List ℕ) (counted : KnownCounts) (confirmed : ℕ) → Means t (Some s) → Knows here counted.sizes confirmed (at_rest s) → IsCounted counted s.cargo.book s.cargo.expected s.cargo.declared s.cargo.outbox → (v.IsSound → HasThese t v)
    → ((u : Tables) → v.is_open ≡ true → v.IsSound → v.may_leave u → u ≡ v.committed) → Shows v here counted confirmed (at_rest s)
shown v t s here counted confirmed means knows kept has settled sound =
    let these = has sound in
    let committed : v.committed ≡ t = sym these.at_rest.same ∙ these.now_is in
    record {
      holds = record {
        inside = λ e. absurd (cc);
        stands = λ _. record {
          mode = these.at_rest.mode;
          rest = λ _. these.at_rest.same;
          now = subst (λ u. Means u (Some s)) (sym these.now_is) means;
          committed = subst (λ u. Means u (Some s)) (sym committed) means;
        };
        found = λ u left. subst (λ x. Means x (Some s)) (sym (settled u these.is_open sound left ∙ committed)) means;
      };
      knows = knows;
      kept = kept;
    }

-- a store whose tables are those of a new station
pub new_has : (v : View) (here : List ℕ) → IsOpening here v → HasThese (opening here) v
new_has v here new = record { is_open = new.is_open; at_rest = new.at_rest; now_is = new.now_is }

pub new_knows : (here : List ℕ) → Knows here (record { moves = 0; lines = 0; messages = 0 }) 0 (at_rest (step.opening here))
new_knows here = record { here_is = refl; sizes_are = refl; confirmed_is = refl }

-- tables of a new station mean a station with nothing in it
pub opening_found : (here : List ℕ) → IsTrue (is_airport here) → (t : Tables) (found : Option State) → t ≡ opening here → Means t found → found ≡ Some (step.opening here)
opening_found here airport t found made means = same_meaning t (step.opening here) found (subst (λ u. Means u (Some (step.opening here))) (sym made) (opening_means here airport)) means

pub ascii_airport : (code : List ℕ) → is_airport code ≡ true → IsAscii code
ascii_airport = IsAscii-airport
