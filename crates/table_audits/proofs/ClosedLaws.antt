-- Flights are closed exactly where they departed, row by row.
use Rattle.table_audits.proofs.Common.{AllByRecursion, AreDepartures, AreDistinct, Bool, Built, Departed, Flight, FlightDate, FlightEntry, FlightKey, IsDeparted, IsLawfulMove, IsNoted, IsSome, IsTrue, List, Move, None, Option, Outbound, Place, Some, Tables, [], all_from_test, and_parts, ap, ap₂, at_key, book_in, cargo_in, cond, cond-true, departs_in, departs_with, each_entry, entries, false, flight_cmp, flight_entry, flight_in, flight_key, flight_same, flight_total, flights_in, get, is_closed, is_designator, is_false, is_flight_row, is_set, is_some, length, length-map, list_all, listed_in, map, map-map, option_map, outbound_by, refl, same-is, same_bool, same_place, subst, sym, true, true≢false, ◌||◌, ◌↔◌, ◌∙◌, ◌∷◌, ◌≡◌}
use Rattle.std.proofs.lemmas.List.{map-id}
use Rattle.table_audits.proofs.Made.{distinct}
use Rattle.table_audits.proofs.Listed.{IsNamed, named, named_by, flights_are}

-- ---- lists

each_same : {X : Type 0} (f g : X → Bool) (xs : List X) → map f xs ≡ map g xs → AllByRecursion (λ x. f x ≡ g x) xs
each_same f g [] h = tt
each_same f g (x ∷ xs) h = (cc, each_same f g xs (cc))

all_same : {X : Type 0} (f g : X → Bool) (xs : List X) → AllByRecursion (λ x. f x ≡ g x) xs → map f xs ≡ map g xs
all_same f g [] h = refl
all_same f g (x ∷ xs) h = ap₂ (λ y ys. y ∷ ys) h.0 (all_same f g xs h.1)

-- ---- flights

abbrev pub is_closed_row : FlightKey × Flight → Bool
is_closed_row row = is_set row.1.closed

module _ (t : Tables) (within : list_all is_flight_row (entries t.flights) ≡ true) where
  abbrev book : List Move
  book = book_in t.moves

  abbrev IsSameAt : FlightKey × Flight → Type 0
  IsSameAt row = is_closed_row row ≡ departs_in book (flight_in row)

  -- a flight with which a lawful move departs is noted
  noted_departing : (f : FlightDate) (moves : List Move) → AllByRecursion (IsLawfulMove (cargo_in t)) moves → departs_in moves f ≡ true → IsSome (flights_in t.flights f)
  noted_departing f [] all h = absurd (true≢false (sym h))
  noted_departing f (m ∷ moves) all h = go (departs_with f m) refl h (noted_departing f moves all.1)
    where
      at : (q : Place) → IsNoted (cargo_in t) q → same_place q (Built f) ≡ true → IsSome (flights_in t.flights f)
      at (Built g) noted e = subst (λ (d : FlightDate). IsSome (flights_in t.flights d)) (same-is g f e) noted
      at _ noted e = absurd (true≢false (sym e))

      go : (b : Bool) → departs_with f m ≡ b → (b || departs_in moves f) ≡ true → (departs_in moves f ≡ true → IsSome (flights_in t.flights f)) → IsSome (flights_in t.flights f)
      go true e k more = at m.from all.0.noted_from (and_parts (same_place m.from (Built f)) (same_place m.to Departed) e).0
      go false e k more = more k

  closed_is : AllByRecursion (IsLawfulMove (cargo_in t)) book → AllByRecursion IsSameAt (entries t.flights) → (f : FlightDate) → is_closed (flights_in t.flights f) ≡ departs_in book f
  closed_is lawful each f = go (is_designator f.flight) refl (get t.flights (flight_key f)) refl
    where
      none : flights_in t.flights f ≡ None → departs_in book f ≡ false
      none e = is_false (departs_in book f) (λ h. sym (sym (noted_departing f book lawful h) ∙ ap (λ (o : Option Outbound). is_some o) e))

      at : (b : Bool) (o : Option Flight) → is_designator f.flight ≡ b → get t.flights (flight_key f) ≡ o → flights_in t.flights f ≡ cond b (option_map outbound_by o) None
      at b o x y = ap₂ (λ (c : Bool) (v : Option Flight). cond c (option_map outbound_by v) None) x y

      go : (b : Bool) → is_designator f.flight ≡ b → (o : Option Flight) → get t.flights (flight_key f) ≡ o → is_closed (flights_in t.flights f) ≡ departs_in book f
      go false x o y = ap is_closed (at false o x y) ∙ sym (none (at false o x y))
      go true x None y = ap is_closed (at true None x y) ∙ sym (none (at true None x y))
      go true x (Some row) y = ap is_closed (at true (Some row) x y)
          ∙ at_key flight_cmp flight_total flight_same IsSameAt t.flights each (flight_key f) row y
          ∙ ap (departs_in book) (named_by f row x)

  each_closed : ((f : FlightDate) → IsTrue (is_closed (flights_in t.flights f)) ↔ IsTrue (departs_in book f)) → AllByRecursion IsSameAt (entries t.flights)
  each_closed law = each_entry flight_cmp flight_total IsSameAt t.flights go
    where
      go : (key : FlightKey) (row : Flight) → get t.flights key ≡ Some row → IsSameAt (key, row)
      go key row has =
          let one : IsNamed (key, row) = named (key, row) (at_key flight_cmp flight_total flight_same (λ e. is_flight_row e ≡ true) t.flights (all_from_test is_flight_row (entries t.flights) within) key row has) in
          let f : FlightDate = flight_in (key, row) in
          let seen : flights_in t.flights f ≡ Some (outbound_by row) = cond-true (is_designator f.flight) (option_map outbound_by (get t.flights (flight_key f))) None one.designator ∙ ap (option_map outbound_by) (ap (get t.flights) one.key ∙ has) in
          sym (ap is_closed seen) ∙ same_bool (is_closed (flights_in t.flights f)) (departs_in book f) (law f).0 (law f).1

  module _ (fs : List FlightEntry) (is : entries t.flights ≡ map flight_entry fs) (marks : List Bool) (departed : IsDeparted (listed_in t) book marks) where
    abbrev IsAlike : Type 0
    IsAlike = map (λ row. is_closed_row (flight_entry row)) fs ≡ map (λ mark. mark) marks

    left : map (λ row. is_closed_row (flight_entry row)) fs ≡ map is_closed_row (entries t.flights)
    left = sym (map-map is_closed_row flight_entry fs) ∙ sym (ap (map is_closed_row) is)

    right : map (λ (mark : Bool). mark) marks ≡ map (λ row. departs_in book (flight_in row)) (entries t.flights)
    right = map-id marks ∙ departed.marks_are ∙ map-map (departs_in book) flight_in (entries t.flights)

    pub closed_so : AllByRecursion (IsLawfulMove (cargo_in t)) book → (b : Bool) → (IsTrue b ↔ IsAlike) → IsTrue b ↔ AreDepartures t
    closed_so lawful b says = (
      λ h.
          let same : (f : FlightDate) → is_closed (flights_in t.flights f) ≡ departs_in book f = closed_is lawful (each_same is_closed_row (λ row. departs_in book (flight_in row)) (entries t.flights) (sym left ∙ says.0 h ∙ right)) in
          record { closed = λ f. (λ k. sym (same f) ∙ k, λ k. same f ∙ k); departed = departed.stays },
      λ law. says.1 (left ∙ all_same is_closed_row (λ row. departs_in book (flight_in row)) (entries t.flights) (each_closed law.closed) ∙ sym right),
    )

-- ---- the flights that are listed

pub listed_distinct : (t : Tables) → list_all is_flight_row (entries t.flights) ≡ true → AreDistinct (listed_in t)
listed_distinct t within = distinct (listed_in t) (entries t.flights) (flights_are t.flights within)

pub listed_long : (t : Tables) (fs : List FlightEntry) → entries t.flights ≡ map flight_entry fs → length (listed_in t) ≡ length fs
listed_long t fs is = length-map (entries t.flights) flight_in ∙ ap length is ∙ length-map fs flight_entry
