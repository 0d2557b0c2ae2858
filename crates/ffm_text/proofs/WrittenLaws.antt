-- A written manifest is read again.
use Rattle.ffm_text.proofs.Common.{AreLoads, Bool, CalendarDay, Designator, FlightLine, IfSome, IsCalendarDay, IsCargo, IsDesignator, IsFfm, IsLoad, IsPieces, IsWrittenLine, List, Load, MatchBool, None, Ok, Option, Result, Some, Unloaded, Why, [], airport_code, airport_of, and_from, and_left, and_parts, and_right, ap, append-nil, append_assoc, arith, cargo_of, codes, cond-false, cond-true, cond_both, cons_option, consignment_again, consignment_text, count_of, date_code, date_in, date_text, digits-padded, drop, eqb-true, false, ffm_lines, fields, filter_map, filter_map-append, flight_again, flight_code, flight_line_of, flight_line_text, flight_of, flight_text, has_last_line, is_airport, is_cargo_line, is_letter, is_remark, last_field, last_or, last_point, length, list_all, lt-leb, manifest_written, map, may_follow_point, nat_eq, need, not, not_from_false, option_and_then, optional_time_again, or_from, prefix_of, refl, shipment_written, slice_get, split_field, starts_with, take, true, unloading_point, ℕ, ◌%◌, ◌&&◌, ◌++◌, ◌+◌, ◌/◌, ◌==◌, ◌>>=◌, ◌∙◌, ◌∷◌, ◌≡◌}
use Rattle.imp_fields.specs.declared.fault.Why.TheVariants as why

abbrev line_of : Load → List ℕ
line_of l = consignment_text (cargo_of l)

pub cargo_line : (l : Load) → IsLoad l → IsWrittenLine (cargo_of l)
cargo_line l h =
    let total : IfSome (cargo_of l).total IsPieces =
    cond_both (l.pieces == l.declared) None (Some l.declared) (λ o. IfSome o IsPieces) (λ same. tt) (λ other. h.declared) in
    (h.awb, h.origin, h.destination, (h.pieces, h.tenths, total))

-- ---- the flight line

date_in_again : (d : CalendarDay) → IsCalendarDay d → date_in (date_text d) ≡ Some d
date_in_again d h = ap (option_and_then (λ both. Some both.0)) (optional_time_again d h)

abbrev by_fields : List (List ℕ) → Result FlightLine Why
by_fields fs = do
  sequence ← need (option_and_then count_of (slice_get fs 0)) why.Flight
  flight ← need (option_and_then flight_of (slice_get fs 1)) why.Flight
  day ← need (slice_get fs 2) why.Flight
  date ← need (date_in day) why.Date
  loaded ← need (option_and_then airport_of (slice_get fs 3)) why.Flight
  Ok (record { sequence = sequence; flight = flight; date = date; loaded = loaded })

flight_line_fields : (flight : Designator) (date : CalendarDay) (here : List ℕ) → IsDesignator flight → IsCalendarDay date → is_airport here ≡ true
    → fields (flight_line_text flight date here) ≡ codes "1" ∷ flight_text flight ∷ date_text date ∷ here ∷ []
flight_line_fields flight date here f d a =
    let F = flight_text flight in
    let D = date_text date in
    let A = codes "1/" ++ F in
    let flat : flight_line_text flight date here ≡ codes "1" ++ (47 ∷ (F ++ (47 ∷ (D ++ (47 ∷ here))))) =
    append_assoc (A ++ (47 ∷ []) ++ D) (47 ∷ []) here ∙ append_assoc (A ++ (47 ∷ [])) D (47 ∷ here)
    ∙ append_assoc A (47 ∷ []) (D ++ (47 ∷ here)) ∙ append_assoc (codes "1/") F (47 ∷ (D ++ (47 ∷ here))) in
    ap fields flat ∙ split_field (codes "1") (F ++ (47 ∷ (D ++ (47 ∷ here)))) refl
    ∙ ap (λ fs. codes "1" ∷ fs) (split_field F (D ++ (47 ∷ here)) (flight_code flight f).bytes)
    ∙ ap (λ fs. codes "1" ∷ F ∷ fs) (split_field D here (date_code date d).0.bytes)
    ∙ ap (λ fs. codes "1" ∷ F ∷ D ∷ fs) (last_field here (airport_code here a).bytes)

flight_line_again : (flight : Designator) (date : CalendarDay) (here : List ℕ) → IsDesignator flight → IsCalendarDay date → is_airport here ≡ true
    → flight_line_of (flight_line_text flight date here) ≡ Ok (record { sequence = 1; flight = flight; date = date; loaded = here })
flight_line_again flight date here f d a =
    let made : Option Designator → Option CalendarDay → Option (List ℕ) → Result FlightLine Why =
    λ x y z. need x why.Flight >>= λ flight. need y why.Date >>= λ date. need z why.Flight >>= λ loaded. Ok (record { sequence = 1; flight = flight; date = date; loaded = loaded }) in
    ap by_fields (flight_line_fields flight date here f d a)
    ∙ ap (λ x. made x (date_in (date_text date)) (airport_of here)) (flight_again flight f)
    ∙ ap (λ y. made (Some flight) y (airport_of here)) (date_in_again date d)
    ∙ ap (λ z. made (Some flight) (Some date) z) (cond-true (is_airport here) (Some here) None a)

-- ---- points of unloading

no_prefix : (p q r s a b c : ℕ) → starts_with nat_eq (a ∷ b ∷ c ∷ []) (p ∷ q ∷ r ∷ s ∷ []) ≡ false
no_prefix p q r s a b c =
    and_right (nat_eq p a) (nat_eq q b && (nat_eq r c && false)) (and_right (nat_eq q b) (nat_eq r c && false) (and_right (nat_eq r c) false refl))

point_again : (a : List ℕ) → is_airport a ≡ true → (unloading_point a ≡ Some a) × (is_cargo_line a ≡ false)
point_again [] h = absurd cc
point_again (a ∷ []) h = absurd cc
point_again (a ∷ b ∷ []) h = absurd cc
point_again (a ∷ b ∷ c ∷ []) h =
    let no = no_prefix in
    let remark : is_remark (a ∷ b ∷ c ∷ []) ≡ false =
    or_from _ _ (no 85 76 68 47 a b c) (or_from _ _ (no 68 73 77 47 a b c) (or_from _ _ (no 79 83 73 47 a b c)
    (or_from _ _ (no 83 67 73 47 a b c) (or_from _ _ (no 79 67 73 47 a b c) (or_from _ _ (no 67 79 82 47 a b c) refl))))) in
    (cond-true _ _ _ (and_from _ _ (and_from _ _ h refl) (not_from_false _ remark)), and_right _ _ refl)
point_again (a ∷ b ∷ c ∷ d ∷ rest) h = absurd (let four : length (a ∷ b ∷ c ∷ d ∷ rest) ≡ 3 = eqb-true _ _ (and_parts _ _ h).0 in omega (arith, four))

digit_is_no_letter : (n : ℕ) → is_letter (48 + n % 10) ≡ false
digit_is_no_letter n = and_left _ _ (lt-leb 65 (48 + n % 10) (omega arith))

line_is_no_point : (l : Load) → unloading_point (line_of l) ≡ None
line_is_no_point l =
    let line = line_of l in
    let two = is_letter (48 + prefix_of l.awb / 10 % 10) && (is_letter (48 + prefix_of l.awb % 10) && true) in
    let letters : list_all is_letter (take 3 line) ≡ false = and_left (is_letter (48 + prefix_of l.awb / 10 / 10 % 10)) two (digit_is_no_letter (prefix_of l.awb / 10 / 10)) in
    let airport : is_airport (take 3 line) ≡ false = and_right (length (take 3 line) == 3) (list_all is_letter (take 3 line)) letters in
    let front = and_left (is_airport (take 3 line)) (may_follow_point (drop 3 line)) airport in
    cond-false (is_airport (take 3 line) && may_follow_point (drop 3 line) && not (is_remark line)) (Some (take 3 line)) None (and_left (is_airport (take 3 line) && may_follow_point (drop 3 line)) (not (is_remark line)) front)

line_is_cargo : (l : Load) → is_cargo_line (line_of l) ≡ true
line_is_cargo l = and_from _ _ (digits-padded 3 (prefix_of l.awb)) refl

last_point_stays : (above : List (List ℕ)) (l : Load) → last_point (above ++ line_of l ∷ []) ≡ last_point above
last_point_stays above l =
    ap (last_or None) (filter_map-append unloading_point above (line_of l ∷ []) ∙ ap (λ o. filter_map unloading_point above ++ cons_option o []) (line_is_no_point l) ∙ append-nil (filter_map unloading_point above))

-- ---- the cargo

match_true : (b : Bool) (P Q : Type 0) → b ≡ true → P → MatchBool b P Q
match_true true P Q e p = p
match_true false P Q e p = absurd cc

unloaded : List ℕ → Load → Unloaded
unloaded unload l = record { unload = unload; shipment = shipment_written (cargo_of l) }

cargo_again : (unload : List ℕ) (above : List (List ℕ)) (loads : List Load) → last_point above ≡ Some unload → AreLoads loads
    → IsCargo above (map line_of loads ++ codes "LAST" ∷ []) (map (unloaded unload) loads)
unfolding unloaded
cargo_again unload above [] point h = (refl, tt)
cargo_again unload above (l ∷ loads) point h =
    match_true (is_cargo_line (line_of l)) _ _ (line_is_cargo l)
    (consignment_again (cargo_of l) (cargo_line l h.0), point, cargo_again unload (above ++ line_of l ∷ []) loads (last_point_stays above l ∙ point) h.1)

not_cargo_first : (line : List ℕ) (below : List (List ℕ)) (cargo : List Unloaded) → is_cargo_line line ≡ false → IsCargo (line ∷ []) below cargo → IsCargo [] (line ∷ below) cargo
not_cargo_first line below [] e h = (not_from_false _ e, h)
not_cargo_first line below (u ∷ cargo) e h = match_false (is_cargo_line line) _ _ e h
  where
    match_false : (b : Bool) (P Q : Type 0) → b ≡ false → Q → MatchBool b P Q
    match_false true P Q e q = absurd cc
    match_false false P Q e q = q

has_last : (lines : List (List ℕ)) → has_last_line (lines ++ codes "LAST" ∷ []) ≡ true
has_last [] = refl
has_last (line ∷ []) = refl
has_last (line ∷ next ∷ lines) = has_last (next ∷ lines)

pub read_again : (flight : Designator) (date : CalendarDay) (here unload : List ℕ) (loads : List Load) → IsDesignator flight → IsCalendarDay date → is_airport here ≡ true → is_airport unload ≡ true → AreLoads loads
    → IsFfm (ffm_lines flight date here unload loads) (manifest_written flight date here unload loads)
unfolding unloaded
read_again flight date here unload loads f d a u h =
    let point = point_again unload u in
    let above : last_point (unload ∷ []) ≡ Some unload = ap (λ o. last_or None (cons_option o [])) point.0 in (
      refl,
      flight_line_again flight date here f d a,
      not_cargo_first unload (map line_of loads ++ codes "LAST" ∷ []) (map (unloaded unload) loads) point.1 (cargo_again unload (unload ∷ []) loads above h),
      has_last (unload ∷ map line_of loads),
    )
