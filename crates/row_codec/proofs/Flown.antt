-- The rows of a flight are the moves of the flight.
use Rattle.row_codec.proofs.Common.{Bool, Built, Delivered, Departed, FlightDate, Free, Hand, List, Missing, None, Option, Some, Surplus, Transferred, [], and_parts, ap, ap₂, are_flight_columns, arith, bytes_cmp, bytes_eq-true, eq_by_cmp, false, false_from_ne_true, flight_date_of, flight_text, if◌then◌else◌, int_eq, ints, is_day, is_designator, is_eq-slice_cmp, is_flight_text, is_flown, is_move_row, is_named, is_of_flight, length, move_by, natural, place_of, plain_place, pos, refl, subst, sym, texts_total, true, true≢false, ℕ, ℤ, ◌&&◌, ◌==◌, ◌||◌, ◌∙◌, ◌∷◌, ◌≡◌}
use Rattle.std.specs.Option.{unwrap_or, option_map}
use Rattle.sqlite_typed.proofs.TestLemmas.{turn_eq}
use Rattle.shipment_machine.specs.Book.{same_place}
use Rattle.station_schema.specs.Tables.{Move}
use Rattle.row_codec.proofs.FlightKeys.{read_again, tied_text}
use Rattle.row_codec.proofs.Noted.{day_again, flight_of_row}
use Rattle.row_codec.proofs.MoveRows.{columns_of}

-- a place that isn't built isn't built for a flight
unbuilt : (f : FlightDate) (a b c d e g h : Bool)
    → same_place (Built f) (unwrap_or (if a then Some Hand else if b then Some Surplus else if c then Some Free else if d then Some Departed else if e then Some Delivered
    else if g then Some Missing else if h then Some Transferred else None) Hand) ≡ false
unbuilt f false false false false false false false = refl
unbuilt f _ _ _ _ _ _ _ = refl

-- the place of a code is built for a flight only if the columns name the flight
built_for : (f : FlightDate) (code : ℤ) (o : Option FlightDate) → same_place (Built f) (unwrap_or (place_of code o) Hand) ≡ (int_eq code (pos 3) && is_named f o)
built_for f code o = go (int_eq code (pos 3)) o
  where
    go : (b : Bool) (o : Option FlightDate) → same_place (Built f) (unwrap_or (if b then option_map Built o else plain_place code) Hand) ≡ (b && is_named f o)
    go true None = refl
    go true (Some g) = refl
    go false o = unbuilt f _ _ _ _ _ _ _

either : (a b x : Bool) → (a && x || b && x || x) ≡ x
either a b x = grind arith

-- a move is of a flight if its columns name it
named_only : (f : FlightDate) (row : Move) → is_of_flight f (move_by row) ≡ is_named f (flight_date_of row.flight row.fday)
named_only f row =
    let o : Option FlightDate = flight_date_of row.flight row.fday in
    ap₂ (λ a b. a || b || is_named f o) (built_for f row.src o) (built_for f row.dst o)
    ∙ either (int_eq row.src (pos 3)) (int_eq row.dst (pos 3)) (is_named f o)

-- columns that name a flight have its text and its day
written_columns : (text : List ℕ) (day : ℤ) (g : FlightDate) → are_flight_columns text day ≡ true → flight_date_of text day ≡ Some g → (is_flight_text text ≡ true) × (day ≡ pos (natural day))
written_columns [] day g h read = absurd (cc)
written_columns (c ∷ cs) day g h read =
    let some : (length (c ∷ cs) == 0) ≡ false = grind (arith) in
    let both = and_parts (is_flight_text (c ∷ cs)) (is_day day) (subst (λ b. (b && int_eq day (pos 0) || is_flight_text (c ∷ cs) && is_day day) ≡ true) some h) in
    (both.0, day_again _ _ day both.1)

turned : (a b : ℕ) → (a == b) ≡ int_eq (pos b) (pos a)
turned a b = grind (arith, ints)

flown_as : (f : FlightDate) → is_designator f.flight ≡ true → (text : List ℕ) (day : ℤ) → are_flight_columns text day ≡ true
    → is_named f (flight_date_of text day) ≡ (eq_by_cmp bytes_cmp text (flight_text f.flight) && int_eq day (pos f.day))
flown_as f is text day columns = go (flight_date_of text day) refl
  where
    unread : flight_date_of text day ≡ None → eq_by_cmp bytes_cmp text (flight_text f.flight) ≡ true → true ≡ false
    unread read same =
        let here : text ≡ flight_text f.flight = bytes_eq-true _ _ (sym (is_eq-slice_cmp text (flight_text f.flight)) ∙ same) in
        let some : flight_date_of text day ≡ Some (record { flight = f.flight; day = natural day }) = ap (λ b. flight_date_of b day) here ∙ ap (option_map (λ d. record { flight = d; day = natural day })) (read_again f.flight is) in
        absurd (cc)

    go : (o : Option FlightDate) → flight_date_of text day ≡ o → is_named f o ≡ (eq_by_cmp bytes_cmp text (flight_text f.flight) && int_eq day (pos f.day))
    go None read = ap (λ b. b && int_eq day (pos f.day)) (sym (false_from_ne_true _ (λ same. true≢false (unread read same))))
    go (Some g) read =
        let written = written_columns text day g columns read in
        let of = flight_of_row text day g (sym read) written.0 written.1 in
        ap₂ ◌&&◌ (sym (tied_text f.flight g.flight is of.2) ∙ turn_eq bytes_cmp texts_total (flight_text f.flight) (flight_text g.flight)) (turned f.day g.day)
        ∙ ap₂ (λ b z. eq_by_cmp bytes_cmp b (flight_text f.flight) && int_eq z (pos f.day)) (sym of.0) (sym of.1)

pub flown_moves : (f : FlightDate) → is_designator f.flight ≡ true → (row : Move) → is_move_row row ≡ true → is_of_flight f (move_by row) ≡ is_flown (flight_text f.flight) (pos f.day) row
flown_moves f is row ok = named_only f row ∙ flown_as f is row.flight row.fday (columns_of row ok).columns
