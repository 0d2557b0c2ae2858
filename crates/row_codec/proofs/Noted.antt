-- What is noted of flights and what they are to bring, as readers are given them: in the order of their rows' keys.
use Rattle.std.proofs.Common.{◌≡◌, ℕ, ◌<◌, ◌≤◌, length, ℤ, pos, negsuc, Bool, true, false, cond, ◌&&◌, Option, Some, None, option_map, List, [], ◌∷◌, map, take, drop, is_lt, int_cmp, int_eq, refl, sym, ap, ap₂, subst, ◌∙◌, true≢false, arith, Ordering, Less, Equal, Greater, T}
use Rattle.row_codec.proofs.Common.{AllByRecursion, AreExpectations, AreNoted, Designator, Expected, ExpectedKey, FinMap, Flight, FlightDate, FlightKey, IfSome, IsTrue, Means, State, Tables, and_parts, below_all, by_expectation, by_flight, bytes_cmp, bytes_eq-true, count_of, drop_while, entries, entries_sorted, eq_by_cmp, expectation_by, expected_by, expected_cmp, expected_key, false_from_ne_true, filter, find, flight_cmp, flight_date_of, flight_key, flight_of, flight_text, get, get-entries, ints, is_carrier, is_day, is_designator, is_expected_row, is_flight_row, is_flight_text, is_listed_on, is_sorted, is_within, is_written, le-leb, leb-true, list_all, nat_cmp, nat_le, natural, noted_by, ordering_then, outbound_by, same_flight_date, suffix_of, take_while, where_true, ◌>>=◌, ◌^◌}
use Rattle.std.specs.Cmp.Lexicographic.{slice_cmp}
use Rattle.std.specs.FinMap as tree
use Rattle.std.proofs.Math.Nat.{pow-le-pow_right}
use Rattle.awb_number.specs.Number.{decimal_value, is_digit, is_letter}
use Rattle.awb_number.proofs.Padded.{decimal_value_bound}
use Rattle.station_core.specs.declared.rows.Expectation.{Expectation}
use Rattle.station_core.specs.declared.rows.NotedFlight.{NotedFlight}
use Rattle.row_codec.proofs.FlightKeys.{designator_test, same_designator, same_expected, same_expected_designator, same_expected_key, same_key, same_number, tied_text}
use Rattle.row_codec.proofs.MapLaws.{each_passes}
use Rattle.shipment_machine.proofs.FlightKeys.{same-comm}
use Rattle.station_core.proofs.Asked.{are_asked}
use Rattle.station_core.specs.Readers.{asks_for, expected_for}
use Rattle.station_core.specs.declared.rows.ExpectedQuery.TheVariants.{On}

-- ---- what is read as a designator is one

bind_is : {A B : Type 0} (o : Option A) (next : A → Option B) (b : B) → (o >>= next) ≡ Some b → (a : A) × ((o ≡ Some a) × (next a ≡ Some b))
bind_is None next b h = absurd (cc)
bind_is (Some a) next b h = (a, (refl, h))

where_is : {A : Type 0} (t : Bool) (x y : A) → where_true t x ≡ Some y → (t ≡ true) × (x ≡ y)
where_is true x y h = (refl, cc)
where_is false x y h = absurd (cc)

letter : (rest : List ℕ) (suffix : Option ℕ) → suffix_of rest ≡ Some suffix → IfSome suffix (λ b. IsTrue (is_letter b))
letter [] None h = tt
letter [] (Some b) h = absurd (cc)
letter (b ∷ []) suffix h = let is = where_is (is_letter b) (Some b) suffix h in subst (λ s. IfSome s (λ c. IsTrue (is_letter c))) is.1 is.0
letter (b ∷ c ∷ rest) suffix h = absurd (cc)

count_fits : (digits : List ℕ) (n : ℕ) → count_of digits ≡ Some n → (nat_le 1 n ≡ true) × (nat_le n 9999 ≡ true)
count_fits digits n h =
    let is = where_is _ (decimal_value digits) n h in
    let low = and_parts _ _ is.0 in
    let all = and_parts _ _ low.0 in
    let most = and_parts _ _ all.0 in
    let within = decimal_value_bound digits all.1 in
    (ap (nat_le 1) (sym is.1) ∙ low.1, ap (λ k. nat_le k 9999) (sym is.1) ∙ small (length digits) (decimal_value digits) most.1 within)
  where
    small : (k v : ℕ) → nat_le k 4 ≡ true → v < 10 ^ k → nat_le v 9999 ≡ true
    small k v h less = let most : 10 ^ k ≤ 10_000 = pow-le-pow_right (omega arith) (leb-true k 4 h) in le-leb v 9999 (omega (arith, most, less))

pub is_read : (text : List ℕ) (f : Designator) → flight_of text ≡ Some f → is_designator f ≡ true
is_read text f h =
    let carrier = bind_is (where_true (is_carrier (take 2 text)) (take 2 text)) _ f h in
    let number = bind_is (count_of (take_while is_digit (drop 2 text))) _ f carrier.1.1 in
    let suffix = bind_is (suffix_of (drop_while is_digit (drop 2 text))) _ f number.1.1 in
    let made : record { carrier = carrier.0; number = number.0; suffix = suffix.0 } ≡ f = cc in
    let of_two = where_is (is_carrier (take 2 text)) (take 2 text) carrier.0 carrier.1.0 in
    let fits = count_fits (take_while is_digit (drop 2 text)) number.0 number.1.0 in
    subst (λ d. is_designator d ≡ true) made
    (designator_test (record { carrier = carrier.0; number = number.0; suffix = suffix.0 })
    (ap is_carrier (sym of_two.1) ∙ of_two.0, leb-true 1 number.0 fits.0, leb-true number.0 9999 fits.1, letter (drop_while is_digit (drop 2 text)) suffix.0 suffix.1.0))

is_so : (b : Bool) → T b → b ≡ true
is_so true h = refl
is_so false h = absurd h

-- ---- rows that are entries

module _ {K V D N W : Type 0} (key : D → K) (at : N → D) (value : N → W) (by : V → W) (may : D → Bool) where
  -- a row is of an entry
  pub record IsOf (e : K × V) (row : N) : Type 0 where
    pub key_is : e.0 ≡ key (at row)
    pub value_is : value row ≡ by e.1
    pub may_be : may (at row) ≡ true

  abbrev AreOf : List (K × V) → List N → Type 0
  AreOf [] [] = Unit {0}
  AreOf (e ∷ es) (row ∷ rows) = IsOf e row × AreOf es rows
  AreOf _ _ = ⊥

  module _ (R : K → K → Ordering) (S : D → D → Ordering) (same : D → D → Bool) (read : K × V → Option N) (fits : K × V → Bool)
      (reads : (e : K × V) (row : N) → Some row ≡ read e → fits e ≡ true → IsOf e row)
      (tied : (a b : D) → may a ≡ true → may b ≡ true → eq_by_cmp R (key a) (key b) ≡ same a b) (one : (a b : D) → may b ≡ true → same a b ≡ true → may a ≡ true)
      (orders : (a b : D) → R (key a) (key b) ≡ S a b) where
    each : (es : List (K × V)) (rows : List N) → map Some rows ≡ map read es → AllByRecursion (λ e. fits e ≡ true) es → AreOf es rows
    each [] [] is all = tt
    each (e ∷ es) (row ∷ rows) is all = (reads e row (cc) all.0, each es rows (cc) all.1)
    each _ _ is all = absurd (cc)

    found : (d : D) → may d ≡ true → (es : List (K × V)) (rows : List N) → AreOf es rows → option_map by (tree.find R (key d) es) ≡ option_map value (find (λ row. same d (at row)) rows)
    found d is [] [] h = refl
    found d is (e ∷ es) (row ∷ rows) h =
        let t = ap (eq_by_cmp R (key d)) h.0.key_is ∙ tied d (at row) is h.0.may_be in
        grind (arith, t, h.0.value_is, found d is es rows h.1)
    found d is _ _ h = absurd h

    not_found : (d : D) → may d ≡ false → (es : List (K × V)) (rows : List N) → AreOf es rows → None ≡ option_map value (find (λ row. same d (at row)) rows)
    not_found d fails [] [] h = refl
    not_found d fails (e ∷ es) (row ∷ rows) h = rw (false_from_ne_true (same d (at row)) (λ is. true≢false (sym (one d (at row) h.0.may_be is) ∙ fails))) (not_found d fails es rows h.1)
    not_found d fails _ _ h = absurd h

    below : (e : K × V) (row : N) → IsOf e row → (es : List (K × V)) (rows : List N) → AreOf es rows → below_all R e.0 es ≡ below_all S (at row) (map (λ row. (at row, value row)) rows)
    below e row is [] [] h = refl
    below e row is (d ∷ es) (other ∷ rows) h = ap₂ (λ a b. is_lt a && b) (ap₂ R is.key_is h.0.key_is ∙ orders (at row) (at other)) (below e row is es rows h.1)
    below e row is _ _ h = absurd h

    sorted : (es : List (K × V)) (rows : List N) → AreOf es rows → is_sorted R es ≡ is_sorted S (map (λ row. (at row, value row)) rows)
    sorted [] [] h = refl
    sorted (e ∷ es) (row ∷ rows) h = ap₂ ◌&&◌ (below e row h.0 es rows h.1) (sorted es rows h.1)
    sorted _ _ h = absurd h

    -- the rows of all entries are in order, and a look-up finds what the map has
    pub rows_told : (m : FinMap R V) (rows : List N) → list_all fits (entries m) ≡ true → map Some rows ≡ map read (entries m)
        → IsTrue (is_sorted S (map (λ row. (at row, value row)) rows)) × ((d : D) → cond (may d) (option_map by (get m (key d))) None ≡ option_map value (find (λ row. same d (at row)) rows))
    rows_told m rows all is =
        let are = each (entries m) rows is (each_passes fits (entries m) all) in
        (sym (sorted (entries m) rows are) ∙ is_so _ (entries_sorted m), λ d. go are d (may d) refl)
      where
        go : AreOf (entries m) rows → (d : D) (b : Bool) → may d ≡ b → cond b (option_map by (get m (key d))) None ≡ option_map value (find (λ row. same d (at row)) rows)
        go are d true may_be = ap (option_map by) (get-entries m (key d)) ∙ found d may_be (entries m) rows are
        go are d false fails = not_found d fails (entries m) rows are

pub day_again : (low high : ℕ) (z : ℤ) → is_within low high z ≡ true → z ≡ pos (natural z)
day_again low high (pos n) h = refl
day_again low high (negsuc n) h = absurd (let no : ⊥ = grind (arith, ints) in no)

number_order : (a b : ℕ) → int_cmp (pos a) (pos b) ≡ nat_cmp a b
number_order a b = grind (arith, ints)

-- ---- flights

by_flight_order : (a b : FlightDate) → flight_cmp (flight_key a) (flight_key b) ≡ by_flight a b
by_flight_order a b = ap (ordering_then (slice_cmp nat_cmp (flight_text a.flight) (flight_text b.flight))) (number_order a.day b.day)

-- the key of a flight that is read from a row within range
pub flight_of_row : (text : List ℕ) (day : ℤ) (f : FlightDate) → Some f ≡ flight_date_of text day → is_flight_text text ≡ true → day ≡ pos (natural day)
    → (text ≡ flight_text f.flight) × (day ≡ pos f.day) × (is_designator f.flight ≡ true)
flight_of_row text day f is written number = go (flight_of text) refl is written
  where
    go : (o : Option Designator) → flight_of text ≡ o → Some f ≡ option_map (λ d. record { flight = d; day = natural day }) o → is_written text o ≡ true
        → (text ≡ flight_text f.flight) × (day ≡ pos f.day) × (is_designator f.flight ≡ true)
    go None read is written = absurd (cc)
    go (Some d) read is written =
        let same : f ≡ record { flight = d; day = natural day } = cc in
        let named : f.flight ≡ d = ap (λ (x : FlightDate). x.flight) same in (
          sym (bytes_eq-true (flight_text d) text written) ∙ ap flight_text (sym named),
          number ∙ ap (λ (x : FlightDate). pos x.day) (sym same),
          ap is_designator named ∙ is_read text d read,
        )

-- and so is a row that is made of the flight
flight_made : {N : Type 0} (text : List ℕ) (day : ℤ) (make : FlightDate → N) (row : N) → Some row ≡ option_map make (flight_date_of text day) → is_flight_text text ≡ true → is_day day ≡ true
    → (f : FlightDate) × (row ≡ make f) × (text ≡ flight_text f.flight) × (day ≡ pos f.day) × (is_designator f.flight ≡ true)
flight_made {N} text day make row is written within = go (flight_date_of text day) refl is
  where
    go : (o : Option FlightDate) → flight_date_of text day ≡ o → Some row ≡ option_map make o
        → (f : FlightDate) × (row ≡ make f) × (text ≡ flight_text f.flight) × (day ≡ pos f.day) × (is_designator f.flight ≡ true)
    go None read is = absurd (cc)
    go (Some f) read is = let key = flight_of_row text day f (sym read) written (day_again _ _ day within) in (f, cc, key.0, key.1, key.2)

abbrev IsNoted : FlightKey × Flight → NotedFlight → Type 0
IsNoted = IsOf flight_key (λ (row : NotedFlight). row.flight) (λ (row : NotedFlight). row.outbound) outbound_by (λ (f : FlightDate). is_designator f.flight)

is_noted : (e : FlightKey × Flight) (row : NotedFlight) → Some row ≡ noted_by e → is_flight_row e ≡ true → IsNoted e row
is_noted e row is fits =
    let two = and_parts _ _ (and_parts _ _ (and_parts _ _ fits).0).0 in
    let of = flight_made e.0.0 e.0.1 (λ f. record { flight = f; outbound = outbound_by e.1 }) row is two.0 two.1 in
    subst (IsNoted e) (sym of.1) (record { key_is = λ i. (of.2 i, of.3 i); value_is = refl; may_be = of.4 })

-- ---- what flights are to bring

abbrev at_waybill : Expectation → FlightDate × ℕ
at_waybill row = (row.flight, row.awb)

abbrev key_of : FlightDate × ℕ → ExpectedKey
key_of d = expected_key d.0 d.1

then_then : (a b c : Ordering) → ordering_then a (ordering_then b c) ≡ ordering_then (ordering_then a b) c
then_then Less b c = refl
then_then Equal b c = refl
then_then Greater b c = refl

by_expectation_order : (a b : FlightDate × ℕ) → expected_cmp (key_of a) (key_of b) ≡ by_expectation a b
by_expectation_order a b =
    let text = slice_cmp nat_cmp (flight_text a.0.flight) (flight_text b.0.flight) in
    ap₂ (λ day awb. ordering_then text (ordering_then day awb)) (number_order a.0.day b.0.day) (number_order a.1 b.1) ∙ then_then text (nat_cmp a.0.day b.0.day) (nat_cmp a.1 b.1)

abbrev IsExpected : ExpectedKey × Expected → Expectation → Type 0
IsExpected = IsOf key_of at_waybill (λ (row : Expectation). row.expected) expected_by (λ (d : FlightDate × ℕ). is_designator d.0.flight)

is_expectation : (e : ExpectedKey × Expected) (row : Expectation) → Some row ≡ expectation_by e → is_expected_row e ≡ true → IsExpected e row
is_expectation e row is fits =
    let three = and_parts _ _ (and_parts _ _ (and_parts _ _ (and_parts _ _ fits).0).0).0 in
    let two = and_parts _ _ three.0 in
    let of = flight_made e.0.0 e.0.1.0 (λ f. record { flight = f; awb = natural e.0.1.1; expected = expected_by e.1 }) row is two.0 two.1 in
    subst (IsExpected e) (sym of.1) (record { key_is = λ i. (of.2 i, (of.3 i, day_again _ _ e.0.1.1 three.1 i)); value_is = refl; may_be = of.4 })

-- ---- what a flight is to bring

-- a row in range has an expectation
decoded : (e : ExpectedKey × Expected) → is_expected_row e ≡ true → (row : Expectation) × (Some row ≡ expectation_by e)
decoded e fits =
    let three = and_parts _ _ (and_parts _ _ (and_parts _ _ (and_parts _ _ fits).0).0).0 in
    go (flight_of e.0.0) (and_parts _ _ three.0).0
  where
    go : (o : Option Designator) → is_written e.0.0 o ≡ true
        → (row : Expectation) × (Some row ≡ option_map (λ (f : FlightDate). record { flight = f; awb = natural e.0.1.1; expected = expected_by e.1 }) (option_map (λ d. record { flight = d; day = natural e.0.1.0 }) o))
    go None written = absurd (true≢false (sym written))
    go (Some d) written = (record { flight = record { flight = d; day = natural e.0.1.0 }; awb = natural e.0.1.1; expected = expected_by e.1 }, refl)

all_decoded : (es : List (ExpectedKey × Expected)) → AllByRecursion (λ e. is_expected_row e ≡ true) es → (rows : List Expectation) × (map Some rows ≡ map expectation_by es)
all_decoded [] all = ([], refl)
all_decoded (e ∷ es) all =
    let one = decoded e all.0 in
    let rest = all_decoded es all.1 in
    (one.0 ∷ rest.0, λ i. one.1 i ∷ rest.1 i)

-- a row is the flight's where its expectation is
listed_on : (f : FlightDate) → is_designator f.flight ≡ true → (e : ExpectedKey × Expected) (row : Expectation) → IsExpected e row
    → is_listed_on (flight_text f.flight) (pos f.day) e ≡ same_flight_date f row.flight
listed_on f is e row of =
    ap (λ (k : ExpectedKey). eq_by_cmp bytes_cmp k.0 (flight_text f.flight) && int_eq k.1.0 (pos f.day)) of.key_is
    ∙ ap₂ ◌&&◌ (tied_text row.flight.flight f.flight of.may_be is) (same_number row.flight.day f.day)
    ∙ same-comm row.flight f

-- the flight's expectations are in its rows
of_flight : (f : FlightDate) → is_designator f.flight ≡ true → (es : List (ExpectedKey × Expected)) (all : List Expectation) → AllByRecursion (λ e. is_expected_row e ≡ true) es → map Some all ≡ map expectation_by es
    → map expectation_by (filter (is_listed_on (flight_text f.flight) (pos f.day)) es) ≡ map Some (filter (asks_for (On f)) all)
of_flight f is [] [] fits h = refl
of_flight f is (e ∷ es) (row ∷ all) fits h =
    let reads : Some row ≡ expectation_by e = cc in
    let behind : map Some all ≡ map expectation_by es = cc in
    let rest = of_flight f is es all fits.1 behind in
    let few = filter (is_listed_on (flight_text f.flight) (pos f.day)) es in
    ap (λ b. map expectation_by (cond b (e ∷ few) few)) (listed_on f is e row (is_expectation e row reads fits.0))
    ∙ elim (same_flight_date f row.flight) as (λ b. map expectation_by (cond b (e ∷ few) few) ≡ map Some (cond b (row ∷ filter (asks_for (On f)) all) (filter (asks_for (On f)) all))) [
      | true ↦ λ i. sym reads i ∷ rest i
      | false ↦ rest
    ]
of_flight f is _ _ fits h = absurd (cc)

one_by_one : (xs ys : List Expectation) → map Some xs ≡ map Some ys → xs ≡ ys
one_by_one [] [] h = refl
one_by_one (x ∷ xs) (y ∷ ys) h = let first : x ≡ y = cc in let rest = one_by_one xs ys (cc) in λ i. first i ∷ rest i
one_by_one _ _ h = absurd (cc)

-- ---- of tables that mean a state

module _ (t : Tables) (s : State) (means : Means t (Some s)) where
  pub noted_told : (rows : List NotedFlight) → map Some rows ≡ map noted_by (entries t.flights) → AreNoted s.cargo.flights rows
  noted_told rows is =
      let told = rows_told flight_key (λ (row : NotedFlight). row.flight) (λ (row : NotedFlight). row.outbound) outbound_by (λ (f : FlightDate). is_designator f.flight)
      flight_cmp by_flight same_flight_date noted_by is_flight_row is_noted same_key same_designator by_flight_order t.flights rows means.0.flights is in
      subst (λ (x : State). AreNoted x.cargo.flights rows) means.1 (record { rising = told.0; same = told.1 })

  pub expectations_told : (rows : List Expectation) → map Some rows ≡ map expectation_by (entries t.expected) → AreExpectations s.cargo.expected rows
  expectations_told rows is =
      let told = rows_told key_of at_waybill (λ (row : Expectation). row.expected) expected_by (λ (d : FlightDate × ℕ). is_designator d.0.flight)
      expected_cmp by_expectation same_expected expectation_by is_expected_row is_expectation same_expected_key same_expected_designator by_expectation_order t.expected rows means.0.expected is in
      subst (λ (x : State). AreExpectations x.cargo.expected rows) means.1 (record { rising = told.0; same = λ f w. told.1 (f, w) })

  -- of the rows of a flight
  pub expectations_on_told : (f : FlightDate) → is_designator f.flight ≡ true → (rows : List Expectation) → map Some rows ≡ map expectation_by (filter (is_listed_on (flight_text f.flight) (pos f.day)) (entries t.expected))
      → AreExpectations (expected_for (On f) s.cargo.expected) rows
  expectations_on_told f may rows is =
      let fits = each_passes is_expected_row (entries t.expected) means.0.expected in
      let all = all_decoded (entries t.expected) fits in
      subst (AreExpectations (expected_for (On f) s.cargo.expected)) (sym (one_by_one rows (filter (asks_for (On f)) all.0) (is ∙ of_flight f may (entries t.expected) all.0 fits all.1)))
      (are_asked (On f) s.cargo.expected all.0 (expectations_told all.0 all.1))
