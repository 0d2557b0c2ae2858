-- The rows of a flight are its loads.
use Rattle.std.proofs.Common.{◌≡◌, ℕ, ◌<◌, ◌-◌, ℤ, pos, negsuc, ◌-ℤ◌, int_lt, nat_lt, ◌==◌, Bool, true, false, cond, ◌&&◌, ◌||◌, List, [], ◌∷◌, length, map, Option, None, Some, option_map, refl, sym, ap, ap₂, subst, ◌∙◌, true≢false, arith, int_cmp, int_eq, Less}
use Rattle.row_codec.proofs.Common.{All, AllByRecursion, AreBuilds, Build, BuildKey, Built, FinMap, FlightDate, IsAscending, IsTrue, Load, Move, Tally, all_both, all_passed, all_weaker, ascending_where, build_cmp, build_row, built, bytes_cmp, entries, entries_rise, eq_by_cmp, eq_by_cmp_equiv, filter, filter-map, first_true, flight_text, get, int_cmp_total, ints, is_designator, is_loaded, is_nothing, is_on, length-map, list_any, load_on, load_said, loads_on, moved_in, moved_out, nat_tests, natural, ordering_then, pieces_in, pieces_of, row_said, running, running_on, same_place, second_true, texts_total, tied_itself, waybills_on}
use Rattle.std.proofs.lemmas.List.Elements.{All-from_recursion}
use Rattle.std.specs.Prelude.{option_to_list}
use Rattle.sqlite_keyed.proofs.ListLemmas.{all-filter, all_map, all_unmap, ascending-filter, ascending-map, map-map}
use Rattle.sqlite_keyed.proofs.SliceLemmas.{any-slice, filter-slice}
use Rattle.station_schema.proofs.Keys.{build_same}
use Rattle.station_schema.proofs.Maps.{entry_at}
use Rattle.shipment_machine.specs.Cargo.{IsAscending as Rising, is_in}
use Rattle.shipment_machine.proofs.Rising.{Rising-filter, same_rising}
use Rattle.shipment_machine.proofs.OnFlight.{Rising-waybills_of, is_in-waybills_on}
use Rattle.row_codec.proofs.Tests.{is_int, none_is}
use Rattle.row_codec.proofs.Storing.{nothing_is, sum_there}
use Rattle.row_codec.proofs.TotalsWritten.{build_eq, is_text}
use Rattle.row_codec.proofs.TotalsKept.{builds_total}
use Rattle.row_codec.proofs.Amounts.{at_flight, held_is}
use Rattle.row_codec.proofs.MapLaws.{each_entry}

-- ---- the rows of a flight

abbrev is_number : ℕ → ℤ × Tally → Bool
is_number w s = int_eq s.0 (pos w)

abbrev number_in : ℤ × Tally → ℕ
number_in s = natural s.0

abbrev IsBelow : ℤ × Tally → ℤ × Tally → Type 0
IsBelow a b = int_cmp a.0 b.0 ≡ Less

-- what is said of a waybill is what is built of it
abbrev IsLoad : List Move → FlightDate → ℤ × Tally → Type 0
IsLoad book f s = (s.0 ≡ pos (number_in s)) × (s.1 ≡ running book (number_in s) (Built f))

-- a row of the flight with pieces
abbrev is_carried : List ℕ → ℤ → BuildKey × Build → Bool
is_carried text day e = is_on text day e && is_loaded (row_said e)

on_flight : (text : List ℕ) (day : ℤ) (e : BuildKey × Build) → is_carried text day e ≡ true → (e.0.0 ≡ text) × (e.0.1.0 ≡ day)
on_flight text day e h =
    let on = first_true (is_on text day e) _ h in
    (is_text e.0.0 text (first_true _ (int_eq e.0.1.0 day) on), is_int e.0.1.0 day (second_true (eq_by_cmp bytes_cmp e.0.0 text) _ on))

above : (text : List ℕ) (day : ℤ) (a b : BuildKey × Build) → is_carried text day a ≡ true → is_carried text day b ≡ true → build_cmp a.0 b.0 ≡ Less → int_cmp a.0.1.1 b.0.1.1 ≡ Less
above text day a b on_a on_b less =
    let of_a = on_flight text day a on_a in
    let of_b = on_flight text day b on_b in
    sym (apart a.0.1.1 b.0.1.1) ∙ sym (λ i. build_cmp (of_a.0 i, (of_a.1 i, a.0.1.1)) (of_b.0 i, (of_b.1 i, b.0.1.1))) ∙ less
  where
    apart : (x y : ℤ) → build_cmp (text, (day, x)) (text, (day, y)) ≡ int_cmp x y
    apart x y = ap₂ (λ o p. ordering_then o (ordering_then p (int_cmp x y))) (tied_itself texts_total text) (tied_itself int_cmp_total day)

-- a row with pieces is of the waybill exactly if it stands under its key
of_key : (text : List ℕ) (day : ℤ) (w : ℕ) (e : BuildKey × Build) → (is_carried text day e && is_number w (row_said e)) ≡ (eq_by_cmp build_cmp (text, (day, pos w)) e.0 && is_loaded (row_said e))
of_key text day w e =
    turned (eq_by_cmp bytes_cmp e.0.0 text) (int_eq e.0.1.0 day) (is_loaded (row_said e)) (int_eq e.0.1.1 (pos w))
    ∙ ap (λ b. b && is_loaded (row_said e)) (sym (build_eq e.0.0 text e.0.1.0 day e.0.1.1 (pos w)) ∙ (eq_by_cmp_equiv builds_total).symm e.0 (text, (day, pos w)))
  where
    turned : (a b c d : Bool) → (a && b && c && d) ≡ ((a && (b && d)) && c)
    turned a b c d = grind arith

-- ---- the numbers of rows

numbers_rise : (xs : List (ℤ × Tally)) → AllByRecursion (λ s. s.0 ≡ pos (number_in s)) xs → IsAscending IsBelow xs → Rising (map number_in xs)
numbers_rise [] all up = tt
numbers_rise (s ∷ xs) all up = (
  all_map (λ n. number_in s < n) number_in xs (all_both (λ t. t.0 ≡ pos (number_in t)) (IsBelow s) (λ t. number_in s < number_in t)
      (λ t is below. less (number_in s) (number_in t) (sym (ap₂ int_cmp all.0 is) ∙ below)) xs all.1 up.0),
  numbers_rise xs all.1 up.1,
)
  where
    less : (a b : ℕ) → int_cmp (pos a) (pos b) ≡ Less → a < b
    less a b h = grind (arith, ints)

numbers_have : (w : ℕ) (xs : List (ℤ × Tally)) → AllByRecursion (λ s. s.0 ≡ pos (number_in s)) xs → is_in w (map number_in xs) ≡ list_any (is_number w) xs
numbers_have w [] all = refl
numbers_have w (s ∷ xs) all = ap₂ ◌||◌ (same (number_in s) w ∙ ap (λ z. int_eq z (pos w)) (sym all.0)) (numbers_have w xs all.1)
  where
    same : (a b : ℕ) → (a == b) ≡ int_eq (pos a) (pos b)
    same a b = grind (arith, ints, nat_tests)

pub positive : (x y : ℕ) → int_lt (pos 0) (pos x -ℤ pos y) ≡ nat_lt 0 (x - y)
positive x y = grind (arith, ints, nat_tests)

module _ (builds : FinMap build_cmp Build) (book : List Move) (f : FlightDate) (designator : IsTrue (is_designator f.flight)) (are : AreBuilds builds book) where
  abbrev carried : BuildKey × Build → Bool
  carried e = is_carried (flight_text f.flight) (pos f.day) e

  abbrev rows : List (BuildKey × Build)
  rows = filter (is_on (flight_text f.flight) (pos f.day)) (entries builds)

  abbrev said : List (ℤ × Tally)
  said = filter is_loaded (map row_said rows)

  said_is : map row_said (filter carried (entries builds)) ≡ said
  said_is = filter-slice (is_on (flight_text f.flight) (pos f.day)) row_said is_loaded (entries builds)

  one : (q : BuildKey) (v : Build) → get builds q ≡ Some v → carried (q, v) ≡ true → IsLoad book f (row_said (q, v))
  one (text, (day, pos n)) v has on =
      let of = on_flight (flight_text f.flight) (pos f.day) ((text, (day, pos n)), v) on in
      let found = sym (λ i. get builds (of.0 i, (of.1 i, pos n))) ∙ has in
      (refl, sum_there build_row running_on (λ r. refl) (running book n (Built f)) _ (at_flight builds book are n f designator) (running_on v) (sym (ap (option_map running_on) found)))
  one (text, (day, negsuc n)) v has on =
      let of = on_flight (flight_text f.flight) (pos f.day) ((text, (day, negsuc n)), v) on in
      absurd (true≢false (sym (none_is v (sym (are (text, (pos f.day, negsuc n))) ∙ sym (λ i. get builds (text, (of.1 i, negsuc n))) ∙ has))))

  pub all_true : AllByRecursion (IsLoad book f) said
  all_true = subst (AllByRecursion (IsLoad book f)) said_is (all_map (IsLoad book f) row_said (filter carried (entries builds))
      (all_both (λ e. carried e ≡ true → IsLoad book f (row_said e)) (λ e. carried e ≡ true) (λ e. IsLoad book f (row_said e)) (λ e so is. so is) (filter carried (entries builds))
      (all-filter _ carried (entries builds) (each_entry build_cmp builds_total (λ e. carried e ≡ true → IsLoad book f (row_said e)) builds one)) (all_passed carried (entries builds))))

  said_rise : IsAscending IsBelow said
  said_rise = subst (IsAscending IsBelow) said_is (ascending-map IsBelow row_said (filter carried (entries builds))
      (ascending_where (λ e. carried e ≡ true) (λ a b. build_cmp a.0 b.0 ≡ Less) (λ a b. int_cmp a.0.1.1 b.0.1.1 ≡ Less) (above (flight_text f.flight) (pos f.day))
      (filter carried (entries builds)) (all_passed carried (entries builds)) (ascending-filter _ carried (entries builds) (entries_rise build_cmp builds_total builds))))

  number_said : (w : ℕ) → list_any (is_number w) said ≡ nat_lt 0 (built book w f).pieces
  number_said w =
      let key : BuildKey = (flight_text f.flight, (pos f.day, pos w)) in
      ap (list_any (is_number w)) (sym said_is) ∙ sym (any-slice carried row_said (is_number w) (entries builds))
      ∙ (λ i. list_any (λ e. of_key (flight_text f.flight) (pos f.day) w e i) (entries builds))
      ∙ any-slice (λ (e : BuildKey × Build). eq_by_cmp build_cmp key e.0) row_said is_loaded (entries builds)
      ∙ ap (λ (es : List (BuildKey × Build)). list_any is_loaded (map row_said es)) (entry_at build_cmp builds_total build_same builds key)
      ∙ ap (λ (o : Option Build). list_any is_loaded (map row_said (option_to_list (option_map (λ v. (key, v)) o)))) (at_flight builds book are w f designator)
      ∙ go (running book w (Built f)) (is_nothing (running book w (Built f))) refl
      ∙ positive (moved_in pieces_of book w (same_place (Built f))) (moved_out pieces_of book w (same_place (Built f)))
    where
      or_no : (b : Bool) → (b || false) ≡ b
      or_no b = grind arith

      go : (r : Tally) (b : Bool) → is_nothing r ≡ b
          → list_any is_loaded (map row_said (option_to_list (option_map (λ v. ((flight_text f.flight, (pos f.day, pos w)), v)) (option_map build_row (cond b None (Some r)))))) ≡ int_lt (pos 0) r.pieces
      go r true e = ap (λ (s : Tally). int_lt (pos 0) s.pieces) (nothing_is r e)
      go r false e = or_no (int_lt (pos 0) r.pieces)

  -- ---- waybills

  all_numbers : AllByRecursion (λ s. s.0 ≡ pos (number_in s)) said
  all_numbers = all_weaker (IsLoad book f) (λ s. s.0 ≡ pos (number_in s)) (λ s h. h.0) said all_true

  numbers_are : map number_in said ≡ waybills_on book f
  numbers_are = same_rising _ _ (numbers_rise said all_numbers said_rise) (Rising-filter _ _ (Rising-waybills_of book))
      (λ w. numbers_have w said all_numbers ∙ number_said w ∙ sym (is_in-waybills_on w book f))

  -- as many as there are rows with pieces
  pub number_is : length (filter (int_lt (pos 0)) (map pieces_in rows)) ≡ length (waybills_on book f)
  number_is =
      ap length (filter-map (int_lt (pos 0)) pieces_in rows) ∙ length-map _ pieces_in ∙ sym (length-map _ row_said) ∙ sym (ap length (filter-map is_loaded row_said rows))
      ∙ sym (length-map said number_in) ∙ ap length numbers_are

  -- ---- loads

  amounts : (loads : List Load) → AllByRecursion (IsLoad book f) (map load_said loads) → loads ≡ map (load_on book f) (map (λ (l : Load). l.awb) loads)
  amounts [] all = refl
  amounts (l ∷ loads) all =
      let amount = held_is book l.awb (Built f) (record { pieces = pos l.amount.pieces; tenths = pos l.amount.tenths }) l.amount all.0.1 refl refl in
      ap₂ ◌∷◌ (λ i. record { awb = l.awb; amount = amount i }) (amounts loads all.1)

  all_said : (loads : List Load) → map load_said loads ≡ said → AllByRecursion (IsLoad book f) (map load_said loads)
  all_said loads are_said = subst (AllByRecursion (IsLoad book f)) (sym are_said) all_true

  pub loads_are : (loads : List Load) → map load_said loads ≡ said → loads ≡ loads_on book f
  loads_are loads are_said =
      let same : map (λ (l : Load). l.awb) loads ≡ waybills_on book f = sym (map-map number_in load_said loads) ∙ ap (map number_in) are_said ∙ numbers_are in
      amounts loads (all_said loads are_said) ∙ ap (map (load_on book f)) same

  -- each load is the sum of its waybill
  pub loads_sums : (loads : List Load) → map load_said loads ≡ said → All (λ (l : Load). (load_said l).1 ≡ running book l.awb (Built f)) loads
  loads_sums loads are_said = All-from_recursion (λ (l : Load). (load_said l).1 ≡ running book l.awb (Built f)) loads
      (all_weaker (λ l. IsLoad book f (load_said l)) (λ l. (load_said l).1 ≡ running book l.awb (Built f)) (λ l h. h.1) loads (all_unmap (IsLoad book f) load_said loads (all_said loads are_said)))
