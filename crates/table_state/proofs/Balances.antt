-- The waybills that are asked for, from all balances in one list or from some of their numbers.
use Rattle.table_state.proofs.Common.{AllByRecursion, AreAllBalances, Bool, Delivered, Departed, Equal, Free, Greater, Hand, Irregular, IsTrue, Less, List, Missing, Move, Place, Rising-filter, Rising-waybills_of, Some, Stored, Surplus, Transferred, WaybillBalances, WaybillQuery, [], and_parts, ap, append-nil, append_assoc, ap₂, arith, asked, balances_of, below_all, below_in, drawn, false, false≢true, filter, find, flat_map, has_moves, held, is_asked_for, is_in, is_in-filter, is_in-waybills_of, is_lt, is_sorted, map, moved_in, moved_out, nat_cmp, nat_tests, none_in, nothing, pieces_of, ranked, refl, same_place, same_rising, sum_by-cons, sym, takes, tenths_of, true, true≢false, waybills_for, waybills_of, with_balances, yes_here, zero-add, ℕ, ◌&&◌, ◌++◌, ◌+◌, ◌-◌, ◌<◌, ◌==◌, ◌||◌, ◌∙◌, ◌∷◌, ◌≡◌}
use Rattle.std.specs.Bool.{if◌then◌else◌}
use Rattle.std.specs.declared.cmp.Ordering.{Ordering}
use Rattle.std.specs.List.Sorted.{IsStrictlySortedBy}
use Rattle.std.specs.Option.{option_map, unwrap_or}
use Rattle.std.proofs.lemmas.Map.Keys.{sorted_head, sorted_tail}
use Rattle.shipment_machine.specs.Book.{amount}
use Rattle.shipment_machine.specs.declared.moves.Balances.{Balances}
use Rattle.shipment_machine.specs.Cargo.{IsAscending as Rising}

abbrev pub numbers : List WaybillBalances → List ℕ
numbers rows = map (λ row. row.awb) rows

abbrev IsRising : List WaybillBalances → Type 0
IsRising rows = IsTrue (is_sorted nat_cmp (map (λ row. (row.awb, row.balances)) rows))

abbrev looked_up : List WaybillBalances → ℕ → Balances
looked_up rows w = unwrap_or (option_map (λ row. row.balances) (find (λ row. w == row.awb) rows)) nothing

-- The numbers rise.

less_by : (x y : ℕ) (r : Ordering) → nat_cmp x y ≡ r → IsTrue (is_lt r) → x < y
less_by x y Less e h = ranked x y Less (sym e)
less_by x y Equal e h = absurd (false≢true h)
less_by x y Greater e h = absurd (false≢true h)

above_all : (w : ℕ) (rows : List WaybillBalances) → IsTrue (below_all nat_cmp w (map (λ row. (row.awb, row.balances)) rows)) → AllByRecursion (λ y. w < y) (numbers rows)
above_all w [] h = tt
above_all w (row ∷ rows) h = let parts = and_parts _ _ h in (less_by w row.awb (nat_cmp w row.awb) refl parts.0, above_all w rows parts.1)

rising_numbers : (rows : List WaybillBalances) → IsRising rows → Rising (numbers rows)
rising_numbers [] h = tt
rising_numbers (row ∷ rows) h = let parts = and_parts _ _ h in (above_all row.awb rows parts.0, rising_numbers rows parts.1)

above_by : (w : ℕ) (xs : List ℕ) → AllByRecursion (λ y. nat_cmp w y ≡ Less) xs → AllByRecursion (λ y. w < y) xs
above_by w [] h = tt
above_by w (x ∷ xs) h = (ranked w x Less (sym h.0), above_by w xs h.1)

pub rising_by : (xs : List ℕ) → IsStrictlySortedBy nat_cmp xs → Rising xs
rising_by [] h = tt
rising_by (x ∷ xs) h = (above_by x xs (sorted_head nat_cmp x xs h), rising_by xs (sorted_tail nat_cmp x xs h))

-- What a look-up finds.

no_left : (a b : Bool) → (a || b) ≡ false → a ≡ false
no_left true b e = absurd (true≢false e)
no_left false b e = refl

no_right : (a b : Bool) → (a || b) ≡ false → b ≡ false
no_right true b e = absurd (true≢false e)
no_right false b e = e

yes_there : (a b : Bool) → b ≡ true → (a || b) ≡ true
yes_there true b e = refl
yes_there false b e = e

-- past a row of another waybill
past : (w : ℕ) (row : WaybillBalances) (rows : List WaybillBalances) → (w == row.awb) ≡ false → looked_up (row ∷ rows) w ≡ looked_up rows w
past w row rows other = ap (λ (b : Bool). unwrap_or (option_map (λ (r : WaybillBalances). r.balances) (if b then Some row else find (λ (r : WaybillBalances). w == r.awb) rows)) nothing) other

here : (row : WaybillBalances) (rows : List WaybillBalances) → looked_up (row ∷ rows) row.awb ≡ row.balances
here row rows =
    let yes : (row.awb == row.awb) ≡ true = grind (arith, nat_tests) in
    ap (λ (b : Bool). unwrap_or (option_map (λ (r : WaybillBalances). r.balances) (if b then Some row else find (λ (r : WaybillBalances). row.awb == r.awb) rows)) nothing) yes

pub not_found : (w : ℕ) (rows : List WaybillBalances) → is_in w (numbers rows) ≡ false → looked_up rows w ≡ nothing
not_found w [] h = refl
not_found w (row ∷ rows) h =
    let other : (row.awb == w) ≡ false = no_left (row.awb == w) (is_in w (numbers rows)) h in
    let no : (w == row.awb) ≡ false = grind (arith, nat_tests) in
    past w row rows no ∙ not_found w rows (no_right (row.awb == w) (is_in w (numbers rows)) h)

pub known_from : (B : ℕ → Balances) (rows : List WaybillBalances) → IsRising rows → ((w : ℕ) → is_in w (numbers rows) ≡ true → B w ≡ looked_up rows w)
    → AllByRecursion (λ row. row.balances ≡ B row.awb) rows
known_from B [] up same = tt
known_from B (row ∷ rows) up same =
    let parts = and_parts _ _ up in (
      sym (same row.awb (yes_here row.awb (is_in row.awb (numbers rows))) ∙ here row rows),
      known_from B rows parts.1
          (λ w is.
          let above : row.awb < w = below_in row.awb w (numbers rows) (above_all row.awb rows parts.0) is in
          let no : (w == row.awb) ≡ false = grind (arith, nat_tests) in
          same w (yes_there (row.awb == w) (is_in w (numbers rows)) is) ∙ past w row rows no),
    )

-- A waybill without a move has nothing.

not_taken : (b c : Bool) (n : ℕ) → b ≡ false → (if b && c then n else 0) ≡ 0
not_taken true c n e = absurd (true≢false e)
not_taken false c n e = refl

none_out : (measure : Move → ℕ) (w : ℕ) (there : Place → Bool) (book : List Move) → has_moves book w ≡ false → moved_out measure book w there ≡ 0
none_out measure w there [] e = refl
none_out measure w there (m ∷ book) e = sum_by-cons (takes measure w there) m book
    ∙ ap (λ n. n + moved_out measure book w there) (not_taken (m.awb == w) (there m.from) (measure m) (no_left (m.awb == w) (has_moves book w) e))
    ∙ zero-add (moved_out measure book w there) ∙ none_out measure w there book (no_right (m.awb == w) (has_moves book w) e)

nothing_less : (a b : ℕ) → a ≡ 0 → a - b ≡ 0
nothing_less a b e = omega (arith, e)

module _ (book : List Move) (w : ℕ) (unmoved : has_moves book w ≡ false) where
  none_held : (there : Place → Bool) → held book w there ≡ amount 0 0
  none_held there = λ i. record {
    pieces = nothing_less (moved_in pieces_of book w there) (moved_out pieces_of book w there) (none_in pieces_of w there book unmoved) i;
    tenths = nothing_less (moved_in tenths_of book w there) (moved_out tenths_of book w there) (none_in tenths_of w there book unmoved) i;
  }

  none_drawn : (there : Place → Bool) → drawn book w there ≡ amount 0 0
  none_drawn there = λ i. record {
    pieces = nothing_less (moved_out pieces_of book w there) (moved_in pieces_of book w there) (none_out pieces_of w there book unmoved) i;
    tenths = nothing_less (moved_out tenths_of book w there) (moved_in tenths_of book w there) (none_out tenths_of w there book unmoved) i;
  }

  nothing_moved : balances_of book w ≡ nothing
  nothing_moved = λ i. record {
    taken = none_drawn (same_place Hand) i;
    found = none_drawn (same_place Surplus) i;
    free = none_held (same_place Free) i;
    missing = none_held (same_place Missing) i;
    departed = none_held (same_place Departed) i;
    delivered = none_held (same_place Delivered) i;
    transferred = none_held (same_place Transferred) i;
  }

-- The waybills that are asked for are those of two ascending lists that have them all.
module _ (query : WaybillQuery) (book : List Move) where
  abbrev passes : ℕ → Bool
  passes w = is_asked_for query (balances_of book w)

  pick_all : (xs : List ℕ) → flat_map (asked query book) xs ≡ map (with_balances book) (filter passes xs)
  pick_all [] = refl
  pick_all (x ∷ xs) = elim (passes x) as (λ b. (if b then with_balances book x ∷ [] else []) ++ flat_map (asked query book) xs ≡ map (with_balances book) (if b then x ∷ filter passes xs else filter passes xs)) [
    | true ↦ ap (λ rows. with_balances book x ∷ rows) (pick_all xs)
    | false ↦ pick_all xs
  ]

  alike : (p a b : Bool) → (p ≡ true → a ≡ true) → (p ≡ true → b ≡ true) → (p && a) ≡ (p && b)
  alike false a b x y = refl
  alike true a b x y = x refl ∙ sym (y refl)

  -- nothing is asked for that has nothing
  none_asked : (q : WaybillQuery) → is_asked_for q nothing ≡ false
  none_asked Stored = refl
  none_asked Irregular = refl

  in_book : (w : ℕ) → passes w ≡ true → is_in w (waybills_of book) ≡ true
  in_book w has = elim (has_moves book w) as (λ b. has_moves book w ≡ b → is_in w (waybills_of book) ≡ true) [
    | true ↦ λ e. is_in-waybills_of w book ∙ e
    | false ↦ λ e. absurd (true≢false (sym has ∙ ap (is_asked_for query) (nothing_moved book w e) ∙ none_asked query))
  ] refl

  same_asked : (xs : List ℕ) → Rising xs → ((w : ℕ) → passes w ≡ true → is_in w xs ≡ true) → flat_map (asked query book) xs ≡ waybills_for query book
  same_asked xs up all =
      pick_all xs
      ∙ ap (map (with_balances book)) (same_rising _ _ (Rising-filter passes xs up) (Rising-filter passes _ (Rising-waybills_of book))
      (λ w. is_in-filter passes w xs ∙ alike (passes w) (is_in w xs) (is_in w (waybills_of book)) (all w) (in_book w) ∙ sym (is_in-filter passes w (waybills_of book))))
      ∙ sym (pick_all (waybills_of book))

  -- from some ascending numbers that have all that is asked for
  pub from_numbers : (xs : List ℕ) → IsStrictlySortedBy nat_cmp xs → ((w : ℕ) → passes w ≡ true → is_in w xs ≡ true) → flat_map (asked query book) xs ≡ waybills_for query book
  from_numbers xs sorted all = same_asked xs (rising_by xs sorted) all

  one_row : (w : ℕ) (b : Balances) (rows : List WaybillBalances) → (if is_asked_for query b then record { awb = w; balances = b } ∷ rows else rows) ≡ (if is_asked_for query b then record { awb = w; balances = b } ∷ [] else []) ++ rows
  one_row w b rows = elim (is_asked_for query b) as (λ t. (if t then record { awb = w; balances = b } ∷ rows else rows) ≡ (if t then record { awb = w; balances = b } ∷ [] else []) ++ rows) [ true ↦ refl | false ↦ refl ]

  picked : (rows : List WaybillBalances) → AllByRecursion (λ row. row.balances ≡ balances_of book row.awb) rows
      → filter (λ row. is_asked_for query row.balances) rows ≡ flat_map (asked query book) (numbers rows)
  picked [] known = refl
  picked (row ∷ rows) known =
      one_row row.awb row.balances (filter (λ r. is_asked_for query r.balances) rows)
      ∙ (λ i. (if is_asked_for query (known.0 i) then record { awb = row.awb; balances = known.0 i } ∷ [] else []) ++ picked rows known.1 i)

  -- from all balances
  pub from_all : (rows : List WaybillBalances) → AreAllBalances book rows → filter (λ row. is_asked_for query row.balances) rows ≡ waybills_for query book
  from_all rows all =
      picked rows (known_from (balances_of book) rows all.rising (λ w _. all.same w))
      ∙ same_asked (numbers rows) (rising_numbers rows all.rising) (λ w has. elim (is_in w (numbers rows)) as (λ b. is_in w (numbers rows) ≡ b → is_in w (numbers rows) ≡ true) [
        | true ↦ λ e. e
        | false ↦ λ e. absurd (true≢false (sym has ∙ ap (is_asked_for query) (all.same w ∙ not_found w rows e) ∙ none_asked query))
      ] refl)

  numbers_listed : (xs : List ℕ) → numbers (map (with_balances book) xs) ≡ xs
  numbers_listed [] = refl
  numbers_listed (x ∷ xs) = ap (λ l. x ∷ l) (numbers_listed xs)

  -- the numbers of those that are listed
  pub all_listed : (w : ℕ) → passes w ≡ true → is_in w (numbers (waybills_for query book)) ≡ true
  all_listed w has =
      ap (λ rows. is_in w (numbers rows)) (pick_all (waybills_of book)) ∙ ap (is_in w) (numbers_listed (filter passes (waybills_of book)))
      ∙ is_in-filter passes w (waybills_of book) ∙ ap₂ (λ a b. a && b) has (in_book w has)

-- the row of a waybill whose balances were read
one_asked : (query : WaybillQuery) (book : List Move) (number w : ℕ) (b : Balances) → w ≡ number → b ≡ balances_of book w → is_asked_for query b ≡ true → record { awb = w; balances = b } ∷ [] ≡ asked query book number
one_asked query book number w b is read has =
    ap (λ t. if t then record { awb = w; balances = b } ∷ [] else []) (sym has)
    ∙ (λ i. if is_asked_for query (read i) then record { awb = w; balances = read i } ∷ [] else [])
    ∙ ap (asked query book) is

none_asked_of : (query : WaybillQuery) (book : List Move) (number w : ℕ) (b : Balances) → w ≡ number → b ≡ balances_of book w → is_asked_for query b ≡ false → [] ≡ asked query book number
none_asked_of query book number w b is read off =
    ap (λ t. if t then record { awb = w; balances = b } ∷ [] else []) (sym off)
    ∙ (λ i. if is_asked_for query (read i) then record { awb = w; balances = read i } ∷ [] else [])
    ∙ ap (asked query book) is

pub row_put : (query : WaybillQuery) (book : List Move) (number w : ℕ) (b : Balances) (rows after : List WaybillBalances) → after ≡ rows ++ record { awb = w; balances = b } ∷ [] → w ≡ number → b ≡ balances_of book w → is_asked_for query b ≡ true
    → after ≡ rows ++ asked query book number
row_put query book number w b rows after put is read has = put ∙ ap (λ l. rows ++ l) (one_asked query book number w b is read has)

pub none_put : (query : WaybillQuery) (book : List Move) (number w : ℕ) (b : Balances) (rows : List WaybillBalances) → w ≡ number → b ≡ balances_of book w → is_asked_for query b ≡ false → rows ≡ rows ++ asked query book number
none_put query book number w b rows is read off = sym (append-nil rows) ∙ ap (λ l. rows ++ l) (none_asked_of query book number w b is read off)

-- Rows that are put one after another.

pub put_next : {X Row : Type 0} (f : X → List Row) (rows after : List Row) (x : X) (ahead rest all : List X) → ahead ≡ x ∷ rest → after ≡ rows ++ f x → rows ++ flat_map f ahead ≡ flat_map f all → after ++ flat_map f rest ≡ flat_map f all
put_next f rows after x ahead rest all steps put whole =
    ap (λ l. l ++ flat_map f rest) put ∙ append_assoc rows (f x) (flat_map f rest) ∙ ap (λ l. rows ++ flat_map f l) (sym steps) ∙ whole

pub all_put : {X Row : Type 0} (f : X → List Row) (rows : List Row) (ahead all : List X) → rows ++ flat_map f ahead ≡ flat_map f all → ahead ≡ [] → rows ≡ flat_map f all
all_put f rows ahead all whole none = sym (append-nil rows) ∙ ap (λ l. rows ++ flat_map f l) (sym none) ∙ whole
