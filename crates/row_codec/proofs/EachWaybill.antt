-- The balances of all waybills: the rows of one waybill stand behind those of another.
use Rattle.std.proofs.Common.{◌≡◌, ℕ, suc, zero, ◌+◌, ◌-◌, ◌<◌, get_or, length, ℤ, pos, ◌==◌, Bool, true, false, cond, List, [], ◌∷◌, ◌++◌, take, drop, map, Option, Some, None, option_map, int_eq, refl, sym, ap, subst, ◌∙◌, arith, Less}
use Rattle.row_codec.proofs.Common.{AllByRecursion, AreAllBalances, AreCounts, Count, CountKey, CountRow, Delivered, Departed, FinMap, Free, Hand, IsAscending, Missing, Move, Surplus, Tally, Transferred, all-append, all_weaker, ascending-append, ascending_from_map, ascending_weaker, balances_of, below_all, count_cmp, count_meant, count_total, counts_for, drop-drop, drop_more, entries, entries_rise, filter, filter-map, filter_none, find, get, int_le, int_lt, ints, is_sorted, length-drop, nat_cmp, nat_lt, nat_tests, nothing, place_code, prefix_len, running_in}
use Rattle.std.specs.Option.{unwrap_or}
use Rattle.std.proofs.Math.Seq.{take-length}
use Rattle.station_core.specs.declared.stored.WaybillBalances.{WaybillBalances}
use Rattle.row_codec.proofs.Amounts.{drawn_nothing, held_nothing}
use Rattle.row_codec.proofs.Found.{row_found}
use Rattle.row_codec.proofs.Tests.{is_nat}

-- ---- the order of the rows

abbrev pub awb_is : ℤ → CountRow → Bool
awb_is w row = int_eq row.awb w

abbrev pub Climbs : List CountRow → Type 0
Climbs rows = IsAscending (λ (a b : CountRow). int_le a.awb b.awb ≡ true) rows

not_above : (a b : CountRow) → count_cmp (count_meant a).0 (count_meant b).0 ≡ Less → int_le a.awb b.awb ≡ true
not_above a b h = grind (arith, ints)

climbs : (counts : FinMap count_cmp Count) (rows : List CountRow) → map count_meant rows ≡ entries counts → Climbs rows
climbs counts rows are =
    ascending_weaker _ _ not_above rows
    (ascending_from_map (λ (a b : CountKey × Count). count_cmp a.0 b.0 ≡ Less) count_meant rows
    (subst (IsAscending (λ (a b : CountKey × Count). count_cmp a.0 b.0 ≡ Less)) (sym are) (entries_rise count_cmp count_total counts)))

dropped : {X : Type 0} (P : X → Type 0) (n : ℕ) (xs : List X) → AllByRecursion P xs → AllByRecursion P (drop n xs)
dropped P zero xs h = h
dropped P (suc n) [] h = tt
dropped P (suc n) (x ∷ xs) h = dropped P n xs h.1

climbs_on : (n : ℕ) (rows : List CountRow) → Climbs rows → Climbs (drop n rows)
climbs_on zero rows up = up
climbs_on (suc n) [] up = tt
climbs_on (suc n) (row ∷ rows) up = climbs_on n rows up.1

-- ---- the rows of the first waybill

one_plus : (n : ℕ) → 1 + n ≡ suc n
one_plus n = omega arith

module _ (w : ℤ) where
  abbrev Low : List CountRow → Type 0
  Low rows = AllByRecursion (λ (row : CountRow). int_le w row.awb ≡ true) rows

  abbrev Above : List CountRow → Type 0
  Above rows = AllByRecursion (λ (row : CountRow). int_lt w row.awb ≡ true) rows

  above : (row : CountRow) (rows : List CountRow) → int_le w row.awb ≡ true → awb_is w row ≡ false → AllByRecursion (λ (later : CountRow). int_le row.awb later.awb ≡ true) rows → Above rows
  above row rows low other up = all_weaker (λ (later : CountRow). int_le row.awb later.awb ≡ true) (λ (later : CountRow). int_lt w later.awb ≡ true) (λ later h. grind (arith, ints)) rows up

  none_there : (rows : List CountRow) → Above rows → filter (awb_is w) rows ≡ []
  none_there rows h = filter_none (awb_is w) rows (all_weaker (λ (row : CountRow). int_lt w row.awb ≡ true) (λ (row : CountRow). awb_is w row ≡ false) (λ row up. grind (arith, ints)) rows h)

  -- they are in front, and all others are above
  pub in_front : (rows : List CountRow) → Low rows → Climbs rows → (take (prefix_len (awb_is w) rows) rows ≡ filter (awb_is w) rows) × Above (drop (prefix_len (awb_is w) rows) rows)
  in_front [] low up = (refl, tt)
  in_front (row ∷ rows) low up =
      let n = prefix_len (awb_is w) rows in
      let own = filter (awb_is w) rows in
      elim (awb_is w row) as (λ b. awb_is w row ≡ b → (take (cond b (1 + n) 0) (row ∷ rows) ≡ cond b (row ∷ own) own) × Above (drop (cond b (1 + n) 0) (row ∷ rows))) [
        | true ↦ λ is. let more = in_front rows low.1 up.1 in rw (one_plus n) (ap (λ l. row ∷ l) more.0, more.1)
        | false ↦ λ is.
            let from : int_le w row.awb ≡ true = low.0 in
            let higher : int_lt w row.awb ≡ true = grind (arith, ints) in (sym (none_there rows (above row rows low.0 is up.0)), (higher, above row rows low.0 is up.0))
      ] refl

  -- the rows of another waybill all stand behind them
  pub others : (v : ℤ) → int_eq v w ≡ false → (rows : List CountRow) → filter (awb_is v) (drop (prefix_len (awb_is w) rows) rows) ≡ filter (awb_is v) rows
  others v other [] = refl
  others v other (row ∷ rows) =
      let n = prefix_len (awb_is w) rows in
      elim (awb_is w row) as (λ b. awb_is w row ≡ b → filter (awb_is v) (drop (cond b (1 + n) 0) (row ∷ rows)) ≡ filter (awb_is v) (row ∷ rows)) [
        | true ↦ λ is. let apart : int_eq row.awb v ≡ false = grind (arith, ints) in rw (one_plus n, apart) (others v other rows)
        | false ↦ λ is. refl
      ] refl

-- ---- the waybills that are listed

abbrev pub find_in : ℕ → List WaybillBalances → Option WaybillBalances
find_in w all = find (λ (one : WaybillBalances). w == one.awb) all

abbrev Below : List CountRow → WaybillBalances → Type 0
Below rest one = AllByRecursion (λ (row : CountRow). int_lt (pos one.awb) row.awb ≡ true) rest

-- so far: each is listed once and as the book has it, before all rows that are left, and the rows of
-- a waybill that isn't listed are all left
pub record Lists (counts : FinMap count_cmp Count) (book : List Move) (rest : List CountRow) (all : List WaybillBalances) : Type 0 where
  pub up : Climbs rest
  pub right : AllByRecursion (λ (one : WaybillBalances). one.balances ≡ balances_of book one.awb) all
  pub rising : IsAscending (λ (a b : WaybillBalances). nat_lt a.awb b.awb ≡ true) all
  pub below : AllByRecursion (Below rest) all
  pub ahead : (w : ℕ) → find_in w all ≡ None → filter (counts_for (pos w)) (map count_meant rest) ≡ filter (counts_for (pos w)) (entries counts)

pub none_listed : (counts : FinMap count_cmp Count) (book : List Move) (rows : List CountRow) → map count_meant rows ≡ entries counts → Lists counts book rows []
none_listed counts book rows are = record {
  up = climbs counts rows are;
  right = tt;
  rising = tt;
  below = tt;
  ahead = λ w none. ap (filter (counts_for (pos w))) are;
}

not_found : (w : ℕ) (z : ℤ) → z ≡ pos w → (first : CountRow) (more : List CountRow) → first.awb ≡ z → (all : List WaybillBalances) → AllByRecursion (Below (first ∷ more)) all → find_in w all ≡ None
not_found w z is first more at [] h = refl
not_found w z is first more at (one ∷ all) h =
    let low = h.0.0 in
    let other : (w == one.awb) ≡ false = grind (arith, ints, nat_tests) in
    rw other (not_found w z is first more at all h.1)

found_not_there : (v : ℕ) (all : List WaybillBalances) (one : WaybillBalances) → find_in v (all ++ one ∷ []) ≡ None → (find_in v all ≡ None) × ((v == one.awb) ≡ false)
found_not_there v [] one h = (refl, grind arith)
found_not_there v (other ∷ all) one h =
    elim (v == other.awb) as (λ b. cond b (Some other) (find_in v (all ++ one ∷ [])) ≡ None → (cond b (Some other) (find_in v all) ≡ None) × ((v == one.awb) ≡ false))
    [ true ↦ λ no. absurd (cc) | false ↦ found_not_there v all one ] h

rows_of : (w : ℤ) (rows : List CountRow) → filter (counts_for w) (map count_meant rows) ≡ map count_meant (filter (awb_is w) rows)
rows_of w rows = filter-map (counts_for w) count_meant rows

module _ (counts : FinMap count_cmp Count) (book : List Move) (first : CountRow) (more : List CountRow) (all : List WaybillBalances) (so : Lists counts book (first ∷ more) all) where
  abbrev rows : List CountRow
  rows = first ∷ more

  low : Low first.awb rows
  low = ((let itself : int_le first.awb first.awb ≡ true = grind (arith, ints) in itself), so.up.0)

  -- the rows in front are all rows of the waybill
  pub own_rows : (w : ℕ) → first.awb ≡ pos w → map count_meant (take (prefix_len (awb_is first.awb) rows) rows) ≡ filter (counts_for first.awb) (entries counts)
  own_rows w is =
      ap (map count_meant) (in_front first.awb rows low so.up).0 ∙ sym (rows_of first.awb rows)
      ∙ ap (λ z. filter (counts_for z) (map count_meant rows)) is
      ∙ so.ahead w (not_found w first.awb is first more refl all so.below)
      ∙ ap (λ z. filter (counts_for z) (entries counts)) (sym is)

  pub one_more : (one : WaybillBalances) → first.awb ≡ pos one.awb → one.balances ≡ balances_of book one.awb
      → Lists counts book (drop (prefix_len (awb_is first.awb) rows) rows) (all ++ one ∷ [])
  one_more one is right =
      let n = prefix_len (awb_is first.awb) rows in
      let rest = drop n rows in
      let later : AllByRecursion (Below rest) all = all_weaker (Below rows) (Below rest) (λ x h. dropped (λ (row : CountRow). int_lt (pos x.awb) row.awb ≡ true) n rows h) all so.below in
      let new : Below rest one = subst (λ z. AllByRecursion (λ (row : CountRow). int_lt z row.awb ≡ true) rest) is (in_front first.awb rows low so.up).1 in
      record {
        up = climbs_on n rows so.up;
        right = all-append (λ (x : WaybillBalances). x.balances ≡ balances_of book x.awb) all (one ∷ []) so.right (right, tt);
        rising = ascending-append (λ (a b : WaybillBalances). nat_lt a.awb b.awb ≡ true) all (one ∷ []) so.rising (tt, tt)
            (all_weaker (Below rows) (λ (x : WaybillBalances). AllByRecursion (λ (y : WaybillBalances). nat_lt x.awb y.awb ≡ true) (one ∷ []))
            (λ x h. let low = h.0 in ((let less : nat_lt x.awb one.awb ≡ true = grind (arith, ints, nat_tests) in less), tt)) all so.below);
        below = all-append (Below rest) all (one ∷ []) later (new, tt);
        ahead = λ v none.
            let apart_from = found_not_there v all one none in
            let other_row : int_eq (pos v) first.awb ≡ false = (let other = apart_from.1 in grind (arith, ints, nat_tests)) in
            rows_of (pos v) rest ∙ ap (map count_meant) (others first.awb (pos v) other_row rows)
            ∙ sym (rows_of (pos v) rows) ∙ so.ahead v apart_from.0;
      }

-- what is left of the rows
pub rest_is : (n : ℕ) (rows : List CountRow) → take (length rows - n) (drop n rows) ≡ drop n rows
rest_is n rows = rw (← length-drop n rows) (take-length (drop n rows))

-- the same at a place in the rows
pub one_step : (counts : FinMap count_cmp Count) (book : List Move) (rows rest : List CountRow) (start n : ℕ) (awb : ℤ) (all after : List WaybillBalances) (one : WaybillBalances) (other : CountRow)
    → awb ≡ pos one.awb → start < length rows → awb ≡ (get_or rows start other).awb → rest ≡ drop start rows → n ≡ prefix_len (awb_is awb) rest → Lists counts book (drop start rows) all
    → (map count_meant (take n rest) ≡ filter (counts_for awb) (entries counts) → one.balances ≡ balances_of book one.awb)
    → after ≡ all ++ one ∷ [] → Lists counts book (drop (start + n) rows) after
one_step counts book rows rest start n awb all after one other is within at left front so right then =
    let first = get_or rows start other in
    let more = drop (start + 1) rows in
    let begins : drop start rows ≡ first ∷ more = drop_more rows start other within in
    let begun : rest ≡ first ∷ more = left ∙ begins in
    let here : Lists counts book (first ∷ more) all = subst (λ l. Lists counts book l all) begins so in
    let same : n ≡ prefix_len (awb_is first.awb) (first ∷ more) = front ∙ (λ i. prefix_len (awb_is (at i)) (begun i)) in
    let own : map count_meant (take n rest) ≡ filter (counts_for awb) (entries counts) =
    (λ i. map count_meant (take (same i) (begun i))) ∙ own_rows counts book first more all here one.awb (sym at ∙ is) ∙ ap (λ z. filter (counts_for z) (entries counts)) (sym at) in
    let next = one_more counts book first more all here one (sym at ∙ is) (right own) in
    let behind_it : drop (prefix_len (awb_is first.awb) (first ∷ more)) (first ∷ more) ≡ drop (start + n) rows = sym (λ i. drop (same i) (begins i)) ∙ drop-drop n start rows in
    subst (Lists counts book (drop (start + n) rows)) (sym then) (subst (λ l. Lists counts book l (all ++ one ∷ [])) behind_it next)

-- ---- all of them

below_pairs : (a : WaybillBalances) (all : List WaybillBalances) → AllByRecursion (λ (b : WaybillBalances). nat_lt a.awb b.awb ≡ true) all → below_all nat_cmp a.awb (map (λ (row : WaybillBalances). (row.awb, row.balances)) all) ≡ true
below_pairs a [] h = refl
below_pairs a (b ∷ all) h = rw (h.0, below_pairs a all h.1) refl

sorted_pairs : (all : List WaybillBalances) → IsAscending (λ (a b : WaybillBalances). nat_lt a.awb b.awb ≡ true) all → is_sorted nat_cmp (map (λ (row : WaybillBalances). (row.awb, row.balances)) all) ≡ true
sorted_pairs [] h = refl
sorted_pairs (a ∷ all) h = rw (below_pairs a all h.0, sorted_pairs all h.1) refl

-- what is found is right
found_right : (book : List Move) (w : ℕ) (all : List WaybillBalances) → AllByRecursion (λ (one : WaybillBalances). one.balances ≡ balances_of book one.awb) all
    → (find_in w all ≡ None → balances_of book w ≡ nothing) → balances_of book w ≡ unwrap_or (option_map (λ (row : WaybillBalances). row.balances) (find_in w all)) nothing
found_right book w [] right none = none refl
found_right book w (one ∷ all) right none = elim (w == one.awb) as (λ b. (w == one.awb) ≡ b → (cond b (Some one) (find_in w all) ≡ None → balances_of book w ≡ nothing)
    → balances_of book w ≡ unwrap_or (option_map (λ (row : WaybillBalances). row.balances) (cond b (Some one) (find_in w all))) nothing)
    [ true ↦ λ is none. ap (balances_of book) (is_nat w one.awb is) ∙ sym right.0 | false ↦ λ is none. found_right book w all right.1 none ] refl none

module _ (counts : FinMap count_cmp Count) (book : List Move) (are : AreCounts counts book) (w : ℕ) (no_rows : [] ≡ filter (counts_for (pos w)) (entries counts)) where
  no_row : (code : ℤ) → ◌≡◌ {A = Option Tally} None (option_map running_in (get counts (pos w, code)))
  no_row code = ap (option_map running_in) (row_found counts (pos w) code [] no_rows)

  -- a waybill without rows has nothing
  pub has_nothing : balances_of book w ≡ nothing
  has_nothing = λ i. record {
    taken = sym (drawn_nothing counts book are w Hand refl (pos (place_code Hand)) refl (no_row (pos (place_code Hand)))) i;
    found = sym (drawn_nothing counts book are w Surplus refl (pos (place_code Surplus)) refl (no_row (pos (place_code Surplus)))) i;
    free = sym (held_nothing counts book are w Free refl (pos (place_code Free)) refl (no_row (pos (place_code Free)))) i;
    missing = sym (held_nothing counts book are w Missing refl (pos (place_code Missing)) refl (no_row (pos (place_code Missing)))) i;
    departed = sym (held_nothing counts book are w Departed refl (pos (place_code Departed)) refl (no_row (pos (place_code Departed)))) i;
    delivered = sym (held_nothing counts book are w Delivered refl (pos (place_code Delivered)) refl (no_row (pos (place_code Delivered)))) i;
    transferred = sym (held_nothing counts book are w Transferred refl (pos (place_code Transferred)) refl (no_row (pos (place_code Transferred)))) i;
  }

pub all_listed : (counts : FinMap count_cmp Count) (book : List Move) (all : List WaybillBalances) → AreCounts counts book → Lists counts book [] all → AreAllBalances book all
all_listed counts book all are so = record {
  rising = sorted_pairs all so.rising;
  same = λ w. found_right book w all so.right (λ none. has_nothing counts book are w (so.ahead w none));
}
