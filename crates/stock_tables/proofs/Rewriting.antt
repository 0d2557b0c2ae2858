-- The table after the rows that a run touches are cleared and the new rows put in.
use Rattle.stock_tables.proofs.Common.{AllByRecursion, AreRuns, AreStockRows, Bool, Equal, FinMap, Greater, IsRunRow, IsWritable, Less, List, None, Option, Ordering, Some, Stock, StockKey, StockRun, T, [], and_from, and_parts, ap, ap₂, are_apart, arith, begins, below_all, cleared, cond, entries, entries-from_sorted, entry_of, eq_by_cmp, eqb-true, false, from_sorted, get, get-entries, get-from_sorted, get-insert, get-remove, holders_by, holders_in, insert, int_cmp, int_eq, ints, is_eq, is_lt, is_some, is_sorted, is_stock_row, key_of, list_all, map, nat_eq, nat_tests, pos, prefix_of, put_in, refl, remove, row_in, run_in, same_map, serial_of, stock_cmp, subst, sym, true, without, ℕ, ◌%◌, ◌&&◌, ◌++◌, ◌/◌, ◌||◌, ◌∙◌, ◌∷◌, ◌≡◌}
use Rattle.std.specs.FinMap.{find}
use Rattle.station_schema.proofs.OneRow.{pair_eq, int_tied}
use Rattle.station_schema.proofs.Keys.{stock_total, stock_same}
use Rattle.stock_tables.proofs.Standing.{each_split, each_join}
use Rattle.stock_tables.proofs.Meant.{same_holders, are_in_order}
use Rattle.stock_tables.proofs.Entries.{again, all_again, run_again, is_row, rows_apart, sorted_rows, rows_sorted}

-- ---- what is found by a key

abbrev pub found : StockKey → List StockRun → Option Stock
found q rows = find stock_cmp q (map entry_of rows)

abbrev or_else : Option Stock → Option Stock → Option Stock
or_else (Some s) other = Some s
or_else None other = other

same_parts : (a b : ℕ) → (int_eq (pos (a / 10_000_000)) (pos (b / 10_000_000)) && int_eq (pos (a % 10_000_000)) (pos (b % 10_000_000))) ≡ nat_eq a b
same_parts a b = grind (arith, ints, nat_tests)

-- two numbers with one key are one
same_key : (n k : ℕ) → eq_by_cmp stock_cmp (key_of n) (key_of k) ≡ nat_eq n k
same_key n k = pair_eq int_cmp int_cmp (key_of n) (key_of k) ∙ ap₂ ◌&&◌ (int_tied (pos (prefix_of n)) (pos (prefix_of k))) (int_tied (pos (serial_of n)) (pos (serial_of k))) ∙ same_parts n k

is_tied : (o : Ordering) → is_eq o ≡ true → o ≡ Equal
is_tied Less h = absurd (cc)
is_tied Equal h = refl
is_tied Greater h = absurd (cc)

key_is : (q k : StockKey) → eq_by_cmp stock_cmp q k ≡ true → q ≡ k
key_is q k tied = stock_same q k (is_tied _ tied)

begins_found : (n : ℕ) (rows : List StockRun) → is_some (found (key_of n) rows) ≡ begins n rows
begins_found n [] = refl
begins_found n (r ∷ rows) = ap (λ b. is_some (cond b (Some (row_in r)) (found (key_of n) rows))) (same_key n r.first) ∙ go (nat_eq n r.first) (begins_found n rows)
  where
    go : (b : Bool) → is_some (found (key_of n) rows) ≡ begins n rows → is_some (cond b (Some (row_in r)) (found (key_of n) rows)) ≡ (b || begins n rows)
    go true more = refl
    go false more = more

found_joined : (q : StockKey) (a b : List StockRun) → found q (a ++ b) ≡ or_else (found q a) (found q b)
found_joined q [] b = refl
found_joined q (r ∷ a) b = go (eq_by_cmp stock_cmp q (key_of r.first)) (found_joined q a b)
  where
    go : (t : Bool) → found q (a ++ b) ≡ or_else (found q a) (found q b) → cond t (Some (row_in r)) (found q (a ++ b)) ≡ or_else (cond t (Some (row_in r)) (found q a)) (found q b)
    go true more = refl
    go false more = more

-- ---- each key stands once

not_tied : (o : Ordering) → is_lt o ≡ true → is_eq o ≡ false
not_tied Less h = refl
not_tied Equal h = absurd (cc)
not_tied Greater h = absurd (cc)

none_found : (q : StockKey) (rows : List StockRun) → below_all stock_cmp q (map entry_of rows) ≡ true → found q rows ≡ None
none_found q [] h = refl
none_found q (r ∷ rows) h =
    let parts = and_parts (is_lt (stock_cmp q (key_of r.first))) (below_all stock_cmp q (map entry_of rows)) h in
    ap (λ b. cond b (Some (row_in r)) (found q rows)) (not_tied (stock_cmp q (key_of r.first)) parts.0) ∙ none_found q rows parts.1

below_second : (q : StockKey) (a b : List StockRun) → below_all stock_cmp q (map entry_of (a ++ b)) ≡ true → below_all stock_cmp q (map entry_of b) ≡ true
below_second q [] b h = h
below_second q (r ∷ a) b h = below_second q a b (and_parts (is_lt (stock_cmp q (key_of r.first))) (below_all stock_cmp q (map entry_of (a ++ b))) h).1

-- what is found in the first list isn't in the second
one_place : (q : StockKey) (a b : List StockRun) → is_sorted stock_cmp (map entry_of (a ++ b)) ≡ true → is_some (found q a) ≡ true → found q b ≡ None
one_place q [] b up h = absurd (cc)
one_place q (r ∷ a) b up h = go (eq_by_cmp stock_cmp q (key_of r.first)) refl h (one_place q a b parts.1)
  where
    parts : (below_all stock_cmp (key_of r.first) (map entry_of (a ++ b)) ≡ true) × (is_sorted stock_cmp (map entry_of (a ++ b)) ≡ true)
    parts = and_parts _ _ up

    go : (t : Bool) → eq_by_cmp stock_cmp q (key_of r.first) ≡ t → is_some (cond t (Some (row_in r)) (found q a)) ≡ true → (is_some (found q a) ≡ true → found q b ≡ None) → found q b ≡ None
    go true tied has more = none_found q b (below_second q a b (ap (λ k. below_all stock_cmp k (map entry_of (a ++ b))) (key_is q (key_of r.first) tied) ∙ parts.0))
    go false tied has more = more has

sorted_second : (a b : List StockRun) → is_sorted stock_cmp (map entry_of (a ++ b)) ≡ true → is_sorted stock_cmp (map entry_of b) ≡ true
sorted_second [] b h = h
sorted_second (r ∷ a) b h = sorted_second a b (and_parts (below_all stock_cmp (key_of r.first) (map entry_of (a ++ b))) (is_sorted stock_cmp (map entry_of (a ++ b))) h).1

-- ---- what the writes leave at a key

get_put : (q : StockKey) (rows : List StockRun) (m : FinMap stock_cmp Stock) → get (put_in rows m) q ≡ or_else (found q rows) (get m q)
get_put q [] m = refl
get_put q (r ∷ rows) m = get-insert stock_total (put_in rows m) (key_of r.first) (row_in r) q ∙ go (eq_by_cmp stock_cmp q (key_of r.first)) (get_put q rows m)
  where
    go : (t : Bool) → get (put_in rows m) q ≡ or_else (found q rows) (get m q) → cond t (Some (row_in r)) (get (put_in rows m) q) ≡ or_else (cond t (Some (row_in r)) (found q rows)) (get m q)
    go true more = refl
    go false more = more

get_without : (new : List StockRun) (r : StockRun) (m : FinMap stock_cmp Stock) (q : StockKey) → eq_by_cmp stock_cmp q (key_of r.first) ≡ false → get (without new r m) q ≡ get m q
get_without new r m q other = go (begins r.first new)
  where
    go : (t : Bool) → get (cond t m (remove m (key_of r.first))) q ≡ get m q
    go true = refl
    go false = get-remove stock_total m (key_of r.first) q ∙ ap (λ b. cond b None (get m q)) other

none_without : (new : List StockRun) (r : StockRun) (m : FinMap stock_cmp Stock) (q : StockKey) → eq_by_cmp stock_cmp q (key_of r.first) ≡ true → found q new ≡ None → get (without new r m) q ≡ None
none_without new r m q tied none =
    let not_new : begins r.first new ≡ false = sym (begins_found r.first new) ∙ ap is_some (ap (λ k. found k new) (sym (key_is q (key_of r.first) tied)) ∙ none) in
    ap (λ t. get (cond t m (remove m (key_of r.first))) q) not_new ∙ get-remove stock_total m (key_of r.first) q ∙ ap (λ b. cond b None (get m q)) tied

none_either : (t : Bool) → ◌≡◌ {A = Option Stock} (cond t None None) None
none_either true = refl
none_either false = refl

get_cleared : (new : List StockRun) (q : StockKey) → found q new ≡ None → (rows : List StockRun) (m : FinMap stock_cmp Stock) → get (cleared new rows m) q ≡ cond (is_some (found q rows)) None (get m q)
get_cleared new q none [] m = refl
get_cleared new q none (r ∷ rows) m = get_cleared new q none rows (without new r m) ∙ go (eq_by_cmp stock_cmp q (key_of r.first)) refl
  where
    go : (t : Bool) → eq_by_cmp stock_cmp q (key_of r.first) ≡ t
        → cond (is_some (found q rows)) None (get (without new r m) q) ≡ cond (is_some (cond t (Some (row_in r)) (found q rows))) None (get m q)
    go true tied = ap (cond (is_some (found q rows)) None) (none_without new r m q tied none) ∙ none_either (is_some (found q rows))
    go false tied = ap (cond (is_some (found q rows)) None) (get_without new r m q tied)

-- a row whose key a new one has is still there
kept_without : (new : List StockRun) (n : ℕ) → begins n new ≡ true → (r : StockRun) (m : FinMap stock_cmp Stock) → get (without new r m) (key_of n) ≡ get m (key_of n)
kept_without new n has r m = go (nat_eq n r.first) refl
  where
    go : (t : Bool) → nat_eq n r.first ≡ t → get (without new r m) (key_of n) ≡ get m (key_of n)
    go true is = ap (λ t. get (cond t m (remove m (key_of r.first))) (key_of n)) (ap (λ k. begins k new) (sym (eqb-true n r.first is)) ∙ has)
    go false other = get_without new r m (key_of n) (same_key n r.first ∙ other)

pub get_kept : (new : List StockRun) (n : ℕ) → begins n new ≡ true → (rows : List StockRun) (m : FinMap stock_cmp Stock) → get (cleared new rows m) (key_of n) ≡ get m (key_of n)
get_kept new n has [] m = refl
get_kept new n has (r ∷ rows) m = get_kept new n has rows (without new r m) ∙ kept_without new n has r m

-- ---- the table that is made

module _ (a near new b : List StockRun) (m : FinMap stock_cmp Stock) (are : entries m ≡ map entry_of (a ++ (near ++ b))) (was : is_sorted stock_cmp (map entry_of (a ++ (near ++ b))) ≡ true) (up : is_sorted stock_cmp (map entry_of (a ++ (new ++ b))) ≡ true) where
  get_before : (q : StockKey) → get m q ≡ or_else (found q a) (or_else (found q near) (found q b))
  get_before q = get-entries m q ∙ ap (find stock_cmp q) are ∙ found_joined q a (near ++ b) ∙ ap (or_else (found q a)) (found_joined q near b)

  found_after : (q : StockKey) → found q (a ++ (new ++ b)) ≡ or_else (found q a) (or_else (found q new) (found q b))
  found_after q = found_joined q a (new ++ b) ∙ ap (or_else (found q a)) (found_joined q new b)

  -- where a list between two others has the key, the first of them hasn't
  none_ahead : (q : StockKey) (mid : List StockRun) → is_sorted stock_cmp (map entry_of (a ++ (mid ++ b))) ≡ true → (s : Stock) → found q mid ≡ Some s → found q a ≡ None
  none_ahead q mid rise s has = go (found q a) refl
    where
      behind : found q (mid ++ b) ≡ Some s
      behind = found_joined q mid b ∙ ap (λ o. or_else o (found q b)) has

      go : (o : Option Stock) → found q a ≡ o → o ≡ None
      go None is = refl
      go (Some t) is = let no = one_place q a (mid ++ b) rise (ap is_some is) in absurd (apart (sym behind ∙ no))
        where
          apart : Some s ≡ None → ⊥
          apart e = absurd (cc)

  pub get_after : (q : StockKey) → get (put_in new (cleared new near m)) q ≡ found q (a ++ (new ++ b))
  get_after q = get_put q new (cleared new near m) ∙ by_new (found q new) refl ∙ sym (found_after q)
    where
      by_near : (o : Option Stock) → found q near ≡ o → cond (is_some o) None (or_else (found q a) (or_else o (found q b))) ≡ or_else (found q a) (found q b)
      by_near (Some s) is = sym (ap₂ or_else (none_ahead q near was s is) (one_place q near b (sorted_second a (near ++ b) was) (ap is_some is)))
      by_near None is = refl

      by_new : (o : Option Stock) → found q new ≡ o → or_else o (get (cleared new near m) q) ≡ or_else (found q a) (or_else o (found q b))
      by_new (Some s) is = sym (ap (λ x. or_else x (Some s)) (none_ahead q new up s is))
      by_new None is = get_cleared new q is near m ∙ ap (cond (is_some (found q near)) None) (get_before q) ∙ by_near (found q near) refl

-- ---- the new rows are lawful

abbrev Fits : StockRun → Type 0
Fits r = (is_stock_row (entry_of r) ≡ true) × (run_in (entry_of r) ≡ r)

entries_fit : (es : List (StockKey × Stock)) → list_all is_stock_row es ≡ true → AllByRecursion Fits (map run_in es)
entries_fit [] all = tt
entries_fit (e ∷ es) all =
    let parts = and_parts (is_stock_row e) (list_all is_stock_row es) all in
    let here = again e parts.0 in
    ((ap is_stock_row here ∙ parts.0, ap run_in here), entries_fit es parts.1)

new_fit : (rows : List StockRun) → AllByRecursion IsRunRow rows → AllByRecursion IsWritable rows → AllByRecursion Fits rows
new_fit [] each writable = tt
new_fit (r ∷ rows) each writable = ((is_row r each.0 writable.0, run_again r each.0 writable.0), new_fit rows each.1 writable.1)

all_lawful : (rows : List StockRun) → AllByRecursion Fits rows → list_all is_stock_row (map entry_of rows) ≡ true
all_lawful [] all = refl
all_lawful (r ∷ rows) all = and_from (is_stock_row (entry_of r)) (list_all is_stock_row (map entry_of rows)) all.0.0 (all_lawful rows all.1)

runs_again : (rows : List StockRun) → AllByRecursion Fits rows → map run_in (map entry_of rows) ≡ rows
runs_again [] all = refl
runs_again (r ∷ rows) all = ap₂ (λ x l. x ∷ l) all.0.1 (runs_again rows all.1)

module _ (stock : FinMap stock_cmp Stock) (lawful : AreStockRows stock) (a near new b : List StockRun) (parted : map run_in (entries stock) ≡ a ++ (near ++ b)) (are : AreRuns (a ++ (new ++ b))) (writable : AllByRecursion IsWritable new) where
  abbrev made : FinMap stock_cmp Stock
  made = put_in new (cleared new near stock)

  pub before_are : entries stock ≡ map entry_of (a ++ (near ++ b))
  before_are = sym (all_again (entries stock) lawful.rows) ∙ ap (map entry_of) parted

  runs : AreRuns (a ++ (near ++ b))
  runs = subst AreRuns parted (are_in_order stock lawful.rows lawful.apart)

  pub before_sorted : is_sorted stock_cmp (map entry_of (a ++ (near ++ b))) ≡ true
  before_sorted = sorted_rows 0 (a ++ (near ++ b)) runs.stand runs.each

  rises : T (is_sorted stock_cmp (map entry_of (a ++ (new ++ b))))
  rises = rows_sorted 0 (a ++ (new ++ b)) are.stand are.each

  pub entries_after : entries (put_in new (cleared new near stock)) ≡ map entry_of (a ++ (new ++ b))
  entries_after =
      let same : put_in new (cleared new near stock) ≡ from_sorted (map entry_of (a ++ (new ++ b))) =
      same_map stock_total stock_same _ _ (λ q.
      get_after a near new b stock before_are before_sorted (sorted_rows 0 (a ++ (new ++ b)) are.stand are.each) q ∙ sym (get-from_sorted stock_cmp (map entry_of (a ++ (new ++ b))) q rises)) in
      ap entries same ∙ entries-from_sorted stock_cmp (map entry_of (a ++ (new ++ b))) rises

  all_fit : AllByRecursion Fits (a ++ (new ++ b))
  all_fit =
      let were = each_split Fits a (near ++ b) (subst (AllByRecursion Fits) parted (entries_fit (entries stock) lawful.rows)) in
      let behind = each_split Fits near b were.1 in
      let each = each_split IsRunRow new b (each_split IsRunRow a (new ++ b) are.each).1 in
      each_join Fits a (new ++ b) were.0 (each_join Fits new b (new_fit new each.0 writable) behind.1)

  pub lawful_after : AreStockRows (put_in new (cleared new near stock))
  lawful_after = record {
    rows = ap (list_all is_stock_row) entries_after ∙ all_lawful (a ++ (new ++ b)) all_fit;
    apart = ap are_apart entries_after ∙ rows_apart 0 (a ++ (new ++ b)) are.stand are.each;
  }

  pub holders_after : holders_in (put_in new (cleared new near stock)) ≡ holders_by (a ++ (new ++ b))
  holders_after =
      same_holders (put_in new (cleared new near stock)) lawful_after.rows
      ∙ ap holders_by (ap (map run_in) entries_after ∙ runs_again (a ++ (new ++ b)) all_fit)

  -- a row whose key stood among those that the run touches is there to be changed
  pub there_before : (n : ℕ) → begins n near ≡ true → is_some (get stock (key_of n)) ≡ true
  there_before n has =
      ap is_some (get_before a near new b stock before_are before_sorted (sorted_rows 0 (a ++ (new ++ b)) are.stand are.each) (key_of n))
      ∙ go (found (key_of n) a) (found (key_of n) near) (begins_found n near ∙ has)
    where
      go : (x y : Option Stock) → is_some y ≡ true → is_some (or_else x (or_else y (found (key_of n) b))) ≡ true
      go (Some s) y h = refl
      go None (Some s) h = refl
      go None None h = absurd (cc)

  pub there_cleared : (n : ℕ) → begins n new ≡ true → begins n near ≡ true → is_some (get (cleared new near stock) (key_of n)) ≡ true
  there_cleared n kept has = ap is_some (get_kept new n kept near stock) ∙ there_before n has

-- what is there is still there when more is put in
pub there_put : (q : StockKey) (rows : List StockRun) (m : FinMap stock_cmp Stock) → is_some (get m q) ≡ true → is_some (get (put_in rows m) q) ≡ true
there_put q rows m h = ap is_some (get_put q rows m) ∙ go (found q rows)
  where
    go : (o : Option Stock) → is_some (or_else o (get m q)) ≡ true
    go (Some s) = refl
    go None = h

-- two lists put in, one after the other
pub put_both : (a b : List StockRun) (m : FinMap stock_cmp Stock) → put_in (a ++ b) m ≡ put_in a (put_in b m)
put_both [] b m = refl
put_both (r ∷ a) b m = ap (λ n. insert n (key_of r.first) (row_in r)) (put_both a b m)
