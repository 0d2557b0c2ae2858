-- Rows that are lawful and apart are runs in order.
use Rattle.stock_tables.proofs.Common.{AllByRecursion, AreRuns, Bool, FinMap, Holder, IsRunRow, List, None, Option, Some, StandFrom, Stock, StockKey, [], and_parts, are_apart, arith, cond, end_of, entries, false, find, holder_by, holders_by, holders_in, inl, inr, int_eq, int_le, int_lt, ints, is_among, is_behind, is_some, is_stock_row, is_within, list_all, map, named, nat_le, nat_lt, nat_tests, natural, negsuc, option_and_then, pos, refl, run_in, stands_for, stock_cmp, sym, true, ℕ, ℤ, ◌%◌, ◌&&◌, ◌*◌, ◌+◌, ◌-◌, ◌/◌, ◌<◌, ◌||◌, ◌∙◌, ◌∷◌, ◌≡◌, ◌≤◌, ◌⊎◌}

abbrev pub fits : ℤ → ℤ → ℤ → Bool
fits p low high = is_within 0 999 p && is_within 0 9_999_999 low && int_le low high && int_le high (pos 9_999_999)

stands : (n : ℕ) (p low high : ℤ) → fits p low high ≡ true
    → (int_eq p (pos (n / 10_000_000)) && (int_le low (pos (n % 10_000_000)) && int_le (pos (n % 10_000_000)) high))
    ≡ (nat_le (natural p * 10_000_000 + natural low) n && nat_lt n (natural p * 10_000_000 + natural low + (natural high + 1 - natural low)))
stands n (pos a) (pos b) (pos c) h = grind (arith, ints, nat_tests)
stands n (negsuc a) low high h = cc
stands n (pos a) (negsuc b) high h = grind (arith, ints)
stands n (pos a) (pos b) (negsuc c) h = grind (arith, ints)

size : (p low high : ℤ) → fits p low high ≡ true → (1 ≤ natural high + 1 - natural low) × ((natural p * 10_000_000 + natural low) % 10_000_000 + (natural high + 1 - natural low) ≤ 10_000_000)
size (pos a) (pos b) (pos c) h = (grind (arith, ints), grind (arith, ints))
size (negsuc a) low high h = cc
size (pos a) (negsuc b) high h = grind (arith, ints)
size (pos a) (pos b) (negsuc c) h = grind (arith, ints)

pub bounds : (a b c : ℕ) → fits (pos a) (pos b) (pos c) ≡ true → (b ≤ c) × (c ≤ 9_999_999)
bounds a b c h = (grind (arith, ints), grind (arith, ints))

lt_nat : (a b : ℕ) → int_lt (pos a) (pos b) ≡ true → a < b
lt_nat a b h = grind (arith, ints)

eq_nat : (a b : ℕ) → int_eq (pos a) (pos b) ≡ true → a ≡ b
eq_nat a b h = grind (arith, ints)

either : (t u : Bool) → (t || u) ≡ true → (t ≡ true) ⊎ (u ≡ true)
either true u h = inl refl
either false u h = inr h

numbers : (a b c d e : ℕ) → b ≤ c → c ≤ 9_999_999 → (a < d) ⊎ ((a ≡ d) × (c < e)) → a * 10_000_000 + b + (c + 1 - b) ≤ d * 10_000_000 + e
numbers a b c d e h k (inl less) = omega (arith, h, k, less)
numbers a b c d e h k (inr same) = omega (arith, h, same.0, same.1)

order_of : (a c d e : ℕ) → (int_lt (pos a) (pos d) || (int_eq (pos a) (pos d) && int_lt (pos c) (pos e))) ≡ true → (a < d) ⊎ ((a ≡ d) × (c < e))
order_of a c d e l = go (either _ _ l)
  where
    go : (int_lt (pos a) (pos d) ≡ true) ⊎ ((int_eq (pos a) (pos d) && int_lt (pos c) (pos e)) ≡ true) → (a < d) ⊎ ((a ≡ d) × (c < e))
    go (inl lt) = inl (lt_nat a d lt)
    go (inr both) = let parts = and_parts _ _ both in inr (eq_nat a d parts.0, lt_nat c e parts.1)

-- a whole number that isn't below 0 is a natural one
pub natural_is : (z : ℤ) → int_le (pos 0) z ≡ true → z ≡ pos (natural z)
natural_is (pos n) h = refl
natural_is (negsuc n) h = cc

pub low_fits : (p low high : ℤ) → fits p low high ≡ true → (int_le (pos 0) p ≡ true) × (int_le (pos 0) low ≡ true) × (int_le (pos 0) high ≡ true)
low_fits p low high h =
    let a = and_parts _ _ h in
    let b = and_parts _ _ a.0 in
    let c = and_parts _ _ b.0 in
    let from = and_parts (int_le (pos 0) p) (int_le p (pos 999)) c.0 in
    let low_from = and_parts (int_le (pos 0) low) (int_le low (pos 9_999_999)) c.1 in
    (from.0, low_from.0, above low high low_from.0 b.1)
  where
    above : (low high : ℤ) → int_le (pos 0) low ≡ true → int_le low high ≡ true → int_le (pos 0) high ≡ true
    above low high a b = grind (arith, ints)

next_behind : (p low high q from to : ℤ) → fits p low high ≡ true → fits q from to ≡ true → (int_lt p q || (int_eq p q && int_lt high from)) ≡ true
    → natural p * 10_000_000 + natural low + (natural high + 1 - natural low) ≤ natural q * 10_000_000 + natural from
next_behind p low high q from to h k l =
    let are = low_fits p low high h in
    let others = low_fits q from to k in
    let P = natural_is p are.0 in
    let L = natural_is low are.1 in
    let H = natural_is high are.2 in
    let Q = natural_is q others.0 in
    let F = natural_is from others.1 in
    let here = bounds (natural p) (natural low) (natural high) (sym (λ i. fits (P i) (L i) (H i)) ∙ h) in
    let order = order_of (natural p) (natural high) (natural q) (natural from) (sym (λ i. int_lt (P i) (Q i) || (int_eq (P i) (Q i) && int_lt (H i) (F i))) ∙ l) in
    numbers (natural p) (natural low) (natural high) (natural q) (natural from) here.0 here.1 order

pub row_fits : (row : StockKey × Stock) → is_stock_row row ≡ true → fits row.0.0 row.0.1 row.1.high ≡ true
row_fits row h = (and_parts _ _ h).0

pub has_holder : (row : StockKey × Stock) → is_stock_row row ≡ true → holder_by row.1 ≡ Some (named (holder_by row.1))
has_holder row h = go (holder_by row.1) (and_parts _ _ h).1
  where
    go : (o : Option Holder) → is_some o ≡ true → o ≡ Some (named o)
    go (Some holder) e = refl
    go None e = cc

found : (n : ℕ) (rows : List (StockKey × Stock)) → list_all is_stock_row rows ≡ true → option_and_then (λ row. holder_by row.1) (find (stands_for n) rows) ≡ holders_by (map run_in rows) n
found n [] all = refl
found n (row ∷ rows) all =
    let parts = and_parts (is_stock_row row) (list_all is_stock_row rows) all in
    go (stands_for n row) (is_among (run_in row).first (run_in row).count n) (stands n row.0.0 row.0.1 row.1.high (row_fits row parts.0)) (has_holder row parts.0) (found n rows parts.1)
  where
    go : (a b : Bool) → a ≡ b → holder_by row.1 ≡ Some (named (holder_by row.1)) → option_and_then (λ r. holder_by r.1) (find (stands_for n) rows) ≡ holders_by (map run_in rows) n
        → option_and_then (λ r. holder_by r.1) (cond a (Some row) (find (stands_for n) rows)) ≡ cond b (Some (named (holder_by row.1))) (holders_by (map run_in rows) n)
    go true true e is more = is
    go true false e is more = cc
    go false true e is more = cc
    go false false e is more = more

pub same_holders : (stock : FinMap stock_cmp Stock) → list_all is_stock_row (entries stock) ≡ true → holders_in stock ≡ holders_by (map run_in (entries stock))
same_holders stock all = λ i n. found n (entries stock) all i

each : (rows : List (StockKey × Stock)) → list_all is_stock_row rows ≡ true → AllByRecursion IsRunRow (map run_in rows)
each [] all = tt
each (row ∷ rows) all =
    let parts = and_parts (is_stock_row row) (list_all is_stock_row rows) all in
    let fit = size row.0.0 row.0.1 row.1.high (row_fits row parts.0) in
    (record { some = fit.0; one_prefix = fit.1 }, each rows parts.1)

stand : (low : ℕ) (row : StockKey × Stock) (rows : List (StockKey × Stock)) → list_all is_stock_row (row ∷ rows) ≡ true → are_apart (row ∷ rows) ≡ true → low ≤ (run_in row).first → StandFrom low (map run_in (row ∷ rows))
stand low row [] all apart le = (le, tt)
stand low row (next ∷ rows) all apart le =
    let parts = and_parts (is_stock_row row) (list_all is_stock_row (next ∷ rows)) all in
    let more = and_parts (is_stock_row next) (list_all is_stock_row rows) parts.1 in
    let behind = and_parts (is_behind row next) (are_apart (next ∷ rows)) apart in
    (le, stand (end_of (run_in row)) next rows parts.1 behind.1 (next_behind row.0.0 row.0.1 row.1.high next.0.0 next.0.1 next.1.high (row_fits row parts.0) (row_fits next more.0) behind.0))

pub are_in_order : (stock : FinMap stock_cmp Stock) → list_all is_stock_row (entries stock) ≡ true → are_apart (entries stock) ≡ true → AreRuns (map run_in (entries stock))
are_in_order stock all apart = record { stand = go (entries stock) all apart; each = each (entries stock) all }
  where
    go : (rows : List (StockKey × Stock)) → list_all is_stock_row rows ≡ true → are_apart rows ≡ true → StandFrom 0 (map run_in rows)
    go [] all apart = tt
    go (row ∷ rows) all apart = stand 0 row rows all apart (omega arith)
