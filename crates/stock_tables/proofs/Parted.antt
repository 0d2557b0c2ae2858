-- Rows in ascending order, as those before a run, those that it touches, and those behind it.
use Rattle.stock_tables.proofs.Common.{AllByRecursion, AreAround, AreNear, AreRuns, Bool, IsRunRow, List, None, Run, StandFrom, StockRun, Touches, [], ap, arith, cond, end_of, false, filter, holders_by, lies_ahead, lies_behind, nat_eq, nat_le, nat_lt, nat_tests, not, prefix_of, refl, rows_ahead, rows_behind, rows_near, serial_of, sym, touches, true, ℕ, ◌%◌, ◌&&◌, ◌++◌, ◌+◌, ◌/◌, ◌<◌, ◌∙◌, ◌∷◌, ◌≡◌, ◌≤◌}
use Rattle.stock_tables.proofs.Standing.{by_first, by_second, ahead}
use Rattle.stock_tables.proofs.Places.{none_all}

-- the tests of a row, as facts on numbers
tests_touch : (first count start size : ℕ) → (nat_eq (start / 10_000_000) (first / 10_000_000) && (nat_le start (first + count) && nat_le first (start + size))) ≡ true
    → (start / 10_000_000 ≡ first / 10_000_000) × (start ≤ first + count) × (first ≤ start + size)
tests_touch first count start size h = (grind (arith, nat_tests), grind (arith, nat_tests), grind (arith, nat_tests))

-- a row ahead ends before the run
ends_before : (first count start size : ℕ) → start % 10_000_000 + size ≤ 10_000_000
    → (not (nat_eq (start / 10_000_000) (first / 10_000_000) && (nat_le start (first + count) && nat_le first (start + size))) && nat_lt start first) ≡ true → start + size ≤ first
ends_before first count start size fits h = go (nat_eq (start / 10_000_000) (first / 10_000_000)) refl h
  where
    apart : start / 10_000_000 < first / 10_000_000 → start + size ≤ first
    apart lt = omega (arith, lt, fits)

    go : (b : Bool) → nat_eq (start / 10_000_000) (first / 10_000_000) ≡ b → (not (b && (nat_le start (first + count) && nat_le first (start + size))) && nat_lt start first) ≡ true → start + size ≤ first
    go true e k = grind (arith, nat_tests)
    go false e k =
        let below : start < first = grind (arith, nat_tests) in
        let other : start / 10_000_000 ≡ first / 10_000_000 → ⊥ = grind (arith, nat_tests) in
        let le : start / 10_000_000 ≤ first / 10_000_000 = omega (arith, below) in
        apart (omega (arith, other, le))

-- a row behind begins behind the run
begins_behind : (first count start size : ℕ) → first % 10_000_000 + count ≤ 10_000_000
    → (not (nat_eq (start / 10_000_000) (first / 10_000_000) && (nat_le start (first + count) && nat_le first (start + size))) && not (nat_lt start first)) ≡ true → first + count ≤ start
begins_behind first count start size fits h = go (nat_eq (start / 10_000_000) (first / 10_000_000)) refl h
  where
    apart : first / 10_000_000 < start / 10_000_000 → first + count ≤ start
    apart lt = omega (arith, lt, fits)

    go : (b : Bool) → nat_eq (start / 10_000_000) (first / 10_000_000) ≡ b → (not (b && (nat_le start (first + count) && nat_le first (start + size))) && not (nat_lt start first)) ≡ true → first + count ≤ start
    go true e k = grind (arith, nat_tests)
    go false e k =
        let above : first ≤ start = grind (arith, nat_tests) in
        let other : start / 10_000_000 ≡ first / 10_000_000 → ⊥ = grind (arith, nat_tests) in
        let le : first / 10_000_000 ≤ start / 10_000_000 = omega (arith, above) in
        apart (omega (arith, other, le))

-- from a number on, no row lies ahead, or is touched
not_ahead : (t : Bool) (start first : ℕ) → first ≤ start → (t && nat_lt start first) ≡ false
not_ahead t start first le = grind (arith, nat_tests)

not_touched : (t : Bool) (first count start size : ℕ) → first + count < start → (t && (nat_le start (first + count) && nat_le first (start + size))) ≡ false
not_touched t first count start size lt = grind (arith, nat_tests)

passes_on : (p : StockRun → Bool) (row : StockRun) (rows : List StockRun) → p row ≡ false → filter p (row ∷ rows) ≡ filter p rows
passes_on p row rows h = ap (λ b. cond b (row ∷ filter p rows) (filter p rows)) h

takes_it : (p : StockRun → Bool) (row : StockRun) (rows : List StockRun) → p row ≡ true → filter p (row ∷ rows) ≡ row ∷ filter p rows
takes_it p row rows h = ap (λ b. cond b (row ∷ filter p rows) (filter p rows)) h

same_parts : {a b c x y z : List StockRun} → a ≡ x → b ≡ y → c ≡ z → a ++ (b ++ c) ≡ x ++ (y ++ z)
same_parts p q r = λ i. p i ++ (q i ++ r i)

kept : (P Q : StockRun → Type 0) (p : StockRun → Bool) → ((row : StockRun) → P row → p row ≡ true → Q row) → (rows : List StockRun) → AllByRecursion P rows → AllByRecursion Q (filter p rows)
kept P Q p f [] all = tt
kept P Q p f (row ∷ rows) all = go (p row) refl (kept P Q p f rows all.1)
  where
    go : (b : Bool) → p row ≡ b → AllByRecursion Q (filter p rows) → AllByRecursion Q (cond b (row ∷ filter p rows) (filter p rows))
    go true e more = (f row all.0 e, more)
    go false e more = more

none_yet : (end : ℕ) (rows : List StockRun) (q : ℕ) → AllByRecursion (λ row. end ≤ row.first) rows → q < end → holders_by rows q ≡ None
none_yet end [] q all lt = refl
none_yet end (row ∷ rows) q all lt = ahead row rows q (omega (arith, all.0, lt)) ∙ none_yet end rows q all.1 lt

module _ (run : Run) (some : 0 < run.count) (fits : serial_of run.first + run.count ≤ 10_000_000) where
  none_ahead : (low : ℕ) (rows : List StockRun) → StandFrom low rows → run.first ≤ low → rows_ahead run rows ≡ []
  none_ahead low [] stand le = refl
  none_ahead low (row ∷ rows) stand le =
      passes_on (lies_ahead run) row rows (not_ahead (not (touches run row)) row.first run.first (omega (arith, le, stand.0)))
      ∙ none_ahead (end_of row) rows stand.1 (omega (arith, le, stand.0))

  none_near : (low : ℕ) (rows : List StockRun) → StandFrom low rows → run.first + run.count < low → rows_near run rows ≡ []
  none_near low [] stand lt = refl
  none_near low (row ∷ rows) stand lt =
      passes_on (touches run) row rows (not_touched (nat_eq (prefix_of row.first) (prefix_of run.first)) run.first run.count row.first row.count (omega (arith, lt, stand.0)))
      ∙ none_near (end_of row) rows stand.1 (omega (arith, lt, stand.0))

  pub parted : (low : ℕ) (rows : List StockRun) → StandFrom low rows → AllByRecursion IsRunRow rows → rows ≡ rows_ahead run rows ++ (rows_near run rows ++ rows_behind run rows)
  parted low [] stand each = refl
  parted low (row ∷ rows) stand each = go (touches run row) (nat_lt row.first run.first) refl refl (parted (end_of row) rows stand.1 each.1)
    where
      go : (t l : Bool) → touches run row ≡ t → nat_lt row.first run.first ≡ l → rows ≡ rows_ahead run rows ++ (rows_near run rows ++ rows_behind run rows)
          → row ∷ rows ≡ rows_ahead run (row ∷ rows) ++ (rows_near run (row ∷ rows) ++ rows_behind run (row ∷ rows))
      go true l e f more =
          let reach = (tests_touch run.first run.count row.first row.count e).2 in
          let none = none_ahead (end_of row) rows stand.1 reach in
          ap (λ l. row ∷ l) (more ∙ ap (λ a. a ++ (rows_near run rows ++ rows_behind run rows)) none)
          ∙ sym (same_parts (passes_on (lies_ahead run) row rows (ap (λ b. not b && nat_lt row.first run.first) e) ∙ none) (takes_it (touches run) row rows e)
          (passes_on (lies_behind run) row rows (ap (λ b. not b && not (nat_lt row.first run.first)) e)))
      go false true e f more =
          ap (λ l. row ∷ l) more
          ∙ sym (same_parts (takes_it (lies_ahead run) row rows (λ i. not (e i) && f i)) (passes_on (touches run) row rows e) (passes_on (lies_behind run) row rows (λ i. not (e i) && not (f i))))
      go false false e f more =
          let behind : lies_behind run row ≡ true = λ i. not (e i) && not (f i) in
          let begins = begins_behind run.first run.count row.first row.count fits behind in
          let size = each.0.some in
          let a = none_ahead (end_of row) rows stand.1 (omega (arith, begins)) in
          let b = none_near (end_of row) rows stand.1 (omega (arith, begins, size)) in
          ap (λ l. row ∷ l) (more ∙ λ i. a i ++ (b i ++ rows_behind run rows))
          ∙ sym (same_parts (passes_on (lies_ahead run) row rows (λ i. not (e i) && f i) ∙ a) (passes_on (touches run) row rows e ∙ b) (takes_it (lies_behind run) row rows behind))

  pub around : (rows : List StockRun) → AllByRecursion IsRunRow rows → AreAround run (rows_ahead run rows) (rows_behind run rows)
  around rows each = record {
    ends = kept IsRunRow (λ row. end_of row ≤ run.first) (lies_ahead run) (λ row is e. ends_before run.first run.count row.first row.count is.one_prefix e) rows each;
    begins = kept IsRunRow (λ row. run.first + run.count ≤ row.first) (lies_behind run) (λ row is e. begins_behind run.first run.count row.first row.count fits e) rows each;
  }

  pub near_holders : (rows : List StockRun) → AreRuns rows → (q : ℕ) → run.first ≤ q → q < run.first + run.count → holders_by (rows_near run rows) q ≡ holders_by rows q
  near_holders rows are q from below =
      let beside = around rows are.each in
      let near = rows_near run rows in
      let behind = rows_behind run rows in
      let none = none_all run.first (rows_ahead run rows) q beside.ends from in
      let over = none_yet (run.first + run.count) behind q beside.begins below in
      sym (by_first near behind q over) ∙ sym (by_second (rows_ahead run rows) (near ++ behind) q none) ∙ ap (λ l. holders_by l q) (sym (parted 0 rows are.stand are.each))

pub touched : (run : Run) (rows : List StockRun) → AreNear run (rows_near run rows)
touched run [] = tt
touched run (row ∷ rows) = go (touches run row) refl (touched run rows)
  where
    go : (b : Bool) → touches run row ≡ b → AreNear run (rows_near run rows) → AllByRecursion (Touches run) (cond b (row ∷ rows_near run rows) (rows_near run rows))
    go true e more = let t = tests_touch run.first run.count row.first row.count e in (record { prefix = t.0; from = t.1; to = t.2 }, more)
    go false e more = more
