-- What the reads of the stock's rows say of its numbers.
use Rattle.stock_tables.proofs.Common.{AreStockRows, FinMap, List, None, Option, Run, Some, Stock, StockRow, ap, ap₂, are_enough, entries, filter, holder_at, holders_in, is_between, last_rows_up_to, last_up_to, map, option_and_then, option_map, pos, prefix_of, reaches, reaching, refl, rows_near, run_in, serial_of, stock_cmp, stock_meant, sym, true, ℕ, ℤ, ◌++◌, ◌+ℤ◌, ◌+◌, ◌∙◌, ◌≡◌}
use Rattle.stock_tables.proofs.LastRows.{last_to_end}
use Rattle.stock_tables.proofs.Meant.{same_holders, are_in_order}
use Rattle.stock_tables.proofs.Reading.{near_read, last_have, holder_read, between_read, before_read, last_rows_read, until_read}

module _ (stock : FinMap stock_cmp Stock) (stocked : AreStockRows stock) where
  -- the holder of a number, by the last row that begins with it or before it
  pub held_is : (q : ℕ) (found : Option StockRow) → option_map stock_meant found ≡ last_up_to (pos (prefix_of q)) (pos (serial_of q)) (entries stock)
      → option_and_then (λ (row : StockRow). holder_at q (run_in (stock_meant row))) found ≡ holders_in stock q
  held_is q found is =
      let runs = are_in_order stock stocked.rows stocked.apart in
      by_row found
      ∙ ap (λ o. option_and_then (holder_at q) (option_map run_in o)) is
      ∙ ap (option_and_then (holder_at q)) (until_read (entries stock) stocked.rows q)
      ∙ sym (holder_read q 0 (map run_in (entries stock)) runs.stand runs.each)
      ∙ sym (λ i. same_holders stock stocked.rows i q)
    where
      by_row : (o : Option StockRow) → option_and_then (λ (row : StockRow). holder_at q (run_in (stock_meant row))) o ≡ option_and_then (holder_at q) (option_map run_in (option_map stock_meant o))
      by_row (Some row) = refl
      by_row None = refl

  -- the rows that a run touches, by the two reads
  pub near_is : (run : Run) (z : ℤ) → z +ℤ pos 1 ≡ pos (serial_of run.first) → (found : Option StockRow) → option_map stock_meant found ≡ last_up_to (pos (prefix_of run.first)) z (entries stock)
      → (rows : List StockRow) → map stock_meant rows ≡ filter (is_between (pos (prefix_of run.first)) (pos (serial_of run.first)) (pos (serial_of run.first + run.count))) (entries stock)
      → reaching run (option_map run_in (option_map stock_meant found)) ++ map run_in (map stock_meant rows) ≡ rows_near run (map run_in (entries stock))
  near_is run z low found is rows are =
      let runs = are_in_order stock stocked.rows stocked.apart in
      ap₂ (λ o l. reaching run o ++ l)
      (ap (option_map run_in) is ∙ before_read (entries stock) stocked.rows run z low)
      (ap (map run_in) are ∙ between_read (entries stock) stocked.rows run)
      ∙ sym (near_read run 0 (map run_in (entries stock)) runs.stand)

  -- the rows that a run touches, by the last rows up to its end
  pub near_is_last : (run : Run) (n : ℕ) (rows : List StockRow) → map stock_meant rows ≡ last_rows_up_to (pos (prefix_of run.first)) (pos (serial_of run.first + run.count)) n (entries stock)
      → are_enough n run (map run_in (map stock_meant rows)) ≡ true → filter (reaches run) (map run_in (map stock_meant rows)) ≡ rows_near run (map run_in (entries stock))
  near_is_last run n rows are enough =
      let runs = are_in_order stock stocked.rows stocked.apart in
      let read : map run_in (map stock_meant rows) ≡ last_to_end n run (map run_in (entries stock)) = ap (map run_in) are ∙ last_rows_read (entries stock) stocked.rows run n in
      ap (filter (reaches run)) read
      ∙ last_have run n (map run_in (entries stock)) runs.stand (sym (ap (are_enough n run) read) ∙ enough)
