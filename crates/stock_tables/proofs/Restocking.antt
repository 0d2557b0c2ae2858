-- The stock after a run is given, by the rows that the run touches.
use Rattle.stock_tables.proofs.Common.{AllByRecursion, AreAround, AreNear, AreRuns, AreThere, Displays, FinMap, Holder, IsCut, IsTrue, IsWritable, List, Restocked, Run, StandFrom, Stock, StockRun, Stocked, Tables, Touches, View, [], and_parts, ap, arith, assigned, begins, cleared, covers, end_of, entries, eq-eqb, get, holders_by, holders_in, inside, is_run, is_some, key_of, leb-true, ltb-true, map, nat_eq, or_left, or_right, put_in, refl, restocked, rows_ahead, rows_behind, rows_near, run_in, serial_of, stock_cmp, subst, sym, true, ℕ, ◌++◌, ◌+◌, ◌∙◌, ◌∷◌, ◌≡◌, ◌≤◌}
use Rattle.stock_tables.proofs.Places.{run_parts}
use Rattle.stock_tables.proofs.Parted.{parted, around, near_holders, touched}
use Rattle.stock_tables.proofs.Standing.{stand_split, stand_lower, last_end, each_split, each_join}
use Rattle.stock_tables.proofs.Meant.{same_holders, are_in_order}
use Rattle.stock_tables.proofs.Rewriting.{lawful_after, holders_after, there_cleared, there_put}

-- what is there is still there when more is put in
pub still_there : (near rows more : List StockRun) (m : FinMap stock_cmp Stock) → AreThere near rows m → AreThere near rows (put_in more m)
still_there near [] more m there = tt
still_there near (r ∷ rows) more m there = (λ has. there_put (key_of r.first) more m (there.0 has), still_there near rows more m there.1)

each_there : (near whole : List StockRun) (m : FinMap stock_cmp Stock) → ((n : ℕ) → begins n whole ≡ true → begins n near ≡ true → is_some (get m (key_of n)) ≡ true)
    → (rows : List StockRun) → ((n : ℕ) → begins n rows ≡ true → begins n whole ≡ true) → AreThere near rows m
each_there near whole m h [] among = tt
each_there near whole m h (r ∷ rows) among = (
  h r.first (among r.first (or_left (nat_eq r.first r.first) (begins r.first rows) (eq-eqb r.first r.first refl))),
  each_there near whole m h rows (λ n has. among n (or_right (nat_eq n r.first) (begins n rows) has)),
)

-- lists put together another way
joined_behind : (m r b : List StockRun) → (m ++ r) ++ b ≡ m ++ (r ++ b)
joined_behind [] r b = refl
joined_behind (x ∷ m) r b = ap (λ l. x ∷ l) (joined_behind m r b)

joined_ahead : (l m r b : List StockRun) → (l ++ (m ++ r)) ++ b ≡ l ++ (m ++ (r ++ b))
joined_ahead [] m r b = joined_behind m r b
joined_ahead (x ∷ l) m r b = ap (λ k. x ∷ k) (joined_ahead l m r b)

regrouped : (a l m r b : List StockRun) → a ++ ((l ++ (m ++ r)) ++ b) ≡ (a ++ l) ++ (m ++ (r ++ b))
regrouped [] l m r b = joined_ahead l m r b
regrouped (x ∷ a) l m r b = ap (λ k. x ∷ k) (regrouped a l m r b)

module _ (run : Run) (is : is_run run ≡ true) (t : Tables) (stocked : Stocked t) (near : List StockRun) (are : near ≡ rows_near run (map run_in (entries t.stock))) where
  abbrev pub all : List StockRun
  all = map run_in (entries t.stock)

  abbrev pub before_run : List StockRun
  before_run = rows_ahead run (map run_in (entries t.stock))

  abbrev pub behind_run : List StockRun
  behind_run = rows_behind run (map run_in (entries t.stock))

  order : AreRuns (map run_in (entries t.stock))
  order = are_in_order t.stock stocked.rows stocked.apart

  pub parted_is : map run_in (entries t.stock) ≡ before_run ++ (near ++ behind_run)
  parted_is =
      let parts = run_parts run.count (serial_of run.first) is in
      parted run parts.0 parts.1 0 all order.stand order.each ∙ ap (λ (l : List StockRun). before_run ++ (l ++ behind_run)) (sym are)

  all_stand : AreRuns (before_run ++ (near ++ behind_run))
  all_stand = subst AreRuns parted_is order

  -- the rows that the run touches say who has its numbers
  pub near_stand : StandFrom 0 near
  near_stand =
      let behind = stand_split 0 before_run (near ++ behind_run) all_stand.stand in
      let first = stand_split (last_end 0 before_run) near behind_run behind.1 in
      stand_lower (last_end 0 before_run) 0 near (omega arith) first.0

  pub near_held : (q : ℕ) → IsTrue (covers run q) → holders_by near q ≡ holders_in t.stock q
  near_held q covered =
      let parts = run_parts run.count (serial_of run.first) is in
      let within = and_parts _ _ covered in
      ap (λ (l : List StockRun). holders_by l q) are
      ∙ near_holders run parts.0 parts.1 all order q (leb-true _ _ within.0) (ltb-true _ _ within.1)
      ∙ sym (λ i. same_holders t.stock stocked.rows i q)

  -- without those of them that only stand beside the run
  module _ (rows : List StockRun) (cut : IsCut run near rows) where
    abbrev pub ahead_of : List StockRun
    ahead_of = rows_ahead run (map run_in (entries t.stock)) ++ cut.ahead

    abbrev pub after_of : List StockRun
    after_of = cut.after ++ rows_behind run (map run_in (entries t.stock))

    pub cut_parted : map run_in (entries t.stock) ≡ ahead_of ++ (rows ++ after_of)
    cut_parted = parted_is ∙ ap (λ (l : List StockRun). before_run ++ (l ++ behind_run)) cut.parted ∙ regrouped before_run cut.ahead rows cut.after behind_run

    pub runs_are : AreRuns (ahead_of ++ (rows ++ after_of))
    runs_are = subst AreRuns cut_parted order

    pub around_is : AreAround run ahead_of after_of
    around_is =
        let parts = run_parts run.count (serial_of run.first) is in
        let beside = around run parts.0 parts.1 all order.each in
        record {
          ends = each_join (λ row. end_of row ≤ run.first) before_run cut.ahead beside.ends cut.around.ends;
          begins = each_join (λ row. run.first + run.count ≤ row.first) cut.after behind_run cut.around.begins beside.begins;
        }

    pub near_touch : AreNear run rows
    near_touch =
        let touch = subst (AreNear run) (sym are ∙ cut.parted) (touched run all) in
        (each_split (Touches run) rows cut.after (each_split (Touches run) cut.ahead (rows ++ cut.after) touch).1).0

    -- other rows in their place
    module _ (new : List StockRun) (to : Holder) (runs : AreRuns (ahead_of ++ (new ++ after_of))) (writable : AllByRecursion IsWritable new) where
      pub there_are : AreThere rows new (cleared new rows t.stock)
      there_are =
          each_there rows new (cleared new rows t.stock) (λ n kept has. there_cleared t.stock stocked ahead_of rows new after_of cut_parted runs writable n kept has) new (λ n has. has)

      pub restocked_is : holders_by (ahead_of ++ (new ++ after_of)) ≡ assigned (holders_by (ahead_of ++ (rows ++ after_of))) run to
          → (v : View) (before : Tables) → Displays v (inside before (restocked (put_in new (cleared new rows t.stock)) t)) → Restocked v before t (assigned (holders_in t.stock) run to)
      restocked_is given v before shown = record {
        stock = put_in new (cleared new rows t.stock);
        shown = shown;
        rows = lawful_after t.stock stocked ahead_of rows new after_of cut_parted runs writable;
        held = holders_after t.stock stocked ahead_of rows new after_of cut_parted runs writable ∙ given
            ∙ ap (λ (l : List StockRun). assigned (holders_by l) run to) (sym cut_parted)
            ∙ ap (λ h. assigned h run to) (sym (same_holders t.stock stocked.rows));
      }
