-- Rows of runs that rise, and one more behind them.
use Rattle.agent_stock.proofs.Common.{AllByRecursion, AreStockRuns, IsNoneFrom, List, Some, StandFrom, StockRun, [], ap, arith, cases_lt, cond, cond-false, end_of, false, holders_by, inl, inr, is_among, nat_le, nat_lt, nat_tests, refl, sym, with_run, ℕ, ◌&&◌, ◌++◌, ◌+◌, ◌<◌, ◌∙◌, ◌∷◌, ◌≡◌, ◌≤◌}

-- a number before a run, and one behind it
pub under : (a c q : ℕ) → q < a → (nat_le a q && nat_lt q (a + c)) ≡ false
under a c q h = grind (arith, nat_tests)

pub over : (a c q : ℕ) → a + c ≤ q → (nat_le a q && nat_lt q (a + c)) ≡ false
over a c q h = grind (arith, nat_tests)

-- nothing is in stock
pub no_runs : AreStockRuns (holders_by []) []
no_runs = record { maximal = tt; rising = tt; complete = λ q h. h }

pub each_behind : (P : StockRun → Type 0) (rows : List StockRun) (row : StockRun) (more : List StockRun) → AllByRecursion P (rows ++ row ∷ more) → P row
each_behind P [] row more h = h.0
each_behind P (first ∷ rows) row more h = each_behind P rows row more h.1

stands : (low : ℕ) (rows : List StockRun) (row : StockRun) (more : List StockRun) → StandFrom low (rows ++ row ∷ more) → low ≤ row.first
stands low [] row more h = h.0
stands low (first ∷ rows) row more h =
    let behind : first.first + first.count ≤ row.first = stands (end_of first) rows row more h.1 in
    omega (arith, behind, h.0)

module _ (row : StockRun) (more : List StockRun) where
  -- the rows before it have no number from its first on
  pub none_yet : (low : ℕ) (rows : List StockRun) → StandFrom low (rows ++ row ∷ more) → IsNoneFrom row.first (holders_by rows)
  none_yet low [] h q le = refl
  none_yet low (first ∷ rows) h q le =
      let behind : first.first + first.count ≤ row.first = stands (end_of first) rows row more h.1 in
      cond-false (is_among first.first first.count q) _ _ (over first.first first.count q (omega (arith, behind, le)))
      ∙ none_yet (end_of first) rows h.1 q le

  -- who has a number by the rows and this one
  pub one_more : (low : ℕ) (rows : List StockRun) → StandFrom low (rows ++ row ∷ more) → with_run (holders_by rows) row ≡ holders_by (rows ++ row ∷ [])
  one_more low rows h = λ i q. step low rows h q i
    where
      step : (low : ℕ) (rows : List StockRun) → StandFrom low (rows ++ row ∷ more) → (q : ℕ)
          → with_run (holders_by rows) row q ≡ holders_by (rows ++ row ∷ []) q
      step low [] h q = refl
      step low (first ∷ rows) h q =
          let behind : first.first + first.count ≤ row.first = stands (end_of first) rows row more h.1 in
          let others = step (end_of first) rows h.1 q in
          elim (cases_lt q row.first) [
            | inl lt ↦
                let not_there = under row.first row.count q lt in
                cond-false (is_among row.first row.count q) _ _ not_there
                ∙ ap (λ held. cond (is_among first.first first.count q) (Some first.holder) held)
                (sym (cond-false (is_among row.first row.count q) _ _ not_there) ∙ others)
            | inr le ↦
                let passed = over first.first first.count q (omega (arith, behind, le)) in
                ap (λ held. cond (is_among row.first row.count q) (Some row.holder) held) (cond-false (is_among first.first first.count q) _ _ passed)
                ∙ others ∙ sym (cond-false (is_among first.first first.count q) _ _ passed)
          ]
