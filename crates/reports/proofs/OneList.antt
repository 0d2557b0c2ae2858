-- Two lists of the runs of one stock are equal, and so its report has one text.
use Rattle.reports.proofs.Common.{AllByRecursion, IsSome, IsStockReport, IsTrue, List, Some, StockRun, [], and_from, and_parts, ap, arith, cases_lt, false≢true, inl, inr, is_some, le-leb, leb-true, line_by, list_any, lt-ltb, ltb-true, or_cases, refl, report_text, serial_of, stock_cells, subst, sym, ℕ, ⊎_elim, ◌+◌, ◌<◌, ◌∙◌, ◌∷◌, ◌≡◌, ◌≢◌, ◌≤◌, ◌⊎◌}
use Rattle.agent_stock.specs.Stock.{Holders, is_among, IsMaximalRun, AreApart, AreStockRuns}

-- each row begins there at least, and behind the one before it
abbrev StandFrom : ℕ → List StockRun → Type 0
StandFrom low [] = Unit {0}
StandFrom low (row ∷ rows) = (low ≤ row.first) × StandFrom (row.first + row.count) rows

stand : (row : StockRun) (rows : List StockRun) → AreApart (row ∷ rows) → StandFrom (row.first + row.count) rows
stand row [] h = tt
stand row (next ∷ rows) h = (h.0, stand next rows h.1)

stand_all : (rows : List StockRun) → AreApart rows → StandFrom 0 rows
stand_all [] h = tt
stand_all (row ∷ rows) h = (omega arith, stand row rows h)

-- a number is one of a row's
abbrev IsIn : ℕ → StockRun → Type 0
IsIn q row = IsTrue (is_among row.first row.count q)

-- a number is one of some row's
abbrev IsListed : ℕ → List StockRun → Type 0
IsListed q rows = IsTrue (list_any (λ row. is_among row.first row.count q) rows)

covered : (row : StockRun) (q : ℕ) → IsIn q row → (row.first ≤ q) × (q < row.first + row.count)
covered row q h = let parts = and_parts _ _ h in (leb-true _ _ parts.0, ltb-true _ _ parts.1)

covers : (row : StockRun) (q : ℕ) → row.first ≤ q → q < row.first + row.count → IsIn q row
covers row q le lt = and_from _ _ (le-leb _ _ le) (lt-ltb _ _ lt)

-- a number that is listed isn't below the place from which the rows stand
above : (low q : ℕ) (rows : List StockRun) → StandFrom low rows → IsListed q rows → low ≤ q
above low q [] h listed = absurd (false≢true listed)
above low q (row ∷ rows) h listed =
    ⊎_elim (λ (here : IsIn q row). omega (arith, h.0, (covered row q here).0)) (λ (there : IsListed q rows). omega (arith, h.0, above (row.first + row.count) q rows h.1 there)) (or_cases _ _ listed)

-- a number behind the first row is one of the others'
behind_by : (row : StockRun) (q : ℕ) (rows : List StockRun) → row.first + row.count ≤ q → IsIn q row ⊎ IsListed q rows → IsListed q rows
behind_by row q rows le (inl here) = let within = covered row q here in absurd (omega (arith, le, within.1))
behind_by row q rows le (inr there) = there

behind : (row : StockRun) (q : ℕ) (rows : List StockRun) → row.first + row.count ≤ q → IsListed q (row ∷ rows) → IsListed q rows
behind row q rows le listed = behind_by row q rows le (or_cases _ _ listed)

module _ (holders : Holders) where
  first_held : (row : StockRun) → IsMaximalRun holders row → holders row.first ≡ Some row.holder
  first_held row m = m.one_holder row.first (covers row row.first (omega arith) (omega (arith, m.some)))

  first_some : (row : StockRun) → IsMaximalRun holders row → IsSome (holders row.first)
  first_some row m = ap is_some (first_held row m)

  -- where a run ends, the next number isn't one of another's with its holder
  ends_there : (x y : StockRun) → IsMaximalRun holders y → serial_of x.first + x.count < serial_of y.first + y.count → holders (x.first + x.count) ≡ Some x.holder
      → (serial_of x.first + x.count ≡ 10_000_000) ⊎ (holders (x.first + x.count) ≢ Some x.holder) → ⊥
  ends_there x y my lt held (inl last) = omega (arith, lt, last, my.one_prefix)
  ends_there x y my lt held (inr other) = other held

  -- of two runs that begin at one number the other isn't longer
  not_longer : (x y : StockRun) → IsMaximalRun holders x → IsMaximalRun holders y → x.first ≡ y.first → x.holder ≡ y.holder → x.count < y.count → ⊥
  not_longer x y mx my first holder lt =
      let serial : serial_of x.first ≡ serial_of y.first = ap serial_of first in
      let held : holders (x.first + x.count) ≡ Some y.holder = my.one_holder (x.first + x.count) (covers y (x.first + x.count) (omega (arith, first)) (omega (arith, first, lt))) in
      ends_there x y my (omega (arith, serial, lt)) (held ∙ ap Some (sym holder)) mx.none_after

  one_run : (x y : StockRun) → IsMaximalRun holders x → IsMaximalRun holders y → x.first ≡ y.first → x ≡ y
  one_run x y mx my first =
      let both : Some x.holder ≡ Some y.holder = sym (first_held x mx) ∙ ap holders first ∙ first_held y my in
      let holder : x.holder ≡ y.holder = cc in
      let count : x.count ≡ y.count = ⊎_elim (λ (lt : x.count < y.count). absurd (not_longer x y mx my first holder lt))
      (λ (le : y.count ≤ x.count). ⊎_elim (λ (lt : y.count < x.count). absurd (not_longer y x my mx (sym first) (sym holder) lt)) (λ (ge : x.count ≤ y.count). omega (arith, le, ge)) (cases_lt y.count x.count))
      (cases_lt x.count y.count) in
      λ i. record { first = first i; count = count i; holder = holder i }

  -- each number in stock from there on is listed
  abbrev AreAllFrom : ℕ → List StockRun → Type 0
  AreAllFrom low rows = (q : ℕ) → low ≤ q → IsSome (holders q) → IsListed q rows

  all_behind : (low : ℕ) (row : StockRun) (rows : List StockRun) → low ≤ row.first → AreAllFrom low (row ∷ rows) → AreAllFrom (row.first + row.count) rows
  all_behind low row rows le all = λ q from some. behind row q rows from (all q (omega (arith, le, from)) some)

  one_list_from : (low : ℕ) (xs ys : List StockRun) → AllByRecursion (IsMaximalRun holders) xs → AllByRecursion (IsMaximalRun holders) ys → StandFrom low xs → StandFrom low ys
      → AreAllFrom low xs → AreAllFrom low ys → xs ≡ ys
  one_list_from low [] [] mx my sx sy ax ay = refl
  one_list_from low [] (y ∷ ys) mx my sx sy ax ay = absurd (false≢true (ax y.first sy.0 (first_some y my.0)))
  one_list_from low (x ∷ xs) [] mx my sx sy ax ay = absurd (false≢true (ay x.first sx.0 (first_some x mx.0)))
  one_list_from low (x ∷ xs) (y ∷ ys) mx my sx sy ax ay =
      let up : x.first ≤ y.first = above x.first y.first (x ∷ xs) (omega arith, sx.1) (ax y.first sy.0 (first_some y my.0)) in
      let down : y.first ≤ x.first = above y.first x.first (y ∷ ys) (omega arith, sy.1) (ay x.first sx.0 (first_some x mx.0)) in
      let same : x ≡ y = one_run x y mx.0 my.0 (omega (arith, up, down)) in
      let end : y.first + y.count ≡ x.first + x.count = ap (λ (row : StockRun). row.first + row.count) (sym same) in
      let rest : xs ≡ ys = one_list_from (x.first + x.count) xs ys mx.1 my.1 sx.1 (subst (λ low. StandFrom low ys) end sy.1) (all_behind low x xs sx.0 ax)
      (subst (λ low. AreAllFrom low ys) end (all_behind low y ys sy.0 ay)) in
      λ i. same i ∷ rest i

  pub one_list : (xs ys : List StockRun) → AreStockRuns holders xs → AreStockRuns holders ys → xs ≡ ys
  one_list xs ys are too = one_list_from 0 xs ys are.maximal too.maximal (stand_all xs are.rising) (stand_all ys too.rising) (λ q _ some. are.complete q some) (λ q _ some. too.complete q some)

  pub one_text : (a b : List ℕ) → IsStockReport holders a → IsStockReport holders b → a ≡ b
  one_text a b is too = is.2 ∙ ap (report_text (line_by stock_cells)) (one_list is.0 too.0 is.1 too.1) ∙ sym too.2
