-- The rows that a run touches, and the holder of a number, by the last row below a number.
use Rattle.stock_tables.proofs.Common.{AllByRecursion, Bool, IsRunRow, List, None, Option, Run, Some, StandFrom, Stock, StockKey, StockRun, [], and_parts, ap, are_enough, arith, begins_before, cond, drop, drop-map, end_of, eqb-true, false, filter, holder_at, holders_by, inl, inr, int_eq, int_le, ints, is_among, is_between, is_stock_row, is_up_to, last_or, last_rows_up_to, last_up_to, leb-true, length, length-drop, length-map, list_all, ltb-true, map, nat_eq, nat_le, nat_lt, nat_tests, natural, negsuc, option_and_then, option_map, pos, prefix_of, reaches, reaching, refl, rows_near, run_in, serial_of, subst, sym, take, take-append-drop, touches, true, ℕ, ℤ, ◌%◌, ◌&&◌, ◌*◌, ◌++◌, ◌+ℤ◌, ◌+◌, ◌-◌, ◌/◌, ◌<◌, ◌||◌, ◌∙◌, ◌∷◌, ◌≡◌, ◌≤◌, ◌⊎◌}
use Rattle.stock_tables.proofs.LastRows.{is_below, is_from, last_below, last_to_end}
use Rattle.std.proofs.lemmas.List.Elements.{filter-append, filter_agree}
use Rattle.stock_tables.proofs.Standing.{last_end, ends_up, stand_split, stand_lower}
use Rattle.stock_tables.proofs.Meant.{low_fits, natural_is, row_fits}

-- ---- rows below a number

begins_below : (p b : ℕ) (r : StockRun) → is_below p b r ≡ true → (prefix_of r.first ≡ p) × (r.first < b)
begins_below p b r h = let parts = and_parts _ _ h in (eqb-true _ _ parts.0, ltb-true _ _ parts.1)

-- no row is below the number; or the first of the rows begins below it, and the last of them is the last of more as well
abbrev Behind : ℕ → ℕ → ℕ → List StockRun → Type 0
Behind p b low rows = (filter (is_below p b) rows ≡ []) ⊎ ((low < b) × ((o : Option StockRun) → last_or o (filter (is_below p b) rows) ≡ last_below p b rows))

below_behind : (p b low : ℕ) (rows : List StockRun) → StandFrom low rows → Behind p b low rows
below_behind p b low [] stand = inl refl
below_behind p b low (r ∷ rows) stand = go (is_below p b r) refl (below_behind p b (end_of r) rows stand.1)
  where
    kept : List StockRun
    kept = filter (is_below p b) rows

    go : (t : Bool) → is_below p b r ≡ t → Behind p b (end_of r) rows
        → (cond t (r ∷ kept) kept ≡ []) ⊎ ((low < b) × ((o : Option StockRun) → last_or o (cond t (r ∷ kept) kept) ≡ last_or None (cond t (r ∷ kept) kept)))
    go true e more = inr (let parts = begins_below p b r e in let up = stand.0 in omega (arith, up, parts.1), λ o. refl)
    go false e (inl none) = inl none
    go false e (inr some) = inr (let up = stand.0 in let lt = some.0 in omega (arith, up, lt), some.1)

-- ---- the rows that a run touches

module _ (run : Run) where
  abbrev prefix : ℕ
  prefix = prefix_of run.first

  abbrev last : List StockRun → Option StockRun
  last rows = last_below (prefix_of run.first) run.first rows

  abbrev from : List StockRun → List StockRun
  from rows = filter (is_from run) rows

  reached : (p q f e c g : ℕ) → (nat_eq p q && nat_lt f g) ≡ true → (nat_eq p q && (nat_le f (g + c) && nat_le g e)) ≡ nat_le g e
  reached p q f e c g h = grind (arith, nat_tests)

  not_from : (p q f c g : ℕ) → (nat_eq p q && nat_lt f g) ≡ true → (nat_eq p q && (nat_le g f && nat_le f (g + c))) ≡ false
  not_from p q f c g h = grind (arith, nat_tests)

  as_from : (p q f n c g : ℕ) → (nat_eq p q && nat_lt f g) ≡ false → (nat_eq p q && (nat_le f (g + c) && nat_le g (f + n))) ≡ (nat_eq p q && (nat_le g f && nat_le f (g + c)))
  as_from p q f n c g h = grind (arith, nat_tests)

  too_low : (g e : ℕ) → e < g → nat_le g e ≡ false
  too_low g e h = grind (arith, nat_tests)

  near_more : (r : StockRun) (rows : List StockRun) → StandFrom (end_of r) rows → rows_near run rows ≡ reaching run (last rows) ++ from rows
      → rows_near run (r ∷ rows) ≡ reaching run (last (r ∷ rows)) ++ from (r ∷ rows)
  near_more r rows stand more = go (is_below prefix run.first r) refl
    where
      -- it is below the run, and the last such row
      ends : (t : Bool) → rows_near run rows ≡ from rows → cond t (r ∷ rows_near run rows) (rows_near run rows) ≡ cond t (r ∷ []) [] ++ from rows
      ends true e = ap (λ l. r ∷ l) e
      ends false e = e

      below : is_below prefix run.first r ≡ true → Behind prefix run.first (end_of r) rows → cond (touches run r) (r ∷ rows_near run rows) (rows_near run rows) ≡ reaching run (last_or (Some r) (filter (is_below prefix run.first) rows)) ++ from rows
      below e (inl none) =
          ap (λ t. cond t (r ∷ rows_near run rows) (rows_near run rows)) (reached (prefix_of r.first) prefix r.first (end_of r) run.count run.first e)
          ∙ ends (nat_le run.first (end_of r)) (more ∙ ap (λ l. reaching run (last_or None l) ++ from rows) none)
          ∙ sym (ap (λ l. reaching run (last_or (Some r) l) ++ from rows) none)
      below e (inr some) =
          ap (λ t. cond t (r ∷ rows_near run rows) (rows_near run rows)) (reached (prefix_of r.first) prefix r.first (end_of r) run.count run.first e ∙ too_low run.first (end_of r) some.0)
          ∙ more ∙ sym (ap (λ o. reaching run o ++ from rows) (some.1 (Some r)))

      -- it is not below the run
      begins : (t : Bool) → is_from run r ≡ t → Behind prefix run.first (end_of r) rows → cond t (r ∷ rows_near run rows) (rows_near run rows) ≡ reaching run (last rows) ++ cond t (r ∷ from rows) (from rows)
      begins true e (inl none) =
          ap (λ l. r ∷ l) (more ∙ ap (λ l. reaching run (last_or None l) ++ from rows) none)
          ∙ sym (ap (λ l. reaching run (last_or None l) ++ (r ∷ from rows)) none)
      begins true e (inr some) =
          let parts = and_parts (nat_eq (prefix_of r.first) (prefix_of run.first)) (nat_le run.first r.first && nat_le r.first (run.first + run.count)) e in
          let low : run.first ≤ r.first = leb-true run.first r.first (and_parts (nat_le run.first r.first) (nat_le r.first (run.first + run.count)) parts.1).0 in
          let lt = some.0 in
          absurd (omega (arith, low, lt))
      begins false e behind = more

      go : (t : Bool) → is_below prefix run.first r ≡ t
          → cond (touches run r) (r ∷ rows_near run rows) (rows_near run rows) ≡ reaching run (last_or None (cond t (r ∷ filter (is_below prefix run.first) rows) (filter (is_below prefix run.first) rows))) ++ cond (is_from run r) (r ∷ from rows) (from rows)
      go true e =
          below e (below_behind prefix run.first (end_of r) rows stand)
          ∙ sym (ap (λ t. reaching run (last_or (Some r) (filter (is_below prefix run.first) rows)) ++ cond t (r ∷ from rows) (from rows)) (not_from (prefix_of r.first) prefix r.first run.count run.first e))
      go false e =
          ap (λ t. cond t (r ∷ rows_near run rows) (rows_near run rows)) (as_from (prefix_of r.first) prefix r.first r.count run.count run.first e)
          ∙ begins (is_from run r) refl (below_behind prefix run.first (end_of r) rows stand)

  pub near_read : (low : ℕ) (rows : List StockRun) → StandFrom low rows → rows_near run rows ≡ reaching run (last rows) ++ from rows
  near_read low [] stand = refl
  near_read low (r ∷ rows) stand = near_more r rows stand.1 (near_read (end_of r) rows stand.1)

-- ---- the last rows up to the end of a run

both_tests : (p q : StockRun → Bool) (rows : List StockRun) → filter (λ r. q r && p r) rows ≡ filter p (filter q rows)
both_tests p q [] = refl
both_tests p q (r ∷ rows) = go (q r) (both_tests p q rows)
  where
    go : (t : Bool) → filter (λ x. q x && p x) rows ≡ filter p (filter q rows)
        → cond (t && p r) (r ∷ filter (λ x. q x && p x) rows) (filter (λ x. q x && p x) rows) ≡ filter p (cond t (r ∷ filter q rows) (filter q rows))
    go true more = ap (λ l. cond (p r) (r ∷ l) l) more
    go false more = more

some_stand : (p : StockRun → Bool) (low : ℕ) (rows : List StockRun) → StandFrom low rows → StandFrom low (filter p rows)
some_stand p low [] stand = tt
some_stand p low (r ∷ rows) stand = go (p r) (some_stand p (end_of r) rows stand.1)
  where
    go : (t : Bool) → StandFrom (end_of r) (filter p rows) → StandFrom low (cond t (r ∷ filter p rows) (filter p rows))
    go true more = (stand.0, more)
    go false more = stand_lower (end_of r) low (filter p rows) (omega (arith, stand.0)) more

touch_parts : (p q f c g e : ℕ) → (nat_eq p q && (nat_le f (g + c) && nat_le g e)) ≡ ((nat_eq p q && nat_lt f (g + c + 1)) && nat_le g e)
touch_parts p q f c g e = grind (arith, nat_tests)

either : (a b : Bool) → (a || b) ≡ true → (a ≡ true) ⊎ (b ≡ true)
either true b is = inl refl
either false b is = inr is

module _ (run : Run) where
  abbrev up_to : StockRun → Bool
  up_to = is_below (prefix_of run.first) (run.first + run.count + 1)

  near_among : (rows : List StockRun) → rows_near run rows ≡ filter (reaches run) (filter up_to rows)
  near_among rows =
      filter_agree (touches run) (λ r. up_to r && reaches run r) (λ r. touch_parts (prefix_of r.first) (prefix_of run.first) r.first run.count run.first (end_of r)) rows
      ∙ both_tests (reaches run) up_to rows

  none_reach : (low : ℕ) (rows : List StockRun) → StandFrom low rows → last_end low rows < run.first → filter (reaches run) rows ≡ []
  none_reach low [] stand lt = refl
  none_reach low (r ∷ rows) stand lt =
      let up = ends_up (end_of r) rows stand.1 in
      ap (λ t. cond t (r ∷ filter (reaches run) rows) (filter (reaches run) rows)) (too_low run run.first (end_of r) (omega (arith, up, lt)))
      ∙ none_reach (end_of r) rows stand.1 lt

  -- what is left out before the last rows doesn't reach the run
  left_out : (n : ℕ) (all : List StockRun) → StandFrom 0 all → are_enough n run (drop (length all - n) all) ≡ true → filter (reaches run) (take (length all - n) all) ≡ []
  left_out n all stand enough = go (either (nat_lt (length (drop k all)) n) (begins_before run (drop k all)) enough)
    where
      k : ℕ
      k = length all - n

      before : (last : List StockRun) → StandFrom 0 (take k all ++ last) → begins_before run last ≡ true → last_end 0 (take k all) < run.first
      before [] parts is = absurd (cc)
      before (r ∷ rows) parts is =
          let up = (stand_split 0 (take k all) (r ∷ rows) parts).1.0 in
          let lt = ltb-true r.first run.first is in
          omega (arith, up, lt)

      go : (nat_lt (length (drop k all)) n ≡ true) ⊎ (begins_before run (drop k all) ≡ true) → filter (reaches run) (take k all) ≡ []
      go (inl few) =
          let lt = ltb-true (length (drop k all)) n few in
          let none : k ≡ 0 = omega (arith, lt, length-drop k all) in
          ap (λ i. filter (reaches run) (take i all)) none
      go (inr first) =
          let parts = subst (StandFrom 0) (sym (take-append-drop k all)) stand in
          none_reach 0 (take k all) (stand_split 0 (take k all) (drop k all) parts).0 (before (drop k all) parts first)

  pub last_have : (n : ℕ) (rows : List StockRun) → StandFrom 0 rows → are_enough n run (last_to_end n run rows) ≡ true → filter (reaches run) (last_to_end n run rows) ≡ rows_near run rows
  last_have n rows stand enough =
      let all = filter up_to rows in
      let k = length all - n in
      sym
      (near_among rows ∙ ap (filter (reaches run)) (sym (take-append-drop k all)) ∙ filter-append (reaches run) (take k all) (drop k all)
      ∙ ap (λ l. l ++ filter (reaches run) (drop k all)) (left_out n all (some_stand up_to 0 rows stand) enough))

-- ---- the holder of a number

module _ (q : ℕ) where
  abbrev last_to : List StockRun → Option StockRun
  last_to rows = last_below (prefix_of q) (q + 1) rows

  below_ends : (f c : ℕ) → f < q + 1 → is_among f c q ≡ nat_lt q (f + c)
  below_ends f c h = grind (arith, nat_tests)

  ended : (e : ℕ) → e < q + 1 → nat_lt q e ≡ false
  ended e h = grind (arith, nat_tests)

  not_among : (f c : ℕ) → f % 10_000_000 + c ≤ 10_000_000 → (nat_eq (f / 10_000_000) (q / 10_000_000) && nat_lt f (q + 1)) ≡ false → (nat_le f q && nat_lt q (f + c)) ≡ false
  not_among f c h e = go (nat_le f q) refl (nat_lt q (f + c)) refl
    where
      same : f ≤ q → q < f + c → f / 10_000_000 ≡ q / 10_000_000
      same le lt = omega arith

      below : (p s : ℕ) → p ≡ s → f ≤ q → (nat_eq p s && nat_lt f (q + 1)) ≡ true
      below p s e le = grind (arith, nat_tests)

      go : (t : Bool) → nat_le f q ≡ t → (u : Bool) → nat_lt q (f + c) ≡ u → (t && u) ≡ false
      go true a true b =
          let le = leb-true _ _ a in
          let lt = ltb-true _ _ b in
          let is = below (f / 10_000_000) (q / 10_000_000) (same le lt) le in
          absurd (unlike (sym is ∙ e))
        where
          unlike : true ≡ false → ⊥
          unlike w = absurd (cc)
      go true a false b = refl
      go false a u b = refl

  holder_more : (r : StockRun) (rows : List StockRun) → IsRunRow r → StandFrom (end_of r) rows → holders_by rows q ≡ option_and_then (holder_at q) (last_to rows)
      → holders_by (r ∷ rows) q ≡ option_and_then (holder_at q) (last_to (r ∷ rows))
  holder_more r rows row stand more = go (is_below (prefix_of q) (q + 1) r) refl
    where
      below : is_below (prefix_of q) (q + 1) r ≡ true → Behind (prefix_of q) (q + 1) (end_of r) rows
          → cond (is_among r.first r.count q) (Some r.holder) (holders_by rows q) ≡ option_and_then (holder_at q) (last_or (Some r) (filter (is_below (prefix_of q) (q + 1)) rows))
      below e (inl none) =
          let parts = begins_below (prefix_of q) (q + 1) r e in
          ap (λ t. cond t (Some r.holder) (holders_by rows q)) (below_ends r.first r.count parts.1)
          ∙ ap (cond (nat_lt q (end_of r)) (Some r.holder)) (more ∙ ap (λ l. option_and_then (holder_at q) (last_or None l)) none)
          ∙ sym (ap (λ l. option_and_then (holder_at q) (last_or (Some r) l)) none)
      below e (inr some) =
          let parts = begins_below (prefix_of q) (q + 1) r e in
          ap (λ t. cond t (Some r.holder) (holders_by rows q)) (below_ends r.first r.count parts.1 ∙ ended (end_of r) some.0)
          ∙ more ∙ sym (ap (option_and_then (holder_at q)) (some.1 (Some r)))

      go : (t : Bool) → is_below (prefix_of q) (q + 1) r ≡ t
          → cond (is_among r.first r.count q) (Some r.holder) (holders_by rows q) ≡ option_and_then (holder_at q) (last_or None (cond t (r ∷ filter (is_below (prefix_of q) (q + 1)) rows) (filter (is_below (prefix_of q) (q + 1)) rows)))
      go true e = below e (below_behind (prefix_of q) (q + 1) (end_of r) rows stand)
      go false e = ap (λ t. cond t (Some r.holder) (holders_by rows q)) (not_among r.first r.count row.one_prefix e) ∙ more

  pub holder_read : (low : ℕ) (rows : List StockRun) → StandFrom low rows → AllByRecursion IsRunRow rows → holders_by rows q ≡ option_and_then (holder_at q) (last_to rows)
  holder_read low [] stand each = refl
  holder_read low (r ∷ rows) stand each = holder_more r rows each.0 stand.1 (holder_read (end_of r) rows stand.1 each.1)

-- ---- tests of rows, as tests of runs

filtered : (p : StockKey × Stock → Bool) (r : StockRun → Bool) → ((e : StockKey × Stock) → is_stock_row e ≡ true → p e ≡ r (run_in e))
    → (es : List (StockKey × Stock)) → list_all is_stock_row es ≡ true → map run_in (filter p es) ≡ filter r (map run_in es)
filtered p r same [] all = refl
filtered p r same (e ∷ es) all =
    let parts = and_parts (is_stock_row e) (list_all is_stock_row es) all in
    go (p e) (r (run_in e)) (same e parts.0) (filtered p r same es parts.1)
  where
    go : (a b : Bool) → a ≡ b → map run_in (filter p es) ≡ filter r (map run_in es) → map run_in (cond a (e ∷ filter p es) (filter p es)) ≡ cond b (run_in e ∷ filter r (map run_in es)) (filter r (map run_in es))
    go true true is more = ap (λ l. run_in e ∷ l) more
    go true false is more = cc
    go false true is more = cc
    go false false is more = more

last_mapped : (o : Option (StockKey × Stock)) (es : List (StockKey × Stock)) → option_map run_in (last_or o es) ≡ last_or (option_map run_in o) (map run_in es)
last_mapped o [] = refl
last_mapped o (e ∷ es) = last_mapped (Some e) es

int_nat : (a b : ℕ) → int_eq (pos a) (pos b) ≡ nat_eq a b
int_nat a b = grind (arith, ints, nat_tests)

int_nat_le : (a b : ℕ) → int_le (pos a) (pos b) ≡ nat_le a b
int_nat_le a b = grind (arith, ints, nat_tests)

both_shifted : (x s l c : ℕ) → (nat_le s l && nat_le l (s + c)) ≡ (nat_le (x + s) (x + l) && nat_le (x + l) (x + s + c))
both_shifted x s l c = grind (arith, nat_tests)

one_shifted : (x l b : ℕ) → nat_lt l b ≡ nat_lt (x + l) (x + b)
one_shifted x l b = grind (arith, nat_tests)

prefix_is : (p l : ℕ) → l ≤ 9_999_999 → p ≡ (p * 10_000_000 + l) / 10_000_000
prefix_is p l h = omega arith

number_is : (p n : ℕ) → p ≡ n / 10_000_000 → p * 10_000_000 + n % 10_000_000 ≡ n
number_is p n h = omega (arith, h)

-- a test of what comes behind an equation, where the equation holds
where_equal : (p g : ℕ) (a b : Bool) → (p ≡ g → a ≡ b) → (nat_eq p g && a) ≡ (nat_eq p g && b)
where_equal p g a b h = go (nat_eq p g) refl
  where
    go : (t : Bool) → nat_eq p g ≡ t → (t && a) ≡ (t && b)
    go true e = h (eqb-true p g e)
    go false e = refl

between_numbers : (p l f c : ℕ) → l ≤ 9_999_999
    → (nat_eq p (f / 10_000_000) && (nat_le (f % 10_000_000) l && nat_le l (f % 10_000_000 + c)))
    ≡ (nat_eq ((p * 10_000_000 + l) / 10_000_000) (f / 10_000_000) && (nat_le f (p * 10_000_000 + l) && nat_le (p * 10_000_000 + l) (f + c)))
between_numbers p l f c h =
    where_equal p (f / 10_000_000) _ _ (λ is. both_shifted (p * 10_000_000) (f % 10_000_000) l c ∙ ap (λ n. nat_le n (p * 10_000_000 + l) && nat_le (p * 10_000_000 + l) (n + c)) (number_is p f is))
    ∙ ap (λ n. nat_eq n (f / 10_000_000) && (nat_le f (p * 10_000_000 + l) && nat_le (p * 10_000_000 + l) (f + c))) (prefix_is p l h)

below_numbers : (p l g s b : ℕ) → l ≤ 9_999_999 → g * 10_000_000 + s ≡ b
    → (nat_eq p g && nat_lt l s) ≡ (nat_eq ((p * 10_000_000 + l) / 10_000_000) g && nat_lt (p * 10_000_000 + l) b)
below_numbers p l g s b h e =
    where_equal p g _ _ (λ is. one_shifted (p * 10_000_000) l s ∙ ap (λ n. nat_lt (p * 10_000_000 + l) n) (ap (λ k. k * 10_000_000 + s) is ∙ e))
    ∙ ap (λ n. nat_eq n g && nat_lt (p * 10_000_000 + l) b) (prefix_is p l h)

-- a row's prefix and its first serial are natural numbers
module _ (e : StockKey × Stock) (lawful : is_stock_row e ≡ true) where
  key_is : (e.0.0 ≡ pos (natural e.0.0)) × (e.0.1 ≡ pos (natural e.0.1))
  key_is = let are = low_fits e.0.0 e.0.1 e.1.high (row_fits e lawful) in (natural_is e.0.0 are.0, natural_is e.0.1 are.1)

  low_within : natural e.0.1 ≤ 9_999_999
  low_within = within e.0.1 (and_parts (int_le (pos 0) e.0.1) (int_le e.0.1 (pos 9_999_999)) (and_parts _ _ (and_parts _ _ (and_parts _ _ (row_fits e lawful)).0).0).1).1
    where
      within : (z : ℤ) → int_le z (pos 9_999_999) ≡ true → natural z ≤ 9_999_999
      within (pos n) h = grind (arith, ints)
      within (negsuc n) h = omega arith

  between_is : (run : Run) → is_between (pos (prefix_of run.first)) (pos (serial_of run.first)) (pos (serial_of run.first + run.count)) e ≡ is_from run (run_in e)
  between_is run =
      (λ i. is_between (pos (prefix_of run.first)) (pos (serial_of run.first)) (pos (serial_of run.first + run.count)) ((key_is.0 i, key_is.1 i), e.1))
      ∙ (λ i. int_nat (natural e.0.0) (prefix_of run.first) i && (int_nat_le (serial_of run.first) (natural e.0.1) i && int_nat_le (natural e.0.1) (serial_of run.first + run.count) i))
      ∙ between_numbers (natural e.0.0) (natural e.0.1) run.first run.count low_within

  up_to_is : (g s b : ℕ) (z : ℤ) → ((l : ℕ) → int_le (pos l) z ≡ nat_lt l s) → g * 10_000_000 + s ≡ b → is_up_to (pos g) z e ≡ is_below g b (run_in e)
  up_to_is g s b z up is =
      (λ i. is_up_to (pos g) z ((key_is.0 i, key_is.1 i), e.1))
      ∙ (λ i. int_nat (natural e.0.0) g i && up (natural e.0.1) i)
      ∙ below_numbers (natural e.0.0) (natural e.0.1) g s b low_within is

-- ---- what the reads say

module _ (es : List (StockKey × Stock)) (lawful : list_all is_stock_row es ≡ true) where
  pub between_read : (run : Run) → map run_in (filter (is_between (pos (prefix_of run.first)) (pos (serial_of run.first)) (pos (serial_of run.first + run.count))) es) ≡ filter (is_from run) (map run_in es)
  between_read run = filtered _ (is_from run) (λ e is. between_is e is run) es lawful

  last_read : (g s b : ℕ) (z : ℤ) → ((l : ℕ) → int_le (pos l) z ≡ nat_lt l s) → g * 10_000_000 + s ≡ b → option_map run_in (last_up_to (pos g) z es) ≡ last_below g b (map run_in es)
  last_read g s b z up is =
      last_mapped None (filter (is_up_to (pos g) z) es)
      ∙ ap (last_or None) (filtered (is_up_to (pos g) z) (is_below g b) (λ e fit. up_to_is e fit g s b z up is) es lawful)

  number_parts : (n : ℕ) → n / 10_000_000 * 10_000_000 + n % 10_000_000 ≡ n
  number_parts n = omega arith

  next_parts : (n : ℕ) → n / 10_000_000 * 10_000_000 + (n % 10_000_000 + 1) ≡ n + 1
  next_parts n = omega arith

  less_one : (s : ℕ) (z : ℤ) → z +ℤ pos 1 ≡ pos s → (l : ℕ) → int_le (pos l) z ≡ nat_lt l s
  less_one s z e l = grind (arith, ints, nat_tests)

  at_most : (s l : ℕ) → int_le (pos l) (pos s) ≡ nat_lt l (s + 1)
  at_most s l = grind (arith, ints, nat_tests)

  -- the last row that begins before a run
  pub before_read : (run : Run) (z : ℤ) → z +ℤ pos 1 ≡ pos (serial_of run.first)
      → option_map run_in (last_up_to (pos (prefix_of run.first)) z es) ≡ last_below (prefix_of run.first) run.first (map run_in es)
  before_read run z is = last_read (prefix_of run.first) (serial_of run.first) run.first z (less_one (serial_of run.first) z is) (number_parts run.first)

  end_parts : (n c : ℕ) → n / 10_000_000 * 10_000_000 + (n % 10_000_000 + c + 1) ≡ n + c + 1
  end_parts n c = omega arith

  -- the last rows that begin in a run, right behind it or before it
  pub last_rows_read : (run : Run) (n : ℕ)
      → map run_in (last_rows_up_to (pos (prefix_of run.first)) (pos (serial_of run.first + run.count)) n es) ≡ last_to_end n run (map run_in es)
  last_rows_read run n =
      let up = is_up_to (pos (prefix_of run.first)) (pos (serial_of run.first + run.count)) in
      let all = filter up es in
      sym (drop-map run_in (length all - n) all) ∙ ap (λ l. drop (l - n) (map run_in all)) (sym (length-map all run_in))
      ∙ ap (λ l. drop (length l - n) l)
      (filtered up (is_below (prefix_of run.first) (run.first + run.count + 1))
      (λ e fit. up_to_is e fit (prefix_of run.first) (serial_of run.first + run.count + 1) (run.first + run.count + 1) (pos (serial_of run.first + run.count))
      (at_most (serial_of run.first + run.count)) (end_parts run.first run.count))
      es lawful)

  -- the last row that begins with a number or before it
  pub until_read : (q : ℕ) → option_map run_in (last_up_to (pos (prefix_of q)) (pos (serial_of q)) es) ≡ last_below (prefix_of q) (q + 1) (map run_in es)
  until_read q = last_read (prefix_of q) (serial_of q + 1) (q + 1) (pos (serial_of q)) (at_most (serial_of q)) (next_parts q)
