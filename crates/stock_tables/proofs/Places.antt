-- What stands in place of the rows that a run touches.
use Rattle.stock_tables.proofs.Common.{AllByRecursion, AreAround, AreNear, AreRuns, Before, Behind, BehindBy, Holder, IfSome, IsJoined, IsRunRow, List, None, Option, Run, Some, StandFrom, StockRun, Touches, [], and_parts, ap, arith, assigned, cases_lt, cond, cut_before, cut_from, end_of, holders_by, inl, inr, leb-true, listed, ltb-true, nat_le, nat_lt, prefix_of, refl, serial_of, subst, sym, true, ℕ, ◌%◌, ◌&&◌, ◌*◌, ◌++◌, ◌+◌, ◌-◌, ◌/◌, ◌<◌, ◌∙◌, ◌∷◌, ◌≡◌, ◌≢◌, ◌≤◌, ◌⊎◌}
use Rattle.stock_tables.proofs.Standing.{last_end, inside, before_it, behind_it, here, passed, ahead, none_below, by_second, alike_between, some_between, stand_split, stand_join, last_end_join, stand_lower, each_split, each_join}

pub behind_last : (end : ℕ) (to : Holder) (rest : List StockRun) (row : StockRun) (high : ℕ) (right : Option StockRun) → BehindBy end to row high right → Behind end to (rest ++ row ∷ []) high right
behind_last end to [] row high right h = h
behind_last end to (r ∷ []) row high right h = h
behind_last end to (r ∷ s ∷ rest) row high right h = behind_last end to (s ∷ rest) row high right h

pub none_all : (first : ℕ) (rows : List StockRun) (q : ℕ) → AllByRecursion (λ row. end_of row ≤ first) rows → first ≤ q → holders_by rows q ≡ None
none_all first [] q h le = refl
none_all first (row ∷ rows) q h le = passed row rows q (omega (arith, h.0, le)) ∙ none_all first rows q h.1 le

last_most : (first low : ℕ) (rows : List StockRun) → AllByRecursion (λ row. end_of row ≤ first) rows → low ≤ first → last_end low rows ≤ first
last_most first low [] h le = le
last_most first low (row ∷ rows) h le = last_most first (end_of row) rows h.1 h.0

stand_higher : (low high : ℕ) (rows : List StockRun) → StandFrom low rows → AllByRecursion (λ row. high ≤ row.first) rows → StandFrom high rows
stand_higher low high [] h g = tt
stand_higher low high (row ∷ rows) h g = (g.0, h.1)

-- the new row, between its neighbours
abbrev middle : ℕ → ℕ → Holder → StockRun
middle low count to = record { first = low; count = count; holder = to }

-- before the run
module _ (first : ℕ) (to : Holder) where
  pub low_at : (near : List StockRun) (low : ℕ) (left : Option StockRun) → Before first to near low left → low ≤ first
  low_at [] low left h = omega (arith, h.0)
  low_at (row ∷ rows) low left (inl (inl h)) = omega (arith, h.1.0)
  low_at (row ∷ rows) low left (inl (inr h)) = omega (arith, h.0, h.1.1.0)
  low_at (row ∷ rows) low left (inr h) = omega (arith, h.1.1.0)

  pub left_none : (near : List StockRun) (low : ℕ) (left : Option StockRun) (q : ℕ) → Before first to near low left → first ≤ q → holders_by (listed left) q ≡ None
  left_none [] low left q h le = ap (λ l. holders_by (listed l) q) h.1
  left_none (row ∷ rows) low left q (inl (inl h)) le = ap (λ l. holders_by (listed l) q) h.1.1
  left_none (row ∷ rows) low left q (inl (inr h)) le = ap (λ l. holders_by (listed l) q) h.1.1.1
  left_none (row ∷ rows) low left q (inr h) le = ap (λ l. holders_by (listed l) q) h.1.1.1 ∙ passed (cut_before first row) [] q (omega (arith, h.0, le))

  pub left_stands : (near : List StockRun) (low : ℕ) (left : Option StockRun) (from : ℕ) → Before first to near low left → StandFrom from near → from ≤ first
      → StandFrom from (listed left) × (last_end from (listed left) ≤ low)
  left_stands [] low left from h stand le = subst (λ l. StandFrom from (listed l) × (last_end from (listed l) ≤ low)) (sym h.1) (tt, omega (arith, h.0, le))
  left_stands (row ∷ rows) low left from (inl (inl h)) stand le = subst (λ l. StandFrom from (listed l) × (last_end from (listed l) ≤ low)) (sym h.1.1) (tt, omega (arith, h.1.0, le))
  left_stands (row ∷ rows) low left from (inl (inr h)) stand le = subst (λ l. StandFrom from (listed l) × (last_end from (listed l) ≤ low)) (sym h.1.1.1) (tt, omega (arith, h.1.1.0, stand.0))
  left_stands (row ∷ rows) low left from (inr h) stand le = subst (λ l. StandFrom from (listed l) × (last_end from (listed l) ≤ low)) (sym h.1.1.1) ((stand.0, tt), omega (arith, h.0, h.1.1.0))

  pub left_each : (near : List StockRun) (low : ℕ) (left : Option StockRun) → Before first to near low left → AllByRecursion IsRunRow near → AllByRecursion (λ row. first ≤ end_of row) near → AllByRecursion IsRunRow (listed left)
  left_each [] low left h each reach = subst (λ l. AllByRecursion IsRunRow (listed l)) (sym h.1) tt
  left_each (row ∷ rows) low left (inl (inl h)) each reach = subst (λ l. AllByRecursion IsRunRow (listed l)) (sym h.1.1) tt
  left_each (row ∷ rows) low left (inl (inr h)) each reach = subst (λ l. AllByRecursion IsRunRow (listed l)) (sym h.1.1.1) tt
  left_each (row ∷ rows) low left (inr h) each reach = subst (λ l. AllByRecursion IsRunRow (listed l)) (sym h.1.1.1)
      (record { some = omega (arith, h.0); one_prefix = omega (arith, each.0.one_prefix, reach.0) }, tt)

  pub low_prefix : (near : List StockRun) (low : ℕ) (left : Option StockRun) → Before first to near low left → AllByRecursion (λ row. prefix_of row.first ≡ prefix_of first) near → prefix_of low ≡ prefix_of first
  low_prefix [] low left h one = ap prefix_of h.0
  low_prefix (row ∷ rows) low left (inl (inl h)) one = ap prefix_of h.1.0
  low_prefix (row ∷ rows) low left (inl (inr h)) one = ap prefix_of h.1.1.0 ∙ one.0
  low_prefix (row ∷ rows) low left (inr h) one = ap prefix_of h.1.1.0

  module _ (count low : ℕ) (others : List StockRun) (stand : StandFrom (low + count) others) (over : first ≤ low + count) (q : ℕ) (below : q < first) where
    abbrev row_in : StockRun
    row_in = middle low count to

    none_new : q < low → holders_by (row_in ∷ others) q ≡ None
    none_new lt = ahead row_in others q lt ∙ none_below (low + count) others q stand (omega (arith, over, below))

    pub as_before : (near : List StockRun) (left : Option StockRun) (from : ℕ) → Before first to near low left → StandFrom from near → AllByRecursion (λ row. first ≤ end_of row) near
        → holders_by (listed left ++ (row_in ∷ others)) q ≡ holders_by near q
    as_before [] left from h near reach = ap (λ l. holders_by (listed l ++ (row_in ∷ others)) q) h.1 ∙ none_new (omega (arith, h.0, below))
    as_before (row ∷ rows) left from (inl (inl h)) near reach =
        ap (λ l. holders_by (listed l ++ (row_in ∷ others)) q) h.1.1 ∙ none_new (omega (arith, h.1.0, below))
        ∙ sym (ahead row rows q (omega (arith, h.0, below)) ∙ none_below (end_of row) rows q near.1 (omega (arith, reach.0, below)))
    as_before (row ∷ rows) left from (inl (inr h)) near reach =
        ap (λ l. holders_by (listed l ++ (row_in ∷ others)) q) h.1.1.1
        ∙ elim (cases_lt q row.first) [
          | inl lt ↦ none_new (omega (arith, h.1.1.0, lt)) ∙ sym (ahead row rows q lt ∙ none_below (end_of row) rows q near.1 (omega (arith, reach.0, below)))
          | inr le ↦ here row_in others q (omega (arith, h.1.1.0, le)) (omega (arith, over, below)) ∙ ap Some (sym h.1.0) ∙ sym (here row rows q le (omega (arith, reach.0, below)))
        ]
    as_before (row ∷ rows) left from (inr h) near reach =
        ap (λ l. holders_by (listed l ++ (row_in ∷ others)) q) h.1.1.1
        ∙ elim (cases_lt q row.first) [
          | inl lt ↦ ahead (cut_before first row) (row_in ∷ others) q lt ∙ none_new (omega (arith, h.1.1.0, below)) ∙ sym (ahead row rows q lt ∙ none_below (end_of row) rows q near.1 (omega (arith, reach.0, below)))
          | inr le ↦ here (cut_before first row) (row_in ∷ others) q le (omega (arith, h.0, below)) ∙ sym (here row rows q le (omega (arith, reach.0, below)))
        ]

-- behind the run
module _ (end : ℕ) (to : Holder) where
  pub high_at : (near : List StockRun) (high : ℕ) (right : Option StockRun) → Behind end to near high right → end ≤ high
  high_at [] high right h = omega (arith, h.0)
  high_at (row ∷ []) high right (inl (inl h)) = omega (arith, h.1.0)
  high_at (row ∷ []) high right (inl (inr h)) = omega (arith, h.0, h.1.1.0)
  high_at (row ∷ []) high right (inr h) = omega (arith, h.1.1.0)
  high_at (row ∷ next ∷ rows) high right h = high_at (next ∷ rows) high right h

  pub high_below : (near : List StockRun) (high : ℕ) (right : Option StockRun) (most : ℕ) → Behind end to near high right → AllByRecursion (λ row. end_of row ≤ most) near → end ≤ most → high ≤ most
  high_below [] high right most h each le = omega (arith, h.0, le)
  high_below (row ∷ []) high right most (inl (inl h)) each le = omega (arith, h.1.0, le)
  high_below (row ∷ []) high right most (inl (inr h)) each le = omega (arith, h.1.1.0, each.0)
  high_below (row ∷ []) high right most (inr h) each le = omega (arith, h.1.1.0, le)
  high_below (row ∷ next ∷ rows) high right most h each le = high_below (next ∷ rows) high right most h each.1 le

  pub right_stands : (near : List StockRun) (high : ℕ) (right : Option StockRun) → Behind end to near high right → StandFrom high (listed right)
  right_stands [] high right h = subst (λ l. StandFrom high (listed l)) (sym h.1) tt
  right_stands (row ∷ []) high right (inl (inl h)) = subst (λ l. StandFrom high (listed l)) (sym h.1.1) tt
  right_stands (row ∷ []) high right (inl (inr h)) = subst (λ l. StandFrom high (listed l)) (sym h.1.1.1) tt
  right_stands (row ∷ []) high right (inr h) = subst (λ l. StandFrom high (listed l)) (sym h.1.1.1) (omega (arith, h.1.1.0), tt)
  right_stands (row ∷ next ∷ rows) high right h = right_stands (next ∷ rows) high right h

  pub right_end : (near : List StockRun) (high : ℕ) (right : Option StockRun) (from : ℕ) → Behind end to near high right → (last_end high (listed right) ≤ end) ⊎ (last_end high (listed right) ≤ last_end from near)
  right_end [] high right from h = subst (λ l. (last_end high (listed l) ≤ end) ⊎ (last_end high (listed l) ≤ last_end from [])) (sym h.1) (inl (omega (arith, h.0)))
  right_end (row ∷ []) high right from (inl (inl h)) = subst (λ l. (last_end high (listed l) ≤ end) ⊎ (last_end high (listed l) ≤ end_of row)) (sym h.1.1) (inl (omega (arith, h.1.0)))
  right_end (row ∷ []) high right from (inl (inr h)) = subst (λ l. (last_end high (listed l) ≤ end) ⊎ (last_end high (listed l) ≤ end_of row)) (sym h.1.1.1) (inr (omega (arith, h.1.1.0)))
  right_end (row ∷ []) high right from (inr h) = subst (λ l. (last_end high (listed l) ≤ end) ⊎ (last_end high (listed l) ≤ end_of row)) (sym h.1.1.1) (inr (omega (arith, h.0)))
  right_end (row ∷ next ∷ rows) high right from h = right_end (next ∷ rows) high right (end_of row) h

  pub right_each : (near : List StockRun) (high : ℕ) (right : Option StockRun) → Behind end to near high right → AllByRecursion (λ row. (serial_of end + (end_of row - end) ≤ 10_000_000) ⊎ (end_of row ≤ end)) near → AllByRecursion IsRunRow (listed right)
  right_each [] high right h each = subst (λ l. AllByRecursion IsRunRow (listed l)) (sym h.1) tt
  right_each (row ∷ []) high right (inl (inl h)) each = subst (λ l. AllByRecursion IsRunRow (listed l)) (sym h.1.1) tt
  right_each (row ∷ []) high right (inl (inr h)) each = subst (λ l. AllByRecursion IsRunRow (listed l)) (sym h.1.1.1) tt
  right_each (row ∷ []) high right (inr h) each =
      let fits : serial_of end + (end_of row - end) ≤ 10_000_000 = elim each.0 [ inl e ↦ e | inr e ↦ absurd (omega (arith, e, h.0)) ] in
      subst (λ l. AllByRecursion IsRunRow (listed l)) (sym h.1.1.1) (record { some = omega (arith, h.0); one_prefix = fits }, tt)
  right_each (row ∷ next ∷ rows) high right h each = right_each (next ∷ rows) high right h each.1

  module _ (count low : ℕ) (under : low ≤ end) (q : ℕ) (above : end ≤ q) where
    abbrev row_out : StockRun
    row_out = middle low count to

    pub as_behind : (near : List StockRun) (high : ℕ) (right : Option StockRun) (from : ℕ) → low + count ≡ high → Behind end to near high right → StandFrom from near → AllByRecursion (λ row. row.first ≤ end) near
        → holders_by (row_out ∷ listed right) q ≡ holders_by near q
    as_behind [] high right from is h near reach = ap (λ l. holders_by (row_out ∷ listed l) q) h.1 ∙ passed row_out [] q (omega (arith, is, h.0, above))
    as_behind (row ∷ []) high right from is (inl (inl h)) near reach =
        ap (λ l. holders_by (row_out ∷ listed l) q) h.1.1 ∙ passed row_out [] q (omega (arith, is, h.1.0, above)) ∙ sym (passed row [] q (omega (arith, h.0, above)))
    as_behind (row ∷ []) high right from is (inl (inr h)) near reach =
        ap (λ l. holders_by (row_out ∷ listed l) q) h.1.1.1
        ∙ elim (cases_lt q (end_of row)) [
          | inl lt ↦ here row_out [] q (omega (arith, under, above)) (omega (arith, is, h.1.1.0, lt)) ∙ ap Some (sym h.1.0) ∙ sym (here row [] q (omega (arith, reach.0, above)) lt)
          | inr le ↦ passed row_out [] q (omega (arith, is, h.1.1.0, le)) ∙ sym (passed row [] q le)
        ]
    as_behind (row ∷ []) high right from is (inr h) near reach =
        ap (λ l. holders_by (row_out ∷ listed l) q) h.1.1.1 ∙ passed row_out (cut_from end row ∷ []) q (omega (arith, is, h.1.1.0, above))
        ∙ elim (cases_lt q (end_of row)) [
          | inl lt ↦ here (cut_from end row) [] q above (omega (arith, h.0, lt)) ∙ sym (here row [] q (omega (arith, reach.0, above)) lt)
          | inr le ↦ passed (cut_from end row) [] q (omega (arith, h.0, le)) ∙ sym (passed row [] q le)
        ]
    as_behind (row ∷ next ∷ rows) high right from is h near reach =
        as_behind (next ∷ rows) high right (end_of row) is h near.1 reach.1 ∙ sym (passed row (next ∷ rows) q (omega (arith, near.1.0, reach.1.0, above)))

weaker : (P Q : StockRun → Type 0) → ((row : StockRun) → P row → Q row) → (rows : List StockRun) → AllByRecursion P rows → AllByRecursion Q rows
weaker P Q f [] h = tt
weaker P Q f (row ∷ rows) h = (f row h.0, weaker P Q f rows h.1)

both : (P Q : StockRun → Type 0) (rows : List StockRun) → AllByRecursion P rows → AllByRecursion Q rows → AllByRecursion (λ row. P row × Q row) rows
both P Q [] h g = tt
both P Q (row ∷ rows) h g = ((h.0, g.0), both P Q rows h.1 g.1)

-- a row of the run's prefix ends within it, and so does what stays of it behind the run
ends_within : (first count start size : ℕ) → 0 < count → first % 10_000_000 + count ≤ 10_000_000 → start / 10_000_000 ≡ first / 10_000_000 → start % 10_000_000 + size ≤ 10_000_000
    → start + size ≤ first / 10_000_000 * 10_000_000 + 10_000_000
ends_within first count start size some fits prefix row = omega (arith, prefix, row)

rest_within : (first count last : ℕ) → 0 < count → first % 10_000_000 + count ≤ 10_000_000 → last ≤ first / 10_000_000 * 10_000_000 + 10_000_000
    → ((first + count) % 10_000_000 + (last - (first + count)) ≤ 10_000_000) ⊎ (last ≤ first + count)
rest_within first count last some fits most =
    elim (cases_lt (first + count) last) [
      | inl lt ↦ inl (omega (arith, lt, most, fits))
      | inr le ↦ inr le
    ]

whole_within : (first low high count : ℕ) → low / 10_000_000 ≡ first / 10_000_000 → high ≤ first / 10_000_000 * 10_000_000 + 10_000_000 → low + count ≡ high → low % 10_000_000 + count ≤ 10_000_000
whole_within first low high count prefix most is = omega (arith, prefix, most, is)

module _ (run : Run) (to : Holder) (near : List StockRun) (left right : Option StockRun) (low high count : ℕ) (some : 0 < run.count) (fits : serial_of run.first + run.count ≤ 10_000_000)
    (touch : AreNear run near) (l : Before run.first to near low left) (r : Behind (run.first + run.count) to near high right) (is : low + count ≡ high)
    (before after : List StockRun) (runs : AreRuns (before ++ (near ++ after))) where
  abbrev end : ℕ
  end = run.first + run.count

  abbrev new : List StockRun
  new = listed left ++ (middle low count to ∷ listed right)

  abbrev from : ℕ
  from = last_end 0 before

  low_first : low ≤ run.first
  low_first = low_at run.first to near low left l

  end_high : end ≤ high
  end_high = high_at end to near high right r

  stand_near : StandFrom from near
  stand_near = (stand_split from near after (stand_split 0 before (near ++ after) runs.stand).1).0

  stand_after : StandFrom (last_end from near) after
  stand_after = (stand_split from near after (stand_split 0 before (near ++ after) runs.stand).1).1

  each_near : AllByRecursion IsRunRow near
  each_near = (each_split IsRunRow near after (each_split IsRunRow before (near ++ after) runs.each).1).0

  reach : AllByRecursion (λ row. run.first ≤ end_of row) near
  reach = weaker (Touches run) (λ row. run.first ≤ end_of row) (λ row t. t.to) near touch

  begin : AllByRecursion (λ row. row.first ≤ end) near
  begin = weaker (Touches run) (λ row. row.first ≤ end) (λ row t. t.from) near touch

  most : ℕ
  most = prefix_of run.first * 10_000_000 + 10_000_000

  within : AllByRecursion (λ row. end_of row ≤ prefix_of run.first * 10_000_000 + 10_000_000) near
  within = weaker (λ row. Touches run row × IsRunRow row) (λ row. end_of row ≤ prefix_of run.first * 10_000_000 + 10_000_000)
      (λ row t. ends_within run.first run.count row.first row.count some fits t.0.prefix t.1.one_prefix) near (both (Touches run) IsRunRow near touch each_near)

  pub high_within : high ≤ prefix_of run.first * 10_000_000 + 10_000_000
  high_within = high_below end to near high right (prefix_of run.first * 10_000_000 + 10_000_000) r within (omega (arith, fits))

  stand_right : StandFrom (low + count) (listed right)
  stand_right = subst (λ n. StandFrom n (listed right)) (sym is) (right_stands end to near high right r)

  module _ (around : AreAround run before after) where
    at : (q : ℕ) → holders_by (before ++ (new ++ after)) q ≡ assigned (holders_by (before ++ (near ++ after))) run to q
    at q =
        let old = holders_by (before ++ (near ++ after)) q in
        elim (cases_lt q run.first) [
          | inl lt ↦
              alike_between before new near after q (as_before run.first to count low (listed right) stand_right (omega (arith, end_high, is)) q lt near left from l stand_near reach)
              ∙ sym (ap (λ b. cond b (Some to) old) (before_it run.first run.count q lt))
          | inr le ↦
              let none = left_none run.first to near low left q l le in
              elim (cases_lt q end) [
                | inl lt ↦
                    some_between before new after q to (none_all run.first before q around.ends le)
                    (by_second (listed left) (middle low count to ∷ listed right) q none ∙ here (middle low count to) (listed right) q (omega (arith, low_first, le)) (omega (arith, is, end_high, lt)))
                    ∙ sym (ap (λ b. cond b (Some to) old) (inside run.first run.count q le lt))
                | inr ge ↦
                    alike_between before new near after q
                    (by_second (listed left) (middle low count to ∷ listed right) q none ∙ as_behind end to count low (omega (arith, low_first)) q ge near high right from is r stand_near begin)
                    ∙ sym (ap (λ b. cond b (Some to) old) (behind_it run.first run.count q ge))
              ]
        ]

    pub all_assigned : holders_by (before ++ (new ++ after)) ≡ assigned (holders_by (before ++ (near ++ after))) run to
    all_assigned = λ i q. at q i

    last_new : last_end from new ≡ last_end high (listed right)
    last_new = last_end_join from (listed left) (middle low count to ∷ listed right) ∙ ap (λ n. last_end n (listed right)) is

    behind_new : StandFrom (last_end from new) after
    behind_new = subst (λ n. StandFrom n after) (sym last_new)
        (elim (right_end end to near high right from r) [
          | inl le ↦ stand_lower end (last_end high (listed right)) after le (stand_higher (last_end from near) end after stand_after around.begins)
          | inr le ↦ stand_lower (last_end from near) (last_end high (listed right)) after le stand_after
        ])

    stand_new : StandFrom from new
    stand_new =
        let ls = left_stands run.first to near low left from l stand_near (last_most run.first 0 before around.ends (omega arith)) in
        stand_join from (listed left) (middle low count to ∷ listed right) ls.0 (ls.1, stand_right)

    row_new : IsRunRow (middle low count to)
    row_new = record {
      some = omega (arith, is, low_first, end_high, some);
      one_prefix = whole_within run.first low high count (low_prefix run.first to near low left l (weaker (Touches run) (λ row. prefix_of row.first ≡ prefix_of run.first) (λ row t. t.prefix) near touch)) high_within is;
    }

    each_new : AllByRecursion IsRunRow new
    each_new = each_join IsRunRow (listed left) (middle low count to ∷ listed right) (left_each run.first to near low left l each_near reach) (
      row_new,
      right_each end to near high right r (weaker (λ row. end_of row ≤ prefix_of run.first * 10_000_000 + 10_000_000) (λ row. (serial_of end + (end_of row - end) ≤ 10_000_000) ⊎ (end_of row ≤ end))
          (λ row t. rest_within run.first run.count (end_of row) some fits t) near within),
    )

    pub all_runs : AreRuns (before ++ (new ++ after))
    all_runs = record {
      stand = stand_join 0 before (new ++ after) (stand_split 0 before (near ++ after) runs.stand).0 (stand_join from new after stand_new behind_new);
      each =
          let olds = each_split IsRunRow before (near ++ after) runs.each in
          each_join IsRunRow before (new ++ after) olds.0 (each_join IsRunRow new after each_new (each_split IsRunRow near after olds.1).1);
    }

pub run_parts : (count serial : ℕ) → (nat_lt 0 count && nat_le count 1_000_000 && nat_le (serial + count) 10_000_000) ≡ true → (0 < count) × (serial + count ≤ 10_000_000)
run_parts count serial h =
    let parts = and_parts _ _ h in
    let more = and_parts _ _ parts.0 in
    (ltb-true _ _ more.0, leb-true _ _ parts.1)

-- the rows that are near reach no further than the run
pub near_rows : (run : Run) (near before after : List StockRun) → AreRuns (before ++ (near ++ after)) → AreNear run near → AllByRecursion (λ row. (row.first ≤ run.first + run.count) × IsRunRow row) near
near_rows run near before after runs touch =
    both (λ row. row.first ≤ run.first + run.count) IsRunRow near (weaker (Touches run) (λ row. row.first ≤ run.first + run.count) (λ row t. t.from) near touch)
    (each_split IsRunRow near after (each_split IsRunRow before (near ++ after) runs.each).1).0

pub size_within : (first low high : ℕ) → low / 10_000_000 ≡ first / 10_000_000 → high ≤ first / 10_000_000 * 10_000_000 + 10_000_000 → high - low ≤ 10_000_000
size_within first low high prefix most = omega (arith, prefix, most)

pub prefix_low : (run : Run) (to : Holder) (near : List StockRun) (low : ℕ) (left : Option StockRun) → AreNear run near → Before run.first to near low left → prefix_of low ≡ prefix_of run.first
prefix_low run to near low left touch l = low_prefix run.first to near low left l (weaker (Touches run) (λ row. prefix_of row.first ≡ prefix_of run.first) (λ row t. t.prefix) near touch)

left_other : (first : ℕ) (to : Holder) (near : List StockRun) (low : ℕ) (left : Option StockRun) → Before first to near low left → IfSome left (λ row. (row.holder ≢ to) × (end_of row ≡ low))
left_other first to [] low left h = subst (λ l. IfSome l (λ row. (row.holder ≢ to) × (end_of row ≡ low))) (sym h.1) tt
left_other first to (row ∷ rows) low left (inl (inl h)) = subst (λ l. IfSome l (λ row. (row.holder ≢ to) × (end_of row ≡ low))) (sym h.1.1) tt
left_other first to (row ∷ rows) low left (inl (inr h)) = subst (λ l. IfSome l (λ row. (row.holder ≢ to) × (end_of row ≡ low))) (sym h.1.1.1) tt
left_other first to (row ∷ rows) low left (inr h) = subst (λ l. IfSome l (λ row. (row.holder ≢ to) × (end_of row ≡ low))) (sym h.1.1.1) (h.1.0, omega (arith, h.0, h.1.1.0))

right_other : (last : ℕ) (to : Holder) (near : List StockRun) (high : ℕ) (right : Option StockRun) → Behind last to near high right → IfSome right (λ row. (row.holder ≢ to) × (row.first ≡ high))
right_other last to [] high right h = subst (λ l. IfSome l (λ row. (row.holder ≢ to) × (row.first ≡ high))) (sym h.1) tt
right_other last to (row ∷ []) high right (inl (inl h)) = subst (λ l. IfSome l (λ row. (row.holder ≢ to) × (row.first ≡ high))) (sym h.1.1) tt
right_other last to (row ∷ []) high right (inl (inr h)) = subst (λ l. IfSome l (λ row. (row.holder ≢ to) × (row.first ≡ high))) (sym h.1.1.1) tt
right_other last to (row ∷ []) high right (inr h) = subst (λ l. IfSome l (λ row. (row.holder ≢ to) × (row.first ≡ high))) (sym h.1.1.1) (h.1.0, sym h.1.1.0)
right_other last to (row ∷ next ∷ rows) high right h = right_other last to (next ∷ rows) high right h

pub beside_rows : (first end : ℕ) (to : Holder) (near : List StockRun) (left right : Option StockRun) (low high number count : ℕ) → Before first to near low left → Behind end to near high right
    → low ≡ number → high ≡ number + count → IsJoined to (record { left = left; row = middle number count to; right = right })
beside_rows first end to near left right low high number count l r is goes = record {
  left = subst (λ n. IfSome left (λ row. (row.holder ≢ to) × (end_of row ≡ n))) is (left_other first to near low left l);
  right = subst (λ n. IfSome right (λ row. (row.holder ≢ to) × (row.first ≡ n))) goes (right_other end to near high right r);
}
