-- The maximal runs of a stock, with the numbers of one run more behind them.
use Rattle.agent_stock.proofs.Common.{AllByRecursion, AreApart, AreStockRuns, Bool, GoesOn, Holder, Holders, IsMaximalRun, IsNoneFrom, IsSome, IsTrue, List, None, Option, Some, StockRun, [], and_from, and_parts, ap, arith, cases_lt, cond-false, cond-true, false, inl, inr, is_among, is_some, le-leb, leb-true, list_any, lt-ltb, ltb-true, or_left, or_right, prefix_of, refl, serial_of, subst, sym, true, with_run, ℕ, ◌++◌, ◌+◌, ◌-◌, ◌<◌, ◌||◌, ◌∙◌, ◌∷◌, ◌≡◌, ◌≢◌, ◌≤◌, ◌⊎◌}

covered : (row : StockRun) (q : ℕ) → IsTrue (is_among row.first row.count q) → (row.first ≤ q) × (q < row.first + row.count)
covered row q h =
    let parts = and_parts _ _ h in
    (leb-true _ _ parts.0, ltb-true _ _ parts.1)

covers_from : (row : StockRun) (q : ℕ) → row.first ≤ q → q < row.first + row.count → is_among row.first row.count q ≡ true
covers_from row q le lt = and_from _ _ (le-leb _ _ le) (lt-ltb _ _ lt)

not_covered : (row : StockRun) (q : ℕ) → (row.first ≤ q → q < row.first + row.count → ⊥) → is_among row.first row.count q ≡ false
not_covered row q outside = by_case (is_among row.first row.count q) refl
  where
    by_case : (b : Bool) → is_among row.first row.count q ≡ b → b ≡ false
    by_case false e = refl
    by_case true e = let in_it = covered row q e in absurd (outside in_it.0 in_it.1)

none_some : {x : Holder} → {o : Option Holder} → o ≡ None → o ≡ Some x → ⊥
none_some none some = cc (none, some)

not_held : (o : Option Holder) → o ≡ None → IsSome o → ⊥
not_held o none some = let e : is_some {T = Holder} None ≡ true = ap is_some (sym none) ∙ some in cc

any_append : {X : Type 0} (p : X → Bool) (xs ys : List X) → list_any p (xs ++ ys) ≡ (list_any p xs || list_any p ys)
any_append p [] ys = refl
any_append p (x ∷ xs) ys = ap (λ b. p x || b) (any_append p xs ys) ∙ assoc (p x) (list_any p xs) (list_any p ys)
  where
    assoc : (a b c : Bool) → (a || (b || c)) ≡ ((a || b) || c)
    assoc true b c = refl
    assoc false b c = refl

all_last : {X : Type 0} (P : X → Type 0) (xs : List X) (x : X) → AllByRecursion P (xs ++ x ∷ []) → AllByRecursion P xs × P x
all_last P [] x h = (tt, h.0)
all_last P (y ∷ xs) x h = let rest = all_last P xs x h.1 in ((h.0, rest.0), rest.1)

all_push : {X : Type 0} (P : X → Type 0) (xs : List X) (x : X) → AllByRecursion P xs → P x → AllByRecursion P (xs ++ x ∷ [])
all_push P [] x h at = (at, tt)
all_push P (y ∷ xs) x h at = (h.0, all_push P xs x h.1 at)

both : {X : Type 0} (P Q R : X → Type 0) (xs : List X) → ((x : X) → P x → Q x → R x) → AllByRecursion P xs → AllByRecursion Q xs → AllByRecursion R xs
both P Q R [] f p q = tt
both P Q R (x ∷ xs) f p q = (f x p.0 q.0, both P Q R xs f p.1 q.1)

-- each row ends where the last one begins, or before
end_before : (held : Holders) (front : List StockRun) (last : StockRun) → AllByRecursion (IsMaximalRun held) (front ++ last ∷ []) → AreApart (front ++ last ∷ [])
    → AllByRecursion (λ row. row.first + row.count ≤ last.first) front
end_before held [] last all apart = tt
end_before held (row ∷ []) last all apart = (apart.0, tt)
end_before held (row ∷ next ∷ front) last all apart =
    let rest = end_before held (next ∷ front) last all.1 apart.1 in
    let low : next.first + next.count ≤ last.first = rest.0 in
    (omega (arith, apart.0, low), rest)

-- rows apart, with one behind them
apart_push : (rows : List StockRun) (last next : StockRun) → AreApart (rows ++ last ∷ []) → last.first + last.count ≤ next.first → AreApart ((rows ++ last ∷ []) ++ next ∷ [])
apart_push [] last next h le = (le, tt)
apart_push (row ∷ []) last next h le = (h.0, (le, tt))
apart_push (row ∷ other ∷ rows) last next h le = (h.0, apart_push (other ∷ rows) last next h.1 le)

-- the last row longer
apart_longer : (rows : List StockRun) (last longer : StockRun) → longer.first ≡ last.first → AreApart (rows ++ last ∷ []) → AreApart (rows ++ longer ∷ [])
apart_longer [] last longer e h = tt
apart_longer (row ∷ []) last longer e h = (omega (arith, e, h.0), tt)
apart_longer (row ∷ other ∷ rows) last longer e h = (h.0, apart_longer (other ∷ rows) last longer e h.1)

only_last : (b : Bool) → (false || (b || false)) ≡ true → b ≡ true
only_last true h = refl
only_last false h = h

-- rows that end before it don't have a number
none_in_front : (front : List StockRun) (low q : ℕ) → AllByRecursion (λ row. row.first + row.count ≤ low) front → low ≤ q → list_any (λ row. is_among row.first row.count q) front ≡ false
none_in_front [] low q h le = refl
none_in_front (row ∷ front) low q h le =
    let end : row.first + row.count ≤ low = h.0 in
    ap (λ b. b || list_any (λ r. is_among r.first r.count q) front) (not_covered row q (λ _ lt. omega (arith, lt, end, le))) ∙ none_in_front front low q h.1 le

module _ (held : Holders) (next : StockRun) (none : IsNoneFrom next.first held) (some : 1 ≤ next.count) (one_prefix : serial_of next.first + next.count ≤ 10_000_000) where
  new_below : (q : ℕ) → q < next.first → with_run held next q ≡ held q
  new_below q lt = cond-false (is_among next.first next.count q) _ _ (not_covered next q (λ le _. omega (arith, lt, le)))

  new_in : (q : ℕ) → next.first ≤ q → q < next.first + next.count → with_run held next q ≡ Some next.holder
  new_in q le lt = cond-true (is_among next.first next.count q) _ _ (covers_from next q le lt)

  new_after : (q : ℕ) → next.first + next.count ≤ q → with_run held next q ≡ None
  new_after q le = cond-false (is_among next.first next.count q) _ _ (not_covered next q (λ _ lt. omega (arith, lt, le))) ∙ none q (omega (arith, le))

  -- a number that someone has lies below the run
  held_below : (q : ℕ) (h : Holder) → held q ≡ Some h → q < next.first
  held_below q h some = elim (cases_lt q next.first) [
    | inl lt ↦ lt
    | inr le ↦ absurd (none_some (none q le) some)
  ]

  ends_below : (row : StockRun) → IsMaximalRun held row → row.first + row.count ≤ next.first
  ends_below row m =
      let last = held_below (row.first + row.count - 1) row.holder (m.one_holder (row.first + row.count - 1) (covers_from row (row.first + row.count - 1) (omega (arith, m.some)) (omega (arith, m.some)))) in
      omega (arith, last, m.some)

  -- a maximal run stays one
  stays : (row : StockRun) → IsMaximalRun held row → (GoesOn row next → ⊥) → IsMaximalRun (with_run held next) row
  stays row m stops =
      let end = ends_below row m in
      record {
        some = m.some;
        one_prefix = m.one_prefix;
        one_holder = λ q h. let in_it = covered row q h in new_below q (omega (arith, in_it.1, end)) ∙ m.one_holder q h;
        none_before = before m.none_before end;
        none_after = elim (cases_lt (row.first + row.count) next.first) [
          | inl lt ↦ after lt m.none_after
          | inr le ↦ touches (omega (arith, le, end))
        ];
      }
    where
      before : (serial_of row.first ≡ 0) ⊎ (held (row.first - 1) ≢ Some row.holder) → row.first + row.count ≤ next.first → (serial_of row.first ≡ 0) ⊎ (with_run held next (row.first - 1) ≢ Some row.holder)
      before (inl zero) end = inl zero
      before (inr other) end = inr (λ same. other (sym (new_below (row.first - 1) (omega (arith, end, m.some))) ∙ same))

      after : row.first + row.count < next.first → (serial_of row.first + row.count ≡ 10_000_000) ⊎ (held (row.first + row.count) ≢ Some row.holder) → (serial_of row.first + row.count ≡ 10_000_000) ⊎ (with_run held next (row.first + row.count) ≢ Some row.holder)
      after lt (inl last) = inl last
      after lt (inr other) = inr (λ same. other (sym (new_below (row.first + row.count) lt) ∙ same))

      touches : row.first + row.count ≡ next.first → (serial_of row.first + row.count ≡ 10_000_000) ⊎ (with_run held next (row.first + row.count) ≢ Some row.holder)
      touches at = elim (cases_lt (serial_of row.first + row.count) 10_000_000) [
        | inl lt ↦ inr (λ same.
            let prefix : prefix_of row.first ≡ prefix_of next.first = omega (arith, lt, at) in
            let e : Some row.holder ≡ Some next.holder = sym same ∙ new_in (row.first + row.count) (omega (arith, at)) (omega (arith, at, some)) in
            let holder : row.holder ≡ next.holder = cc in
            stops (prefix, at, holder))
        | inr last ↦ inl (omega (arith, last, m.one_prefix))
      ]

  -- the run by itself
  alone : (serial_of next.first ≡ 0) ⊎ (held (next.first - 1) ≢ Some next.holder) → IsMaximalRun (with_run held next) next
  alone before = record {
    some = some;
    one_prefix = one_prefix;
    one_holder = λ q h. let in_it = covered next q h in new_in q in_it.0 in_it.1;
    none_before = first before;
    none_after = inr (λ same. none_some (new_after (next.first + next.count) (omega arith)) same);
  }
    where
      first : (serial_of next.first ≡ 0) ⊎ (held (next.first - 1) ≢ Some next.holder) → (serial_of next.first ≡ 0) ⊎ (with_run held next (next.first - 1) ≢ Some next.holder)
      first (inl zero) = inl zero
      first (inr other) = elim (cases_lt 0 next.first) [
        | inl lt ↦ inr (λ same. other (sym (new_below (next.first - 1) (omega (arith, lt))) ∙ same))
        | inr le ↦ inl (omega (arith, le))
      ]

  someone : (q : ℕ) → IsSome (with_run held next q) → (IsTrue (is_among next.first next.count q)) ⊎ IsSome (held q)
  someone q h = by_case (is_among next.first next.count q) refl
    where
      by_case : (b : Bool) → is_among next.first next.count q ≡ b → (IsTrue (is_among next.first next.count q)) ⊎ IsSome (held q)
      by_case true e = inl e
      by_case false e = inr (subst (λ (o : Option Holder). IsSome o) (cond-false (is_among next.first next.count q) (Some next.holder) (held q) e) h)

  -- the first run of all
  pub first_run : AreStockRuns held [] → AreStockRuns (with_run held next) (next ∷ [])
  first_run runs = record {
    maximal = (alone (inr (λ same. let e : IsSome (held (next.first - 1)) = subst (λ (o : Option Holder). IsSome o) (sym same) refl in cc (runs.complete (next.first - 1) e))), tt);
    rising = tt;
    complete = λ q h. elim (someone q h) [
      | inl in_it ↦ or_left _ _ in_it
      | inr before ↦ absurd (let e = runs.complete q before in cc)
    ];
  }

  module _ (front : List StockRun) (last : StockRun) (runs : AreStockRuns held (front ++ last ∷ [])) where
    last_run : IsMaximalRun held last
    last_run = (all_last (IsMaximalRun held) front last runs.maximal).1

    -- the rows before the last one end before the run
    fronts_stay : AllByRecursion (IsMaximalRun (with_run held next)) front
    fronts_stay =
        both (IsMaximalRun held) (λ row. row.first + row.count ≤ last.first) (IsMaximalRun (with_run held next)) front
        (λ row m le. stays row m (λ goes. omega (arith, goes.1, le, ends_below last last_run, last_run.some)))
        (all_last (IsMaximalRun held) front last runs.maximal).0 (end_before held front last runs.maximal runs.rising)

    -- a number from the last row's first on that is in a row is in the last one
    in_last : (q : ℕ) → last.first ≤ q → IsTrue (list_any (λ row. is_among row.first row.count q) (front ++ last ∷ [])) → (last.first ≤ q) × (q < last.first + last.count)
    in_last q le h =
        let apart = none_in_front front last.first q (end_before held front last runs.maximal runs.rising) le in
        covered last q (only_last (is_among last.first last.count q)
        (sym (ap (λ b. b || (is_among last.first last.count q || false)) apart) ∙ sym (any_append (λ row. is_among row.first row.count q) front (last ∷ [])) ∙ h))

    -- who has the number before the run has it in the last row
    before_run : (q : ℕ) → q + 1 ≡ next.first → held q ≡ Some next.holder → (last.first ≤ q) × (q < last.first + last.count) × (last.holder ≡ next.holder)
    before_run q at same =
        let some_at : IsSome (held q) = subst (λ (o : Option Holder). IsSome o) (sym same) refl in
        let from : last.first ≤ q = omega (arith, at, ends_below last last_run, last_run.some) in
        let in_it = in_last q from (runs.complete q some_at) in
        let e : Some last.holder ≡ Some next.holder = sym (last_run.one_holder q (covers_from last q in_it.0 in_it.1)) ∙ same in
        let holder : last.holder ≡ next.holder = cc in
        (in_it.0, in_it.1, holder)

    none_before : (GoesOn last next → ⊥) → (serial_of next.first ≡ 0) ⊎ (held (next.first - 1) ≢ Some next.holder)
    none_before stops = elim (cases_lt 0 (serial_of next.first)) [
      | inl lt ↦ inr (λ same.
          let in_it = before_run (next.first - 1) (omega (arith, lt)) same in
          let at : last.first + last.count ≡ next.first = omega (arith, in_it.1, ends_below last last_run, lt) in
          let prefix : prefix_of last.first ≡ prefix_of next.first = omega (arith, at, lt, last_run.one_prefix, last_run.some) in
          stops (prefix, at, in_it.2))
      | inr le ↦ inl (omega (arith, le))
    ]

    pub run_behind : (rows : List StockRun) → rows ≡ (front ++ last ∷ []) ++ next ∷ [] → (GoesOn last next → ⊥) → AreStockRuns (with_run held next) rows
    run_behind rows is stops = subst (AreStockRuns (with_run held next)) (sym is) (record {
      maximal = all_push (IsMaximalRun (with_run held next)) (front ++ last ∷ []) next
          (all_push (IsMaximalRun (with_run held next)) front last fronts_stay (stays last last_run stops)) (alone (none_before stops));
      rising = apart_push front last next runs.rising (ends_below last last_run);
      complete = λ q h. any_append (λ row. is_among row.first row.count q) (front ++ last ∷ []) (next ∷ []) ∙ elim (someone q h) [
        | inl in_it ↦ or_right (list_any (λ row. is_among row.first row.count q) (front ++ last ∷ [])) _ (or_left _ _ in_it)
        | inr before ↦ or_left _ _ (runs.complete q before)
      ];
    })

    -- both runs together stay within the prefix
    pub in_prefix : GoesOn last next → last.count + next.count ≤ 10_000_000
    in_prefix goes = omega (arith, goes.0, goes.1, one_prefix)

    module _ (longer : StockRun) (is : longer ≡ record { first = last.first; count = last.count + next.count; holder = last.holder }) (goes : GoesOn last next) where
      first_is : longer.first ≡ last.first
      first_is = ap (λ (row : StockRun). row.first) is

      count_is : longer.count ≡ last.count + next.count
      count_is = ap (λ (row : StockRun). row.count) is

      holder_is : longer.holder ≡ last.holder
      holder_is = ap (λ (row : StockRun). row.holder) is

      longer_run : IsMaximalRun (with_run held next) longer
      longer_run = record {
        some = omega (arith, count_is, some);
        one_prefix = omega (arith, first_is, count_is, goes.0, goes.1, one_prefix);
        one_holder = λ q h.
            let in_it = covered longer q h in
            elim (cases_lt q next.first) [
              | inl lt ↦ new_below q lt ∙ last_run.one_holder q (covers_from last q (omega (arith, in_it.0, first_is)) (omega (arith, lt, goes.1))) ∙ ap Some (sym holder_is)
              | inr le ↦ new_in q le (omega (arith, in_it.1, first_is, count_is, goes.1)) ∙ ap Some (sym (holder_is ∙ goes.2))
            ];
        none_before = before last_run.none_before;
        none_after = inr (λ same. none_some (new_after (longer.first + longer.count) (omega (arith, first_is, count_is, goes.1))) same);
      }
        where
          before : (serial_of last.first ≡ 0) ⊎ (held (last.first - 1) ≢ Some last.holder) → (serial_of longer.first ≡ 0) ⊎ (with_run held next (longer.first - 1) ≢ Some longer.holder)
          before (inl zero) = inl (ap serial_of first_is ∙ zero)
          before (inr other) = inr (λ same. other (sym (new_below (last.first - 1) (omega (arith, goes.1, last_run.some))) ∙ ap (λ n. with_run held next (n - 1)) (sym first_is) ∙ same ∙ ap Some holder_is))

      in_longer : (q : ℕ) → (last.first ≤ q) → (q < next.first + next.count) → is_among longer.first longer.count q ≡ true
      in_longer q le lt = covers_from longer q (omega (arith, le, first_is)) (omega (arith, lt, first_is, count_is, goes.1))

      pub run_longer : (rows : List StockRun) → rows ≡ front ++ longer ∷ [] → AreStockRuns (with_run held next) rows
      run_longer rows are = subst (AreStockRuns (with_run held next)) (sym are) (record {
        maximal = all_push (IsMaximalRun (with_run held next)) front longer fronts_stay longer_run;
        rising = apart_longer front last longer first_is runs.rising;
        complete = λ q h. any_append (λ row. is_among row.first row.count q) front (longer ∷ []) ∙ elim (someone q h) [
          | inl in_it ↦ or_right (list_any (λ row. is_among row.first row.count q) front) _ (or_left _ _ (let at = covered next q in_it in in_longer q (omega (arith, at.0, goes.1)) at.1))
          | inr before ↦ was q (sym (any_append (λ row. is_among row.first row.count q) front (last ∷ [])) ∙ runs.complete q before)
        ];
      })
        where
          either : (a b c : Bool) → (a || (b || false)) ≡ true → (b ≡ true → c ≡ true) → (a || (c || false)) ≡ true
          either true b c h to = refl
          either false true c h to = ap (λ x. x || false) (to refl)
          either false false c h to = absurd (cc h)

          was : (q : ℕ) → (list_any (λ row. is_among row.first row.count q) front || (is_among last.first last.count q || false)) ≡ true → (list_any (λ row. is_among row.first row.count q) front || (is_among longer.first longer.count q || false)) ≡ true
          was q h =
              either (list_any (λ row. is_among row.first row.count q) front) (is_among last.first last.count q) (is_among longer.first longer.count q) h
              (λ e. let at = covered last q e in in_longer q at.0 (omega (arith, at.1, goes.1)))
