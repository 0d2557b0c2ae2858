-- Days and their texts.
use Rattle.desk_commands.proofs.Common.{Bool, CalendarDay, IsCalendarDay, IsMomentDay, List, None, Option, Some, [], and_from, and_parts, ap, arith, bytes_eq, bytes_eq-refl, bytes_eq-true, cond, date_in, date_on, date_part, day_in_year, days_after, decimal_value, decimal_value-padded, digits-padded, false, has_digits, if_written, is_calendar_day, is_moment_day, le-leb, leb-true, named_day, padded, pos, refl, subst, sym, true, year_of, year_part, ℕ, ◌&&◌, ◌++◌, ◌<◌, ◌==◌, ◌>>=◌, ◌||◌, ◌∙◌, ◌∷◌, ◌≡◌, ◌≤◌}
use Rattle.std.specs.Option.{option_map}
use Rattle.jiff_core.specs.Calendar.{days_in_month, is_leap_year}
use Rattle.station_days.proofs.DateLaws.{year_high}
use Rattle.station_days.proofs.DateOnLaws.{IsDateAfter, date_of_moment, date_names_day}
use Rattle.desk_commands.proofs.Steps.{some_is, passed, passes}
use Rattle.desk_commands.specs.Command.{day_line, day_of}

-- ---- the day of a text

pair_is : (o : Option CalendarDay) (v y : ℕ) (d : CalendarDay) → ◌≡◌ {A = Option (CalendarDay × ℕ)} (Some (d, y)) (option_map (λ (date : CalendarDay). (date, v)) o) → (o ≡ Some d) × (y ≡ v)
pair_is None v y d e = cc e
pair_is (Some b) v y d e =
    let pair = some_is {A = CalendarDay × ℕ} (d, y) (b, v) e in
    (ap (λ (x : CalendarDay × ℕ). Some x.0) (sym pair), ap (λ (x : CalendarDay × ℕ). x.1) pair)

pub day_read : (text : List ℕ) (date : CalendarDay) (year day : ℕ)
    → ◌≡◌ {A = Option (CalendarDay × ℕ)} (Some (date, year)) (option_map (λ (date : CalendarDay). (date, decimal_value (year_part text))) (date_in text))
    → Some day ≡ day_in_year date year → if_written day text ≡ day_of text
unfolding day_of
day_read text date year day e f =
    let parts = pair_is (date_in text) (decimal_value (year_part text)) year date e in
    let named : named_day date text ≡ Some day = sym (f ∙ ap (day_in_year date) parts.1) in
    sym (ap (λ (o : Option CalendarDay). o >>= λ d. named_day d text >>= λ n. if_written n text) parts.0
    ∙ ap (λ (o : Option ℕ). o >>= λ n. if_written n text) named)

-- ---- what is read is written so, and a day's text is read as that day

pub record IsDayOf (text : List ℕ) (day : ℕ) : Type 0 where
  pub in_range : IsMomentDay day
  pub written : text ≡ day_line day

moment : (day : ℕ) → is_moment_day day ≡ true → IsMomentDay day
moment day h = let p = and_parts _ _ h in (leb-true _ _ p.0, leb-true _ _ p.1)

moment_test : (day : ℕ) → IsMomentDay day → is_moment_day day ≡ true
moment_test day h = and_from _ _ (le-leb _ _ h.0) (le-leb _ _ h.1)

by_test : (text : List ℕ) (d day : ℕ) → if_written d text ≡ Some day → IsDayOf text day
by_test text d day h =
    let p = passed (is_moment_day d && bytes_eq (day_line d) text) d day h in
    let t = and_parts _ _ p.0 in
    subst (IsDayOf text) p.1 (record { in_range = moment d t.0; written = sym (bytes_eq-true (day_line d) text t.1) })

by_name : (text : List ℕ) (named : Option ℕ) (day : ℕ) → (named >>= λ n. if_written n text) ≡ Some day → IsDayOf text day
by_name text None day h = cc h
by_name text (Some n) day h = by_test text n day h

by_date : (text : List ℕ) (date : Option CalendarDay) (day : ℕ) → (date >>= λ d. named_day d text >>= λ n. if_written n text) ≡ Some day → IsDayOf text day
by_date text None day h = cc h
by_date text (Some d) day h = by_name text (named_day d text) day h

pub day_is : (text : List ℕ) (day : ℕ) → day_of text ≡ Some day → IsDayOf text day
unfolding day_of
day_is text day h = by_date text (date_in text) day h

abbrev dated : ℕ → ℕ → ℕ → List ℕ
dated y m d = padded 4 y ++ (45 ∷ []) ++ padded 2 m ++ (45 ∷ []) ++ padded 2 d

again : (y m d day : ℕ) → y < 10000 → IsCalendarDay (record { day = d; month = m }) → day_in_year (record { day = d; month = m }) y ≡ Some day → IsMomentDay day
    → day_line day ≡ dated y m d → day_of (dated y m d) ≡ Some day
unfolding day_of
again y m d day low h named in_range line =
    let text = dated y m d in
    let date : CalendarDay = record { day = d; month = m } in
    let digits : has_digits text ≡ true = and_from _ _ (and_from _ _ (and_from _ _ refl (digits-padded 4 y)) (digits-padded 2 m)) (digits-padded 2 d) in
    let year_is : decimal_value (padded 4 y) ≡ y = decimal_value-padded 4 y (omega (arith, low)) in
    let month_is : decimal_value (padded 2 m) ≡ m = decimal_value-padded 2 m (omega (arith, h.3)) in
    let day_is : decimal_value (padded 2 d) ≡ d = decimal_value-padded 2 d (omega (arith, h.1)) in
    let date_is : date_part text ≡ date = λ i. record { day = day_is i; month = month_is i } in
    let calendar : is_calendar_day date ≡ true = and_from _ _ (and_from _ _ (and_from _ _ (le-leb _ _ h.0) (le-leb _ _ h.1)) (le-leb _ _ h.2)) (le-leb _ _ h.3) in
    let dated_is : date_in text ≡ Some (date_part text) = passes (has_digits text && is_calendar_day (date_part text)) (date_part text) (and_from _ _ digits (ap is_calendar_day date_is ∙ calendar)) in
    let named_is : named_day (date_part text) text ≡ Some day = ap (λ x. named_day x text) date_is ∙ ap (day_in_year date) year_is ∙ named in
    let written : if_written day text ≡ Some day = passes (is_moment_day day && bytes_eq (day_line day) text) day (and_from _ _ (moment_test day in_range) (ap (λ l. bytes_eq l text) line ∙ bytes_eq-refl text)) in
    rw (dated_is, named_is) written

month_long : (a b c : Bool) → cond a (cond b 29 28) (cond c 30 31) ≤ 31
month_long true true c = omega arith
month_long true false c = omega arith
month_long false b true = omega arith
month_long false b false = omega arith

date_in_calendar : (day : ℕ) → IsMomentDay day → IsCalendarDay (date_on day)
date_in_calendar day h = by (year_of day) (days_after 200 1970 day) (date_on day) (date_of_moment day h)
  where
    by : (year left : ℕ) (d : CalendarDay) → IsDateAfter year 1 left d → IsCalendarDay d
    by year left d h =
        let most : days_in_month (pos year) d.month ≤ 31 = month_long (d.month == 2) (is_leap_year (pos year)) ((d.month == 4) || (d.month == 6) || (d.month == 9) || (d.month == 11)) in
        (h.first, omega (arith, h.within, most), h.low, h.high)

line_parts : (day : ℕ) → day_line day ≡ dated (year_of day) (date_on day).month (date_on day).day
unfolding day_line
line_parts day = refl

pub day_again : (day : ℕ) → IsMomentDay day → day_of (day_line day) ≡ Some day
day_again day h =
    let line = line_parts day in
    let high = year_high day in
    ap day_of line ∙ again (year_of day) (date_on day).month (date_on day).day day (omega (arith, high)) (date_in_calendar day h) (date_names_day day h) h line
