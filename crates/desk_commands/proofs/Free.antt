-- Texts that hold no end of a line.
use Rattle.desk_commands.proofs.Common.{Bool, Designator, IsDesignator, List, [], and_from, and_parts, ap, arith, check_digit, date_on, decimal, digits-padded, false, flight_code, flight_text, is_agent_code, is_airport, is_carrier, is_digit, is_end, is_goods, is_letter, is_letter_or_digit, is_name, is_printable, list_all, list_all-append, ne_eqb, not, not_from_false, number_text, padded, prefix_of, refl, serial_of, sym, true, year_of, ℕ, ◌++◌, ◌<◌, ◌^◌, ◌∙◌, ◌∷◌, ◌≡◌}
use Rattle.imp_fields.proofs.WrittenLaws.{all_weaker, decimal_digits}
use Rattle.desk_commands.specs.Command.{day_line}

abbrev pub free : List ℕ → Bool
free text = list_all (λ b. not (is_end b)) text

not_end : (test : ℕ → Bool) → test 10 ≡ false → (b : ℕ) → test b ≡ true → not (is_end b) ≡ true
not_end test apart b h = not_from_false _ (ne_eqb b 10 (λ e. let bad : ◌≡◌ {A = Bool} false true = sym apart ∙ sym (ap test e) ∙ h in cc bad))

free_tested : (test : ℕ → Bool) → test 10 ≡ false → (text : List ℕ) → list_all test text ≡ true → free text ≡ true
free_tested test apart text h = all_weaker test (λ b. not (is_end b)) (not_end test apart) text h

free_append : (front text : List ℕ) → free front ≡ true → free text ≡ true → free (front ++ text) ≡ true
free_append front text h k = list_all-append (λ b. not (is_end b)) front text ∙ and_from _ _ h k

pub free_padded : (w n : ℕ) → free (padded w n) ≡ true
free_padded w n = free_tested is_digit refl (padded w n) (digits-padded w n)

dashed : (front text : List ℕ) → free front ≡ true → free text ≡ true → free (front ++ (45 ∷ []) ++ text) ≡ true
dashed front text h k = free_append (front ++ (45 ∷ [])) text (free_append front (45 ∷ []) h refl) k

pub free_number : (w : ℕ) → free (number_text w) ≡ true
free_number w =
    free_append (padded 3 (prefix_of w) ++ (45 ∷ []) ++ padded 7 (serial_of w)) (padded 1 (check_digit (serial_of w)))
    (dashed (padded 3 (prefix_of w)) (padded 7 (serial_of w)) (free_padded 3 (prefix_of w)) (free_padded 7 (serial_of w)))
    (free_padded 1 (check_digit (serial_of w)))

pub free_day : (day : ℕ) → free (day_line day) ≡ true
unfolding day_line
free_day day =
    dashed (padded 4 (year_of day) ++ (45 ∷ []) ++ padded 2 (date_on day).month) (padded 2 (date_on day).day)
    (dashed (padded 4 (year_of day)) (padded 2 (date_on day).month) (free_padded 4 (year_of day)) (free_padded 2 (date_on day).month))
    (free_padded 2 (date_on day).day)

pub free_airport : (code : List ℕ) → is_airport code ≡ true → free code ≡ true
free_airport code h = free_tested is_letter refl code (and_parts _ _ h).1

pub free_carrier : (code : List ℕ) → is_carrier code ≡ true → free code ≡ true
free_carrier code h = free_tested is_letter_or_digit refl code (and_parts _ _ (and_parts _ _ h).0).1

pub free_name : (text : List ℕ) → is_name text ≡ true → free text ≡ true
free_name text h = free_tested is_printable refl text (and_parts _ _ (and_parts _ _ h).0).1

pub free_goods : (text : List ℕ) → is_goods text ≡ true → free text ≡ true
free_goods text h = free_tested is_printable refl text (and_parts _ _ (and_parts _ _ h).0).1

pub free_agent : (text : List ℕ) → is_agent_code text ≡ true → free text ≡ true
free_agent text h = free_tested is_letter_or_digit refl text (and_parts _ _ h).1

pub free_flight : (f : Designator) → IsDesignator f → free (flight_text f) ≡ true
free_flight f h = free_tested is_letter_or_digit refl (flight_text f) (flight_code f h).bytes

pub free_decimal : (n : ℕ) → n < 4_294_967_296 → free (decimal n) ≡ true
free_decimal n small = let wide : n < 2 ^ 64 = omega (arith, small) in free_tested is_digit refl (decimal n) (decimal_digits n wide)
