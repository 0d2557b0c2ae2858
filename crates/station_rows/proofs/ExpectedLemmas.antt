-- The table `expected`.
use Rattle.station_rows.proofs.Common.{Eq, Expected, ExpectedKey, Int, List, Output, Query, Text, [], ap, at_ints, at_texts, by_column, cast_int, cast_null, edits_expected, entries, expected, expected_cmp, expected_in, expected_row, expected_same, expected_total, false, filter, first_true, int_both, int_cmp, is_listed_on, last_key, last_term, one_table, ordering_then, output, output_cmp, pos, refl, second_true, sym, texts_both, then_key, then_term, true, typed_expected, value_cmp-Int, value_cmp-Text, ℕ, ℤ, ◌∙◌, ◌∷◌, ◌≡◌}
use Rattle.station_schema.proofs.Compared.{three_compare, three_eq}
use Rattle.station_rows.proofs.Terms.{Lists, columns, key_terms}
use Rattle.station_rows.proofs.KeyedLemmas.{IsTableOf, KeyedTable, lists, lists_all}
use Rattle.station_rows.proofs.Texts.{all_expected_is, list_expected_is}

abbrev pub expected_table : KeyedTable ExpectedKey Expected
expected_table = record {
  place = 5;
  table = expected;
  key_width = 3;
  width = 6;
  cmp = expected_cmp;
  key_row = λ k. Text k.0 ∷ Int k.1.0 ∷ Int k.1.1 ∷ [];
  to_row = expected_row;
  from_row = expected_in;
  map_in = λ tables. tables.expected;
  with_map = λ tables m. record tables { expected = m };
}

pub expected_is : IsTableOf expected_table
expected_is = record {
  total = expected_total;
  same = expected_same;
  placed = record { there = refl; uncounted = refl; unstamped = refl; idle = λ _ _ _. refl };
  typed = typed_expected;
  is_read = λ _. refl;
  places = 1 ∷ 2 ∷ 3 ∷ [];
  compares = three_compare expected_row;
  unique = λ _ all. all.1.1.1.1.1.0;
  tests = λ k _ _ e. then_term (at_texts false Eq e.0.0 k.0) (then_term (at_ints false Eq e.0.1.0 k.1.0) (last_term (at_ints false Eq e.0.1.1 k.1.1))) ∙ sym (three_eq e.0 k);
  begins = λ _. (_, refl);
  casts = λ n e. rw (cast_int n, cast_int e.0.1.0, cast_int e.0.1.1, cast_int e.1.pieces, cast_int e.1.tenths, cast_int e.1.checked) refl;
  news = λ _ e. rw (cast_null, cast_int e.0.1.0, cast_int e.0.1.1, cast_int e.1.pieces, cast_int e.1.tenths, cast_int e.1.checked) refl;
  updated = λ _ _ _. refl;
  edits = edits_expected;
}

pub lists_all_expected : Lists all_expected_is [] expected_row (λ tables. entries tables.expected)
lists_all_expected = lists_all expected_table expected_is all_expected_is (λ _ _. refl) (λ _ _. refl) (λ a b. then_key (value_cmp-Text a.0.0 b.0.0) (then_key (value_cmp-Int a.0.1.0 b.0.1.0) (last_key (value_cmp-Int a.0.1.1 b.0.1.1))))

-- ---- the rows of a flight and a day, ORDER BY awb

abbrev on_flight : Query
on_flight = one_table 8 (key_terms 2) (columns 6) (by_column 3 ∷ [])

abbrev shown_on : List ℕ → ℤ → ExpectedKey × Expected → Output
shown_on flight day e = output on_flight ((Text flight ∷ Int day ∷ []) ∷ (Int (pos 0) ∷ expected_row e) ∷ [])

-- that is the order of their keys
in_key_order : (flight : List ℕ) (day : ℤ) (a b : ExpectedKey × Expected) → is_listed_on flight day a ≡ true → is_listed_on flight day b ≡ true
    → output_cmp on_flight (shown_on flight day a) (shown_on flight day b) ≡ expected_cmp a.0 b.0
in_key_order flight day a b pa pb =
    last_key (value_cmp-Int a.0.1.1 b.0.1.1) ∙ ap (λ o. ordering_then o (int_cmp a.0.1.1 b.0.1.1)) (sym (int_both a.0.1.0 b.0.1.0 day (second_true _ _ pa) (second_true _ _ pb)))
    ∙ ap (λ o. ordering_then o (ordering_then (int_cmp a.0.1.0 b.0.1.0) (int_cmp a.0.1.1 b.0.1.1))) (sym (texts_both a.0.0 b.0.0 flight (first_true _ _ pa) (first_true _ _ pb)))

pub lists_expected : (flight : List ℕ) (day : ℤ) → Lists list_expected_is (Text flight ∷ Int day ∷ []) expected_row (λ tables. filter (is_listed_on flight day) (entries tables.expected))
lists_expected flight day =
    lists expected_table expected_is list_expected_is (Text flight ∷ Int day ∷ []) (is_listed_on flight day) (λ _ e. then_term (at_texts false Eq e.0.0 flight) (last_term (at_ints false Eq e.0.1.0 day)))
    expected_row (λ _ _. refl) (λ _ _. refl) (in_key_order flight day)
