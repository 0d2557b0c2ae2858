-- The table `counts`.
use Rattle.station_rows.proofs.Common.{Count, CountKey, Eq, Int, [], ap, at_ints, cast_int, cast_null, count_cmp, count_in, count_row, count_same, count_total, counts, counts_for, edits_counts, entries, false, filter, int_both, int_cmp, last_key, last_term, ordering_then, refl, sym, then_key, then_term, typed_counts, value_cmp-Int, ℤ, ◌∙◌, ◌∷◌}
use Rattle.station_schema.proofs.Compared.{numbers_compare, numbers_eq}
use Rattle.station_rows.proofs.Terms.{Lists}
use Rattle.station_rows.proofs.KeyedLemmas.{IsTableOf, KeyedTable, lists, lists_all}
use Rattle.station_rows.proofs.Texts.{all_count_is, list_count_is}

abbrev pub count_table : KeyedTable CountKey Count
count_table = record {
  place = 11;
  table = counts;
  key_width = 2;
  width = 4;
  cmp = count_cmp;
  key_row = λ k. Int k.0 ∷ Int k.1 ∷ [];
  to_row = count_row;
  from_row = count_in;
  map_in = λ tables. tables.counts;
  with_map = λ tables m. record tables { counts = m };
}

pub count_is : IsTableOf count_table
count_is = record {
  total = count_total;
  same = count_same;
  placed = record { there = refl; uncounted = refl; unstamped = refl; idle = λ _ _ _. refl };
  typed = typed_counts;
  is_read = λ _. refl;
  places = 1 ∷ 2 ∷ [];
  compares = numbers_compare count_row;
  unique = λ _ all. all.1.1.1.1.1.1.1.1.1.1.1.0;
  tests = λ k _ _ e. then_term (at_ints false Eq e.0.0 k.0) (last_term (at_ints false Eq e.0.1 k.1)) ∙ sym (numbers_eq e.0 k);
  begins = λ _. (_, refl);
  casts = λ n e. rw (cast_int n, cast_int e.0.0, cast_int e.0.1, cast_int e.1.pieces, cast_int e.1.tenths) refl;
  news = λ _ e. rw (cast_null, cast_int e.0.0, cast_int e.0.1, cast_int e.1.pieces, cast_int e.1.tenths) refl;
  updated = λ _ _ _. refl;
  edits = edits_counts;
}

-- ORDER BY place, among rows with one awb
pub lists_count : (awb : ℤ) → Lists list_count_is (Int awb ∷ []) count_row (λ tables. filter (counts_for awb) (entries tables.counts))
lists_count awb =
    lists count_table count_is list_count_is (Int awb ∷ []) (counts_for awb) (λ _ e. last_term (at_ints false Eq e.0.0 awb)) count_row (λ _ _. refl) (λ _ _. refl)
    (λ a b pa pb. last_key (value_cmp-Int a.0.1 b.0.1) ∙ ap (λ o. ordering_then o (int_cmp a.0.1 b.0.1)) (sym (int_both a.0.0 b.0.0 awb pa pb)))

pub lists_all_counts : Lists all_count_is [] count_row (λ tables. entries tables.counts)
lists_all_counts = lists_all count_table count_is all_count_is (λ _ _. refl) (λ _ _. refl) (λ a b. then_key (value_cmp-Int a.0.0 b.0.0) (last_key (value_cmp-Int a.0.1 b.0.1)))
