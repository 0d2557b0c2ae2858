-- The table `kept_text`.
use Rattle.station_rows.proofs.Common.{Eq, List, Text, [], at_texts, cast_int, cast_null, edits_kept_texts, false, kept_text, kept_text_cmp, kept_text_in, kept_text_row, kept_text_same, kept_text_total, last_term, refl, typed_kept_texts, ℕ, ℤ, ◌∷◌}
use Rattle.station_schema.proofs.Compared.{word_compares}
use Rattle.station_rows.proofs.KeyedLemmas.{IsTableOf, KeyedTable}

abbrev pub kept_text_table : KeyedTable (List ℕ) ℤ
kept_text_table = record {
  place = 10;
  table = kept_text;
  key_width = 1;
  width = 2;
  cmp = kept_text_cmp;
  key_row = λ k. Text k ∷ [];
  to_row = kept_text_row;
  from_row = kept_text_in;
  map_in = λ tables. tables.kept_texts;
  with_map = λ tables m. record tables { kept_texts = m };
}

pub kept_text_is : IsTableOf kept_text_table
kept_text_is = record {
  total = kept_text_total;
  same = kept_text_same;
  placed = record { there = refl; uncounted = refl; unstamped = refl; idle = λ _ _ _. refl };
  typed = typed_kept_texts;
  is_read = λ _. refl;
  places = 1 ∷ [];
  compares = word_compares kept_text_row;
  unique = λ _ all. all.1.1.1.1.1.1.1.1.1.1.0;
  tests = λ k _ _ e. last_term (at_texts false Eq e.0 k);
  begins = λ _. (_, refl);
  casts = λ n e. rw (cast_int n, cast_int e.1) refl;
  news = λ _ e. rw (cast_null, cast_int e.1) refl;
  updated = λ _ _ _. refl;
  edits = edits_kept_texts;
}
