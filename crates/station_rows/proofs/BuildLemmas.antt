-- The table `build`.
use Rattle.station_rows.proofs.Common.{Build, BuildKey, Eq, Err, Error, Global, IfOk, Int, IsUnchanged, List, Ok, Output, Query, Reads, Result, Row, State, Term, Text, Vec, [], ap, at_ints, at_texts, build, build_cmp, build_in, build_row, build_same, build_total, by_column, cast_int, cast_null, edits_builds, entries, eval_all, false, filter, first_true, inl, int_both, int_cmp, is_on, last_key, last_term, map, map_back, one_table, ordering_then, output, output_cmp, pieces_in, pieces_read, pieces_shown, pos, refl, second_true, sym, tables_of, texts_both, then_term, true, typed_builds, value_cmp-Int, ℕ, ℤ, ◌∙◌, ◌∷◌, ◌≡◌}
use Rattle.station_schema.proofs.Compared.{three_compare, three_eq}
use Rattle.sqlite_trees.proofs.ListLemmas.{map-map}
use Rattle.station_rows.proofs.KeyedLemmas.{IsTableOf, KeyedTable, lists}
use Rattle.station_rows.proofs.Terms.{IsQuery, Lists, key_terms}
use Rattle.station_rows.proofs.Texts.{list_build_is, list_pieces_is}

abbrev pub build_table : KeyedTable BuildKey Build
build_table = record {
  place = 12;
  table = build;
  key_width = 3;
  width = 5;
  cmp = build_cmp;
  key_row = λ k. Text k.0 ∷ Int k.1.0 ∷ Int k.1.1 ∷ [];
  to_row = build_row;
  from_row = build_in;
  map_in = λ tables. tables.builds;
  with_map = λ tables m. record tables { builds = m };
}

pub build_is : IsTableOf build_table
build_is = record {
  total = build_total;
  same = build_same;
  placed = record { there = refl; uncounted = refl; unstamped = refl; idle = λ _ _ _. refl };
  typed = typed_builds;
  is_read = λ _. refl;
  places = 1 ∷ 2 ∷ 3 ∷ [];
  compares = three_compare build_row;
  unique = λ _ all. all.1.1.1.1.1.1.1.1.1.1.1.1.0;
  tests = λ k _ _ e. then_term (at_texts false Eq e.0.0 k.0) (then_term (at_ints false Eq e.0.1.0 k.1.0) (last_term (at_ints false Eq e.0.1.1 k.1.1))) ∙ sym (three_eq e.0 k);
  begins = λ _. (_, refl);
  casts = λ n e. rw (cast_int n, cast_int e.0.1.0, cast_int e.0.1.1, cast_int e.1.pieces, cast_int e.1.tenths) refl;
  news = λ _ e. rw (cast_null, cast_int e.0.1.0, cast_int e.0.1.1, cast_int e.1.pieces, cast_int e.1.tenths) refl;
  updated = λ _ _ _. refl;
  edits = edits_builds;
}

-- ---- the rows of a flight and a day, ORDER BY awb

abbrev on_flight : List Term → Query
on_flight columns = one_table 20 (key_terms 2) columns (by_column 3 ∷ [])

abbrev shown_on : List Term → List ℕ → ℤ → BuildKey × Build → Output
shown_on columns flight day e = output (on_flight columns) ((Text flight ∷ Int day ∷ []) ∷ (Int (pos 0) ∷ build_row e) ∷ [])

-- whatever columns are shown, that is the order of their keys
in_key_order : (columns : List Term) (flight : List ℕ) (day : ℤ) (a b : BuildKey × Build) → is_on flight day a ≡ true → is_on flight day b ≡ true
    → output_cmp (on_flight columns) (shown_on columns flight day a) (shown_on columns flight day b) ≡ build_cmp a.0 b.0
in_key_order columns flight day a b pa pb =
    last_key (value_cmp-Int a.0.1.1 b.0.1.1) ∙ ap (λ o. ordering_then o (int_cmp a.0.1.1 b.0.1.1)) (sym (int_both a.0.1.0 b.0.1.0 day (second_true _ _ pa) (second_true _ _ pb)))
    ∙ ap (λ o. ordering_then o (ordering_then (int_cmp a.0.1.0 b.0.1.0) (int_cmp a.0.1.1 b.0.1.1))) (sym (texts_both a.0.0 b.0.0 flight (first_true _ _ pa) (first_true _ _ pb)))

rows_on : {text : List ℕ} {columns : List Term} (query : IsQuery text (on_flight columns)) (flight : List ℕ) (day : ℤ) (shown : BuildKey × Build → Row)
    → ((n : ℤ) (e : BuildKey × Build) → eval_all columns ((Text flight ∷ Int day ∷ []) ∷ (Int n ∷ build_row e) ∷ []) ≡ shown e) → Lists query (Text flight ∷ Int day ∷ []) shown (λ tables. filter (is_on flight day) (entries tables.builds))
rows_on {columns = columns} query flight day shown shows =
    lists build_table build_is query (Text flight ∷ Int day ∷ []) (is_on flight day) (λ _ e. then_term (at_texts false Eq e.0.0 flight) (last_term (at_ints false Eq e.0.1.0 day))) shown shows
    (λ n e. ap (λ (row : Row). (Int e.0.1.1 ∷ [], row)) (shows n e ∙ sym (shows (pos 0) e))) (in_key_order columns flight day)

pub lists_build : (flight : List ℕ) (day : ℤ) → Lists list_build_is (Text flight ∷ Int day ∷ []) build_row (λ tables. filter (is_on flight day) (entries tables.builds))
lists_build flight day = rows_on list_build_is flight day build_row (λ _ _. refl)

pub lists_pieces : (flight : List ℕ) (day : ℤ) → Lists list_pieces_is (Text flight ∷ Int day ∷ []) pieces_shown (λ tables. map pieces_in (filter (is_on flight day) (entries tables.builds)))
lists_pieces flight day = record {
  shows = λ old new rows was h.
      (rows_on list_pieces_is flight day (λ e. pieces_shown (pieces_in e)) (λ _ _. refl)).shows old new rows was h
      ∙ sym (map-map pieces_shown pieces_in (filter (is_on flight day) (entries (tables_of old.now.trees).builds)));
}

-- the numbers of the rows that were shown
pub reads_pieces : (old new : State) (rows : List Row) (all : List ℤ) → (rows ≡ map pieces_shown all) × IsUnchanged old new
    → (r : Result (Vec ℤ Global) Error) → IfOk r (λ found. found.items ≡ map pieces_read rows) → Reads old new r (λ found. found.items ≡ all)
reads_pieces old new rows all h (Ok found) is = (is ∙ ap (map pieces_read) h.0 ∙ map_back pieces_shown pieces_read (λ _. refl) all, h.1)
reads_pieces old new rows all h (Err e) is = inl h.1
