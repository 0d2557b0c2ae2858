-- The table `part`.
use Rattle.station_rows.proofs.Common.{Eq, Int, List, PartKey, Text, [], at_ints, at_texts, cast_int, cast_null, edits_parts, false, last_term, part, part_cmp, part_in, part_row, part_same, part_total, refl, sym, then_term, typed_parts, ℕ, ◌∙◌, ◌∷◌}
use Rattle.station_schema.proofs.Compared.{part_compares, part_eq}
use Rattle.station_rows.proofs.KeyedLemmas.{IsTableOf, KeyedTable}

abbrev pub part_table : KeyedTable PartKey (List ℕ)
part_table = record {
  place = 6;
  table = part;
  key_width = 4;
  width = 5;
  cmp = part_cmp;
  key_row = λ k. Text k.0 ∷ Int k.1.0 ∷ Text k.1.1.0 ∷ Int k.1.1.1 ∷ [];
  to_row = part_row;
  from_row = part_in;
  map_in = λ tables. tables.parts;
  with_map = λ tables m. record tables { parts = m };
}

pub part_is : IsTableOf part_table
part_is = record {
  total = part_total;
  same = part_same;
  placed = record { there = refl; uncounted = refl; unstamped = refl; idle = λ _ _ _. refl };
  typed = typed_parts;
  is_read = λ _. refl;
  places = 1 ∷ 2 ∷ 3 ∷ 4 ∷ [];
  compares = part_compares part_row;
  unique = λ _ all. all.1.1.1.1.1.1.0;
  tests = λ k _ _ e. then_term (at_texts false Eq e.0.0 k.0) (then_term (at_ints false Eq e.0.1.0 k.1.0) (then_term (at_texts false Eq e.0.1.1.0 k.1.1.0) (last_term (at_ints false Eq e.0.1.1.1 k.1.1.1)))) ∙ sym (part_eq e.0 k);
  begins = λ _. (_, refl);
  casts = λ n e. rw (cast_int n, cast_int e.0.1.0, cast_int e.0.1.1.1) refl;
  news = λ _ e. rw (cast_null, cast_int e.0.1.0, cast_int e.0.1.1.1) refl;
  updated = λ _ _ _. refl;
  edits = edits_parts;
}
