-- How UNIQUE compares the keys that are made of columns.
use Rattle.station_schema.proofs.Common.{drop, Int, List, Row, Text, ℕ, Eq, ExpectedKey, FlightKey, PartKey, StockKey, [], ap₂, at_ints, at_texts, bytes_cmp, eq_by_cmp, expected_cmp, false, flight_cmp, int_cmp, int_eq, kept_cmp, last_term, pair_cmp, part_cmp, refl, stock_cmp, sym, then_term, ◌&&◌, ◌∙◌, ◌∷◌, ◌≡◌}
use Rattle.sqlite_value.specs.Keys.{first_key}
use Rattle.station_schema.proofs.ColumnKeys.{Compares}
use Rattle.station_schema.proofs.OneRow.{int_tied, pair_eq}
use Rattle.station_schema.proofs.Keys.{stock_total, flight_total, expected_total, part_total, kept_total}

-- two numbers; a text and a number; a text and two numbers; the key of a part
pub numbers_eq : (j k : StockKey) → eq_by_cmp stock_cmp j k ≡ (int_eq j.0 k.0 && int_eq j.1 k.1)
numbers_eq j k = pair_eq int_cmp int_cmp j k ∙ ap₂ ◌&&◌ (int_tied j.0 k.0) (int_tied j.1 k.1)

pub text_eq : (j k : FlightKey) → eq_by_cmp flight_cmp j k ≡ (eq_by_cmp bytes_cmp j.0 k.0 && int_eq j.1 k.1)
text_eq j k = pair_eq bytes_cmp int_cmp j k ∙ ap₂ ◌&&◌ refl (int_tied j.1 k.1)

pub three_eq : (j k : ExpectedKey) → eq_by_cmp expected_cmp j k ≡ (eq_by_cmp bytes_cmp j.0 k.0 && (int_eq j.1.0 k.1.0 && int_eq j.1.1 k.1.1))
three_eq j k = pair_eq bytes_cmp (pair_cmp int_cmp int_cmp) j k ∙ ap₂ ◌&&◌ refl (numbers_eq j.1 k.1)

pub part_eq : (j k : PartKey) → eq_by_cmp part_cmp j k ≡ (eq_by_cmp bytes_cmp j.0 k.0 && (int_eq j.1.0 k.1.0 && (eq_by_cmp bytes_cmp j.1.1.0 k.1.1.0 && int_eq j.1.1.1 k.1.1.1)))
part_eq j k = pair_eq bytes_cmp (pair_cmp int_cmp (pair_cmp bytes_cmp int_cmp)) j k ∙ ap₂ ◌&&◌ refl (pair_eq int_cmp (pair_cmp bytes_cmp int_cmp) j.1 k.1 ∙ ap₂ ◌&&◌ (int_tied j.1.0 k.1.0) (text_eq j.1.1 k.1.1))

-- whatever the columns after the key are
module _ {V : Type 0} where
  pub numbers_compare : (to_row : StockKey × V → Row) → Compares stock_cmp stock_total (λ e. Int e.0.0 ∷ Int e.0.1 ∷ drop 2 (to_row e)) (1 ∷ 2 ∷ [])
  unfolding first_key
  numbers_compare to_row a b = then_term (at_ints false Eq a.1.0.0 b.1.0.0) (last_term (at_ints false Eq a.1.0.1 b.1.0.1)) ∙ sym (numbers_eq a.1.0 b.1.0)

  pub text_compares : (to_row : FlightKey × V → Row) → Compares flight_cmp flight_total (λ e. Text e.0.0 ∷ Int e.0.1 ∷ drop 2 (to_row e)) (1 ∷ 2 ∷ [])
  unfolding first_key
  text_compares to_row a b = then_term (at_texts false Eq a.1.0.0 b.1.0.0) (last_term (at_ints false Eq a.1.0.1 b.1.0.1)) ∙ sym (text_eq a.1.0 b.1.0)

  pub three_compare : (to_row : ExpectedKey × V → Row) → Compares expected_cmp expected_total (λ e. Text e.0.0 ∷ Int e.0.1.0 ∷ Int e.0.1.1 ∷ drop 3 (to_row e)) (1 ∷ 2 ∷ 3 ∷ [])
  unfolding first_key
  three_compare to_row a b = then_term (at_texts false Eq a.1.0.0 b.1.0.0) (then_term (at_ints false Eq a.1.0.1.0 b.1.0.1.0) (last_term (at_ints false Eq a.1.0.1.1 b.1.0.1.1))) ∙ sym (three_eq a.1.0 b.1.0)

  pub part_compares : (to_row : PartKey × V → Row) → Compares part_cmp part_total (λ e. Text e.0.0 ∷ Int e.0.1.0 ∷ Text e.0.1.1.0 ∷ Int e.0.1.1.1 ∷ drop 4 (to_row e)) (1 ∷ 2 ∷ 3 ∷ 4 ∷ [])
  unfolding first_key
  part_compares to_row a b = then_term (at_texts false Eq a.1.0.0 b.1.0.0) (then_term (at_ints false Eq a.1.0.1.0 b.1.0.1.0) (then_term (at_texts false Eq a.1.0.1.1.0 b.1.0.1.1.0) (last_term (at_ints false Eq a.1.0.1.1.1 b.1.0.1.1.1)))) ∙ sym (part_eq a.1.0 b.1.0)

  pub word_compares : (to_row : List ℕ × V → Row) → Compares kept_cmp kept_total (λ e. Text e.0 ∷ drop 1 (to_row e)) (1 ∷ [])
  unfolding first_key
  word_compares to_row a b = last_term (at_texts false Eq a.1.0 b.1.0)
