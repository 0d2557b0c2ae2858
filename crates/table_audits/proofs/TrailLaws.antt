-- The rows of `trail` are lawful exactly where the table is.
use Rattle.table_audits.proofs.Common.{AreNumbered, AreSoundOr, AreTrailLines, Bool, IsSome, IsTrue, List, None, Option, Some, Tables, TrailLine, TrailRow, Waybill, all_both, all_from_test, all_map, all_unmap, all_weaker, and_from, and_parts, ap, ap₂, cargo_in, has_waybill, is_lawful_line, is_line, is_number, is_trail_row, line_by, list_all, map, natural, refl, subst, sym, test_from_all, trail_id, trail_meant, true, true≢false, ℕ, ◌↔◌, ◌∙◌, ◌≡◌}
use Rattle.table_audits.proofs.Taken.{sound_rows, rows_sound}
use Rattle.table_audits.proofs.Each.{both_lists, natural_again}
use Rattle.table_audits.proofs.DeclaredLaws.{declared_from, declared_back}

module _ (t : Tables) where
  abbrev passes : TrailLine → Bool
  passes = is_lawful_line t.waybills

  abbrev IsKnown : ℕ × List ℕ → Type 0
  IsKnown row = IsSome ((cargo_in t).declared row.0) × IsTrue (is_line row.1)

  known : (row : TrailLine) → passes row ≡ true → IsKnown (line_by row)
  known row h =
      let a = and_parts (is_trail_row row) (has_waybill t.waybills row.awb) h in
      let b = and_parts (is_number row.awb) (is_line row.line) a.0 in
      (declared_from t.waybills (natural row.awb) (ap (has_waybill t.waybills) (natural_again 0 9_999_999_999 row.awb b.0) ∙ a.1), b.1)

  known_back : (row : TrailLine) → is_trail_row row ≡ true → IsKnown (line_by row) → passes row ≡ true
  known_back row h k =
      let b = and_parts (is_number row.awb) (is_line row.line) h in
      and_from _ _ h (ap (has_waybill t.waybills) (sym (natural_again 0 9_999_999_999 row.awb b.0)) ∙ declared_back t.waybills (natural row.awb) k.0)

  pub are_lines : list_all passes t.trail ≡ true → AreNumbered trail_id t.trail → AreTrailLines t
  are_lines all numbers = record {
    rows = (both_lists is_trail_row (λ row. has_waybill t.waybills row.awb) t.trail all).0;
    numbers = numbers;
    lines = all_map IsKnown line_by t.trail (all_weaker (λ row. passes row ≡ true) (λ row. IsKnown (line_by row)) known t.trail (all_from_test passes t.trail all));
  }

  pub lawful_lines : AreTrailLines t → list_all passes t.trail ≡ true
  lawful_lines law = test_from_all passes t.trail (all_both (λ row. is_trail_row row ≡ true) (λ row. IsKnown (line_by row)) (λ row. passes row ≡ true) known_back t.trail (all_from_test is_trail_row t.trail law.rows) (all_unmap IsKnown line_by t.trail law.lines))

  module _ (rows : List TrailRow) (ws : List Waybill) (waybills : t.waybills ≡ ws) (is : t.trail ≡ map trail_meant rows) where
    same_test : list_all passes t.trail ≡ list_all (is_lawful_line ws) (map trail_meant rows)
    same_test = ap₂ (λ l lines. list_all (is_lawful_line l) lines) waybills is

    pub lines_so : (count : Option ℕ) → AreSoundOr (map (λ row. (trail_id (trail_meant row), is_lawful_line ws (trail_meant row))) rows) count → IsSome count ↔ AreTrailLines t
    lines_so None never = (
      λ h. absurd (true≢false (sym h)),
      λ law. absurd (never (rows_sound trail_meant trail_id (is_lawful_line ws) rows (subst (AreNumbered trail_id) is law.numbers) (sym same_test ∙ lawful_lines law))),
    )
    lines_so (Some n) are =
        let found = sound_rows trail_meant trail_id (is_lawful_line ws) rows are.0 in
        (λ h. are_lines (same_test ∙ found.1) (subst (AreNumbered trail_id) (sym is) found.0), λ law. refl)
