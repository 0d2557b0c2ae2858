-- The rows of `expected` are lawful exactly where the table is.
use Rattle.table_audits.proofs.Common.{AreExpected, Bool, Expected, ExpectedKey, FlightDate, IfSome, IsLawfulAmount, IsSome, None, Option, Some, Tables, all_from_test, and_from, and_parts, ap, ap₂, at_key, cargo_in, cond, cond-true, each_entry, entries, expected_by, expected_cmp, expected_in, expected_key, expected_same, expected_total, false, get, has_waybill, int_le, is_day, is_designator, is_expected_row, is_flight_text, is_lawful_expected, is_number, is_within, list_all, natural, option_map, pos, refl, subst, sym, test_from_all, true, ℕ, ◌&&◌, ◌∙◌, ◌≡◌}
use Rattle.shipment_machine.specs.declared.moves.Expected as cargo
use Rattle.table_audits.proofs.Each.{both_lists, natural_again, amount_of, amount_back}
use Rattle.table_audits.proofs.FlightRows.{flight_at}
use Rattle.table_audits.proofs.DeclaredLaws.{declared_from, declared_back}

-- what is in range of a row
pub record InRange (e : ExpectedKey × Expected) : Type 0 where
  pub flight : is_flight_text e.0.0 ≡ true
  pub day : is_day e.0.1.0 ≡ true
  pub number : is_number e.0.1.1 ≡ true
  pub pieces : is_within 1 9999 e.1.pieces ≡ true
  pub tenths : is_within 0 999_999 e.1.tenths ≡ true

pub in_range : (e : ExpectedKey × Expected) → is_expected_row e ≡ true → InRange e
in_range e h =
    let a = and_parts _ _ (and_parts _ _ h).0 in
    let b = and_parts _ _ a.0 in
    let c = and_parts _ _ b.0 in
    let d = and_parts _ _ c.0 in
    record { flight = d.0; day = d.1; number = c.1; pieces = b.1; tenths = a.1 }

module _ (t : Tables) where
  abbrev IsMet : ℕ → Option cargo.Expected → Type 0
  IsMet w o = IfSome o (λ e. IsLawfulAmount e.pieces e.tenths × IsSome ((cargo_in t).declared w))

  abbrev passes : ExpectedKey × Expected → Bool
  passes = is_lawful_expected t.waybills

  pub are_expected : list_all passes (entries t.expected) ≡ true → AreExpected t
  are_expected all = record {
    rows = (both_lists is_expected_row (λ row. int_le row.1.pieces row.1.tenths) (entries t.expected) (both_lists (λ row. is_expected_row row && int_le row.1.pieces row.1.tenths) (λ row. has_waybill t.waybills row.0.1.1) (entries t.expected) all).0).0;
    expectations = λ f w. go f w (is_designator f.flight) (get t.expected (expected_key f w)) refl;
  }
    where
      met : (key : ExpectedKey) (w : ℕ) (row : Expected) → passes (key, row) ≡ true → key.1.1 ≡ pos w → IsMet w (Some (expected_by row))
      met key w row h is =
          let a = and_parts _ _ h in
          let b = and_parts _ _ a.0 in
          let r = in_range (key, row) b.0 in
          (amount_of row.pieces row.tenths r.pieces r.tenths b.1, declared_from t.waybills w (ap (has_waybill t.waybills) (sym is) ∙ a.1))

      go : (f : FlightDate) (w : ℕ) (b : Bool) (o : Option Expected) → get t.expected (expected_key f w) ≡ o → IsMet w (cond b (option_map expected_by o) None)
      go f w false o is = tt
      go f w true None is = tt
      go f w true (Some row) is = met (expected_key f w) w row (at_key expected_cmp expected_total expected_same (λ e. passes e ≡ true) t.expected (all_from_test passes (entries t.expected) all) (expected_key f w) row is) refl

  pub lawful_expected : AreExpected t → list_all passes (entries t.expected) ≡ true
  lawful_expected law = test_from_all passes (entries t.expected) (each_entry expected_cmp expected_total (λ e. passes e ≡ true) t.expected go)
    where
      go : (key : ExpectedKey) (row : Expected) → get t.expected key ≡ Some row → passes (key, row) ≡ true
      go key row has =
          let fits : is_expected_row (key, row) ≡ true = at_key expected_cmp expected_total expected_same (λ e. is_expected_row e ≡ true) t.expected (all_from_test is_expected_row (entries t.expected) law.rows) key row has in
          let r = in_range (key, row) fits in
          let f = flight_at key.0 key.1.0 r.flight r.day in
          let w = natural key.1.1 in
          let number : pos w ≡ key.1.1 = natural_again 0 9_999_999_999 key.1.1 r.number in
          let same : expected_key f.0 w ≡ key = ap₂ (λ x y. (x, y)) f.2 (ap₂ (λ x y. (x, y)) f.3 number) in
          let seen : expected_in t.expected f.0 w ≡ Some (expected_by row) = cond-true (is_designator (f.0).flight) (option_map expected_by (get t.expected (expected_key f.0 w))) None f.1 ∙ ap (option_map expected_by) (ap (get t.expected) same ∙ has) in
          let met : IsMet w (Some (expected_by row)) = subst (IsMet w) seen (law.expectations f.0 w) in
          and_from _ _ (and_from _ _ fits (amount_back row.pieces row.tenths r.pieces r.tenths met.0)) (ap (has_waybill t.waybills) (sym number) ∙ declared_back t.waybills w met.1)
