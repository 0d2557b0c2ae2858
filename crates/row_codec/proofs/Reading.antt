-- What was read of a row is what the state has.
use Rattle.std.proofs.Common.{◌≡◌, ℕ, ℤ, pos, true, Option, Some, option_map, is_some, List, sym, ap, ◌∙◌}
use Rattle.row_codec.proofs.Common.{FlightDate, Means, Part, State, Tables, declared_by, expected_by, expected_key, expected_meant, flight_key, flight_meant, get, get_by, is_designator, kept_by, kept_meant, natural, outbound_by, part_key, waybill_id, waybill_meant}
use Rattle.station_rows.specs.declared.waybills.WaybillRow.{WaybillRow}
use Rattle.station_rows.specs.declared.flights.FlightRow.{FlightRow}
use Rattle.station_rows.specs.declared.expected.ExpectedRow.{ExpectedRow}
use Rattle.station_rows.specs.declared.kept.KeptRow.{KeptRow}
use Rattle.row_codec.proofs.Tests.{same_some, twice}
use Rattle.row_codec.proofs.Telling.{declared_told, outbound_told, expected_told, part_told, kept_key_told, kept_text_told}

module _ (t : Tables) (s : State) (means : Means t (Some s)) where
  pub declared_read : (w : ℕ) (found : Option WaybillRow) → option_map waybill_meant found ≡ get_by waybill_id t.waybills (pos w)
      → option_map (λ (row : WaybillRow). declared_by (waybill_meant row)) found ≡ s.cargo.declared w
  declared_read w found is = sym (twice declared_by waybill_meant found) ∙ ap (option_map declared_by) is ∙ declared_told t s means w

  pub outbound_read : (f : FlightDate) (found : Option FlightRow) → is_designator f.flight ≡ true → option_map flight_meant found ≡ get t.flights (flight_key f)
      → option_map (λ (row : FlightRow). outbound_by (flight_meant row)) found ≡ s.cargo.flights f
  outbound_read f found may is = sym (twice outbound_by flight_meant found) ∙ ap (option_map outbound_by) is ∙ outbound_told t s means f may

  pub expected_read : (f : FlightDate) (w : ℕ) (found : Option ExpectedRow) → is_designator f.flight ≡ true → option_map expected_meant found ≡ get t.expected (expected_key f w)
      → option_map (λ (row : ExpectedRow). expected_by (expected_meant row)) found ≡ s.cargo.expected f w
  expected_read f w found may is = sym (twice expected_by expected_meant found) ∙ ap (option_map expected_by) is ∙ expected_told t s means f w may

  pub part_read : {X : Type 0} (bytes : X → List ℕ) (p : Part) (found : Option X) → is_designator p.flight.flight ≡ true → option_map bytes found ≡ get t.parts (part_key p) → is_some found ≡ is_some (s.cargo.parts p)
  part_read bytes p found may is = sym (same_some bytes found) ∙ ap is_some (is ∙ part_told t s means p may)

  pub kept_key_read : (key : List ℕ) (found : Option KeptRow) → option_map kept_meant found ≡ get t.kept key → option_map (λ (row : KeptRow). kept_by (kept_meant row)) found ≡ s.kept_keys key
  kept_key_read key found is = sym (twice kept_by kept_meant found) ∙ ap (option_map kept_by) is ∙ kept_key_told t s means key

  pub kept_text_read : (text : List ℕ) (found : Option ℤ) → found ≡ get t.kept_texts text → option_map natural found ≡ s.kept_texts text
  kept_text_read text found is = ap (option_map natural) is ∙ kept_text_told t s means text
