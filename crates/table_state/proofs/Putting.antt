-- A row that is written over the one with its key.
use Rattle.table_state.proofs.Common.{Bool, Displays, Expected, ExpectedKey, ExpectedRow, FinMap, Flight, FlightKey, FlightRow, IsShowing, None, Option, Ordering, Some, Tables, View, Waybill, WaybillRow, ap, changing_expected, changing_flight, changing_waybill, expected_meant, false, flight_meant, get, get_by, insert, inside, is_some, option_map, put_over, putting_waybill, subst, sym, true, unwrap_or, waybill_id, waybill_meant, with_expected, with_flight, with_waybill, ◌∙◌, ◌≡◌}
use Rattle.station_schema.specs.Tables.{adjust}

adjusts : {K V A : Type 0} {R : K → K → Ordering} (m : FinMap R V) (k : K) (meant : A → V) (found : Option A) (new : V) → is_some found ≡ true → option_map meant found ≡ get m k → adjust m k (λ _. new) ≡ insert m k new
adjusts m k meant None new some has = absurd (cc)
adjusts m k meant (Some was) new some has = ap (λ o. unwrap_or (option_map (λ _. insert m k new) o) m) (sym has)

module _ (v : View) (before now : Tables) where
  shown_as : (t u : Tables) → (v.IsSound → t ≡ u) → IsShowing v (inside before t) → IsShowing v (inside before u)
  shown_as t u same shown sound = subst (λ w. Displays v (inside before w)) (same sound) (shown sound)

  pub over_flight : (key : FlightKey) (found : Option FlightRow) (new : Flight) → is_some found ≡ true → (v.IsSound → option_map flight_meant found ≡ get now.flights key)
      → IsShowing v (inside before (changing_flight key new now)) → IsShowing v (inside before (with_flight key new now))
  over_flight key found new some has = shown_as (changing_flight key new now) (with_flight key new now) (λ sound. ap (λ m. record now { flights = m }) (adjusts now.flights key flight_meant found new some (has sound)))

  pub over_expected : (key : ExpectedKey) (found : Option ExpectedRow) (new : Expected) → is_some found ≡ true → (v.IsSound → option_map expected_meant found ≡ get now.expected key)
      → IsShowing v (inside before (changing_expected key new now)) → IsShowing v (inside before (with_expected key new now))
  over_expected key found new some has = shown_as (changing_expected key new now) (with_expected key new now) (λ sound. ap (λ m. record now { expected = m }) (adjusts now.expected key expected_meant found new some (has sound)))

  there : (found : Option WaybillRow) (new : Waybill) → is_some found ≡ true → option_map waybill_meant found ≡ get_by waybill_id now.waybills new.awb → changing_waybill new now ≡ putting_waybill false new now
  there None new some has = absurd (cc)
  there (Some row) new some has = ap (λ o. put_over o new now) has

  not_there : (found : Option WaybillRow) (new : Waybill) → is_some found ≡ false → option_map waybill_meant found ≡ get_by waybill_id now.waybills new.awb → with_waybill new now ≡ putting_waybill false new now
  not_there None new none has = ap (λ o. put_over o new now) has
  not_there (Some row) new none has = absurd (cc)

  looked_for : (is_missing : Bool) (new : Waybill) → is_missing ≡ false → putting_waybill false new now ≡ putting_waybill is_missing new now
  looked_for is_missing new asked = ap (λ b. putting_waybill b new now) (sym asked)

  pub over_waybill : (is_missing : Bool) (found : Option WaybillRow) (new : Waybill) → is_missing ≡ false → is_some found ≡ true → (v.IsSound → option_map waybill_meant found ≡ get_by waybill_id now.waybills new.awb)
      → IsShowing v (inside before (changing_waybill new now)) → IsShowing v (inside before (putting_waybill is_missing new now))
  over_waybill is_missing found new asked some has = shown_as (changing_waybill new now) (putting_waybill is_missing new now) (λ sound. there found new some (has sound) ∙ looked_for is_missing new asked)

  pub as_new_waybill : (is_missing : Bool) (found : Option WaybillRow) (new : Waybill) → is_missing ≡ false → is_some found ≡ false → (v.IsSound → option_map waybill_meant found ≡ get_by waybill_id now.waybills new.awb)
      → IsShowing v (inside before (with_waybill new now)) → IsShowing v (inside before (putting_waybill is_missing new now))
  as_new_waybill is_missing found new asked none has = shown_as (with_waybill new now) (putting_waybill is_missing new now) (λ sound. not_there found new none (has sound) ∙ looked_for is_missing new asked)
