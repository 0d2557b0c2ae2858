-- What a reader of the station inside leaves of the station in memory.
use Rattle.std.proofs.Common.{Bool, Err, IfErr, IfOk, List, Ok, OnErr, OnOk, Result, refl}
use Rattle.shipment_machine.specs.Cargo.{Cargo}
use Rattle.state_store.specs.Store.{in_memory as in_maps}
use Rattle.state_store.specs.declared.maps.state.MapState.{MapState}
use Rattle.station_core.specs.Keeping.{HandsOut, IsReadersFault, Keeping, OnlyReads, Reads}
use Rattle.station_core.specs.Step.{State}
use Rattle.station_core.specs.declared.answer.ActFault.{ActFault}
use Rattle.station_engine.specs.Serving.{station_over}
use Rattle.station_engine.specs.declared.station.StoredStation.{StoredStation}
use Rattle.plain_station.specs.State.{in_memory, or_memory}
use Rattle.plain_station.specs.declared.station.PlainStation.{PlainStation}

abbrev inside : Keeping (StoredStation MapState)
inside = station_over (λ k. k.store) (λ k. k.broken) in_maps

fault_is : {A : Type 0} (r : Result A ActFault) → IfErr (or_memory r) (IsReadersFault ⊥)
fault_is (Ok value) = tt
fault_is (Err e) = tt

value_is : {A : Type 0} (r : Result A ActFault) (P : A → Type 0) → IfOk r P → IfOk (or_memory r) P
value_is (Ok value) P h = h
value_is (Err e) P h = tt

only : (old new : PlainStation) → OnlyReads inside old.station new.station → OnlyReads in_memory old new
only old new reads = record {
  breaks = refl;
  premise = record { clean = λ h. tt; still = λ h k. tt; sound = λ h. tt };
  same = λ s keeps sound. reads.same s keeps tt;
  leaves = λ sound found finds. absurd finds;
}

-- a reader of one value
pub reads_here : {A : Type 0} (old new : PlainStation) (r : Result A ActFault) (Is : State → A → Type 0)
    → Reads inside old.station new.station r Is → Reads in_memory old new (or_memory r) Is
reads_here old new r Is reads = record {
  reopen = λ broken. absurd (cc);
  fault = λ works. fault_is r;
  reads = only old new reads.reads;
  value = λ s keeps sound. value_is r (Is s) (reads.value s keeps tt);
}

done_is : (r : Result (Unit {0}) ActFault) (P : Type 0) → OnOk r P → OnOk (or_memory r) P
done_is (Ok value) P h = h
done_is (Err e) P h = tt

failed_is : (r : Result (Unit {0}) ActFault) (P : Type 0) → OnErr r P → OnErr (or_memory r) P
failed_is (Ok value) P h = tt
failed_is (Err e) P h = h

-- a reader of rows
pub hands_here : {S Row : Type 0} (old new : PlainStation) (r : Result (Unit {0}) ActFault) (takes : S → Row → Bool → S → Type 0)
    (AreRows : Cargo → List Row → Type 0) (from to : S)
    → HandsOut inside old.station new.station r takes AreRows from to → HandsOut in_memory old new (or_memory r) takes AreRows from to
hands_here old new r takes AreRows from to hands = record {
  reopen = λ broken. absurd (cc);
  fault = λ works. fault_is r;
  reads = only old new hands.reads;
  rows = λ s keeps sound. done_is r _ (hands.rows s keeps tt);
  beginning = λ s keeps sound. failed_is r _ (hands.beginning s keeps tt);
  took = hands.took;
}
