-- The state of a station in memory.
use Rattle.std.specs.Prelude.{false, Result, Ok, Err}
use Rattle.state_store.specs.Store.{Shows}
use Rattle.station_core.specs.Keeping.{Keeping}
use Rattle.station_core.specs.Step.{IsLawfulState}
use Rattle.station_core.specs.declared.answer.ActFault.{ActFault}
use Rattle.station_core.specs.declared.answer.ActFault.TheVariants.{Memory}
use Rattle.plain_station.specs.declared.station.PlainStation.{PlainStation}

-- It keeps the lawful state that its maps show. It is never broken, and nothing outlives it.
abbrev pub in_memory : Keeping PlainStation
in_memory = record {
  keeps = λ k s. IsLawfulState s × Shows k.station.store s;
  is_clean = λ k. Unit {0};
  is_sound = λ k. Unit {0};
  is_broken = λ k. false;
  may_find = λ k found. ⊥;
  may_fail = ⊥;
}

-- a reader's fault, as Memory
abbrev pub or_memory : {A : Type 0} → Result A ActFault → Result A ActFault
or_memory (Ok value) = Ok value
or_memory (Err fault) = Err Memory
