-- Waybills that are finished before a day.
use Rattle.std.specs.Prelude.{◌≡◌, ℕ, ◌<◌, Bool, IsTrue, IfSome, Option, Some, None}
use Rattle.carried_station.specs.Common.{AllByRecursion, Cargo, Declared, FlightDate, Move, has_moves, missing, store}

-- The declaration is of before the day. One of an unknown day, as a file of version 1 has, is if
-- the waybill has moves.
abbrev pub IsOfBefore : ℕ → Bool → Option ℕ → Type 0
IsOfBefore day moved (Some since) = since < day
IsOfBefore day moved None = IsTrue moved

-- the waybill is declared, last before the day
abbrev pub WasDeclaredBefore : ℕ → Bool → Option Declared → Type 0
WasDeclaredBefore day moved (Some declared) = IsOfBefore day moved declared.since
WasDeclaredBefore day moved None = ⊥

-- A declared waybill is finished before a day if its declaration and all its moves are of before
-- the day, nothing of it is in store or missing, and each of its expectations is checked in or
-- struck.
pub record IsFinished (s : Cargo) (day w : ℕ) : Type 0 where
  pub declared : WasDeclaredBefore day (has_moves s.book w) (s.declared w)
  pub moved : AllByRecursion (λ (m : Move). m.awb ≡ w → m.at.day < day) s.book
  pub stored : (store s.book w).pieces ≡ 0
  pub missing : (missing s.book w).pieces ≡ 0
  pub expected : (f : FlightDate) → IfSome (s.expected f w) (λ e. IsTrue e.checked)
