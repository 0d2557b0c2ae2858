-- A run that is told once it is known whether its reader has failed.
use Rattle.cli_run.proofs.Common.{Bool, Err, Ok, OnOk, Result, RunFault, arith, false, false≢true, refl, suc, told_by, true, zero, ℕ, ◌<◌, ◌≡◌}
use Rattle.cli_run.specs.declared.telling.RunFault.TheVariants as fault

-- `Read` only where the reader has failed
pub told_read : (P : Type 0) (ended : Result Bool RunFault) (failed : Bool) → (failed ≡ true → P) → told_by ended failed ≡ Err fault.Read → P
told_read P (Ok good) true told is = told refl
told_read P (Err fault.Read) true told is = told refl
told_read P _ failed told is = cc

none_failed : (failures : ℕ) → (0 < failures → false ≡ true) → failures ≡ 0
none_failed zero told = refl
none_failed (suc n) told = absurd (false≢true (told (omega arith)))

pub told_whole : (failures : ℕ) (ended : Result Bool RunFault) (failed : Bool) → (0 < failures → failed ≡ true) → OnOk (told_by ended failed) (failures ≡ 0)
told_whole failures (Ok good) false told = none_failed failures told
told_whole failures (Err fault.Read) true told = tt
told_whole failures _ failed told = tt
