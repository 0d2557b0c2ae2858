-- The history of a waybill that is written.
use Rattle.cli_run.proofs.Common.{Bool, Err, Given, None, Ok, Option, Result, RunFault, Some, State, codes, refl, subst, sym, ℕ, ◌∙◌, ◌≡◌}
use Rattle.station_core.specs.declared.rows.Waybill.{Waybill}
use Rattle.cli_run.specs.declared.telling.RunFault.TheVariants as fault
use Rattle.cli_run.specs.Done.{HasToldHistory, HasToldFound}

-- that of an unknown waybill
unknown_told : (s : State) (w : ℕ) (old new : Given) (r : Result Bool RunFault) → HasToldFound None old new r → HasToldHistory s w None old new r
unknown_told s w old new (Ok good) (is, bytes) = (is, (codes "unknown\n", refl, bytes))
unknown_told s w old new (Err fault.Write) (part, cause) = ((codes "unknown\n", refl, part), cause)
unknown_told s w old new (Err fault.Read) told = absurd told
unknown_told s w old new (Err fault.Memory) told = told
unknown_told s w old new (Err fault.Store) told = told

-- by the record that was read
pub unknown_found : (s : State) (w : ℕ) (read found : Option Waybill) (old new : Given) (r : Result Bool RunFault) → read ≡ None → read ≡ found → HasToldFound None old new r
    → HasToldHistory s w found old new r
unknown_found s w read found old new r none is told = subst (λ (o : Option Waybill). HasToldHistory s w o old new r) (sym none ∙ is) (unknown_told s w old new r told)

pub known_found : (s : State) (w : ℕ) (known : Waybill) (read found : Option Waybill) (old new : Given) (r : Result Bool RunFault) → read ≡ Some known → read ≡ found
    → HasToldHistory s w (Some known) old new r → HasToldHistory s w found old new r
known_found s w known read found old new r some is told = subst (λ (o : Option Waybill). HasToldHistory s w o old new r) (sym some ∙ is) told
