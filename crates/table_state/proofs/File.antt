-- What a failed creation leaves, by the state that it means.
use Rattle.table_state.proofs.Common.{List, Means, Some, ap, is_airport, opening, subst, sym, true, ℕ, ◌∙◌, ◌≡◌}
use Rattle.shipment_machine.proofs.Opening.{opening_lawful}
use Rattle.sqlite.specs.State.{State, Survives}
use Rattle.sqlite.specs.Tree.{Trees}
use Rattle.sqlite.proofs.StateLemmas.{survives_weaker}
use Rattle.station_core.specs.Step as step
use Rattle.station_schema.specs.Connection.{IsNewStation}
use Rattle.table_state.specs.Shown.{IsFileOf}
use Rattle.table_state.proofs.NewState.{opening_means}

-- the trees of a new station mean a station with nothing in it
file_of : (text here : List ℕ) → text ≡ here → is_airport here ≡ true → (db : Trees) → IsNewStation text db → IsFileOf db (step.opening here)
file_of text here same airport db new = record {
  own = new.own;
  means = subst (λ t. Means t (Some (step.opening here))) (sym (new.tables ∙ ap opening same)) (opening_means here airport);
  lawful = record { cargo = opening_lawful here; parts = λ part. tt };
}

pub leaves_file : (a b : State) (Vacant : Type 0) (text here : List ℕ) → text ≡ here → is_airport here ≡ true
    → Survives a b (λ db. Vacant → IsNewStation text db) → Survives a b (λ db. Vacant → IsFileOf db (step.opening here))
leaves_file a b Vacant text here same airport left = survives_weaker a b _ _ (λ _ db made vacant. file_of text here same airport db (made vacant)) left
