-- What a reopening may find where no station was made.
use Rattle.station_tables.proofs.Common.{Finds, IsLawfulState, List, None, Option, Some, State, View, ap, inl, inr, opening, subst, sym, ℕ, ⊎_elim, ◌≡◌, ◌⊎◌}
use Rattle.shipment_machine.proofs.Opening.{opening_lawful}
use Rattle.station_engine.specs.Serving as stored
use Rattle.table_state.specs.Shown as tables

-- the opening state is lawful
pub opened_lawful : (here : List ℕ) → IsLawfulState (opening here)
opened_lawful here = record { cargo = opening_lawful here; parts = λ part. tt }

-- what is found passes on
pub finds_up : (P Q : Option State → Type 0) → ((found : Option State) → P found → Q found) → (found : Option State) → stored.Finds P found → stored.Finds Q found
finds_up P Q up (Some s) finds = (up (Some s) finds.0, finds.1)
finds_up P Q up None (inl finds) = inl (up None finds)
finds_up P Q up None (inr other) = inr (other.0, up (Some other.0) other.1, other.2)

-- what tables may mean before and after passes to the lawful states among it
pub made_or_before : (old new : View) (here : List ℕ) (Empty : Type 0) → IsLawfulState (opening here)
    → ((found : Option State) → tables.Finds new found → tables.Finds old found ⊎ (Empty × (found ≡ Some (opening here))))
    → (found : Option State) → Finds new found → Finds old found ⊎ (Empty × (found ≡ Some (opening here)))
made_or_before old new here Empty lawful before (Some s) finds =
    ⊎_elim (λ left. inl (left, finds.1)) (λ made. inr made) (before (Some s) finds.0)
made_or_before old new here Empty lawful before None (inl finds) =
    ⊎_elim (λ left. inl (inl left)) (λ made. inr made) (before None finds)
made_or_before old new here Empty lawful before None (inr other) =
    ⊎_elim
    (λ left. inl (inr (other.0, left, other.2)))
    (λ made. absurd (other.2 (subst IsLawfulState (some_is _ _ (sym made.1)) lawful)))
    (before (Some other.0) other.1)
  where
    some_is : (a b : State) → Some a ≡ Some b → a ≡ b
    some_is a b is = ap (λ (o : Option State). value a o) is
      where
        value : State → Option State → State
        value d None = d
        value d (Some s) = s
