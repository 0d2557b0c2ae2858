-- A run of inputs from a new station keeps it lawful.
use Rattle.station_core.proofs.Common.{AreInputs, Input, IsLawfulState, List, LocalMinute, State, [], after_all, opening, step, ℕ, ◌∷◌}
use Rattle.shipment_machine.proofs.Opening.{opening_lawful}
use Rattle.station_core.proofs.StepLaw.{step_lawful}

stays_lawful : (inputs : List (Input × LocalMinute)) (s : State) → AreInputs inputs → IsLawfulState s → IsLawfulState (after_all s inputs)
stays_lawful [] s range law = law
stays_lawful (one ∷ more) s range law = stays_lawful more (step s one.0 one.1).state range.1 (step_lawful s one.0 one.1 range.0 law)

pub run_lawful : (here : List ℕ) (inputs : List (Input × LocalMinute)) → AreInputs inputs → IsLawfulState (after_all (opening here) inputs)
run_lawful here inputs range = stays_lawful inputs (opening here) range (record { cargo = opening_lawful here; parts = λ part. tt })
