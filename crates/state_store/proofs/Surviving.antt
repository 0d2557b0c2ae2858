-- Memory is sound, and no reopening finds it.
use Rattle.state_store.proofs.Common.{Err, IfOk, MapState, MayLeave, Ok, OnOk, Reads, Result, Shows, State, Survives, ap, cargo_of, in_memory, ◌≡◌}

pub survives_so : (old new : MapState) → Survives in_memory old new
survives_so old new = record { clean = λ _. tt; still = λ _ _. tt; sound = λ _. tt; leaves = λ _ found no_one. no_one }

pub leaves_so : (s : State) (old new : MapState) → MayLeave in_memory s old new
leaves_so s old new = record { sound = λ _. tt; leaves = λ _ found no_one. absurd no_one }

-- the cargo that is shown
pub cargo_is : (k : MapState) (s : State) → Shows k s → cargo_of k ≡ s.cargo
cargo_is k s h = ap (λ (x : State). x.cargo) h.is

if_answered : {A E X : Type 0} (r : Result A E) → X → OnOk r X
if_answered (Ok a) x = x
if_answered (Err e) x = tt

-- a read that changes nothing
pub reads_so : {A E : Type 0} (k : MapState) (r : Result A E) (Is : State → A → Type 0) → ((s : State) → Shows k s → IfOk r (Is s)) → Reads in_memory k k r Is
reads_so k r Is so = record { value = λ x shows _. so x.now shows; same = λ x shows. if_answered r shows; rests = λ s shows. shows; survives = survives_so k k }
