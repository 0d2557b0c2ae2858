-- A transaction that is begun, and one that is left.
use Rattle.station_schema.proofs.Common.{Ghosts, Held, State, Survives, Trees, arith, inl, refl, state, subst, survives_then, sym, true, ◌≡◌}

begun_survives : {S : Type 0} (g : Ghosts S) (old begun : Held S) → begun ≡ record old { in_transaction = true } → Survives (state g old) (state g begun) (λ _. ⊥)
begun_survives g old begun is = subst (λ h. Survives (state g old) (state g h) (λ _. ⊥)) (sym is)
    (record { clean = omega arith; shield = λ s. s; counts = omega arith; limit = refl; closes = λ _ o. inl o; crash = λ _ db left. inl left })

-- one call after another, of which the first commits nothing
pub survives_next : (old mid new : State) {More : Trees → Type 0} → Survives old mid (λ _. ⊥) → Survives mid new More → Survives old new More
survives_next old mid new one two = survives_then old mid new _ _ _ (λ _ db no. absurd no) (λ _ db it. it) one two

pub begun_then : {S : Type 0} (g : Ghosts S) (old begun : Held S) (filled new : State) {More : Trees → Type 0} → begun ≡ record old { in_transaction = true } → Survives (state g begun) filled (λ _. ⊥) → Survives filled new More → Survives (state g old) new More
begun_then g old begun filled new is one two = survives_next (state g old) (state g begun) new (begun_survives g old begun is) (survives_next (state g begun) filled new one two)
