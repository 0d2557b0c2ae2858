-- A refusal changes nothing.
use Rattle.station_core.proofs.Common.{Acted, Answer, Err, Input, LocalMinute, None, Ok, Option, Refusal, Refused, Result, Some, State, accepted, acted, answered, false, first_time, has_room, if◌then◌else◌, kept_with, refl, refused, repeated, step, stepped, true, with_notices, ℕ, ◌≡◌}

refused_first : (s : State) (i : Input) (a : Result Acted Refusal) (r : Refusal) → (first_time s i a).answer ≡ Refused r → (first_time s i a).state ≡ s
refused_first s i (Err e) r h = refl
refused_first s i (Ok a) r h =
    let after = kept_with i a.count (record s { cargo = with_notices a }) in
    elim (has_room (with_notices a)) as (λ b. (if b then stepped (accepted a.count) after else stepped (refused 402) s).answer ≡ Refused r → (if b then stepped (accepted a.count) after else stepped (refused 402) s).state ≡ s) [
      | true ↦ λ e. absurd (never e)
      | false ↦ λ e. refl
    ] h
  where
    never : {n : ℕ} {r : Refusal} → accepted n ≡ Refused r → ⊥
    never e = cc

refused_by : (s : State) (i : Input) (at : LocalMinute) (o : Option Answer) (r : Refusal) → (answered s i at o).answer ≡ Refused r → (answered s i at o).state ≡ s
refused_by s i at (Some a) r h = refl
refused_by s i at None r h = refused_first s i (acted s.cargo i at) r h

pub refused_stays : (s : State) (i : Input) (at : LocalMinute) (r : Refusal) → (step s i at).answer ≡ Refused r → (step s i at).state ≡ s
refused_stays s i at r h = refused_by s i at (repeated s i) r h
