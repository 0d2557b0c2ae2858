-- Calls as events.
use Rattle.station_tables.proofs.Common.{Err, Input, List, LocalMinute, None, Ok, Some, State, [], ap, false, if◌then◌else◌, inl, inr, refl, step, subst, sym, true, ◌++◌, ◌∙◌, ◌∷◌, ◌≡◌}
use Rattle.station_core.specs.declared.answer.ActFault.TheVariants as fault
use Rattle.station_core.specs.Retries.{RetryEvent, sent, cut_before, cut_after, reopened, World, world_after, after_events, started, ActsOnce}
use Rattle.station_tables.specs.Lives.{Call, acted, attached, repeated, Desk, at, Does, DoAll, StandsFor, StandForAll, CallsActOnce}

-- a world and a desk that agree, but for a station that is to be opened again, of which a world may know only later
abbrev Agrees : World → Desk → Type 0
Agrees world desk = (desk.state ≡ world.state) × (desk.works ≡ true → world.is_up ≡ true)

abbrev stepped_world : World → Input → LocalMinute → World
stepped_world world i m = record { state = (step world.state i m).state; is_up = true; told = world.told ++ (i, (step world.state i m).answer) ∷ [] }

abbrev cut_world : World → Input → LocalMinute → World
cut_world world i m = record { state = (step world.state i m).state; is_up = false; told = world.told }

sent_up : (world : World) (i : Input) (m : LocalMinute) → world.is_up ≡ true → world_after world (sent i m) ≡ stepped_world world i m
sent_up world i m up = ap (λ b. if b then stepped_world world i m else world) up

cut_up : (world : World) (i : Input) (m : LocalMinute) → world.is_up ≡ true → world_after world (cut_after i m) ≡ cut_world world i m
cut_up world i m up = ap (λ b. if b then cut_world world i m else world) up

never : {A : Type 0} → false ≡ true → A
never is = absurd (let e : false ≡ true = is in cc)

-- a desk that works, after a step
after_step : (world up : World) (s : State) (i : Input) (m : LocalMinute) (new : Desk) → s ≡ world.state → up ≡ stepped_world world i m → new ≡ at (step s i m).state true → Agrees up new
after_step world up s i m new same is new_is = (
  ap (λ (d : Desk). d.state) new_is ∙ ap (λ t. (step t i m).state) same ∙ sym (ap (λ (w : World). w.state) is),
  λ _. ap (λ (w : World). w.is_up) is,
)

-- a desk that is to be opened again
down : (world : World) (s : State) (new : Desk) → s ≡ world.state → new ≡ at s false → Agrees world new
down world s new same is = (ap (λ (d : Desk). d.state) is ∙ same, λ works. never (sym (ap (λ (d : Desk). d.works) is) ∙ works))

same_desk : (world : World) (old new : Desk) → Agrees world old → new ≡ old → Agrees world new
same_desk world old new are is = subst (Agrees world) (sym is) are

record IsOne (world : World) (call : Call) (new : Desk) : Type 0 where
  pub events : List RetryEvent
  pub stand : StandsFor call events
  pub agrees : Agrees (after_events world events) new

cut_off : (world up : World) (s : State) (i : Input) (m : LocalMinute) (new : Desk) → s ≡ world.state → up ≡ cut_world world i m → new ≡ at (step s i m).state false → Agrees up new
cut_off world up s i m new same is new_is = (
  ap (λ (d : Desk). d.state) new_is ∙ ap (λ t. (step t i m).state) same ∙ sym (ap (λ (w : World). w.state) is),
  λ works. never (sym (ap (λ (d : Desk). d.works) new_is) ∙ works),
)

one_of : (world : World) (old : Desk) (call : Call) (new : Desk) → Agrees world old → Does old call new → IsOne world call new
one_of world old (acted i m (Ok answer)) new are does = record {
  events = sent i m ∷ [];
  stand = refl;
  agrees = after_step world _ old.state i m new are.0 (sent_up world i m (are.1 does.0)) does.2;
}
one_of world old (acted i m (Err fault.Store)) new are (works, inl before) = record {
  events = cut_before i m ∷ [];
  stand = inl refl;
  agrees = down (record world { is_up = false }) old.state new are.0 before;
}
one_of world old (acted i m (Err fault.Store)) new are (works, inr after) = record {
  events = cut_after i m ∷ [];
  stand = inr refl;
  agrees = cut_off world _ old.state i m new are.0 (cut_up world i m (are.1 works)) after;
}
one_of world old (acted i m (Err fault.Memory)) new are is = record { events = []; stand = refl; agrees = same_desk world old new are is }
one_of world old (acted i m (Err fault.Reopen)) new are is = record { events = []; stand = refl; agrees = same_desk world old new are is }
one_of world old (acted i m (Err (fault.Refused refusal))) new are is = record { events = []; stand = refl; agrees = same_desk world old new are is }
one_of world old (attached true) new are is = record {
  events = reopened ∷ [];
  stand = refl;
  agrees = (ap (λ (d : Desk). d.state) is ∙ are.0, λ _. refl);
}
one_of world old (attached false) new are is = record { events = []; stand = refl; agrees = down world old.state new are.0 is }
one_of world old (repeated i m (Some answer)) new are does = record {
  events = reopened ∷ sent i m ∷ [];
  stand = refl;
  agrees = after_step (record world { is_up = true }) _ old.state i m new are.0 (sent_up (record world { is_up = true }) i m refl) does.1;
}
one_of world old (repeated i m None) new are (inl before) = record { events = []; stand = inl refl; agrees = down world old.state new are.0 before }
one_of world old (repeated i m None) new are (inr after) = record {
  events = reopened ∷ cut_after i m ∷ [];
  stand = inr (inr refl);
  agrees = cut_off (record world { is_up = true }) _ old.state i m new are.0 (cut_up (record world { is_up = true }) i m refl) after;
}

events_append : (world : World) (xs ys : List RetryEvent) → after_events world (xs ++ ys) ≡ after_events (after_events world xs) ys
events_append world [] ys = refl
events_append world (x ∷ xs) ys = events_append (world_after world x) xs ys

record AreAll (world : World) (calls : List Call) (new : Desk) : Type 0 where
  pub events : List RetryEvent
  pub stand : StandForAll calls events
  pub agrees : Agrees (after_events world events) new

all_of : (world : World) (old : Desk) (calls : List Call) (new : Desk) → Agrees world old → DoAll old calls new → AreAll world calls new
all_of world old [] new are is = record { events = []; stand = refl; agrees = same_desk world old new are is }
all_of world old (call ∷ calls) new are (mid, first, more) =
    let one = one_of world old call mid are first in
    let rest = all_of (after_events world one.events) mid calls new one.agrees more in
    record {
      events = one.events ++ rest.events;
      stand = (one.events, rest.events, refl, one.stand, rest.stand);
      agrees = subst (λ w. Agrees w new) (sym (events_append world one.events rest.events)) rest.agrees;
    }

pub calls_act_once : ((start : State) (events : List RetryEvent) → ActsOnce start events) → (start : State) (calls : List Call) (new : Desk) → DoAll (at start true) calls new → CallsActOnce start calls new.state
calls_act_once acts_once start calls new does =
    let all = all_of (started start) (at start true) calls new (refl, λ _. refl) does in
    record { events = all.events; stand = all.stand; once = acts_once start all.events; state = all.agrees.0 ∙ (acts_once start all.events).state }
