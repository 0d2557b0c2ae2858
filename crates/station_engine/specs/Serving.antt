-- Answers to inputs, and what reopening finds.
use Rattle.std.specs.Prelude.{◌⊎◌, Option, Some, None, Bool, ◌≡◌, true, false, ℕ, List, [], Result, Ok, Err, IfOk}
use Rattle.std.proofs.Common.{inl, inr, sym, ap, subst}
use Rattle.station_engine.specs.Common.{Keeping, State, IsLawfulState, Storing, at_rest, Change, Trail, Plan, outcome_of, written_all, carried_out, sent, on_cargo, LocalMinute, command_text, IsCommand, Refusal, Outcome, IsLawful, Answer, Input, Keyed, Wire, KeepsPremise, acted, cargo_acted, repeated, step}

-- The state of a station, and what reopening it may find.

-- a lawful state that the store may hold; any other isn't a station's and means None
abbrev pub Finds : (Option State → Type 0) → Option State → Type 0
Finds may_find (Some s) = may_find (Some s) × IsLawfulState s
Finds may_find None = may_find None ⊎ ((s : State) × may_find (Some s) × ¬ IsLawfulState s)

-- What a contract sees of a station over a store: it keeps a lawful state that the store shows
-- between two transactions.
abbrev pub station_over : {K St : Type 0} → (K → St) → (K → Bool) → Storing St → Keeping K
station_over store is_broken k = record {
  keeps = λ x s. IsLawfulState s × k.shows (store x) (at_rest s);
  is_clean = λ x. k.is_clean (store x);
  is_sound = λ x. k.is_sound (store x);
  is_broken = is_broken;
  may_find = λ x found. Finds (k.may_find (store x)) found;
  may_fail = Unit {0};
}

-- Reopening finds what a store shows.

abbrev option_value : State → Option State → State
option_value s None = s
option_value s (Some t) = t

pub found_is : (may_find : Option State → Type 0) (s : State) → IsLawfulState s
    → ((found : Option State) → may_find found → found ≡ Some s) → (found : Option State)
    → Finds may_find found → found ≡ Some s
found_is may_find s law settled None (inl finds) = settled None finds
found_is may_find s law settled None (inr other) = absurd (other.2 (subst IsLawfulState (sym (ap (option_value s) (settled (Some other.0) other.1))) law))
found_is may_find s law settled (Some t) finds = settled (Some t) finds.0

-- Changes that add a numbered row.

abbrev pub is_line : Change → Bool
is_line (Trail w line) = true
is_line _ = false

-- Writing the effect of an accepted input.

abbrev pub with_changes : List ℕ → List Change → State → State
with_changes text changes = on_cargo (written_all text changes)

abbrev pub with_plan : List ℕ → Plan → List (List ℕ) → State → State
with_plan text plan messages = on_cargo (λ c. sent messages (carried_out text (outcome_of plan) c))

-- Answers to inputs.

-- the text by which a command is compared with the stored one; empty for a telegram
abbrev pub request_of : Input → List ℕ
request_of (Keyed key command) = command_text command
request_of (Wire telegram) = []

-- a command is in range
abbrev pub IsAsked : Input → Type 0
IsAsked (Keyed key command) = IsCommand command
IsAsked (Wire telegram) = Unit {0}

-- the text is that of an input whose command is in range
pub record IsRequestOf (i : Input) (text : List ℕ) : Type 0 where
  pub in_range : IsAsked i
  pub is : text ≡ request_of i

abbrev pub IsEffect : Result Outcome Refusal → Result Plan Refusal → Type 0
IsEffect answer (Ok plan) = answer ≡ Ok (outcome_of plan)
IsEffect answer (Err refusal) = answer ≡ Err refusal

-- the answer is the step's, and `keeps` holds of the state after it
pub record Serves (s : State) (i : Input) (at : LocalMinute) (keeps : State → Type 0) (given : Answer) : Type 0 where
  pub answer : (step s i at).answer ≡ given
  pub state : keeps (step s i at).state

-- a property of the plan, if there is one
abbrev pub IfPlanned : (Plan → Type 0) → Result Plan Refusal → Type 0
IfPlanned P (Ok plan) = P plan
IfPlanned P (Err refusal) = Unit {0}

-- in a lawful state, an input is new and does what a plan says; `text` is that of the current
-- telegram; the state stays lawful
pub record IsPlanned (s : State) (i : Input) (at : LocalMinute) (text : List ℕ) (plan : Plan) : Type 0 where
  pub lawful : IsLawfulState s
  pub unknown : repeated s i ≡ None
  pub does : acted s.cargo i at ≡ cargo_acted text s.cargo (Ok (outcome_of plan))
  pub stays : IsLawful (carried_out text (outcome_of plan) s.cargo)

-- the state after the step is found, which is lawful
pub record IsAfter (s : State) (i : Input) (at : LocalMinute) (found : Option State) : Type 0 where
  pub lawful : IsLawfulState (step s i at).state
  pub is : found ≡ Some (step s i at).state

-- an input is new to a lawful state
abbrev pub IsNewTo : Input → State → Type 0
IsNewTo i s = IsLawfulState s × (repeated s i ≡ None)

-- from each state that is known like this, an input is served: the store shows the state after the
-- step, which is lawful, and a reopening finds that state or what it found before
pub record Served {K E : Type 0} (k : Storing K) (old new : K) (result : Result Answer E) (i : Input) (at : LocalMinute) (IsKnown : State → Type 0) : Type 0 where
  pub serves : (s : State) → k.shows old (at_rest s) → IsKnown s → k.is_sound new → IfOk result (Serves s i at (λ t. IsLawfulState t × k.shows new (at_rest t)))
  pub premise : KeepsPremise k.is_clean k.is_sound old new
  pub leaves : (s : State) → k.shows old (at_rest s) → IsKnown s → k.is_sound new → (found : Option State) → k.may_find new found → k.may_find old found ⊎ IsAfter s i at found
