-- What a call leaves of a station.
use Rattle.station_engine.proofs.Common.{Bool, Cargo, Err, IfErr, Input, IsAfter, IsLawfulState, List, LocalMinute, None, Ok, OnErr, OnOk, Option, Result, Some, State, StaysAtRest, Storing, Survives, ap, at_rest, false, inl, inr, refl, step, subst, sym, take, ℕ, ◌∙◌, ◌≡◌, ◌⊎◌}
use Rattle.row_sinks.specs.Handed.{HandedOut, Hands}
use Rattle.station_core.specs.declared.answer.ActFault.{ActFault}
use Rattle.station_core.specs.Keeping.{HandsOut, IsReadersFault, OnlyReads}
use Rattle.station_engine.specs.Serving.{Finds, station_over}

abbrev option_value : State → Option State → State
option_value s None = s
option_value s (Some t) = t

found_one : (s t : State) → Some t ≡ Some s → IsLawfulState s → IsLawfulState t
found_one s t e law = subst IsLawfulState (sym (ap (option_value s) e)) law

finds_on : {St : Type 0} (k : Storing St) (old new : St) → Survives k old new → k.is_sound new → (found : Option State) → Finds (k.may_find new) found → Finds (k.may_find old) found
finds_on k old new survives sound None (inl finds) = inl (survives.leaves sound None finds)
finds_on k old new survives sound None (inr other) = inr (other.0, survives.leaves sound (Some other.0) other.1, other.2)
finds_on k old new survives sound (Some t) finds = (survives.leaves sound (Some t) finds.0, finds.1)

-- a reader changes nothing
pub reads_only : {K St : Type 0} (store : K → St) (is_broken : K → Bool) (k : Storing St) (old new : K) → is_broken new ≡ is_broken old
    → StaysAtRest k (store old) (store new) → Survives k (store old) (store new)
    → OnlyReads (station_over store is_broken k) old new
reads_only store is_broken k old new broken rests survives = record {
  breaks = broken;
  premise = record { clean = survives.clean; still = survives.still; sound = survives.sound };
  same = λ s keeps sound. (keeps.0, rests s keeps.1);
  leaves = λ sound found finds. finds_on k (store old) (store new) survives sound found finds;
}

-- a reader of rows changes nothing, and its sink takes them
pub hands_out : {K St S Row : Type 0} (store : K → St) (is_broken : K → Bool) (k : Storing St) (old new : K)
    (r : Result (Unit {0}) ActFault) (takes : S → Row → Bool → S → Type 0) (rows_of : Cargo → List Row) (from to : S) → is_broken old ≡ false → is_broken new ≡ is_broken old → IfErr r (IsReadersFault (Unit {0}))
    → StaysAtRest k (store old) (store new) → Survives k (store old) (store new)
    → ((s : State) → k.shows (store old) (at_rest s) → k.is_sound (store new) → Hands takes (rows_of s.cargo) from to r) → (rows : List Row) × HandedOut takes rows from to
    → HandsOut (station_over store is_broken k) old new r takes (λ s rows. rows ≡ rows_of s) from to
hands_out {Row = Row} store is_broken k old new r takes rows_of from to works broken fault rests survives hands took = record {
  reopen = λ is. absurd (let no = sym works ∙ is in cc);
  fault = λ _. fault;
  reads = reads_only store is_broken k old new broken rests survives;
  rows = λ s keeps sound. all s r (hands s keeps.1 sound);
  beginning = λ s keeps sound. part s r (hands s keeps.1 sound);
  took = took;
}
  where
    all : (s : State) (r : Result (Unit {0}) ActFault) → Hands takes (rows_of s.cargo) from to r → OnOk r ((rows : List Row) × (rows ≡ rows_of s.cargo) × HandedOut takes rows from to)
    all s (Ok x) hands = (rows_of s.cargo, refl, hands)
    all s (Err e) hands = tt

    part : (s : State) (r : Result (Unit {0}) ActFault) → Hands takes (rows_of s.cargo) from to r → OnErr r ((rows : List Row) → rows ≡ rows_of s.cargo → (n : ℕ) × HandedOut takes (take n rows) from to)
    part s (Ok x) hands = tt
    part s (Err e) hands = λ rows are. (hands.0, subst (λ (l : List Row). HandedOut takes (take hands.0 l) from to) (sym are) hands.1)

-- after a failure of the store one of the two states is found
pub one_of_two : (old new : Option State → Type 0) (s : State) (i : Input) (at : LocalMinute) → IsLawfulState s → ((found : Option State) → old found → found ≡ Some s)
    → ((found : Option State) → new found → old found ⊎ IsAfter s i at found) → (found : Option State) → Finds new found → (found ≡ Some s) ⊎ (found ≡ Some (step s i at).state)
one_of_two old new s i at law settled leaves None (inl finds) = elim (leaves None finds) [ inl before ↦ inl (settled None before) | inr after ↦ inr after.is ]
one_of_two old new s i at law settled leaves None (inr other) = elim (leaves (Some other.0) other.1) [
  | inl before ↦ absurd (other.2 (found_one s other.0 (settled (Some other.0) before) law))
  | inr after ↦ absurd (other.2 (found_one (step s i at).state other.0 after.is after.lawful))
]
one_of_two old new s i at law settled leaves (Some t) finds = elim (leaves (Some t) finds.0) [ inl before ↦ inl (settled (Some t) before) | inr after ↦ inr after.is ]
