-- A station that is opened again and given the input that may have been interrupted.
use Rattle.station_tables.proofs.Common.{Answers, AttachFault, Database, Err, IfErr, IfOk, Input, IsBreakdown, IsStateIn, LocalMinute, MayLeave, Ok, Option, Refuses, Result, Some, State, answered, ap, inl, inr, repeated, step, stepped, subst, sym, ◌∙◌, ◌≡◌, ◌⊎◌}
use Rattle.station_core.specs.declared.answer.ActFault as act
use Rattle.station_core.specs.declared.answer.ActFault.TheVariants as cause
use Rattle.station_core.specs.declared.answer.Answer.{Answer}
use Rattle.station_core.specs.declared.answer.Answer.TheVariants.{Done}
use Rattle.station_core.specs.declared.answer.Reply.{Reply}
use Rattle.station_tables.specs.Called.{HasAnswered, HasRepeated, IsBeforeOrAfter}
use Rattle.station_tables.specs.declared.attaching.AttachFault.TheVariants as fault

-- a known input is answered by what was kept
known_step : (s : State) (i : Input) (at : LocalMinute) (reply : Reply) → repeated s i ≡ Some (Done reply) → step s i at ≡ stepped (Done reply) s
known_step s i at reply is = ap (answered s i at) is

pub has_answered : (s : State) (i : Input) (at : LocalMinute) (answer : Answer) (keeps : State → Type 0) (may_find : Option State → Type 0) → Answers s i at (Ok answer) keeps
    → ((found : Option State) → may_find found → MayLeave s i at (Ok answer) found) → HasAnswered s i at answer keeps may_find
has_answered s i at answer keeps may_find given leaves = record {
  answered = given.0;
  kept = given.1;
  left = leaves;
  again = λ reply is. (sym given.0 ∙ ap (λ p. p.answer) (known_step s i at reply is), subst keeps (ap (λ p. p.state) (known_step s i at reply is)) given.1);
}

-- after a fault the state is the one before or the one after
pub one_of : (s : State) (i : Input) (at : LocalMinute) (failed : act.ActFault) (found : Option State) → MayLeave s i at (Err failed) found → IsBeforeOrAfter s i at found
one_of s i at failed found (inl before) = inl before
one_of s i at failed found (inr after) = inr after.1

-- where memory was out it is the one before
pub before_of : (s : State) (i : Input) (at : LocalMinute) (failed : act.ActFault) (found : Option State) → failed ≡ cause.Memory → MayLeave s i at (Err failed) found → found ≡ Some s
before_of s i at failed found is (inl before) = before
before_of s i at failed found is (inr (stored, after)) = absurd (cc)

breaks_nothing : (db : Database) (f : AttachFault) → IsBreakdown f → Refuses db f
breaks_nothing db (fault.Unlawful name) broke = absurd broke
breaks_nothing db fault.NoStation broke = absurd broke
breaks_nothing db (fault.Version n) broke = absurd broke
breaks_nothing db fault.Occupied broke = absurd broke
breaks_nothing db fault.Store broke = tt
breaks_nothing db fault.Memory broke = tt

-- a station that was found, and what an input made of it
module _ {K C : Type 0} (db : Database) (i : Input) (at : LocalMinute) (keeps : K → State → Type 0) (is_sound is_clean : K → Type 0) (station : K)
    (r : Result (K × Answer) (C × AttachFault)) (found : is_clean station → (s : State) × IsStateIn db s × keeps station s) where
  pub repeated_on : (may_find : K → Option State → Type 0) → (is_sound station → is_clean station) → IfOk r (λ p. is_sound p.0 → is_sound station)
      → ((s : State) → keeps station s → IfOk r (λ p. is_sound p.0 → HasAnswered s i at p.1 (keeps p.0) (may_find p.0)))
      → IfOk r (λ p. is_sound p.0 → HasRepeated db i at p.1 (keeps p.0) (may_find p.0))
  repeated_on may_find down back answered = go r back answered
    where
      go : (r : Result (K × Answer) (C × AttachFault)) → IfOk r (λ p. is_sound p.0 → is_sound station) → ((s : State) → keeps station s → IfOk r (λ p. is_sound p.0 → HasAnswered s i at p.1 (keeps p.0) (may_find p.0)))
          → IfOk r (λ p. is_sound p.0 → HasRepeated db i at p.1 (keeps p.0) (may_find p.0))
      go (Ok p) back answered = λ sound. let it = found (down (back sound)) in record { state = it.0; is_in = it.1; has = answered it.0 it.2 sound }
      go (Err e) back answered = tt

  pub sound_on : (Own Lies : Type 0) → (is_clean station → Own → Lies → is_sound station) → IfOk r (λ p. is_clean p.0 → is_clean station) → IfOk r (λ p. is_sound station → is_clean p.0 → is_sound p.0)
      → IfOk r (λ p. is_clean p.0 → Own → Lies → is_sound p.0)
  sound_on Own Lies sound clean still = go r clean still
    where
      go : (r : Result (K × Answer) (C × AttachFault)) → IfOk r (λ p. is_clean p.0 → is_clean station) → IfOk r (λ p. is_sound station → is_clean p.0 → is_sound p.0) → IfOk r (λ p. is_clean p.0 → Own → Lies → is_sound p.0)
      go (Ok p) clean still = λ on own lies. still (sound (clean on) own lies) on
      go (Err e) clean still = tt

  pub refuses_on : (Clean : C → Type 0) → IfErr r (λ e. IsBreakdown e.1) → IfErr r (λ e. Clean e.0 → Refuses db e.1)
  refuses_on Clean broke = go r broke
    where
      go : (r : Result (K × Answer) (C × AttachFault)) → IfErr r (λ e. IsBreakdown e.1) → IfErr r (λ e. Clean e.0 → Refuses db e.1)
      go (Ok p) broke = tt
      go (Err e) broke = λ _. breaks_nothing db e.1 broke

  pub left_on : (Clean : C → Type 0) (Finds : C → Option State → Type 0) (Before : Option State → Type 0) (Own Lies : Type 0) → (is_clean station → Own → Lies → is_sound station)
      → IfErr r (λ e. Clean e.0 → is_clean station)
      → ((s : State) → keeps station s → is_sound station → IfErr r (λ e. Clean e.0 → (f : Option State) → Finds e.0 f → IsBeforeOrAfter s i at f))
      → IfErr r (λ e. Clean e.0 → Own → Lies → (f : Option State) → Finds e.0 f → Before f ⊎ ((s : State) × IsStateIn db s × IsBeforeOrAfter s i at f))
  left_on Clean Finds Before Own Lies sound clean leaves = go r clean leaves
    where
      go : (r : Result (K × Answer) (C × AttachFault)) → IfErr r (λ e. Clean e.0 → is_clean station)
          → ((s : State) → keeps station s → is_sound station → IfErr r (λ e. Clean e.0 → (f : Option State) → Finds e.0 f → IsBeforeOrAfter s i at f))
          → IfErr r (λ e. Clean e.0 → Own → Lies → (f : Option State) → Finds e.0 f → Before f ⊎ ((s : State) × IsStateIn db s × IsBeforeOrAfter s i at f))
      go (Ok p) clean leaves = tt
      go (Err e) clean leaves = λ on own lies f finds.
          let it = found (clean on) in
          inr (it.0, it.1, leaves it.0 it.2 (sound (clean on) own lies) on f finds)

  pub memory_on : (Clean : C → Type 0) (Finds : C → Option State → Type 0) (Before : Option State → Type 0) (Own Lies : Type 0) → (is_clean station → Own → Lies → is_sound station)
      → IfErr r (λ e. Clean e.0 → is_clean station)
      → ((s : State) → keeps station s → is_sound station → IfErr r (λ e. e.1 ≡ fault.Memory → Clean e.0 → (f : Option State) → Finds e.0 f → f ≡ Some s))
      → IfErr r (λ e. e.1 ≡ fault.Memory → Clean e.0 → Own → Lies → (f : Option State) → Finds e.0 f → Before f ⊎ ((s : State) × IsStateIn db s × (f ≡ Some s)))
  memory_on Clean Finds Before Own Lies sound clean leaves = go r clean leaves
    where
      go : (r : Result (K × Answer) (C × AttachFault)) → IfErr r (λ e. Clean e.0 → is_clean station)
          → ((s : State) → keeps station s → is_sound station → IfErr r (λ e. e.1 ≡ fault.Memory → Clean e.0 → (f : Option State) → Finds e.0 f → f ≡ Some s))
          → IfErr r (λ e. e.1 ≡ fault.Memory → Clean e.0 → Own → Lies → (f : Option State) → Finds e.0 f → Before f ⊎ ((s : State) × IsStateIn db s × (f ≡ Some s)))
      go (Ok p) clean leaves = tt
      go (Err e) clean leaves = λ is on own lies f finds.
          let it = found (clean on) in
          inr (it.0, it.1, leaves it.0 it.2 (sound (clean on) own lies) is on f finds)

  pub spared_on : (Clean : C → Type 0) (Finds : C → Option State → Type 0) (Before : Option State → Type 0) → IfErr r (λ e. Clean e.0 → is_clean station)
      → IfErr r (λ e. Clean e.0 → ((s : State) → ¬ IsStateIn db s) → (f : Option State) → Finds e.0 f → Before f)
  spared_on Clean Finds Before clean = go r clean
    where
      go : (r : Result (K × Answer) (C × AttachFault)) → IfErr r (λ e. Clean e.0 → is_clean station)
          → IfErr r (λ e. Clean e.0 → ((s : State) → ¬ IsStateIn db s) → (f : Option State) → Finds e.0 f → Before f)
      go (Ok p) clean = tt
      go (Err e) clean = λ on none f finds. let it = found (clean on) in absurd (none it.0 it.1)

  pub untouched_on : (Clean : C → Type 0) (Left : C → Type 0) → IfErr r (λ e. Clean e.0 → is_clean station)
      → IfErr r (λ e. Clean e.0 → ((s : State) → ¬ IsStateIn db s) → Left e.0)
  untouched_on Clean Left clean = go r clean
    where
      go : (r : Result (K × Answer) (C × AttachFault)) → IfErr r (λ e. Clean e.0 → is_clean station) → IfErr r (λ e. Clean e.0 → ((s : State) → ¬ IsStateIn db s) → Left e.0)
      go (Ok p) clean = tt
      go (Err e) clean = λ on none. let it = found (clean on) in absurd (none it.0 it.1)

-- where an input failed, a fault that names what is wrong with the tables doesn't come
pub never_named : {X C : Type 0} (Left : C → Type 0) (r : Result X (C × AttachFault)) → IfErr r (λ e. IsBreakdown e.1) → IfErr r (λ e. ¬ IsBreakdown e.1 → Left e.0)
never_named Left (Ok x) broke = tt
never_named Left (Err e) broke = λ named. absurd (named broke)

pub never_named_clean : {X C : Type 0} (Clean Left : C → Type 0) (r : Result X (C × AttachFault)) → IfErr r (λ e. IsBreakdown e.1) → IfErr r (λ e. Clean e.0 → ¬ IsBreakdown e.1 → Left e.0)
never_named_clean Clean Left (Ok x) broke = tt
never_named_clean Clean Left (Err e) broke = λ clean named. absurd (named broke)

-- such a fault isn't the store's
pub named_other : (f : AttachFault) → ¬ IsBreakdown f → f ≡ fault.Store → ⊥
named_other f named is = named (subst IsBreakdown (sym is) tt)
