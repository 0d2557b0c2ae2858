-- The state after the lives of a file.
use Rattle.station_tables.proofs.Common.{Input, IsLawfulState, List, LocalMinute, None, Option, Some, State, [], after_all, ap, are_balances, arith, inl, inr, is_conserved, refl, step, subst, suc, sym, take, zero, ℕ, ◌++◌, ◌+◌, ◌↔◌, ◌∙◌, ◌∷◌, ◌≡◌}
use Rattle.std.specs.List.{AllByRecursion}
use Rattle.station_core.specs.Retries.{IsInput, AreInputs}
use Rattle.station_tables.specs.Lives.{Life, IsAfterLife, AreLives, Counts, AreCounted, in_order, IsAfterLives, migration}

after_append : (s : State) (xs ys : List (Input × LocalMinute)) → after_all s (xs ++ ys) ≡ after_all (after_all s xs) ys
after_append s [] ys = refl
after_append s (x ∷ xs) ys = after_append (step s x.0 x.1).state xs ys

first_inputs : (n : ℕ) (xs : List (Input × LocalMinute)) → AreInputs xs → AreInputs (take n xs)
first_inputs zero xs are = tt
first_inputs (suc n) [] are = tt
first_inputs (suc n) (x ∷ xs) are = (are.0, first_inputs n xs are.1)

inputs_append : (xs ys : List (Input × LocalMinute)) → AreInputs xs → AreInputs ys → AreInputs (xs ++ ys)
inputs_append [] ys are more = more
inputs_append (x ∷ xs) ys are more = (are.0, inputs_append xs ys are.1 more)

abbrev option_value : State → Option State → State
option_value s None = s
option_value s (Some t) = t

some_is : (a b : State) → Some a ≡ Some b → a ≡ b
some_is a b is = ap (option_value a) is

-- what counts of one life
record Counted (s : State) (life : Life) (found : State) : Type 0 where
  pub inputs : List (Input × LocalMinute)
  pub counts : Counts life inputs
  pub state : found ≡ after_all s inputs
  pub are : AreInputs inputs

counted : (s : State) (life : Life) (found : State) → AreInputs life.inputs → IsAfterLife s life found → Counted s life found
counted s life found are (inl is) = record { inputs = take life.answered life.inputs; counts = inl refl; state = some_is _ _ is; are = first_inputs life.answered life.inputs are }
counted s life found are (inr (stopped, more, is)) = record {
  inputs = take (life.answered + 1) life.inputs;
  counts = inr (stopped, more, refl);
  state = some_is _ _ is;
  are = first_inputs (life.answered + 1) life.inputs are;
}

-- and of all
record AllCounted (s : State) (lives : List Life) (found : State) : Type 0 where
  pub counted : List (List (Input × LocalMinute))
  pub each : AreCounted lives counted
  pub state : found ≡ after_all s (in_order counted)
  pub are : AreInputs (in_order counted)

all_counted : (s : State) (lives : List Life) (found : State) → AllByRecursion (λ (life : Life). AreInputs life.inputs) lives → AreLives s lives found → AllCounted s lives found
all_counted s [] found are is = record { counted = []; each = tt; state = is; are = tt }
all_counted s (life ∷ lives) found are (mid, first, more) =
    let one = counted s life mid are.0 first in
    let rest = all_counted mid lives found are.1 more in
    record {
      counted = one.inputs ∷ rest.counted;
      each = (one.counts, rest.each);
      state = rest.state ∙ ap (λ t. after_all t (in_order rest.counted)) one.state ∙ sym (after_append s one.inputs (in_order rest.counted));
      are = inputs_append one.inputs (in_order rest.counted) one.are rest.are;
    }

-- a lawful state stays lawful under a step
abbrev StaysLawful : Type 0
StaysLawful = (s : State) (input : Input) (at : LocalMinute) → IsInput input → IsLawfulState s → IsLawfulState (step s input at).state

stays_lawful : StaysLawful → (inputs : List (Input × LocalMinute)) (s : State) → AreInputs inputs → IsLawfulState s → IsLawfulState (after_all s inputs)
stays_lawful stays [] s range law = law
stays_lawful stays (one ∷ more) s range law = stays_lawful stays more (step s one.0 one.1).state range.1 (stays s one.0 one.1 range.0 law)

pub after_lives : StaysLawful → (first : State) (lives : List Life) (found : State) → IsLawfulState first → AllByRecursion (λ (life : Life). AreInputs life.inputs) lives → AreLives first lives found → IsAfterLives first lives found
after_lives stays first lives found law are is =
    let all = all_counted first lives found are is in
    let lawful : IsLawfulState found = subst IsLawfulState (sym all.state) (stays_lawful stays (in_order all.counted) first all.are law) in
    record {
      counted = all.counted;
      each = all.each;
      state = all.state;
      lawful = lawful;
      conserved = λ w. is_conserved found.cargo w lawful.cargo;
      shown = λ w. are_balances found.cargo w lawful.cargo;
    }

pub after_migration : (s found : State) → IsAfterLife s migration found ↔ (found ≡ s)
after_migration s found = (after_none, λ is. inl (ap Some is))
  where
    after_none : IsAfterLife s migration found → found ≡ s
    after_none (inl is) = some_is _ _ is
    after_none (inr (stopped, more, is)) = absurd (omega (arith, more))
