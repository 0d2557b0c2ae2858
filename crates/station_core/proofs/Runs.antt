-- Runs of inputs, one input longer.
use Rattle.station_core.proofs.Common.{Answer, Err, Input, List, LocalMinute, Ok, State, [], after_all, answers_of, ap, get_or, length, refl, step, sym, take, take_more, ℕ, ◌++◌, ◌+◌, ◌<◌, ◌∙◌, ◌∷◌, ◌≡◌}
use Rattle.station_core.specs.declared.answer.ActFault.{ActFault}

-- what is answered is no fault
pub never_both : {a : Answer} {e : ActFault} → Ok a ≡ Err e → ⊥
never_both h = cc

after_one_more : (s : State) (inputs : List (Input × LocalMinute)) (i : Input × LocalMinute) → after_all s (inputs ++ i ∷ []) ≡ (step (after_all s inputs) i.0 i.1).state
after_one_more s [] i = refl
after_one_more s (j ∷ inputs) i = after_one_more (step s j.0 j.1).state inputs i

answers_one_more : (s : State) (inputs : List (Input × LocalMinute)) (i : Input × LocalMinute) → answers_of s (inputs ++ i ∷ []) ≡ answers_of s inputs ++ (step (after_all s inputs) i.0 i.1).answer ∷ []
answers_one_more s [] i = refl
answers_one_more s (j ∷ inputs) i = ap (λ (l : List Answer). (step s j.0 j.1).answer ∷ l) (answers_one_more (step s j.0 j.1).state inputs i)

module _ (s : State) (inputs : List (Input × LocalMinute)) (n : ℕ) (i : Input × LocalMinute) (lt : n < length inputs) (is : i ≡ get_or inputs n i) where
  front : take (n + 1) inputs ≡ take n inputs ++ i ∷ []
  front = take_more inputs n i lt ∙ ap (λ (x : Input × LocalMinute). take n inputs ++ x ∷ []) (sym is)

  -- the state goes on by one input
  pub state_after : (step (after_all s (take n inputs)) i.0 i.1).state ≡ after_all s (take (n + 1) inputs)
  state_after = sym (ap (after_all s) front ∙ after_one_more s (take n inputs) i)

  -- and so do the answers
  pub answers_after : answers_of s (take n inputs) ++ (step (after_all s (take n inputs)) i.0 i.1).answer ∷ [] ≡ answers_of s (take (n + 1) inputs)
  answers_after = sym (ap (answers_of s) front ∙ answers_one_more s (take n inputs) i)
