-- A plan from a view of a lawful state.
use Rattle.shipment_machine.proofs.Common.{Cargo, Err, FitsCommand, IfErr, IfOk, IsAnswer, IsLawful, IsProper, IsViewOf, LocalMinute, Ok, Option, Outcome, Plan, PlanFault, Refusal, RefusesAs, Result, ShipmentCommand, StaysLawful, ap, carried_out, effect, meant_by, outcome_of, rows_answer, subst, sym, view_of, ℕ, ◌∙◌, ◌≡◌}
use Rattle.shipment_machine.specs.declared.view.View.{View}
use Rattle.shipment_machine.proofs.ViewAnswers.{fits, answers, planned, refused}
use Rattle.shipment_machine.proofs.KeepsAll.{keeps_lawful}

-- what a plan does keeps a state lawful
stays_lawful : (s : Cargo) (command : ShipmentCommand) (at : LocalMinute) (r : Result Plan PlanFault) → IsLawful s → IfOk r (λ _. IsProper command)
    → IfOk r (λ plan. effect s command at ≡ Ok (outcome_of plan)) → IfOk r (StaysLawful s)
stays_lawful s command at (Ok plan) law proper e =
    λ text. subst (λ (r : Result Outcome Refusal). IfOk r (λ done. IsLawful (carried_out text done s))) e (keeps_lawful s command at text law proper)
stays_lawful s command at (Err told) law proper e = tt

module _ (s : Cargo) (command : ShipmentCommand) (view : View) (at : LocalMinute) (meant : Option ℕ) (is : meant ≡ meant_by command at) (shows : IsViewOf s command at view) where
  law : IsLawful s
  law = shows.0

  same : view ≡ view_of s command at
  same = shows.1

  -- a lawful state's rows pass the test
  pub rows_fit : FitsCommand view.here view.rows command meant
  rows_fit = subst (λ (m : Option ℕ). FitsCommand view.here view.rows command m) (sym is) (subst (λ (v : View). FitsCommand v.here v.rows command (meant_by command at)) (sym same) (fits s command at law))

  told : rows_answer view.here view.rows command at meant ≡ effect s command at
  told = ap (λ (m : Option ℕ). rows_answer view.here view.rows command at m) is ∙ ap (λ (v : View). rows_answer v.here v.rows command at (meant_by command at)) same ∙ answers s command at

  module _ (r : Result Plan PlanFault) (answer : IsAnswer r (rows_answer view.here view.rows command at meant)) where
    pub view_planned : IfOk r (λ plan. effect s command at ≡ Ok (outcome_of plan))
    view_planned = planned r (rows_answer view.here view.rows command at meant) (effect s command at) answer told

    pub view_refused : IfErr r (RefusesAs (effect s command at))
    view_refused = refused r (rows_answer view.here view.rows command at meant) (effect s command at) answer told

    pub view_lawful : IfOk r (λ _. IsProper command) → IfOk r (StaysLawful s)
    view_lawful proper = stays_lawful s command at r law proper view_planned
