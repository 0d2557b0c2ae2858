-- An order that was sent.
use Rattle.desk_client.proofs.Common.{Bool, Call, Given, HasAnsweredInput, IsOrderText, IsSaid, IsUtf8, List, Order, Result, RunFault, Some, Stock, Talk, Verb, command_request, inr, most_answer, order_data, order_verb, subst, word, ℕ, ◌∙◌, ◌≡◌}
use Rattle.cli_run.specs.Lines.{input_of}
use Rattle.desk_client.specs.Done.{HasAnsweredOrder}

-- an order that was asked by its verb and its body
pub ordered : {E : Type 0} (taken : E → Given) (number : ℕ) (key : List ℕ) (order : Order) (verb : Verb) (text body : List ℕ) (old new : Call Talk E) (r : Result Bool RunFault)
    → verb ≡ order_verb order → body ≡ text → IsUtf8 text → IsOrderText order text
    → HasAnsweredInput taken (Some number) (input_of (key, order)) (command_request (word verb) key body) most_answer old new r
    → HasAnsweredOrder taken number key order old new r
ordered taken number key order verb text body old new r verb_is body_is utf8 is answered =
    let input = input_of (key, order) in
    let by_verb : HasAnsweredInput taken (Some number) input (command_request (word (order_verb order)) key body) most_answer old new r =
    subst (λ (v : Verb). HasAnsweredInput taken (Some number) input (command_request (word v) key body) most_answer old new r) verb_is answered in
    let said : IsSaid (order_verb order) text (Stock order) = (utf8, (order_data order, is.text_is.1, is.body)) in
    inr (
      subst (λ (b : List ℕ). IsSaid (order_verb order) b (Stock order)) is.text_is.0 said,
      subst (λ (b : List ℕ). HasAnsweredInput taken (Some number) input (command_request (word (order_verb order)) key b) most_answer old new r) (body_is ∙ is.text_is.0) by_verb,
    )
