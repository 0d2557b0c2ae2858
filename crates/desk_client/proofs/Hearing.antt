-- What an input leaves that a service was asked for.
use Rattle.desk_client.proofs.Common.{Call, Err, Given, HasAnsweredInput, HasHeard, HasUnderstoodLine, IsAnswered, List, Ok, Option, Response, Result, RunFault, Talk, [], ap, append-nil, inl, inr, is_late, named, refl, string_bytes, subst, sym, ℕ, ◌++◌, ◌∙◌, ◌∷◌, ◌≡◌}
use Rattle.station_core.specs.declared.answer.Input.{Input}
use Rattle.cli_run.specs.declared.telling.RunFault.TheVariants as fault
use Rattle.cli_run.specs.declared.request.Request.TheVariants as asked
use Rattle.cli_run.specs.Requests.{HasToldPart}
use Rattle.cli_run.specs.Seen.{reason_head, HasToldWhy}
use Rattle.desk_client.specs.declared.lines.Heard.{Heard}

-- the service answered, and its answer tells that
pub heard_by : (request : List ℕ) (most : ℕ) (old new : Talk) (a : Response) (r : Result Heard RunFault) → IsAnswered most request old new (Ok a)
    → HasUnderstoodLine a r → HasHeard request most old new r
heard_by request most old new a (Ok heard) answered is = (a, answered, is)
heard_by request most old new a (Err e) answered is = inl (a, answered, is)

-- its line's beginning, which is nothing
pub unsent : (line : List ℕ) (old : Given) → HasToldPart line old old fault.Memory
unsent line old = record {
  why = inr (refl, refl);
  sent = 0;
  part = sym (append-nil old.bytes);
  cause = λ (is : fault.Memory ≡ fault.Write). cc;
}

-- its line's memory ran out
pub unlined : {E : Type 0} (taken : E → Given) (number : Option ℕ) (input : Input) (request : List ℕ) (most : ℕ) (old new : Call Talk E) (heard : Heard)
    → HasHeard request most old.keeper new.keeper (Ok heard) → new.sent ≡ old.sent → new.errors ≡ old.errors
    → HasAnsweredInput taken number input request most old new (Err fault.Memory)
unlined taken number input request most old new heard is sent errors =
    let line = named number (asked.Input input) (string_bytes heard.text ++ 10 ∷ []) in
    (errors, (Ok heard, is, subst (λ (g : Given). HasToldPart line old.sent g fault.Memory) (sym sent) (unsent line old.sent)))

-- its line went out, and why a telegram can't be read
pub told : {E : Type 0} (taken : E → Given) (number : Option ℕ) (input : Input) (request : List ℕ) (most : ℕ) (old new : Call Talk E) (heard : Heard) (line text : List ℕ)
    → HasHeard request most old.keeper new.keeper (Ok heard) → new.sent.bytes ≡ old.sent.bytes ++ line
    → line ≡ named number (asked.Input input) (text ++ 10 ∷ []) → text ≡ string_bytes heard.text
    → HasToldWhy taken (is_late input text) (reason_head number (asked.Input input)) old.errors new.errors
    → HasAnsweredInput taken number input request most old new (Ok heard.good)
told taken number input request most old new heard line text is sent line_is text_is why = (
  heard,
  is,
  record {
    line = sent ∙ ap (λ (l : List ℕ). old.sent.bytes ++ l) (line_is ∙ ap (λ (t : List ℕ). named number (asked.Input input) (t ++ 10 ∷ [])) text_is);
    reason = subst (λ (t : List ℕ). HasToldWhy taken (is_late input t) (reason_head number (asked.Input input)) old.errors new.errors) text_is why;
  },
  refl,
)
