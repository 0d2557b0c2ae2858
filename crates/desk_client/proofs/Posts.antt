-- What a line of `acts` has for a service.
use Rattle.desk_client.proofs.Common.{Bool, Call, Data, Given, HasAnswered, HasHeardValue, IfSome, IsPosted, List, None, Option, Result, RunFault, Some, Talk, Verb, command_request, depth, inl, inr, max_depth, most_answer, read, refl, subst, sym, word, ℕ, ◌∙◌, ◌≡◌, ◌≤◌}
use Rattle.cli_run.specs.declared.request.Request.{Request}
use Rattle.cli_run.specs.Lines.{IsActAsked, IsFrame, IsWritten}

-- a command's line has its body for it
pub framed : (d : Data) (verb : Verb) (key : List ℕ) (body : Data) (text request : List ℕ) → IsFrame d verb key body → (depth body ≤ max_depth → read text ≡ Some body)
    → request ≡ command_request (word verb) key text → IsPosted d request
framed d verb key body text request frame reads is =
    inl (record { verb = verb; key = key; body = body; text = text; frame = frame; reads_back = reads; request_is = is })

some_is : (x y : Data) → ◌≡◌ {A = Option Data} (Some x) (Some y) → x ≡ y
some_is x y e = cc

-- what the value of a line has for it is that of whatever the line writes
pub posted_of : {V : Type 0} (shows : V → Data) (value : Option V) (line request : List ℕ) → IfSome value (λ v. IsWritten line (shows v))
    → (value ≡ None → (d : Data) → ¬ (IsWritten line d)) → IfSome value (λ v. IsPosted (shows v) request) → (d : Data) → IsWritten line d → IsPosted d request
posted_of shows None line request some none posted d written = absurd (none refl d written)
posted_of shows (Some v) line request some none posted d written =
    subst (λ (e : Data). IsPosted e request) (some_is (shows v) d (sym some.2 ∙ written.2)) posted

-- the line was answered by the request of that
pub heard_line : {E : Type 0} (taken : E → Given) (number : ℕ) (line : List ℕ) (old new : Call Talk E) (r : Result Bool RunFault) (asks : Request) (request sent : List ℕ) (most : ℕ)
    → IsActAsked line asks → ((d : Data) → IsWritten line d → IsPosted d request) → sent ≡ request → most ≡ most_answer
    → HasAnswered taken (Some number) asks sent most old new r → HasHeardValue taken number line old new r
heard_line taken number line old new r asks request sent most asked posted sent_is most_is answered =
    let by_request : HasAnswered taken (Some number) asks request most old new r =
    subst (λ (b : List ℕ). HasAnswered taken (Some number) asks b most old new r) sent_is answered in
    inr (record {
      asks = asks;
      request = request;
      asked = asked;
      posted = posted;
      answer = subst (λ (m : ℕ). HasAnswered taken (Some number) asks request m old new r) most_is by_request;
    })
