-- A question for rows, by the tries and by what was printed after them.
use Rattle.desk_client.proofs.Common.{AskFault, Bool, Err, Form, Given, HasTaken, HasTalked, HasTried, HasTriedThrice, IsRefused, List, None, Ok, Option, Response, Result, RunFault, Some, Talk, ap, inl, inr, refl, service_fault, ℕ, ⊎_elim, ◌≡◌}
use Rattle.cli_run.specs.declared.telling.RunFault.TheVariants as run
use Rattle.desk_client.specs.Done.{rows_request, shown, HasAskedRows, HasShownTaken, IsTakenRows}
use Rattle.desk_client.specs.declared.ask.AskFault.TheVariants as fault
use Rattle.desk_client.specs.declared.ask.Until.TheVariants as until
use Rattle.desk_client.proofs.Asking.{asked}

of_taken : (f : Form) (old new : Given) (a : Response) (begun : Option ℕ) → HasTaken (until.Rows f) old new a begun → IsTakenRows f a begun
of_taken f old new a None taken = tt
of_taken f old new a (Some end) taken = taken.begun

refused_none : (f : Form) (old new : Talk) (a : Response) → IsRefused old new (Ok a) → IsTakenRows f a a.begun
refused_none f old new a refused = let is : ◌≡◌ {A = Result Response AskFault} (Ok a) (Err fault.Refused) = refused.why in cc is

of_try : (f : Form) (request : List ℕ) (old new : Talk) (a : Response) → HasTried (until.Rows f) request old new (Ok a) → IsTakenRows f a a.begun
of_try f request old new a tried =
    ⊎_elim (refused_none f old new a)
    (λ (talked : HasTalked (until.Rows f) request old new (Ok a)). of_taken f old.come new.come a a.begun talked.asked.1) tried.0

-- an answer to a question for rows is whole, or a report that was begun
pub taken_rows : (f : Form) (request : List ℕ) (old new : Talk) (a : Response) → HasTriedThrice (until.Rows f) request old new (Ok a) → IsTakenRows f a a.begun
taken_rows f request old new a (inl (once, settled)) = of_try f request old new a once
taken_rows f request old new a (inr (mid, (e, vain, once, inl (again, settled)))) = of_try f request mid new a again
taken_rows f request old new a (inr (mid, (e, vain, once, inr (next, (why, vainly, again, last))))) = of_try f request next new a last

-- it came, and was printed so
pub rows_shown : (f : Form) (path bytes items : List ℕ) (old mid new : Talk) (a : Response) (before after : Given) (result : Result Bool RunFault) → bytes ≡ items
    → items ≡ rows_request path → HasTriedThrice (until.Rows f) bytes old mid (Ok a) → HasShownTaken f a a.begun mid new before after result
    → HasAskedRows path f (shown old before) (shown new after) result
rows_shown f path bytes items old mid new a before after result bytes_are items_are tried printed =
    inl (a, (mid, asked (until.Rows f) (until.Rows f) (rows_request path) bytes items old mid (Ok a) refl bytes_are items_are tried, printed))

-- or none came
pub rows_unanswered : (f : Form) (path bytes items : List ℕ) (old new : Talk) (e : AskFault) (before : Given) (ended : RunFault) → bytes ≡ items
    → items ≡ rows_request path → HasTriedThrice (until.Rows f) bytes old new (Err e) → ended ≡ service_fault e
    → HasAskedRows path f (shown old before) (shown new before) (Err ended)
rows_unanswered f path bytes items old new e before ended bytes_are items_are tried ended_is =
    inr (e, asked (until.Rows f) (until.Rows f) (rows_request path) bytes items old new (Err e) refl bytes_are items_are tried, refl, ap (λ (x : RunFault). Err x) ended_is)

-- or memory ran out before a question was made
pub rows_unasked : (f : Form) (path : List ℕ) (old : Talk) (before : Given) → HasAskedRows path f (shown old before) (shown old before) (Err run.Memory)
rows_unasked f path old before = inr (fault.Memory, inl (refl, refl), refl, refl)
