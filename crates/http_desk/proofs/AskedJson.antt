-- What is sent once the station was asked.
use Rattle.http_desk.proofs.Common.{ActFault, Bool, Err, HasAsked, HasAskedShut, Input, IsBrokenAfter, IsHistory, IsHistoryTold, IsMemoryOrStore, IsToldAs, IsUnavailable, List, LocalMinute, MayLeave, Option, Refusal, Reply, Response, State, StationAfter, TellsHistory, Wanted, Waybill, WorksAt, answer_reply, ap, inl, inr, refl, refusal_reply, station_at, step, subst, sym, wanted_reply, wanted_state, ℕ, ⊎_elim, ◌≡◌}
use Rattle.station_core.specs.declared.answer.ActFault.TheVariants as fault
use Rattle.station_core.specs.declared.answer.Answer.TheVariants as answer
use Rattle.station_core.specs.Keeping.{Answers}
use Rattle.http_desk.specs.declared.asking.Response.TheVariants as told
use Rattle.http_desk.specs.declared.wanted.Wanted.TheVariants as wanted
use Rattle.station_core.proofs.Refusals.{refused_stays}

-- a reply of JSON, where the state after it is the one before
pub asked_json : (s : State) (at : LocalMinute) (w : Wanted) (t : Response) (left : StationAfter)
    → IsToldAs (wanted_reply s at w) t → wanted_state s at w ≡ s → WorksAt left s → HasAsked s at w t left
asked_json s at w (told.Accepted count) left is same kept = (is, subst (WorksAt left) (sym same) kept)
asked_json s at w (told.Whole status out) left is same kept = (is.0, is.1 s, same, kept)
asked_json s at w (told.Report name) left is same kept = absurd is
asked_json s at w (told.Unavailable reopen) left is same kept = inl kept

-- an input that was refused
pub asked_refused : (s : State) (at : LocalMinute) (i : Input) (refusal : Refusal) (t : Response) (left : StationAfter)
    → (step s i at).answer ≡ answer.Refused refusal → IsToldAs (refusal_reply refusal) t → WorksAt left (step s i at).state → HasAsked s at (wanted.Input i) t left
asked_refused s at i refusal t left is told kept =
    let same : (step s i at).state ≡ s = refused_stays s i at refusal is in
    asked_json s at (wanted.Input i) t left (subst (λ (r : Reply). IsToldAs r t) (sym (ap answer_reply is)) told) same (subst (WorksAt left) same kept)

-- an input that wasn't answered
pub asked_fault : (s : State) (at : LocalMinute) (i : Input) (e : ActFault) (reopen : Bool) (left : StationAfter)
    → IsMemoryOrStore e → IsBrokenAfter e left.is_broken → Answers s i at (Err e) left.keeps → ((found : Option State) → left.may_find found → MayLeave s i at (Err e) found)
    → HasAsked s at (wanted.Input i) (told.Unavailable reopen) left
asked_fault s at i fault.Memory reopen left is breaks kept leaves = inl (breaks, kept)
asked_fault s at i fault.Store reopen left is breaks kept leaves = inr (breaks, (i, refl, λ found finds. ⊎_elim (λ before. inl before) (λ after. inr after.1) (leaves found finds)))
asked_fault s at i (fault.Refused refusal) reopen left is breaks kept leaves = absurd is
asked_fault s at i fault.Reopen reopen left is breaks kept leaves = absurd is

-- a reply of JSON that asks nothing of a station that has to be opened again
pub shut_json : (at : LocalMinute) (w : Wanted) (t : Response) → ((s : State) → IsToldAs (wanted_reply s at w) t) → ((s : State) → wanted_state s at w ≡ s) → HasAskedShut at w t
shut_json at w t is same = λ s. asked_json s at w t (station_at s) (is s) (same s) (refl, refl)

-- what it would be asked isn't replied
pub shut_unavailable : (at : LocalMinute) (w : Wanted) (t : Response) → IsUnavailable t → HasAskedShut at w t
shut_unavailable at w (told.Unavailable reopen) is = λ s. inl (refl, refl)
shut_unavailable at w (told.Accepted count) is = absurd is
shut_unavailable at w (told.Whole status out) is = absurd is
shut_unavailable at w (told.Report name) is = absurd is

-- the history of a waybill with this record
pub told_history : (s : State) (w : ℕ) (known : Waybill) (text : List ℕ) (t : Response) → IsHistory s w known text → IsHistoryTold text t → TellsHistory s w known t
told_history s w known text (told.Whole status bytes) is tells = (tells.0, (text, is, tells.1))
told_history s w known text (told.Unavailable reopen) is tells = tells
told_history s w known text (told.Accepted count) is tells = absurd tells
told_history s w known text (told.Report name) is tells = absurd tells
