-- The station after inputs, and inputs that weren't received.
use Rattle.cli_run.proofs.Common.{AreAnswered, AreMade, Bool, Call, Err, Given, HasAnswered, HasAnsweredAsked, HasAnsweredAsks, HasAnsweredLine, HasAnsweredRow, HasEndedAt, HasNotReceived, HasTakenNext, HaveBeenAnswered, HaveBeenMade, IfErr, IsErrAnd, IsReadersFault, IsTelegramAsked, Keeping, List, LocalMinute, None, Ok, OnOk, Option, Order, Request, Result, Row, RunFault, Some, StaysInService, [], ap, inl, inr, kept_at, kept_on, length, refl, row_asks, subst, suc, sym, zero, ℕ, ⊎_elim, ◌+◌, ◌∙◌, ◌∷◌, ◌≡◌, ◌⊎◌}

pub always : {A : Type 0} (r : Result Bool RunFault) → A → OnOk r A
always (Ok good) a = a
always (Err e) a = tt

-- nothing was done
stays : {K : Type 0} (k : Keeping K) (it : K) (r : Result Bool RunFault) → StaysInService k it it r
stays k it r = record { premise = kept_at it; works = λ works. always r works }

still : {K E : Type 0} (k : Keeping K) (old new : Call K E) (r : Result Bool RunFault) → new ≡ old → StaysInService k old.keeper new.keeper r
still {K} {E} k old new r same = subst (λ (c : Call K E). StaysInService k old.keeper c.keeper r) (sym same) (stays k old.keeper r)

pub input_service : {K E : Type 0} (IsAsked : List ℕ → Request → Type 0) (k : Keeping K) (at : LocalMinute) (taken : E → Given) (old new : Call K E × Given) (r : Result Bool RunFault)
    → HasAnsweredAsked IsAsked k at taken old new r → StaysInService k old.0.keeper new.0.keeper r
input_service IsAsked k at taken old new r ran =
    ⊎_elim (λ got. got.answer.service) (λ (none : HasNotReceived old.0 new.0 r). still k old.0 new.0 r none.same) ran.answered

pub line_service : {K E : Type 0} (k : Keeping K) (at : LocalMinute) (taken : E → Given) (n : ℕ) (line : List ℕ) (old new : Call K E) (r : Result Bool RunFault)
    → HasAnsweredLine k at taken n line old new r → StaysInService k old.keeper new.keeper r
line_service k at taken n line old new r (inl skipped) = still k old new r skipped.same
line_service k at taken n line old new r (inr (inl unheard)) = still k old new r unheard.same
line_service k at taken n line old new r (inr (inr heard)) = heard.answer.service

pub row_service : {K E : Type 0} (k : Keeping K) (at : LocalMinute) (taken : E → Given) (n : ℕ) (row : Row) (old new : Call K E) (r : Result Bool RunFault)
    → HasAnsweredRow k at taken n row old new r → StaysInService k old.keeper new.keeper r
row_service {K} {E} k at taken n row old new r answered = by_order (row_asks row) answered
  where
    by_order : (asks : Option (List ℕ × Order)) → HasAnsweredAsks k at taken n asks old new r → StaysInService k old.keeper new.keeper r
    by_order None bad = subst (λ (it : K). StaysInService k old.keeper it r) (sym bad.same) (stays k old.keeper r)
    by_order (Some order) heard = heard.service

-- one call after another
then_serves : {K : Type 0} (k : Keeping K) (a b c : K) (x : Bool) (r : Result Bool RunFault) → StaysInService {A = Bool} {E = RunFault} k a b (Ok x) → StaysInService k b c r → StaysInService k a c r
then_serves k a b c x r first next = record { premise = kept_on first.premise next.premise; works = λ works. next.works (first.works works) }

-- items in turn, whose answers leave the station in service
module _ {K E A : Type 0} (k : Keeping K) (Step : ℕ → A → Call K E → Call K E → Result Bool RunFault → Type 0)
    (serves : (n : ℕ) (item : A) (old new : Call K E) (r : Result Bool RunFault) → Step n item old new r → StaysInService k old.keeper new.keeper r) where
  pub items_serve : (n : ℕ) (items : List A) (old new : Call K E) (good : Bool) (r : Result Bool RunFault) → AreAnswered Step n items old new good → StaysInService k old.keeper new.keeper r
  items_serve n [] old new good r (same, all) = still k old new r same
  items_serve n (item ∷ items) old new good r (mid, (one, rest, step, more, all)) =
      then_serves k old.keeper mid.keeper new.keeper one r (serves n item old mid (Ok one) step) (items_serve (n + 1) items mid new rest r more)

  end_serves : (items : List A) (next : Option A) (old new : Call K E) (e : RunFault) → HasEndedAt Step items next old new e → StaysInService {A = Bool} {E = RunFault} k old.keeper new.keeper (Err e)
  end_serves items None old new e (why, (good, are)) = items_serve 1 items old new good (Err e) are
  end_serves items (Some item) old new e (other, (mid, (good, are, step))) =
      then_serves k old.keeper mid.keeper new.keeper good (Err e) (items_serve 1 items old mid good (Ok good) are) (serves (length items + 1) item mid new (Err e) step)

  pub run_serves : (items_of : List ℕ → List A) (left : Option (List ℕ)) (old new : Call K E) (r : Result Bool RunFault) → HaveBeenAnswered items_of Step left old new r → StaysInService k old.keeper new.keeper r
  run_serves items_of left old new (Ok good) (items, all, are) = items_serve 1 items old new good (Ok good) are
  run_serves items_of left old new (Err e) (items, (next, first, end)) = end_serves items next old new e end

module _ {K E I : Type 0} (k : Keeping K) (at : LocalMinute) (taken : E → Given) (given : I → Given) (turned : I → I → Type 0) where
  abbrev Take : Call K E × I → Call K E × I → Result Bool RunFault → Type 0
  Take = HasTakenNext (λ bytes. HasAnswered k at taken None) given turned

  pub take_serves : (old new : Call K E × I) (r : Result Bool RunFault) → Take old new r → StaysInService k old.0.keeper new.0.keeper r
  take_serves old new r step = input_service IsTelegramAsked k at taken (old.0, given step.next) (new.0, given new.1) r step.run

  made_serve : (n : ℕ) (old new : Call K E × I) (good : Bool) → AreMade Take n old new good → StaysInService {A = Bool} {E = RunFault} k old.0.keeper new.0.keeper (Ok good)
  made_serve zero old new good (same, all) = still k old.0 new.0 (Ok good) (ap (λ (c : Call K E × I). c.0) same)
  made_serve (suc n) old new good (mid, (before, one, first, step, all)) =
      let next = take_serves mid new (Ok one) step in
      then_serves k old.0.keeper mid.0.keeper new.0.keeper before (Ok good) (made_serve n old mid before first) (record { premise = next.premise; works = next.works })

  pub takes_serve : (count : ℕ) (old new : Call K E × I) (r : Result Bool RunFault) → HaveBeenMade Take count old new r → StaysInService k old.0.keeper new.0.keeper r
  takes_serve count old new (Ok good) made = made_serve count old new good made
  takes_serve count old new (Err e) (n, less, (mid, (before, first, step))) =
      then_serves k old.0.keeper mid.0.keeper new.0.keeper before (Err e) (made_serve n old mid before first) (take_serves mid new (Err e) step)

-- an input that wasn't received: a fault that is passed on
pub not_received : {C : Type 0} (c : C) (r : Result Bool RunFault) (e : RunFault) → IsErrAnd r (λ x. x ≡ e) → IsReadersFault e → HasNotReceived c c r
not_received c (Ok x) e same why = absurd same
not_received c (Err x) e same why = record {
  same = refl;
  why = ⊎_elim (λ read. inl (ap Err (same ∙ read))) (λ memory. inr (ap Err (same ∙ memory))) why;
}

-- what holds of a fault that is passed on
pub passed_on : (r : Result Bool RunFault) (e : RunFault) (P : RunFault → Type 0) → IsErrAnd r (λ x. x ≡ e) → P e → IfErr r P
passed_on (Ok x) e P same told = tt
passed_on (Err x) e P same told = subst P (sym same) told

-- no read failed where the input came
pub each_heard : (r : Result Bool RunFault) (P : RunFault → Type 0) (Same : Type 0) → Same → IfErr r (λ e. P e ⊎ Same)
each_heard (Ok x) P Same same = tt
each_heard (Err e) P Same same = inr same
