-- How an answer with a report ends, by how the report ended.
use Rattle.http_desk.proofs.Common.{ActFault, Bool, Err, Given, HasBegun, HasCause, HasEndedBy, HasReported, HasSent, HasTold, HaveGone, IsBegun, IsCause, IsPrinted, IsReadersFault, List, NoneFailed, Ok, OneFailed, Printout, ReportCause, Result, Sent, ServeFault, Served, SomeOrEach, State, StopsBy, StopsServing, [], ap, arith, false, inl, inr, length, length-take-le, refl, report_head, subst, take, unavailable, ℕ, ⊎_elim, ◌++◌, ◌+◌, ◌<◌, ◌∙◌, ◌∷◌, ◌≡◌, ◌⊎◌}
use Rattle.reports.specs.declared.report.ReportCause.TheVariants as cause
use Rattle.reports.specs.declared.report.ReportFault.{ReportFault}
use Rattle.http_desk.specs.declared.serve.ServeFault.TheVariants as serve
use Rattle.station_core.specs.declared.answer.ActFault.TheVariants as act

-- a write that failed or took no byte
pub cause_of : (old new : Given) → OneFailed old new → HasCause old new
cause_of old new (inl (failed, idle)) = inl (omega (arith, failed))
cause_of old new (inr (failures, none)) = inr (omega (arith, none))

-- the writing goes on where no write failed
pub stops_behind : (old mid new : Given) (r : Result Served ServeFault) → NoneFailed old mid → StopsServing mid new r → StopsServing old new r
stops_behind old mid new (Ok served) none stops = (stops.0 ∙ none.0, stops.1 ∙ none.1)
stops_behind old mid new (Err serve.Read) none stops = (stops.0 ∙ none.0, stops.1 ∙ none.1)
stops_behind old mid new (Err (serve.Write sent)) none (inl (failed, idle)) = inl (failed ∙ ap (λ n. n + 1) none.0, idle ∙ none.1)
stops_behind old mid new (Err (serve.Write sent)) none (inr (failures, took)) = inr (failures ∙ none.0, took ∙ ap (λ n. n + 1) none.1)

-- how a report stopped at a keeper's fault: with its head and a byte of it, or with nothing
module _ (front : List ℕ) (e : ReportFault) (fault : ActFault) (old new : Given) (why : e.cause ≡ cause.Act fault) (stops : StopsBy front e.cause e.sent old new) where
  abbrev at_fault : StopsBy front (cause.Act fault) e.sent old new
  at_fault = subst (λ (w : ReportCause). StopsBy front w e.sent old new) why stops

  pub none_failed : NoneFailed old new
  none_failed = at_fault.0

  pub some_of_report : (name : Printout) → front ≡ report_head name → 0 < e.sent → length (report_head name) < e.sent
  some_of_report name is some = ⊎_elim (λ none. absurd (omega (arith, none, some))) (λ more. subst (λ f. length f < e.sent) is more) at_fault.1

-- a report that ended before its end
pub record EndedEarly (Open May : Type 0) (s : State) (name : Printout) (old new : Given) (e : ReportFault) : Type 0 where
  pub part : SomeOrEach s name (λ whole. Sent old new whole e.sent)
  pub gone : HaveGone e.sent old new
  pub told : HasTold e.cause old new
  pub fault : Open → IsCause May e.cause

module _ (Open May : Type 0) (s : State) (old new : Given) (e : ReportFault) where
  of_text : (name : Printout) (front text : List ℕ) → front ≡ report_head name → IsPrinted s name text → IsBegun (front ++ text) e old new → (Open → IsCause May e.cause) → EndedEarly Open May s name old new e
  of_text name front text is are begun fault = record {
    part = inl (text, are, subst (λ f. Sent old new (f ++ text) e.sent) is begun.0);
    gone = (take e.sent (front ++ text), length-take-le e.sent (front ++ text) begun.0.0, begun.0.1);
    told = begun.1;
    fault = fault;
  }

  -- the same of a report that is known by what it is
  pub ended_early : (name : Printout) (front : List ℕ) → front ≡ report_head name → HasEndedBy Open May (IsPrinted s name) front old new (Err e) → EndedEarly Open May s name old new e
  ended_early name front is (inl (text, are, begun), gone, told, fault) = of_text name front text is are begun fault
  ended_early name front is (inr each, gone, told, fault) = record {
    gone = gone;
    part = inr (λ text are. subst (λ f. Sent old new (f ++ text) e.sent) is (each text are).0);
    told = told;
    fault = fault;
  }

append_none : (xs : List ℕ) → xs ++ [] ≡ xs
append_none [] = refl
append_none (x ∷ xs) = ap (λ ys. x ∷ ys) (append_none xs)

-- a reader's fault, whether its store may fail or not
pub readers_fault : (May : Type 0) (e : ActFault) → IsReadersFault May e → IsReadersFault (Unit {0}) e
readers_fault May act.Memory is = tt
readers_fault May act.Store is = tt
readers_fault May (act.Refused refusal) is = absurd is
readers_fault May act.Reopen is = absurd is

-- what holds of some text, or of each, is weakened
pub some_or_each : (s : State) (name : Printout) (P Q : List ℕ → Type 0) → ((whole : List ℕ) → P whole → Q whole) → SomeOrEach s name P → SomeOrEach s name Q
some_or_each s name P Q more (inl (text, are, p)) = inl (text, are, more (report_head name ++ text) p)
some_or_each s name P Q more (inr each) = inr (λ text are. more (report_head name ++ text) (each text are))

-- The answer with a report, by how the report ended.
module _ (s : State) (name : Printout) (old mid : Given) where
  pub after_write : (Open May : Type 0) (e : ReportFault) → e.cause ≡ cause.Write → EndedEarly Open May s name old mid e
      → (SomeOrEach s name (λ whole. Sent old mid whole e.sent) ⊎ Sent old mid unavailable e.sent) × HasCause old mid
  after_write Open May e is ended = (inl ended.part, subst (λ (why : ReportCause). HasTold why old mid) is ended.told)

  pub after_part : (Open May : Type 0) (e : ReportFault) → length (report_head name) < e.sent → EndedEarly Open May s name old mid e → HasReported s name old mid (Ok (record { status = 200; reopen = false }))
  after_part Open May e some ended = inr (inl (refl, some_or_each s name (λ whole. Sent old mid whole e.sent) (HasBegun name old mid) (λ whole sent. (e.sent, (some, sent.0, sent.1))) ended.part))

  none_gone : HaveGone 0 old mid → mid.bytes ≡ old.bytes
  none_gone ([], empty, e) = e ∙ append_none old.bytes
  none_gone (x ∷ xs, empty, e) = absurd (omega (arith, empty))

  pub after_none : (Open May : Type 0) (e : ReportFault) (fault : ActFault) (reopen : Bool) (new : Given) (r : Result Served ServeFault)
      → e.sent ≡ 0 → e.cause ≡ cause.Act fault → reopen ≡ false → EndedEarly Open May s name old mid e → HasSent 503 reopen unavailable mid new r → HasReported s name old new r
  after_none Open May e fault reopen new (Ok served) none is open_station ended (told, bytes) =
      let same : mid.bytes ≡ old.bytes = none_gone (subst (λ (n : ℕ). HaveGone n old mid) none ended.gone) in
      inr (inr (told ∙ (λ i. record { status = 503; reopen = open_station i }), bytes ∙ ap (λ b. b ++ unavailable) same))
  after_none Open May e fault reopen new (Err serve.Read) none is open_station ended sent = absurd sent
  after_none Open May e fault reopen new (Err (serve.Write n)) none is open_station ended (part, why) =
      let same : mid.bytes ≡ old.bytes = none_gone (subst (λ (n : ℕ). HaveGone n old mid) none ended.gone) in
      let still : (mid.failures ≡ old.failures) × (mid.idle ≡ old.idle) = subst (λ (why : ReportCause). HasTold why old mid) is ended.told in (
        inr (part.0, part.1 ∙ ap (λ b. b ++ take n unavailable) same),
        subst (λ (f : ℕ). (f < new.failures) ⊎ (old.idle < new.idle)) still.0 (subst (λ (i : ℕ). (mid.failures < new.failures) ⊎ (i < new.idle)) still.1 why),
      )
