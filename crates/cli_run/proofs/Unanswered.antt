-- A request or a row that the keeper didn't answer, or wasn't asked.
use Rattle.cli_run.proofs.Common.{ActFault, Answers, Bool, Err, Given, HasAnswered, HasToldUnread, IfErr, IfOk, Input, IsAnswered, IsBrokenAfter, IsMemoryOrStore, IsShutAfter, IsStopped, Keeping, Kept, List, LocalMinute, MayLeave, Ok, Option, Request, Result, RunFault, State, ap, asked_after, asked_unread, call, false, inl, inr, is_command, kept_at, kept_by, reason_head, refl, run_fault, step, subst, sym, take, ℕ, ⊎_elim, ◌++◌, ◌∙◌, ◌≡◌, ◌⊎◌}
use Rattle.station_core.specs.declared.answer.ActFault.TheVariants as act
use Rattle.cli_run.specs.declared.telling.RunFault.TheVariants as fault
use Rattle.cli_run.specs.Requests.{asked_good, asked_line, HasToldLine, IsAnsweredShut}
use Rattle.cli_run.proofs.Ran.{always}
use Rattle.cli_run.proofs.Reasons.{explained_unasked}

pub still_kept : (s : State) (i : Input) (at : LocalMinute) (e : ActFault) (keeps : State → Type 0) → Answers s i at (Err e) keeps → run_fault e ≡ fault.Memory → keeps s
still_kept s i at act.Memory keeps answers is = answers
still_kept s i at _ keeps answers is = cc

-- a keeper's fault is out of memory, or the store's
keeper_cause : (e : ActFault) → (run_fault e ≡ fault.Memory) ⊎ (run_fault e ≡ fault.Store)
keeper_cause act.Memory = inl refl
keeper_cause _ = inr refl

-- an input that it didn't answer stops the command, whatever the fault is reported as
pub not_acted : (text : List ℕ) (s : State) (i : Input) (at : LocalMinute) (e : ActFault) (told : RunFault) (before : List ℕ) (left : Kept) → told ≡ run_fault e → Answers s i at (Err e) left.keeps → ((found : Option State) → left.may_find found → MayLeave s i at (Err e) found)
    → IsStopped text s (step s i at).state told before before left
not_acted text s i at e told before left is answers leaves =
    subst (λ (f : RunFault). IsStopped text s (step s i at).state f before before left) (sym is) (inr (record {
      why = keeper_cause e;
      nothing = refl;
      memory = still_kept s i at e left.keeps answers;
      states = λ found may. ⊎_elim (λ same. inl same) (λ store. inr (ap run_fault store.0, store.1)) (leaves found may);
    }))

shut_as : (e : ActFault) (broken : Bool) → IsMemoryOrStore e → IsBrokenAfter e broken → IsShutAfter (run_fault e) broken
shut_as act.Memory broken one after = after
shut_as act.Store broken one after = after
shut_as _ broken one after = absurd one

-- after it the station has to be opened again where its store failed, and then only
pub shut_after : (e : ActFault) (told : RunFault) (broken : Bool) → told ≡ run_fault e → IsMemoryOrStore e → IsBrokenAfter e broken → IsShutAfter told broken
shut_after e told broken is one after = subst (λ (f : RunFault). IsShutAfter f broken) (sym is) (shut_as e broken one after)

-- the station works where another fault ends the command
works_still : (e : RunFault) (broken : Bool) → (e ≡ fault.Store → ⊥) → broken ≡ false → IsShutAfter e broken
works_still fault.Store broken other works = absurd (other refl)
works_still _ broken other works = works

no_store : {A : Type 0} (e : RunFault) → (e ≡ fault.Write) ⊎ ((e ≡ fault.Memory) × A) → e ≡ fault.Store → ⊥
no_store e why is = ⊎_elim (λ write. let both : fault.Write ≡ fault.Store = sym write ∙ is in cc) (λ memory. let both : fault.Memory ≡ fault.Store = sym memory.0 ∙ is in cc) why

works_told : (line : List ℕ) (old new : Given) (r : Result Bool RunFault) (broken : Bool) → HasToldLine line old new r → broken ≡ false → IfErr r (λ e. IsShutAfter e broken)
works_told line old new (Ok good) broken told works = tt
works_told line old new (Err e) broken told works = works_still e broken (no_store e told.why) works

-- a request that isn't for the station
module _ {K E : Type 0} (k : Keeping K) (at : LocalMinute) (taken : E → Given) (number : Option ℕ) (keeper : K) (old new : Given × E) where
  module _ (asks : Request) (line : List ℕ) (unread : Bool) (line_is : (s : State) → line ≡ asked_line number s asks at) (good_is : (s : State) → false ≡ asked_good s asks at)
      (after_is : (s : State) → s ≡ asked_after s asks at) (other : is_command asks ≡ false) where
    told_ok : (s : State) → k.keeps keeper s → (r : Result Bool RunFault) → HasToldLine line old.0 new.0 r
        → IfOk r (λ good. IsAnswered (asked_line number s asks at) (asked_good s asks at) (asked_after s asks at) good old.0.bytes new.0.bytes (k.keeps keeper))
    told_ok s keeps (Ok good) told = record {
      line = told.1 ∙ ap (λ l. old.0.bytes ++ l) (line_is s);
      good_is = told.0 ∙ good_is s;
      state = subst (k.keeps keeper) (after_is s) keeps;
    }
    told_ok s keeps (Err e) told = tt

    told_part : (s : State) → k.keeps keeper s → (r : Result Bool RunFault) → HasToldLine line old.0 new.0 r
        → IfErr r (λ e. IsStopped (asked_line number s asks at) s (asked_after s asks at) e old.0.bytes new.0.bytes (kept_by k keeper))
    told_part s keeps (Ok good) told = tt
    told_part s keeps (Err e) told = inl (record {
      why = told.why;
      sent = told.sent;
      line = told.part ∙ ap (λ l. old.0.bytes ++ take told.sent l) (line_is s);
      state = subst (k.keeps keeper) (after_is s) keeps;
    })

    pub unasked : (r : Result Bool RunFault) → (HasToldLine line old.0 new.0 r → IsAnsweredShut number asks old.0 new.0 r) → ((s : State) → unread ≡ asked_unread s asks at)
        → HasToldUnread taken line unread (reason_head number asks) old new r → HasAnswered k at taken number asks (call keeper old.0 old.1) (call keeper new.0 new.1) r
    unasked r shut why told = record {
      service = record { premise = kept_at keeper; works = λ works. always r works };
      breaks = works_told line old.0 new.0 r (k.is_broken keeper) told.told;
      answered = λ s keeps works sound. told_ok s keeps r told.told;
      stopped = λ s keeps works sound. told_part s keeps r told.told;
      unread = told.not_read;
      writing = told.writing;
      unwritten = told.unwritten;
      same = λ broken. refl;
      reopen = λ broken. shut told.told;
      explained = explained_unasked number k asks at taken (call keeper old.0 old.1) (call keeper new.0 new.1) r unread told.reasons other why;
    }
