-- What is sent for a request, once it went out, is its answer.
use Rattle.http_desk.proofs.Common.{BeginsAs503, Bool, Err, Given, HasAsked, HasAskedShut, HasBegun, HasCause, HasReported, HasSent, HasServed, HasServedShut, HasWritten, HasWrittenShut, IfOk, IsAnswer, IsBeginning, IsPartOut, IsToldFor, IsToldShut, IsUnchangedOrBroken, List, LocalMinute, None, Ok, Option, Printout, Replied, Reply, Response, Result, ServeFault, Served, SomeOrEach, State, StationAfter, Wanted, Wants, WorksAt, [], added, ap, drop, inl, inr, json_reply, length, ok_answer, ok_data, refl, report_head, station_at, subst, sym, take, tells_reopen, unavailable, wanted_reply, wanted_state, ℕ, ⊎_elim, ◌++◌, ◌∙◌, ◌∷◌, ◌≡◌}
use Rattle.http_desk.specs.declared.wanted.Wanted.TheVariants as wanted
use Rattle.http_desk.specs.declared.asking.Response.TheVariants as told
use Rattle.http_desk.specs.declared.serve.ServeFault.TheVariants as serve
use Rattle.http_desk.proofs.Beginnings.{ok_no_503, begins_as_503}
use Rattle.http_desk.proofs.Reporting.{some_or_each}

drop_front : (xs ys : List ℕ) → drop (length xs) (xs ++ ys) ≡ ys
drop_front [] ys = refl
drop_front (x ∷ xs) ys = drop_front xs ys

-- the bytes that were moved since
pub added_is : (old new : Given) (bytes : List ℕ) → new.bytes ≡ old.bytes ++ bytes → added old new ≡ bytes
added_is old new bytes e = ap (λ b. drop (length old.bytes) b) e ∙ drop_front old.bytes bytes

-- what is kept and what may be found only shrinks while an answer is written
module _ (s : State) (at : LocalMinute) (bytes : List ℕ) (old new : Given) (was left : StationAfter)
    (breaks : left.is_broken ≡ was.is_broken) (same : (t : State) → was.keeps t → left.keeps t)
    (fewer : (found : Option State) → left.may_find found → was.may_find found) where
  abbrev Gives : ℕ → List ℕ → Type 0
  Gives status out = IsAnswer s at bytes status out left

  kept_on : (t : State) → WorksAt was t → WorksAt left t
  kept_on t (works, kept) = (breaks ∙ works, same t kept)

  told_on : IsUnchangedOrBroken bytes s at was → IsUnchangedOrBroken bytes s at left
  told_on (inl kept) = inl (kept_on s kept)
  told_on (inr (broke, (i, asks, states))) = inr (breaks ∙ broke, (i, asks, λ found is. states found (fewer found is)))

  -- an answer that went out
  sent_whole : (status : ℕ) (reopen : Bool) (out : List ℕ) (served : Served) → served ≡ record { status = status; reopen = reopen } → new.bytes ≡ old.bytes ++ out → Gives status out → Gives served.status (added old new)
  sent_whole status reopen out served is e answer =
      subst (λ (n : ℕ). Gives n (added old new)) (sym (ap (λ (v : Served). v.status) is)) (subst (λ (b : List ℕ). Gives status b) (sym (added_is old new out e)) answer)

  abbrev Out : Result Served ServeFault → Type 0
  Out (Ok served) = Gives served.status (added old new)
  Out (Err serve.Read) = ⊥
  Out (Err (serve.Write sent)) = IsPartOut s at bytes sent old new left × HasCause old new

  sent : (status : ℕ) (reopen : Bool) (out : List ℕ) (r : Result Served ServeFault) → Gives status out → HasSent status reopen out old new r → Out r
  sent status reopen out (Ok served) answer (is, e) = sent_whole status reopen out served is e answer
  sent status reopen out (Err serve.Read) answer h = absurd h
  sent status reopen out (Err (serve.Write n)) answer (part, why) = (inl (status, out, answer, part), why)

  no_answer : IsUnchangedOrBroken bytes s at left → Gives 503 unavailable
  no_answer states = inr (inl (refl, refl, states))

  reported : (name : Printout) (r : Result Served ServeFault) → IsToldFor bytes s at (told.Report name) was → HasReported s name old new r → Out r
  reported name (Ok served) (gets, whole, kept) (inl (is, (text, are, e))) = sent_whole 200 _ (report_head name ++ text) served is e (inl (s, whole text are, kept_on s kept))
  reported name (Ok served) (gets, whole, kept) (inr (inl (is, part))) =
      let begun : SomeOrEach s name (IsBeginning name (added old new)) = some_or_each s name (HasBegun name old new) (IsBeginning name (added old new)) (λ text p. (p.0, (p.1.0, p.1.1, added_is old new (take p.0 text) p.1.2))) part in
      let answer : Gives 200 (added old new) = inr (inr (name, gets, begun, refl, kept_on s kept)) in
      subst (λ (n : ℕ). Gives n (added old new)) (sym (ap (λ (v : Served). v.status) is)) answer
  reported name (Ok served) (gets, whole, kept) (inr (inr (is, e))) = sent_whole 503 _ unavailable served is e (no_answer (inl (kept_on s kept)))
  reported name (Err serve.Read) told h = absurd h
  reported name (Err (serve.Write n)) (gets, whole, kept) h =
      (⊎_elim (λ part. inr (name, gets, kept_on s kept, part)) (λ part. inl (503, unavailable, no_answer (inl (kept_on s kept)), part)) h.0, h.1)

  written : (t : Response) (r : Result Served ServeFault) → IsToldFor bytes s at t was → HasWritten t s old new r → Out r
  written (told.Accepted count) r (after, answers, kept) h = sent 200 _ (ok_answer count) r (inl (after, answers, kept_on after kept)) h
  written (told.Whole status out) r (answers, kept) h = sent status _ out.items r (inl (s, answers, kept_on s kept)) h
  written (told.Report name) r is h = reported name r is h
  written (told.Unavailable reopen) r states h = sent 503 reopen unavailable r (no_answer (told_on states)) h

  of_out : (r : Result Served ServeFault) → Out r → HasServed s at bytes old new left r
  of_out (Ok served) out = out
  of_out (Err serve.Read) out = absurd out
  of_out (Err (serve.Write n)) out = out

  -- what was served
  pub served : (t : Response) (r : Result Served ServeFault) → IsToldFor bytes s at t was → HasWritten t s old new r
      → HasServed s at bytes old new left r
  served t r is h = of_out r (written t r is h)

  -- the same on a station that has to be opened again
  written_shut : (t : Response) (r : Result Served ServeFault) → IsToldFor bytes s at t was → HasWrittenShut t old new r → Out r
  written_shut (told.Accepted count) r (after, answers, kept) h = sent 200 _ (ok_answer count) r (inl (after, answers, kept_on after kept)) h
  written_shut (told.Whole status out) r (answers, kept) h = sent status _ out.items r (inl (s, answers, kept_on s kept)) h
  written_shut (told.Report name) r (gets, whole, kept) (reopen, h) = sent 503 reopen unavailable r (no_answer (inl (kept_on s kept))) h
  written_shut (told.Unavailable reopen) r states h = sent 503 reopen unavailable r (no_answer (told_on states)) h

  pub served_shut : (t : Response) (r : Result Served ServeFault) → IsToldFor bytes s at t was → HasWrittenShut t old new r
      → HasServed s at bytes old new left r
  served_shut t r is h = of_out r (written_shut t r is h)

  -- 503 began: an accepted input isn't answered so, and nothing else changes a station that works
  no_accepted : (count : ℕ) (reopen : Bool) (r : Result Served ServeFault) → HasSent 200 reopen (ok_answer count) old new r → ¬ (BeginsAs503 (added old new))
  no_accepted count reopen (Ok served) (is, e) begins = ok_no_503 count (subst BeginsAs503 (added_is old new (ok_answer count) e) begins)
  no_accepted count reopen (Err serve.Read) sent begins = sent
  no_accepted count reopen (Err (serve.Write n)) (part, why) begins = ok_no_503 count (begins_as_503 n (ok_answer count) (subst BeginsAs503 (added_is old new (take n (ok_answer count)) part.1) begins))

  -- what 503 says of the station
  pub gave_up : (t : Response) (r : Result Served ServeFault) → IsToldFor bytes s at t was → HasWritten t s old new r → BeginsAs503 (added old new)
      → IsUnchangedOrBroken bytes s at left
  gave_up (told.Accepted count) r is h begins = absurd (no_accepted count _ r h begins)
  gave_up (told.Whole status out) r (answers, kept) h begins = inl (kept_on s kept)
  gave_up (told.Report name) r (gets, whole, kept) h begins = inl (kept_on s kept)
  gave_up (told.Unavailable reopen) r states h begins = told_on states

-- whether it is asked to open the station again
pub reopen_told : (t : Response) (s : State) (old new : Given) (r : Result Served ServeFault) → HasWritten t s old new r → IfOk r (λ v. v.reopen ≡ tells_reopen t)
reopen_told (told.Accepted count) s old new (Ok v) (is, e) = ap (λ (v : Served). v.reopen) is
reopen_told (told.Whole status out) s old new (Ok v) (is, e) = ap (λ (v : Served). v.reopen) is
reopen_told (told.Report name) s old new (Ok v) h = ⊎_elim (λ whole. ap (λ (v : Served). v.reopen) whole.0) (λ rest. ⊎_elim (λ part. ap (λ (v : Served). v.reopen) part.0) (λ none. ap (λ (v : Served). v.reopen) none.0) rest) h
reopen_told (told.Unavailable reopen) s old new (Ok v) (is, e) = ap (λ (v : Served). v.reopen) is
reopen_told t s old new (Err e) h = tt

pub ok_more : {A E : Type 0} (r : Result A E) (P Q : A → Type 0) → ((x : A) → P x → Q x) → IfOk r P → IfOk r Q
ok_more (Ok x) P Q more p = more x p
ok_more (Err e) P Q more p = tt

-- what was asked for a request is sent for its bytes
module _ (bytes : List ℕ) (s : State) (at : LocalMinute) where
  accepted_is : (reply : Reply) (next : State) (count : ℕ) → reply ≡ json_reply 200 None (ok_data count) → Replied s reply next 200 (ok_answer count) next
  accepted_is reply next count is =
      subst (λ (r : Reply). Replied s r next 200 (ok_answer count) next) (sym is) (record { status_is = refl; written = refl; state = refl })

  pub told_bytes : (w : Wanted) (t : Response) (left : StationAfter) → Wants bytes w → HasAsked s at w t left → IsToldFor bytes s at t left
  told_bytes w (told.Accepted count) left wants (is, kept) =
      (wanted_state s at w, wants.answered s at 200 (ok_answer count) (wanted_state s at w) (accepted_is (wanted_reply s at w) (wanted_state s at w) count is), kept)
  told_bytes w (told.Whole status out) left wants (is, written, same, kept) =
      (wants.answered s at status out.items s (record { status_is = is; written = written; state = sym same }), kept)
  told_bytes w (told.Report name) left wants (is, kept) = (
    wants.report name is,
    λ text are.
        let replied : Replied s (wanted_reply s at (wanted.Report name)) (wanted_state s at (wanted.Report name)) 200 (report_head name ++ text) s = record { status_is = refl; written = (text, are, refl); state = refl } in
        wants.answered s at 200 (report_head name ++ text) s (subst (λ (v : Wanted). Replied s (wanted_reply s at v) (wanted_state s at v) 200 (report_head name ++ text) s) (sym is) replied),
    kept,
  )
  told_bytes w (told.Unavailable reopen) left wants (inl kept) = inl kept
  told_bytes w (told.Unavailable reopen) left wants (inr (broke, (i, is, states))) = inr (broke, (i, wants.input i is, states))

-- what is served on a station that has to be opened again
pub all_shut : (at : LocalMinute) (bytes : List ℕ) (old new : Given) (t : Response) (r : Result Served ServeFault) → IsToldShut bytes at t
    → HasWrittenShut t old new r → HasServedShut at bytes old new r
all_shut at bytes old new t r told written = λ s.
    served_shut s at bytes old new (station_at s) (station_at s) refl (λ next is. is) (λ found is. is) t r (told s) written

-- what was asked there is told for the request's bytes
pub shut_bytes : (bytes : List ℕ) (at : LocalMinute) (w : Wanted) (t : Response) → Wants bytes w → HasAskedShut at w t → IsToldShut bytes at t
shut_bytes bytes at w t wants asked = λ s. told_bytes bytes s at w t (station_at s) wants (asked s)
