-- How the writing of a report ends, whatever the station keeps.
use Rattle.std.proofs.Common.{arith, ◌≡◌, ◌∙◌, ap, sym, refl, subst, inl, inr, ℕ, ◌+◌, ◌<◌, ◌≤◌, true, false, Some, None, Result, Ok, Err, List, [], ◌∷◌, ◌++◌, length, take, length-append, OnOk, IfErr}
use Rattle.reports.proofs.Common.{ActFault, Ends, Given, HandedOut, HasGone, HasStuck, NoneFailed, OneFailed, Progress, ReportCause, ReportFault, StopsBy, StopsWriting, Takes, Waits, length-take-le, ◌⊎◌}
use Rattle.reports.specs.declared.report.ReportCause.TheVariants as cause
use Rattle.reports.proofs.Telling.{Took, SameName}

-- all goes well: what stands in front went out with a byte behind it, or waits
pub record GoesOn (start : Given) (front : List ℕ) (p : Progress) : Type 0 where
  pub held : length front ≤ p.sent + length p.waiting
  pub some : (p.sent ≡ 0) ⊎ (length front < p.sent)
  pub none : NoneFailed start p.given
  pub cause : p.cause ≡ None

-- no more is taken
pub record HasStopped (start : Given) (front : List ℕ) (p : Progress) : Type 0 where
  pub why : ReportCause
  pub cause : p.cause ≡ Some why
  pub stops : StopsBy front why p.sent start p.given

abbrev pub Stands : Given → List ℕ → Progress → Type 0
Stands start front p = GoesOn start front p ⊎ HasStopped start front p

none_behind : (start old new : Given) → NoneFailed start old → new.failures ≡ old.failures → new.idle ≡ old.idle → NoneFailed start new
none_behind start old new none failures idle = (failures ∙ none.0, idle ∙ none.1)

one_behind : (start old new : Given) → NoneFailed start old → OneFailed old new → OneFailed start new
one_behind start old new none (inl (failed, idle)) = inl (failed ∙ ap (λ n. n + 1) none.0, idle ∙ none.1)
one_behind start old new none (inr (failures, idle)) = inr (failures ∙ none.0, idle ∙ ap (λ n. n + 1) none.1)

waits_on : (start : Given) (front line : List ℕ) (p q : Progress) → GoesOn start front p → Waits line p q → q.cause ≡ p.cause → GoesOn start front q
waits_on start front line p q g w same = record {
  held = omega (arith, g.held, w.sent, ap length w.waiting, length-append p.waiting line);
  some = subst (λ n. (n ≡ 0) ⊎ (length front < n)) (sym w.sent) g.some;
  none = none_behind start p.given q.given g.none (ap (λ (x : Given). x.failures) w.given) (ap (λ (x : Given). x.idle) w.given);
  cause = same ∙ g.cause;
}

gone_on : (start : Given) (front line : List ℕ) (p q : Progress) → 0 < length line → GoesOn start front p → HasGone line p q → q.cause ≡ p.cause → GoesOn start front q
gone_on start front line p q some g w same =
    let more : length front < q.sent = omega (arith, some, g.held, w.sent, length-append p.waiting line) in
    record {
      held = omega (arith, more);
      some = inr more;
      none = none_behind start p.given q.given g.none w.failures w.idle;
      cause = same ∙ g.cause;
    }

no_more : (xs ys : List ℕ) → xs ≡ xs ++ ys → length ys ≡ 0
no_more xs ys e = omega (arith, ap length e, length-append xs ys)

-- where memory ran out, nothing more went out
stuck_at : (start : Given) (front line : List ℕ) (why : ReportCause) (p q : Progress) → GoesOn start front p → HasStuck line why p q → StopsBy front why q.sent start q.given
stuck_at start front line cause.Write p q g s = one_behind start p.given q.given g.none s.cause
stuck_at start front line (cause.Act e) p q g s =
    let same : q.given ≡ p.given = s.cause.1 in
    let none : length (take s.part (p.waiting ++ line)) ≡ 0 = no_more p.given.bytes (take s.part (p.waiting ++ line)) (ap (λ (x : Given). x.bytes) (sym same) ∙ s.bytes) in
    let sent : q.sent ≡ p.sent = omega (arith, s.sent, none, length-take-le s.part (p.waiting ++ line) s.within) in
    (none_behind start p.given q.given g.none (ap (λ (x : Given). x.failures) same) (ap (λ (x : Given). x.idle) same), subst (λ n. (n ≡ 0) ⊎ (length front < n)) (sym sent) g.some)

goes_on : (start : Given) (front line : List ℕ) (p q : Progress) → 0 < length line → GoesOn start front p → Takes line p true q → GoesOn start front q
goes_on start front line p q some g (inl stays, rows, same) = waits_on start front line p q g stays same
goes_on start front line p q some g (inr went, rows, same) = gone_on start front line p q some g went same

module _ {S Row N : Type 0} (P : S → Progress) (piece : ℕ → Row → List ℕ) (end : ℕ → List ℕ) (name : S → N) (some : (n : ℕ) (row : Row) → 0 < length (piece n row)) where
  -- what was handed out so far
  stands : (rows : List Row) (start : Given) (front : List ℕ) (old new : S) → HandedOut (Took P piece (SameName P piece name)) rows old new → GoesOn start front (P old) → Stands start front (P new)
  stands [] start front old new h g = inl (subst (λ (s : S). GoesOn start front (P s)) (sym h) g)
  stands (row ∷ rows) start front old new (true, mid, took, more) g = stands rows start front mid new more (goes_on start front (piece (P old).rows row) (P old) (P mid) (some (P old).rows row) g took.1)
  stands (row ∷ rows) start front old new (false, mid, took, more) g =
      let why : ReportCause = took.1.0 in
      let stop : HasStopped start front (P mid) = record { why = why; cause = took.1.1; stops = stuck_at start front (piece (P old).rows row) why (P old) (P mid) g took.1.2 } in
      inr (subst (λ (s : S). HasStopped start front (P s)) (sym more) stop)

  -- by how the sink ended
  ended : (start : Given) (front : List ℕ) (read : Result (Unit {0}) ActFault) (r : Result (Unit {0}) ReportFault) (mid new : S)
      → ((why : ReportCause) → (P mid).cause ≡ Some why → (r ≡ Err (record { sent = (P mid).sent; cause = why })) × (new ≡ mid))
      → ((P mid).cause ≡ None → IfErr read (λ e. (r ≡ Err (record { sent = (P mid).sent; cause = cause.Act e })) × (new ≡ mid)))
      → ((P mid).cause ≡ None → OnOk read (Ends end (P mid) (P new) r))
      → Stands start front (P mid) → StopsWriting front start (P new).given r
  ended start front read r mid new cut unread ends (inr h) =
      let told = cut h.why h.cause in
      subst (λ (s : S). StopsWriting front start (P s).given r) (sym told.1) (subst (StopsWriting front start (P mid).given) (sym told.0) h.stops)
  ended start front (Err e) r mid new cut unread ends (inl g) =
      let told = unread g.cause in
      subst (λ (s : S). StopsWriting front start (P s).given r) (sym told.1) (subst (StopsWriting front start (P mid).given) (sym told.0) (g.none, g.some))
  ended start front (Ok x) (Ok y) mid new cut unread ends (inl g) = let went = ends g.cause in none_behind start (P mid).given (P new).given g.none went.failures went.idle
  ended start front (Ok x) (Err f) mid new cut unread ends (inl g) =
      let went = ends g.cause in
      subst (λ n. StopsBy front f.cause n start (P new).given) (sym went.1) (stuck_at start front (end (P mid).rows) f.cause (P mid) (P new) g went.0)

  -- how the writing of a report ends, by how its rows were handed out and how the sink ended
  pub stops : (read : Result (Unit {0}) ActFault) (r : Result (Unit {0}) ReportFault) (old mid new : S)
      → (P old).sent ≡ 0 → (P old).cause ≡ None
      → ((rows : List Row) × HandedOut (Took P piece (SameName P piece name)) rows old mid)
      → ((why : ReportCause) → (P mid).cause ≡ Some why → (r ≡ Err (record { sent = (P mid).sent; cause = why })) × (new ≡ mid))
      → ((P mid).cause ≡ None → IfErr read (λ e. (r ≡ Err (record { sent = (P mid).sent; cause = cause.Act e })) × (new ≡ mid)))
      → ((P mid).cause ≡ None → OnOk read (Ends end (P mid) (P new) r))
      → StopsWriting (P old).waiting (P old).given (P new).given r
  stops read r old mid new none_sent no_cause took cut unread ends =
      let held : length (P old).waiting ≤ (P old).sent + length (P old).waiting = omega arith in
      let begin : GoesOn (P old).given (P old).waiting (P old) = record { held = held; some = inl none_sent; none = (refl, refl); cause = no_cause } in
      ended (P old).given (P old).waiting read r mid new cut unread ends (stands took.0 (P old).given (P old).waiting old mid took.1 begin)
