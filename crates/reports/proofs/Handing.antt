-- How a listing ends, by how a keeper handed out its rows.
use Rattle.reports.proofs.Common.{ActFault, AreOne, Bool, Data, Ends, Err, Form, Given, HandedOut, HasEndedBy, HasEndedEach, HaveBytes, IfErr, IsReadersFault, IsTextOf, Keeping, List, None, Ok, OnErr, OnOk, Progress, ReportCause, ReportFault, Result, Some, State, StopsWriting, WritesReport, WritesRows, ap, end_piece, false, filter, inl, inr, length, refl, rows_text, subst, sym, take, true, ℕ, ◌<◌, ◌∙◌, ◌≡◌}
use Rattle.reports.specs.declared.report.ReportCause.TheVariants as cause
use Rattle.reports.proofs.Choosing.{TakesRow, Hands, wanted_rows, same_form, beginning, all_rows}
use Rattle.reports.proofs.Forms.{piece, in_form, piece_some}
use Rattle.reports.proofs.Known.{IsText, reported_by, reported_each}
use Rattle.reports.proofs.Stopping.{stops}

-- what is said of texts that are a report is said where they are known otherwise
pub known_as : (Open May : Type 0) (Is Are : List ℕ → Type 0) (front : List ℕ) (old new : Given) (r : Result (Unit {0}) ReportFault)
    → ((t : List ℕ) → Is t → Are t) → ((t : List ℕ) → Are t → Is t) → HasEndedBy Open May Is front old new r → HasEndedBy Open May Are front old new r
known_as Open May Is Are front old new (Ok x) to from (text, is, wrote) = (text, to text is, wrote)
known_as Open May Is Are front old new (Err e) to from (inl (text, is, begun), gone, told, fault) = (inl (text, to text is, begun), gone, told, fault)
known_as Open May Is Are front old new (Err e) to from (inr each, gone, told, fault) = (inr (λ t are. each t (from t are)), gone, told, fault)

pub each_known_as : (Open May : Type 0) (Is Are : List ℕ → Type 0) (front : List ℕ) (old new : Given) (r : Result (Unit {0}) ReportFault)
    → ((t : List ℕ) → Are t → Is t) → HasEndedEach Open May Is front old new r → HasEndedEach Open May Are front old new r
each_known_as Open May Is Are front old new r from each = record { text = λ t are. each.text t (from t are) }

module _ {S P Row N : Type 0} (progress : S → Progress) (name : S → N) (form_of : S → Form) (pick_of : S → P) (line : Row → List ℕ) (json : Row → Data) (wants : P → Row → Bool) where
  abbrev pub Passed : List Row → S → S → Type 0
  Passed rows from to = HandedOut (TakesRow progress name form_of pick_of (piece line json) wants) rows from to

  abbrev pub Handed : Form → List Row → Progress × N → Progress × N → Type 0
  Handed f rows old new = Hands progress name form_of pick_of (piece line json) wants f rows old new

  abbrev pub look : S → Progress × N
  look s = (progress s, name s)

  of_rows : (rows : List Row) (from to : S) → Passed rows from to → Handed (form_of from) (filter (wants (pick_of from)) rows) (look from) (look to)
  of_rows rows from to h = wanted_rows progress name form_of pick_of (piece line json) wants rows (form_of from) from to refl h

  module _ (AreRows : List Row → Type 0) (from to : S) where
    -- those that were picked
    abbrev ArePicked : List Row → Type 0
    ArePicked these = (rows : List Row) × AreRows rows × (these ≡ filter (wants (pick_of from)) rows)

    one_picked : ((xs ys : List Row) → AreRows xs → AreRows ys → xs ≡ ys) → (xs ys : List Row) → ArePicked xs → ArePicked ys → xs ≡ ys
    one_picked one xs ys (rows, are, is) (others, are_too, is_too) = is ∙ ap (filter (wants (pick_of from))) (one rows others are are_too) ∙ sym is_too

    took_picked : ((rows : List Row) × Passed rows from to) → (rows : List Row) × Handed (form_of from) rows (look from) (look to)
    took_picked (rows, h) = (filter (wants (pick_of from)) rows, of_rows rows from to h)

    all_picked : (read : Result (Unit {0}) ActFault) → OnOk read ((rows : List Row) × AreRows rows × Passed rows from to)
        → OnOk read ((rows : List Row) × ArePicked rows × Handed (form_of from) rows (look from) (look to))
    all_picked (Ok x) (rows, are, h) = (filter (wants (pick_of from)) rows, (rows, are, refl), of_rows rows from to h)
    all_picked (Err e) all = tt

    part_picked : (read : Result (Unit {0}) ActFault) → OnErr read ((rows : List Row) → AreRows rows → (n : ℕ) × Passed (take n rows) from to)
        → OnErr read ((rows : List Row) → ArePicked rows → (n : ℕ) × Handed (form_of from) (take n rows) (look from) (look to))
    part_picked (Ok x) part = tt
    part_picked (Err e) part = λ these picked.
        let rows : List Row = picked.0 in
        let some = part rows picked.1 in
        let begun = beginning (wants (pick_of from)) rows some.0 in
        let handed = subst (λ (l : List Row). Handed (form_of from) l (look from) (look to)) begun.1 (of_rows (take some.0 rows) from to some.1) in
        (begun.0, subst (λ (l : List Row). Handed (form_of from) (take begun.0 l) (look from) (look to)) (sym picked.2) handed)

    abbrev IsPickedText : List ℕ → Type 0
    IsPickedText = IsText (λ (q : Progress × N). q.0) (piece line json (form_of from)) (end_piece (form_of from)) (λ q. q.1) ArePicked

    abbrev IsThisText : List ℕ → Type 0
    IsThisText = IsTextOf (form_of from) line json AreRows (filter (wants (pick_of from)))

    as_text : (t : List ℕ) → IsPickedText t → IsThisText t
    as_text t (these, (rows, are, is), text) = (rows, are, text ∙ in_form line json (form_of from) these ∙ ap (rows_text (form_of from) line json) is)

    as_picked : (t : List ℕ) → IsThisText t → IsPickedText t
    as_picked t (rows, are, text) = (filter (wants (pick_of from)) rows, (rows, are, refl), text ∙ sym (in_form line json (form_of from) (filter (wants (pick_of from)) rows)))

    module _ (read : Result (Unit {0}) ActFault) (r : Result (Unit {0}) ReportFault) (new : S) where
      -- how the sink ended
      abbrev Cut : Type 0
      Cut = (why : ReportCause) → (progress to).cause ≡ Some why → (r ≡ Err (record { sent = (progress to).sent; cause = why })) × (new ≡ to)

      abbrev Unread : Type 0
      Unread = (progress to).cause ≡ None → IfErr read (λ e. (r ≡ Err (record { sent = (progress to).sent; cause = cause.Act e })) × (new ≡ to))

      abbrev Done : Form → Type 0
      Done f = (progress to).cause ≡ None → OnOk read (Ends (end_piece f) (progress to) (progress new) r)

      cut_seen : Cut → (why : ReportCause) → (progress to).cause ≡ Some why → (r ≡ Err (record { sent = (progress to).sent; cause = why })) × (look new ≡ look to)
      cut_seen cut why is = let told = cut why is in (told.0, ap look told.1)

      unread_seen : (read : Result (Unit {0}) ActFault) → ((progress to).cause ≡ None → IfErr read (λ e. (r ≡ Err (record { sent = (progress to).sent; cause = cause.Act e })) × (new ≡ to)))
          → (progress to).cause ≡ None → IfErr read (λ e. (r ≡ Err (record { sent = (progress to).sent; cause = cause.Act e })) × (look new ≡ look to))
      unread_seen (Ok x) unread none = tt
      unread_seen (Err e) unread none = let told = unread none in (told.0, ap look told.1)

      at_form : ((rows : List Row) × Passed rows from to) → Done (form_of to) → Done (form_of from)
      at_form took done = subst Done (same_form progress name form_of pick_of (piece line json) wants took.0 from to took.1) done

      pub ended_by : (Open May : Type 0) → (progress from).rows ≡ 0 → (progress from).sent ≡ 0 → (progress from).cause ≡ None
          → ((rows : List Row) × Passed rows from to)
          → OnOk read ((rows : List Row) × AreRows rows × Passed rows from to)
          → OnErr read ((rows : List Row) → AreRows rows → (n : ℕ) × Passed (take n rows) from to)
          → (Open → IfErr read (IsReadersFault May)) → Cut → Unread → Done (form_of to)
          → HasEndedBy Open May IsThisText (progress from).waiting (progress from).given (progress new).given r
      ended_by Open May no_rows none_sent no_cause took all part fault cut unread done =
          known_as Open May IsPickedText IsThisText (progress from).waiting (progress from).given (progress new).given r as_text as_picked
          (reported_by (λ (q : Progress × N). q.0) (piece line json (form_of from)) (end_piece (form_of from)) (λ q. q.1) ArePicked read r Open May (look from) (look to) (look new) no_rows none_sent no_cause
          (took_picked took) (all_picked read all) (part_picked read part) fault (cut_seen cut) (unread_seen read unread) (at_form took done))

      pub ended_each : (Open May : Type 0) → ((xs ys : List Row) → AreRows xs → AreRows ys → xs ≡ ys)
          → (progress from).rows ≡ 0 → (progress from).sent ≡ 0 → (progress from).cause ≡ None
          → ((rows : List Row) × Passed rows from to)
          → OnOk read ((rows : List Row) × AreRows rows × Passed rows from to)
          → OnErr read ((rows : List Row) → AreRows rows → (n : ℕ) × Passed (take n rows) from to)
          → (Open → IfErr read (IsReadersFault May)) → Cut → Unread → Done (form_of to)
          → HasEndedEach Open May IsThisText (progress from).waiting (progress from).given (progress new).given r
      ended_each Open May one no_rows none_sent no_cause took all part fault cut unread done =
          each_known_as Open May IsPickedText IsThisText (progress from).waiting (progress from).given (progress new).given r as_picked
          (reported_each (λ (q : Progress × N). q.0) (piece line json (form_of from)) (end_piece (form_of from)) (λ q. q.1) ArePicked (one_picked one) read r Open May (look from) (look to) (look new) no_rows none_sent no_cause
          (all_picked read all) (part_picked read part) fault (cut_seen cut) (unread_seen read unread) (at_form took done))

      pub stops_writing : ((row : Row) → 0 < length (line row)) → (progress from).sent ≡ 0 → (progress from).cause ≡ None
          → ((rows : List Row) × Passed rows from to) → Cut → Unread → Done (form_of to)
          → StopsWriting (progress from).waiting (progress from).given (progress new).given r
      stops_writing some none_sent no_cause took cut unread done =
          stops (λ (q : Progress × N). q.0) (piece line json (form_of from)) (end_piece (form_of from)) (λ q. q.1) (piece_some line json some (form_of from)) read r (look from) (look to) (look new) none_sent no_cause
          (took_picked took) (cut_seen cut) (unread_seen read unread) (at_form took done)

-- a listing that was begun by a new sink
module _ {P Row : Type 0} (line : Row → List ℕ) (json : Row → Data) (AreRows : List Row → Type 0) (wants : P → Row → Bool)
    (Open May : Type 0) {f g : Form} (form_is : f ≡ g) {p q : P} (pick_is : p ≡ q) {waiting front : List ℕ} (waiting_is : waiting ≡ front) {old given : Given} (given_is : old ≡ given) (new : Given) (r : Result (Unit {0}) ReportFault) where
  pub new_ended : HasEndedBy Open May (IsTextOf f line json AreRows (filter (wants p))) waiting old new r → HasEndedBy Open May (IsTextOf g line json AreRows (filter (wants q))) front given new r
  new_ended h = subst (λ (T : Type 0). T) (λ i. HasEndedBy Open May (IsTextOf (form_is i) line json AreRows (filter (wants (pick_is i)))) (waiting_is i) (given_is i) new r) h

  pub new_ended_each : HasEndedEach Open May (IsTextOf f line json AreRows (filter (wants p))) waiting old new r → HasEndedEach Open May (IsTextOf g line json AreRows (filter (wants q))) front given new r
  new_ended_each h = subst (λ (T : Type 0). T) (λ i. HasEndedEach Open May (IsTextOf (form_is i) line json AreRows (filter (wants (pick_is i)))) (waiting_is i) (given_is i) new r) h

pub only : {Row : Type 0} (list : List Row) (these others : List Row) → these ≡ list → others ≡ list → these ≡ others
only list these others are are_too = are ∙ sym are_too

-- texts of a report that are known as others
pub reported : {K : Type 0} (k : Keeping K) (Bytes : Type 0) (One : State → Type 0) (Is Are : State → List ℕ → Type 0) (front : List ℕ) (old new : K × Given) (r : Result (Unit {0}) ReportFault)
    → Bytes → ((s : State) → One s) → ((s : State) (t : List ℕ) → Is s t → Are s t) → ((s : State) (t : List ℕ) → Are s t → Is s t)
    → WritesRows k Bytes One Is front old new r → WritesReport k Are front old new r
reported k Bytes One Is Are front old new r some one to from has = record {
  reads = has.reads;
  reopen = has.reopen;
  writes = has.writes some;
  ended = λ s keeps sound. known_as (k.is_broken old.0 ≡ false) k.may_fail (Is s) (Are s) front old.1 new.1 r (to s) (from s) (has.ended s keeps sound);
  each = λ s keeps sound. each_known_as (k.is_broken old.0 ≡ false) k.may_fail (Is s) (Are s) front old.1 new.1 r (from s) (has.each s keeps sound (one s));
}

-- rows of which there is one list
pub reported_rows : {K : Type 0} (k : Keeping K) (Bytes : Type 0) (One : State → Type 0) (Is : State → List ℕ → Type 0) (front : List ℕ) (old new : K × Given) (r : Result (Unit {0}) ReportFault)
    → Bytes → ((s : State) → One s) → WritesRows k Bytes One Is front old new r → WritesReport k Is front old new r
reported_rows k Bytes One Is front old new r some one has = reported k Bytes One Is Is front old new r some one (λ s t is. is) (λ s t is. is) has

-- those that are picked of rows that are one list
pub reported_these : {K Row : Type 0} (k : Keeping K) (line : Row → List ℕ) (json : Row → Data) (f : Form) (picked : List Row → List Row) (these : State → List Row) (front : List ℕ) (old new : K × Given) (r : Result (Unit {0}) ReportFault)
    → HaveBytes line
    → WritesRows k (HaveBytes line) (λ s. AreOne (λ rows. rows ≡ these s)) (λ s. IsTextOf f line json (λ rows. rows ≡ these s) picked) front old new r
    → WritesReport k (λ s t. t ≡ rows_text f line json (picked (these s))) front old new r
reported_these {Row = Row} k line json f picked these front old new r some has =
    reported k (HaveBytes line) (λ s. AreOne (λ rows. rows ≡ these s)) (λ s. IsTextOf f line json (λ rows. rows ≡ these s) picked) (λ s t. t ≡ rows_text f line json (picked (these s))) front old new r some (λ s. only (these s))
    (λ s t is. is.2 ∙ ap (λ (list : List Row). rows_text f line json (picked list)) is.1)
    (λ s t text. (these s, refl, text)) has

-- every row of a reader
module _ {Row : Type 0} (line : Row → List ℕ) (json : Row → Data) (f : Form) (AreRows : List Row → Type 0) where
  pub to_every : (t : List ℕ) → IsTextOf f line json AreRows (filter (λ row. true)) t → IsTextOf f line json AreRows (λ rows. rows) t
  to_every t (rows, are, text) = (rows, are, text ∙ ap (rows_text f line json) (all_rows rows))

  pub from_every : (t : List ℕ) → IsTextOf f line json AreRows (λ rows. rows) t → IsTextOf f line json AreRows (filter (λ row. true)) t
  from_every t (rows, are, text) = (rows, are, text ∙ sym (ap (rows_text f line json) (all_rows rows)))

pub reported_all : {K : Type 0} (k : Keeping K) (Bytes : Type 0) (One : State → Type 0) (Is Are : State → List ℕ → Type 0) (front : List ℕ) (old new : K × Given) (r : Result (Unit {0}) ReportFault)
    → ((s : State) (t : List ℕ) → Is s t → Are s t) → ((s : State) (t : List ℕ) → Are s t → Is s t)
    → WritesRows k Bytes One Is front old new r → WritesRows k Bytes One Are front old new r
reported_all k Bytes One Is Are front old new r to from has = record {
  reads = has.reads;
  reopen = has.reopen;
  writes = has.writes;
  ended = λ s keeps sound. known_as (k.is_broken old.0 ≡ false) k.may_fail (Is s) (Are s) front old.1 new.1 r (to s) (from s) (has.ended s keeps sound);
  each = λ s keeps sound one. each_known_as (k.is_broken old.0 ≡ false) k.may_fail (Is s) (Are s) front old.1 new.1 r (from s) (has.each s keeps sound one);
}

-- a report under another name
pub reported_as : {K L : Type 0} (k : Keeping K) (Is : State → L → List ℕ → Type 0) {asked named : L} (front : List ℕ) (old new : K × Given) (r : Result (Unit {0}) ReportFault)
    → asked ≡ named → WritesReport k (λ s. Is s named) front old new r → WritesReport k (λ s. Is s asked) front old new r
reported_as k Is front old new r is has = subst (λ it. WritesReport k (λ s. Is s it) front old new r) (sym is) has
