-- How a report ends whose rows are known by what they are.
use Rattle.reports.proofs.Common.{ActFault, Ends, Err, Given, HandedOut, HasEnded, HasEndedBy, HasEndedEach, HaveGone, IfErr, IsBegun, IsReadersFault, List, None, Ok, OnErr, OnOk, Progress, ReportCause, ReportFault, Result, Sent, Some, [], ap, inl, inr, length, length-take-le, subst, sym, take, ℕ, ◌++◌, ◌+◌, ◌≡◌}
use Rattle.reports.proofs.Pieces.{pieces_of, whole_text}
use Rattle.reports.specs.declared.report.ReportCause.TheVariants as cause
use Rattle.reports.proofs.Telling.{Handed, start_whole, handed, unfinished, Took, SameName, reported}

have_gone : (text : List ℕ) (n : ℕ) (old new : Given) → Sent old new text n → HaveGone n old new
have_gone text n old new sent = (take n text, length-take-le n text sent.0, sent.1)

pub of_one : (Open May : Type 0) (Is : List ℕ → Type 0) (front text : List ℕ) (old new : Given) (r : Result (Unit {0}) ReportFault) → Is text → HasEnded Open May (front ++ text) old new r → HasEndedBy Open May Is front old new r
of_one Open May Is front text old new (Ok x) is h = (text, is, h)
of_one Open May Is front text old new (Err e) is h = (inl (text, is, h.0), have_gone (front ++ text) e.sent old new h.0.0, h.0.1, h.1)

fault_of : (start : Given) (text : List ℕ) (n : ℕ) (p q : Progress) (e : ActFault) (r : Result (Unit {0}) ReportFault)
    → ((why : ReportCause) → p.cause ≡ Some why → (r ≡ Err (record { sent = p.sent; cause = why })) × (q ≡ p))
    → (p.cause ≡ None → (r ≡ Err (record { sent = p.sent; cause = cause.Act e })) × (q ≡ p))
    → Handed start text n p → (f : ReportFault) × (r ≡ Err f)
fault_of start text n p q e r cut unread (inl w) = (_, (unread w.cause).0)
fault_of start text n p q e r cut unread (inr c) = (_, (cut c.why c.cause).0)

-- Rows of a report, each with its line; `AreRows` says which they are.
module _ {S N Row : Type 0} (P : S → Progress) (piece : ℕ → Row → List ℕ) (end : ℕ → List ℕ) (name : S → N) (AreRows : List Row → Type 0) where
  -- the report's text
  abbrev pub IsText : List ℕ → Type 0
  IsText text = (rows : List Row) × AreRows rows × (text ≡ whole_text piece end rows)

  abbrev Hands : List Row → S → S → Type 0
  Hands rows old new = HandedOut (Took P piece (SameName P piece name)) rows old new

  pub reported_by : (read : Result (Unit {0}) ActFault) (r : Result (Unit {0}) ReportFault) (Open May : Type 0) (old mid new : S)
      → (P old).rows ≡ 0 → (P old).sent ≡ 0 → (P old).cause ≡ None
      → ((rows : List Row) × Hands rows old mid)
      → OnOk read ((rows : List Row) × AreRows rows × Hands rows old mid)
      → OnErr read ((rows : List Row) → AreRows rows → (n : ℕ) × Hands (take n rows) old mid)
      → (Open → IfErr read (IsReadersFault May))
      → ((why : ReportCause) → (P mid).cause ≡ Some why → (r ≡ Err (record { sent = (P mid).sent; cause = why })) × (new ≡ mid))
      → ((P mid).cause ≡ None → IfErr read (λ e. (r ≡ Err (record { sent = (P mid).sent; cause = cause.Act e })) × (new ≡ mid)))
      → ((P mid).cause ≡ None → OnOk read (Ends end (P mid) (P new) r))
      → HasEndedBy Open May IsText (P old).waiting (P old).given (P new).given r
  reported_by (Ok x) r Open May old mid new no_rows none_sent no_cause took (rows, are, all) part fault cut unread ends =
      let done = reported P piece name end (Ok x) r Open May rows old mid new no_rows none_sent no_cause all tt fault cut unread ends in
      of_one Open May IsText (P old).waiting (whole_text piece end rows) (P old).given (P new).given r (rows, are, λ _. whole_text piece end rows) done
  reported_by (Err e) r Open May old mid new no_rows none_sent no_cause took all part fault cut unread ends =
      let front : List ℕ = (P old).waiting in
      let start = start_whole (P old) no_rows none_sent no_cause in
      let told = handed P piece (SameName P piece name) took.0 (P old).given front 0 old mid took.1 start in
      let cut_p : (why : ReportCause) → (P mid).cause ≡ Some why → (r ≡ Err (record { sent = (P mid).sent; cause = why })) × (P new ≡ P mid) = λ why is. ((cut why is).0, ap P (cut why is).1) in
      let unread_p : (P mid).cause ≡ None → (r ≡ Err (record { sent = (P mid).sent; cause = cause.Act e })) × (P new ≡ P mid) = λ none. ((unread none).0, ap P (unread none).1) in
      let failed = fault_of (P old).given (front ++ pieces_of piece 0 took.0) (0 + length took.0) (P mid) (P new) e r cut_p unread_p told in
      let any = unfinished (P old).given (front ++ pieces_of piece 0 took.0) (0 + length took.0) (P mid) (P new) Open May end e [] r cut_p unread_p fault told in
      let any_f = subst (HasEnded Open May ((front ++ pieces_of piece 0 took.0) ++ []) (P old).given (P new).given) failed.1 any in
      let each : (text : List ℕ) → IsText text → IsBegun (front ++ text) failed.0 (P old).given (P new).given =
      λ text is.
      let done = reported P piece name end (Err e) r Open May is.0 old mid new no_rows none_sent no_cause tt (part is.0 is.1) fault cut unread ends in
      let now = subst (λ t. HasEnded Open May (front ++ t) (P old).given (P new).given r) (sym is.2) done in
      (subst (HasEnded Open May (front ++ text) (P old).given (P new).given) failed.1 now).0 in
      subst (HasEndedBy Open May IsText front (P old).given (P new).given) (sym failed.1) (inr each, have_gone _ failed.0.sent (P old).given (P new).given any_f.0.0, any_f.0.1, any_f.1)

  -- There is one such list. Then the rows were those of any.
  abbrev pub IsOneList : Type 0
  IsOneList = (xs ys : List Row) → AreRows xs → AreRows ys → xs ≡ ys

  all_of : IsOneList → (read : Result (Unit {0}) ActFault) (old mid : S) (rows : List Row) → AreRows rows
      → OnOk read ((rows : List Row) × AreRows rows × Hands rows old mid) → OnOk read (Hands rows old mid)
  all_of one (Ok x) old mid rows are (these, are_too, all) = subst (λ (l : List Row). Hands l old mid) (one these rows are_too are) all
  all_of one (Err e) old mid rows are all = tt

  part_of : (read : Result (Unit {0}) ActFault) (old mid : S) (rows : List Row) → AreRows rows
      → OnErr read ((rows : List Row) → AreRows rows → (n : ℕ) × Hands (take n rows) old mid) → OnErr read ((n : ℕ) × Hands (take n rows) old mid)
  part_of (Ok x) old mid rows are part = tt
  part_of (Err e) old mid rows are part = part rows are

  pub reported_each : IsOneList → (read : Result (Unit {0}) ActFault) (r : Result (Unit {0}) ReportFault) (Open May : Type 0) (old mid new : S)
      → (P old).rows ≡ 0 → (P old).sent ≡ 0 → (P old).cause ≡ None
      → OnOk read ((rows : List Row) × AreRows rows × Hands rows old mid)
      → OnErr read ((rows : List Row) → AreRows rows → (n : ℕ) × Hands (take n rows) old mid)
      → (Open → IfErr read (IsReadersFault May))
      → ((why : ReportCause) → (P mid).cause ≡ Some why → (r ≡ Err (record { sent = (P mid).sent; cause = why })) × (new ≡ mid))
      → ((P mid).cause ≡ None → IfErr read (λ e. (r ≡ Err (record { sent = (P mid).sent; cause = cause.Act e })) × (new ≡ mid)))
      → ((P mid).cause ≡ None → OnOk read (Ends end (P mid) (P new) r))
      → HasEndedEach Open May IsText (P old).waiting (P old).given (P new).given r
  reported_each one read r Open May old mid new no_rows none_sent no_cause all part fault cut unread ends = record {
    text = λ text is.
        subst (λ t. HasEnded Open May ((P old).waiting ++ t) (P old).given (P new).given r) (sym is.2)
        (reported P piece name end read r Open May is.0 old mid new no_rows none_sent no_cause (all_of one read old mid is.0 is.1 all) (part_of read old mid is.0 is.1 part) fault cut unread ends);
  }
