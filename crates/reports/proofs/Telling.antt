-- What goes out while rows are taken.
use Rattle.std.proofs.Common.{arith, ◌≡◌, ◌∙◌, ap, sym, refl, subst, ◌⊎◌, inl, inr, ℕ, ◌+◌, ◌≤◌, Bool, true, false, Some, None, Result, Ok, Err, List, [], ◌∷◌, ◌++◌, length, take, drop, append_assoc, length-append, OnOk, OnErr, IfErr}
use Rattle.std.proofs.Math.Seq.{take-append-add, take-append_seam}
use Rattle.reports.proofs.Common.{ActFault, Ends, Given, HandedOut, HasEnded, HasGone, HasStuck, HasTold, IsBegun, IsCause, IsReadersFault, IsWhy, Progress, ReportCause, ReportFault, Takes, Waits, take-append-drop, take-append-le}
use Rattle.reports.proofs.Pieces.{pieces_of, whole_text}
use Rattle.reports.specs.declared.report.ReportCause.TheVariants as cause
use Rattle.station_core.specs.declared.answer.ActFault.TheVariants as act

-- all of the text went out, but for what waits
pub record IsWhole (start : Given) (text : List ℕ) (rows : ℕ) (p : Progress) : Type 0 where
  pub out : List ℕ
  pub bytes : p.given.bytes ≡ start.bytes ++ out
  pub whole : out ++ p.waiting ≡ text
  pub sent : p.sent ≡ length out
  pub failures : p.given.failures ≡ start.failures
  pub idle : p.given.idle ≡ start.idle
  pub rows_are : p.rows ≡ rows
  pub cause : p.cause ≡ None

-- a beginning of it went out
pub record IsCut (start : Given) (text : List ℕ) (p : Progress) : Type 0 where
  pub why : ReportCause
  pub cause : p.cause ≡ Some why
  pub fault : IsCause ⊥ why
  pub begun : IsBegun text (record { sent = p.sent; cause = why }) start p.given

append_nil : (xs : List ℕ) → xs ++ [] ≡ xs
append_nil [] = refl
append_nil (x ∷ xs) = ap (λ ys. x ∷ ys) (append_nil xs)

take_front : (n : ℕ) (xs ys : List ℕ) → n ≤ length xs → take n (xs ++ ys) ≡ take n xs
take_front n xs ys le = take-append-le n xs ys le

-- a beginning of a text is one of a longer text
pub longer : (text more : List ℕ) (e : ReportFault) (start now : Given) → IsBegun text e start now → IsBegun (text ++ more) e start now
longer text more e start now (sent, told) =
    let fits : e.sent ≤ length (text ++ more) = omega (arith, sent.0, length-append text more) in
    ((fits, sent.1 ∙ ap (λ t. start.bytes ++ t) (sym (take_front e.sent text more sent.0))), told)

told_since : (why : ReportCause) (start old new : Given) → old.failures ≡ start.failures → old.idle ≡ start.idle → IsWhy why old new → HasTold why start new
told_since cause.Write start old new failures idle (inl (failed, same)) = inl (omega (arith, failed, failures))
told_since cause.Write start old new failures idle (inr (same, none)) = inr (omega (arith, none, idle))
told_since (cause.Act e) start old new failures idle (memory, same) = (ap (λ (g : Given). g.failures) same ∙ failures, ap (λ (g : Given). g.idle) same ∙ idle)

why_cause : (why : ReportCause) (old new : Given) → IsWhy why old new → IsCause ⊥ why
why_cause cause.Write old new has = tt
why_cause (cause.Act e) old new (memory, same) = subst (IsReadersFault ⊥) (sym memory) tt

-- where no store may fail none has
more_causes : (May : Type 0) (why : ReportCause) → IsCause ⊥ why → IsCause May why
more_causes May cause.Write is = tt
more_causes May (cause.Act act.Memory) is = tt
more_causes May (cause.Act (act.Refused refusal)) is = absurd is
more_causes May (cause.Act act.Store) is = absurd is
more_causes May (cause.Act act.Reopen) is = absurd is

-- a line more
pub gone : (start : Given) (text line : List ℕ) (n : ℕ) (p q : Progress) → IsWhole start text n p → HasGone line p q → q.rows ≡ p.rows + 1 → q.cause ≡ p.cause → IsWhole start (text ++ line) (n + 1) q
gone start text line n p q w g rows same =
    let all : (w.out ++ (p.waiting ++ line)) ≡ text ++ line = sym (append_assoc w.out p.waiting line) ∙ ap (λ t. t ++ line) w.whole in
    record {
      out = text ++ line;
      bytes = g.bytes ∙ ap (λ t. t ++ (p.waiting ++ line)) w.bytes ∙ append_assoc start.bytes w.out (p.waiting ++ line) ∙ ap (λ t. start.bytes ++ t) all;
      whole = ap (λ t. (text ++ line) ++ t) g.waiting ∙ append_nil (text ++ line);
      sent = g.sent ∙ ap (λ k. k + length (p.waiting ++ line)) w.sent ∙ sym (length-append w.out (p.waiting ++ line)) ∙ ap length all;
      failures = g.failures ∙ w.failures;
      idle = g.idle ∙ w.idle;
      rows_are = rows ∙ ap (λ k. k + 1) w.rows_are;
      cause = same ∙ w.cause;
    }

-- a line that waits
pub waits : (start : Given) (text line : List ℕ) (n : ℕ) (p q : Progress) → IsWhole start text n p → Waits line p q → q.rows ≡ p.rows + 1 → q.cause ≡ p.cause → IsWhole start (text ++ line) (n + 1) q
waits start text line n p q w g rows same = record {
  out = w.out;
  bytes = ap (λ (x : Given). x.bytes) g.given ∙ w.bytes;
  whole = ap (λ t. w.out ++ t) g.waiting ∙ sym (append_assoc w.out p.waiting line) ∙ ap (λ t. t ++ line) w.whole;
  sent = g.sent ∙ w.sent;
  failures = ap (λ (x : Given). x.failures) g.given ∙ w.failures;
  idle = ap (λ (x : Given). x.idle) g.given ∙ w.idle;
  rows_are = rows ∙ ap (λ k. k + 1) w.rows_are;
  cause = same ∙ w.cause;
}

added : (start : Given) (text line : List ℕ) (n : ℕ) (p q : Progress) → IsWhole start text n p → Takes line p true q → IsWhole start (text ++ line) (n + 1) q
added start text line n p q w (inl stays, rows, same) = waits start text line n p q w stays rows same
added start text line n p q w (inr went, rows, same) = gone start text line n p q w went rows same

-- a line that got stuck
pub stuck : (start : Given) (text line : List ℕ) (n : ℕ) (why : ReportCause) (p q : Progress) → IsWhole start text n p → HasStuck line why p q → IsBegun (text ++ line) (record { sent = q.sent; cause = why }) start q.given
stuck start text line n why p q w s =
    let all : (w.out ++ (p.waiting ++ line)) ≡ text ++ line = sym (append_assoc w.out p.waiting line) ∙ ap (λ t. t ++ line) w.whole in
    let sent : q.sent ≡ length w.out + s.part = s.sent ∙ ap (λ k. k + s.part) w.sent in
    let fits : q.sent ≤ length (text ++ line) = omega (arith, sent, s.within, ap length all, length-append w.out (p.waiting ++ line)) in (
      (
        fits,
        s.bytes ∙ ap (λ t. t ++ take s.part (p.waiting ++ line)) w.bytes ∙ append_assoc start.bytes w.out (take s.part (p.waiting ++ line))
            ∙ ap (λ t. start.bytes ++ t) (sym (take-append-add w.out (p.waiting ++ line) s.part) ∙ ap (λ t. take (length w.out + s.part) t) all ∙ ap (λ k. take k (text ++ line)) (sym sent)),
      ),
      told_since why start p.given q.given w.failures w.idle s.cause,
    )

-- what was handed out so far went out whole, or was cut
abbrev pub Handed : Given → List ℕ → ℕ → Progress → Type 0
Handed start text rows p = IsWhole start text rows p ⊎ IsCut start text p

none_more : (n : ℕ) → n ≡ n + 0
none_more n = omega arith

one_more : {A : Type 0} (n : ℕ) (x : A) (xs : List A) → (n + 1) + length xs ≡ n + length (x ∷ xs)
one_more n x xs = omega arith

-- pieces of rows behind one another
pieces_append : {Row : Type 0} (piece : ℕ → Row → List ℕ) (n : ℕ) (xs ys : List Row) → pieces_of piece n (xs ++ ys) ≡ pieces_of piece n xs ++ pieces_of piece (n + length xs) ys
pieces_append piece n [] ys = ap (λ k. pieces_of piece k ys) (none_more n)
pieces_append piece n (x ∷ xs) ys =
    ap (λ t. piece n x ++ t) (pieces_append piece (n + 1) xs ys) ∙ sym (append_assoc (piece n x) (pieces_of piece (n + 1) xs) (pieces_of piece ((n + 1) + length xs) ys))
    ∙ ap (λ k. (piece n x ++ pieces_of piece (n + 1) xs) ++ pieces_of piece k ys) (one_more n x xs)

module _ {S Row : Type 0} (P : S → Progress) (piece : ℕ → Row → List ℕ) (same : S → S → Type 0) where
  abbrev pub Took : S → Row → Bool → S → Type 0
  Took old row go new = same old new × Takes (piece (P old).rows row) (P old) go (P new)

  pub handed : (rows : List Row) (start : Given) (text : List ℕ) (n : ℕ) (old new : S) → HandedOut Took rows old new → IsWhole start text n (P old) → Handed start (text ++ pieces_of piece n rows) (n + length rows) (P new)
  handed [] start text n old new h w =
      let same_text = sym (append_nil text) in
      inl (subst (λ (s : S). IsWhole start (text ++ []) (n + 0) (P s)) (sym h) (subst (λ t. IsWhole start t (n + 0) (P old)) same_text (subst (λ k. IsWhole start text k (P old)) (none_more n) w)))
  handed (row ∷ rows) start text n old new (true, mid, took, more) w =
      let one : Takes (piece n row) (P old) true (P mid) = subst (λ k. Takes (piece k row) (P old) true (P mid)) w.rows_are took.1 in
      let next = added start text (piece n row) n (P old) (P mid) w one in
      let rest = handed rows start (text ++ piece n row) (n + 1) mid new more next in
      subst (λ t. Handed start t (n + length (row ∷ rows)) (P new)) (append_assoc text (piece n row) (pieces_of piece (n + 1) rows))
      (subst (λ k. Handed start ((text ++ piece n row) ++ pieces_of piece (n + 1) rows) k (P new)) (one_more n row rows) rest)
  handed (row ∷ rows) start text n old new (false, mid, took, more) w =
      let one : Takes (piece n row) (P old) false (P mid) = subst (λ k. Takes (piece k row) (P old) false (P mid)) w.rows_are took.1 in
      let why : ReportCause = one.0 in
      let got = one.2 in
      let cut : IsCut start (text ++ pieces_of piece n (row ∷ rows)) (P mid) = record {
        why = why;
        cause = one.1;
        fault = why_cause why (P old).given (P mid).given got.cause;
        begun = subst (λ t. IsBegun t (record { sent = (P mid).sent; cause = why }) start (P mid).given) (append_assoc text (piece n row) (pieces_of piece (n + 1) rows))
            (longer (text ++ piece n row) (pieces_of piece (n + 1) rows) (record { sent = (P mid).sent; cause = why }) start (P mid).given (stuck start text (piece n row) n why (P old) (P mid) w got));
      } in
      inr (subst (λ (s : S). IsCut start (text ++ pieces_of piece n (row ∷ rows)) (P s)) (sym more) cut)

-- nothing went out yet
pub start_whole : (p : Progress) → p.rows ≡ 0 → p.sent ≡ 0 → p.cause ≡ None → IsWhole p.given p.waiting 0 p
start_whole p rows sent none = record { out = []; bytes = sym (append_nil p.given.bytes); whole = refl; sent = sent; failures = refl; idle = refl; rows_are = rows; cause = none }

whole_begun : (start : Given) (text : List ℕ) (n : ℕ) (p : Progress) (e : ActFault) → IsWhole start text n p → IsBegun text (record { sent = p.sent; cause = cause.Act e }) start p.given
whole_begun start text n p e w =
    let fits : p.sent ≤ length text = omega (arith, w.sent, ap length w.whole, length-append w.out p.waiting) in
    let part : w.out ≡ take p.sent text = sym (take-append_seam w.out p.waiting) ∙ ap (λ k. take k (w.out ++ p.waiting)) (sym w.sent) ∙ ap (λ t. take p.sent t) w.whole in
    ((fits, w.bytes ∙ ap (λ t. start.bytes ++ t) part), (w.failures, w.idle))

module _ (start : Given) (text : List ℕ) (n : ℕ) (p q : Progress) (Open May : Type 0) (end : ℕ → List ℕ) where
  whole_ends : (r : Result (Unit {0}) ReportFault) → IsWhole start text n p → Ends end p q r → HasEnded Open May (text ++ end n) start q.given r
  whole_ends (Ok x) w g =
      g.bytes ∙ ap (λ k. p.given.bytes ++ (p.waiting ++ end k)) w.rows_are ∙ ap (λ t. t ++ (p.waiting ++ end n)) w.bytes
      ∙ append_assoc start.bytes w.out (p.waiting ++ end n)
      ∙ ap (λ t. start.bytes ++ t) (sym (append_assoc w.out p.waiting (end n)) ∙ ap (λ t. t ++ end n) w.whole)
  whole_ends (Err e) w s =
      let begun = stuck start text (end p.rows) n e.cause p q w s.0 in
      let sent = subst (λ k. IsBegun (text ++ end p.rows) (record { sent = k; cause = e.cause }) start q.given) (sym s.1) begun in
      (subst (λ k. IsBegun (text ++ end k) e start q.given) w.rows_are sent, λ _. more_causes May e.cause (why_cause e.cause p.given q.given s.0.cause))

  -- a sink that takes no more
  cut_ends : (more : List ℕ) (r : Result (Unit {0}) ReportFault) (c : IsCut start text p) → r ≡ Err (record { sent = p.sent; cause = c.why }) → q ≡ p → HasEnded Open May (text ++ more) start q.given r
  cut_ends more r c told same =
      let begun = longer text more (record { sent = p.sent; cause = c.why }) start p.given c.begun in
      let now = subst (λ (x : Progress). IsBegun (text ++ more) (record { sent = p.sent; cause = c.why }) start x.given) (sym same) begun in
      subst (HasEnded Open May (text ++ more) start q.given) (sym told) (now, λ _. more_causes May c.why c.fault)

  pub finished : (r : Result (Unit {0}) ReportFault)
      → ((why : ReportCause) → p.cause ≡ Some why → (r ≡ Err (record { sent = p.sent; cause = why })) × (q ≡ p))
      → (p.cause ≡ None → Ends end p q r) → Handed start text n p → HasEnded Open May (text ++ end n) start q.given r
  finished r cut ends (inl w) = whole_ends r w (ends w.cause)
  finished r cut ends (inr c) = let told = cut c.why c.cause in cut_ends (end n) r c told.0 told.1

  -- the reader ended before its end
  pub unfinished : (e : ActFault) (more : List ℕ) (r : Result (Unit {0}) ReportFault)
      → ((why : ReportCause) → p.cause ≡ Some why → (r ≡ Err (record { sent = p.sent; cause = why })) × (q ≡ p))
      → (p.cause ≡ None → (r ≡ Err (record { sent = p.sent; cause = cause.Act e })) × (q ≡ p))
      → (Open → IsReadersFault May e) → Handed start text n p → HasEnded Open May (text ++ more) start q.given r
  unfinished e more r cut unread fault (inl w) =
      let told = unread w.cause in
      let begun = longer text more (record { sent = p.sent; cause = cause.Act e }) start p.given (whole_begun start text n p e w) in
      let now = subst (λ (x : Progress). IsBegun (text ++ more) (record { sent = p.sent; cause = cause.Act e }) start x.given) (sym told.1) begun in
      subst (HasEnded Open May (text ++ more) start q.given) (sym told.0) (now, fault)
  unfinished e more r cut unread fault (inr c) = let told = cut c.why c.cause in cut_ends more r c told.0 told.1

zero_more : (n : ℕ) → 0 + n ≡ n
zero_more n = omega arith

-- rows that are known as one list
module _ {S Row : Type 0} (takes : S → Row → Bool → S → Type 0) (these : List Row) (from to : S) where
  pub all_these : (r : Result (Unit {0}) ActFault) → OnOk r ((rows : List Row) × (rows ≡ these) × HandedOut takes rows from to) → OnOk r (HandedOut takes these from to)
  all_these (Ok x) (rows, are, handed) = subst (λ (l : List Row). HandedOut takes l from to) are handed
  all_these (Err e) handed = tt

  pub part_of_these : (r : Result (Unit {0}) ActFault) → OnErr r ((rows : List Row) → rows ≡ these → (n : ℕ) × HandedOut takes (take n rows) from to) → OnErr r ((n : ℕ) × HandedOut takes (take n these) from to)
  part_of_these (Ok x) handed = tt
  part_of_these (Err e) handed = handed these refl

module _ {S Row N : Type 0} (P : S → Progress) (piece : ℕ → Row → List ℕ) (name : S → N) where
  abbrev pub SameName : S → S → Type 0
  SameName old new = name new ≡ name old

  -- the sink keeps its writer
  pub handed_same : (rows : List Row) (old new : S) → HandedOut (Took P piece SameName) rows old new → name new ≡ name old
  handed_same [] old new h = ap name h
  handed_same (row ∷ rows) old new (true, mid, took, more) = handed_same rows mid new more ∙ took.0
  handed_same (row ∷ rows) old new (false, mid, took, more) = ap name more ∙ took.0

  -- how a report ends, by how its rows were handed out and how the sink ended
  pub reported : (end : ℕ → List ℕ) (read : Result (Unit {0}) ActFault) (r : Result (Unit {0}) ReportFault) (Open May : Type 0) (rows : List Row) (old mid new : S)
      → (P old).rows ≡ 0 → (P old).sent ≡ 0 → (P old).cause ≡ None
      → OnOk read (HandedOut (Took P piece SameName) rows old mid) → OnErr read ((n : ℕ) × HandedOut (Took P piece SameName) (take n rows) old mid)
      → (Open → IfErr read (IsReadersFault May))
      → ((why : ReportCause) → (P mid).cause ≡ Some why → (r ≡ Err (record { sent = (P mid).sent; cause = why })) × (new ≡ mid))
      → ((P mid).cause ≡ None → IfErr read (λ e. (r ≡ Err (record { sent = (P mid).sent; cause = cause.Act e })) × (new ≡ mid)))
      → ((P mid).cause ≡ None → OnOk read (Ends end (P mid) (P new) r))
      → HasEnded Open May ((P old).waiting ++ whole_text piece end rows) (P old).given (P new).given r
  reported end (Ok x) r Open May rows old mid new no_rows none_sent no_cause all part fault cut unread ends =
      let start = start_whole (P old) no_rows none_sent no_cause in
      let told = handed P piece SameName rows (P old).given (P old).waiting 0 old mid all start in
      let done = finished (P old).given ((P old).waiting ++ pieces_of piece 0 rows) (0 + length rows) (P mid) (P new) Open May end r
      (λ why is. let told = cut why is in (told.0, ap P told.1)) ends told in
      let counted = subst (λ k. HasEnded Open May (((P old).waiting ++ pieces_of piece 0 rows) ++ end k) (P old).given (P new).given r) (zero_more (length rows)) done in
      subst (λ t. HasEnded Open May t (P old).given (P new).given r) (append_assoc (P old).waiting (pieces_of piece 0 rows) (end (length rows))) counted
  reported end (Err e) r Open May rows old mid new no_rows none_sent no_cause all part fault cut unread ends =
      let n : ℕ = part.0 in
      let front : List ℕ = (P old).waiting in
      let more : List ℕ = pieces_of piece (0 + length (take n rows)) (drop n rows) ++ end (length rows) in
      let start = start_whole (P old) no_rows none_sent no_cause in
      let told = handed P piece SameName (take n rows) (P old).given front 0 old mid part.1 start in
      let done = unfinished (P old).given (front ++ pieces_of piece 0 (take n rows)) (0 + length (take n rows)) (P mid) (P new) Open May end e more r
      (λ why is. let told = cut why is in (told.0, ap P told.1)) (λ none. let told = unread none in (told.0, ap P told.1)) fault told in
      let lines : pieces_of piece 0 (take n rows) ++ pieces_of piece (0 + length (take n rows)) (drop n rows) ≡ pieces_of piece 0 rows = sym (pieces_append piece 0 (take n rows) (drop n rows)) ∙ ap (pieces_of piece 0) (take-append-drop n rows) in
      let whole = append_assoc front (pieces_of piece 0 (take n rows)) more ∙ ap (λ t. front ++ t) (sym (append_assoc (pieces_of piece 0 (take n rows)) (pieces_of piece (0 + length (take n rows)) (drop n rows)) (end (length rows))) ∙ ap (λ t. t ++ end (length rows)) lines) in
      subst (λ t. HasEnded Open May t (P old).given (P new).given r) whole done
