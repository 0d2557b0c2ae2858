-- Whether bytes begin with the head of a request: each piece of its grammar is found, or isn't there.
use Rattle.std.proofs.Common.{◌≡◌, ◌⊎◌, ℕ, zero, suc, ◌+◌, ◌<◌, ◌≤◌, Bool, true, false, inl, inr, List, [], ◌∷◌, ◌++◌, length, take, refl, sym, ap, subst, ◌∙◌, arith, append_assoc, append-nil, length-append, IsUtf8}
use Rattle.std.proofs.lemmas.Bool.{cases_Bool, cases_eq, cases_lt, false≢true}
use Rattle.std.proofs.lemmas.List.Elements.{All-nil, All-cons}
use Rattle.std.proofs.lemmas.Str.{IsUtf8-from_is_utf8, is_utf8-from_IsUtf8}
use Rattle.std.specs.List.{flat_map}
use Rattle.std.specs.Str.{is_utf8}
use Rattle.httparse.specs.Grammar.{is_token_byte, is_uri_byte, is_value_byte, AllPass, LineEnd, crlf, lf, print_end, print_blank, print_version, Field, print_field, IsField, RequestHead, ReadsRequest}
use Rattle.httparse.specs.Pieces.{Piece, Begins, Then, Stops, is_newline, Bytes, Newline, Blank, Word, Method, Target, Version, Text, FieldLine, Section, RequestStart}
use Rattle.httparse.proofs.RunLemmas.{run_unique, run_unstopped}
use Rattle.httparse.proofs.PieceLemmas.{IsDeterministic, Newline_deterministic, Blank_deterministic, Word_deterministic, Method_deterministic, Target_deterministic, Version_deterministic, Name_deterministic, RequestStart_deterministic, space_ends_token, colon_ends_token, Stops_value, print_field-append, FieldLine_parts, Section_skip, Section_line}
use Rattle.httparse.proofs.GrammarLemmas.{request_tree, request_head, request_pieces, request_from_pieces, request_unique}

abbrev pub Decided : Type 0 → Type 0
Decided P = P ⊎ (P → ⊥)

either_way : {P Q : Type 0} → (P → Q) → (Q → P) → Decided P → Decided Q
either_way to from (inl p) = inl (to p)
either_way to from (inr none) = inr (λ q. none (from q))

-- each text begins with the piece, or it doesn't
abbrev Decides : {A : Type 0} → Piece A → Type 0
Decides G = (text : List ℕ) → Decided (Begins G text)

then_found : {A B : Type 0} {G : Piece A} {H : Piece B} → IsDeterministic G → Decides G → Decides H → Decides (Then G H)
then_found {A} {B} {G} {H} det first second text = begun (first text)
  where
    after : (a : A) (m : List ℕ) → G a text m → Decided (Begins H m) → Decided (Begins (Then G H) text)
    after a m read (inl (b, r, more)) = inl ((a, b), r, (m, read, more))
    after a m read (inr none) = inr (λ h.
        let same = det.unique _ a text _ _ h.2.1 read in
        none (h.0.1, h.1, subst (λ (n : List ℕ). H h.0.1 n h.1) same.1 h.2.2))

    begun : Decided (Begins G text) → Decided (Begins (Then G H) text)
    begun (inl (a, m, read)) = after a m read (second m)
    begun (inr none) = inr (λ h. none (h.0.0, h.2.0, h.2.1))

-- a piece that is tested further
where_found : {A : Type 0} {G : Piece A} (P : A → Type 0) → IsDeterministic G → Decides G → ((a : A) → Decided (P a)) → Decides (λ a text rest. G a text rest × P a)
where_found {A} {G} P det first each text = begun (first text)
  where
    after : (a : A) (m : List ℕ) → G a text m → Decided (P a) → Decided (Begins (λ a text rest. G a text rest × P a) text)
    after a m read (inl is) = inl (a, m, (read, is))
    after a m read (inr none) = inr (λ h. none (subst P (det.unique _ a text _ _ h.2.0 read).0 h.2.1))

    begun : Decided (Begins G text) → Decided (Begins (λ a text rest. G a text rest × P a) text)
    begun (inl (a, m, read)) = after a m read (each a)
    begun (inr none) = inr (λ h. none (h.0, h.1, h.2.0))

bytes_found : (bytes : List ℕ) → Decides (Bytes bytes)
bytes_found [] text = inl (tt, text, refl)
bytes_found (b ∷ bytes) [] = inr (λ h. let e : ◌≡◌ {A = List ℕ} [] (b ∷ (bytes ++ h.1)) = h.2 in cc)
bytes_found (b ∷ bytes) (c ∷ text) = first (bytes_found bytes text) (cases_eq c b)
  where
    first : Decided (Begins (Bytes bytes) text) → (c ≡ b) ⊎ (c ≡ b → ⊥) → Decided (Begins (Bytes (b ∷ bytes)) (c ∷ text))
    first more (inl same) = either_way
        (λ h. (tt, h.1, let e : text ≡ bytes ++ h.1 = h.2 in cc))
        (λ h. (tt, h.1, let e : c ∷ text ≡ b ∷ (bytes ++ h.1) = h.2 in cc)) more
    first more (inr other) = inr (λ h. let e : c ∷ text ≡ b ∷ (bytes ++ h.1) = h.2 in other cc)

newline_found : Decides Newline
newline_found text = found (bytes_found (print_end crlf) text) (bytes_found (print_end lf) text)
  where
    none : (Begins (Bytes (print_end crlf)) text → ⊥) → (Begins (Bytes (print_end lf)) text → ⊥) → (end : LineEnd) (rest : List ℕ) → Newline end text rest → ⊥
    none two one crlf rest is = two (tt, rest, is)
    none two one lf rest is = one (tt, rest, is)

    found : Decided (Begins (Bytes (print_end crlf)) text) → Decided (Begins (Bytes (print_end lf)) text) → Decided (Begins Newline text)
    found (inl h) one = inl (crlf, h.1, h.2)
    found (inr two) (inl h) = inl (lf, h.1, h.2)
    found (inr two) (inr one) = inr (λ h. none two one h.0 h.1 h.2)

-- empty lines
not_stopped : (c : ℕ) (text : List ℕ) → is_newline c ≡ true → (rest : List ℕ) → c ∷ text ≡ rest → Stops is_newline rest → ⊥
not_stopped c text is rest same stops = let isnt : is_newline c ≡ false = subst (Stops is_newline) (sym same) stops in false≢true (sym isnt ∙ is)

no_blank : (ends : List LineEnd) (rest : List ℕ) → Blank ends [] rest → ⊥
no_blank [] rest (is, stops) = subst (Stops is_newline) (sym is) stops
no_blank (crlf ∷ ends) rest (is, stops) = cc
no_blank (lf ∷ ends) rest (is, stops) = cc

next_blank : (end : LineEnd) (c : ℕ) (text m : List ℕ) → is_newline c ≡ true → Newline end (c ∷ text) m → Decided (Begins Blank m) → Decided (Begins Blank (c ∷ text))
next_blank end c text m is line (inl (ends, rest, (same, stops))) =
    inl (end ∷ ends, rest, (line ∙ ap (λ (t : List ℕ). print_end end ++ t) same ∙ sym (append_assoc (print_end end) (print_blank ends) rest), stops))
next_blank end c text m is line (inr none) = inr (λ h. refuted h.0 h.1 h.2)
  where
    refuted : (ends : List LineEnd) (rest : List ℕ) → Blank ends (c ∷ text) rest → ⊥
    refuted [] rest (same, stops) = not_stopped c text is rest same stops
    refuted (x ∷ ends) rest (same, stops) =
        let one = Newline_deterministic.unique end x (c ∷ text) m (print_blank ends ++ rest) line (same ∙ append_assoc (print_end x) (print_blank ends) rest) in
        none (ends, rest, (one.1, stops))

shorter : (text front rest : List ℕ) → text ≡ front ++ rest → length text ≡ length front + length rest
shorter text front rest is = ap length is ∙ length-append front rest

end_is : (end : LineEnd) → 1 ≤ length (print_end end)
end_is crlf = omega arith
end_is lf = omega arith

blank_by : (n : ℕ) (text : List ℕ) → length text ≤ n → Decided (Begins Blank text)
blank_by n [] few = inr (λ h. no_blank h.0 h.1 h.2)
blank_by zero (c ∷ text) few = absurd (omega (arith, few))
blank_by (suc n) (c ∷ text) few = first (blank_by n) (cases_Bool (is_newline c))
  where
    none_here : (Begins Newline (c ∷ text) → ⊥) → is_newline c ≡ true → (ends : List LineEnd) (rest : List ℕ) → Blank ends (c ∷ text) rest → ⊥
    none_here none is [] rest (same, stops) = not_stopped c text is rest same stops
    none_here none is (x ∷ ends) rest (same, stops) = none (x, print_blank ends ++ rest, same ∙ append_assoc (print_end x) (print_blank ends) rest)

    line : ((text : List ℕ) → length text ≤ n → Decided (Begins Blank text)) → is_newline c ≡ true → Decided (Begins Newline (c ∷ text)) → Decided (Begins Blank (c ∷ text))
    line more is (inl (end, m, e)) = next_blank end c text m is e (more m (omega (arith, few, shorter (c ∷ text) (print_end end) m e, end_is end)))
    line more is (inr none) = inr (λ h. none_here none is h.0 h.1 h.2)

    first : ((text : List ℕ) → length text ≤ n → Decided (Begins Blank text)) → (is_newline c ≡ true) ⊎ (is_newline c ≡ false) → Decided (Begins Blank (c ∷ text))
    first more (inl is) = line more is (newline_found (c ∷ text))
    first more (inr isnt) = inl ([], c ∷ text, (refl, isnt))

blank_found : Decides Blank
blank_found text = blank_by (length text) text (omega arith)

-- the longest run of bytes that pass
record Spanned (test : ℕ → Bool) (text : List ℕ) : Type 0 where
  pub run : List ℕ
  pub rest : List ℕ
  pub pass : AllPass test run
  pub is : text ≡ run ++ rest
  pub stops : (rest ≡ []) ⊎ Stops test rest

span : (test : ℕ → Bool) (text : List ℕ) → Spanned test text
span test [] = record { run = []; rest = []; pass = All-nil (λ b. test b ≡ true); is = refl; stops = inl refl }
span test (c ∷ text) = first (span test text) (cases_Bool (test c))
  where
    first : Spanned test text → (test c ≡ true) ⊎ (test c ≡ false) → Spanned test (c ∷ text)
    first more (inl passes) =
        record { run = c ∷ more.run; rest = more.rest; pass = All-cons (λ b. test b ≡ true) c more.run passes more.pass; is = ap (λ (t : List ℕ). c ∷ t) more.is; stops = more.stops }
    first more (inr fails) = record { run = []; rest = c ∷ text; pass = All-nil (λ b. test b ≡ true); is = refl; stops = inr fails }

span_unique : (test : ℕ → Bool) (text : List ℕ) (s : Spanned test text) (word r : List ℕ) → AllPass test word → Stops test r → text ≡ word ++ r → (s.run ≡ word) × (s.rest ≡ r)
span_unique test text s word r pass stop is = by s.stops
  where
    by : (s.rest ≡ []) ⊎ Stops test s.rest → (s.run ≡ word) × (s.rest ≡ r)
    by (inl none) =
        let whole : s.run ≡ word ++ r = sym (s.is ∙ ap (λ (t : List ℕ). s.run ++ t) none ∙ append-nil s.run) ∙ is in
        absurd (run_unstopped test word r (subst (AllPass test) whole s.pass) stop)
    by (inr stops) = run_unique test s.run word s.rest r s.pass pass stops stop (sym s.is ∙ is)

word_found : (test : ℕ → Bool) (stop : ℕ) → test stop ≡ false → Decides (Word test stop)
word_found test stop fails text = at (span test text)
  where
    at : Spanned test text → Decided (Begins (Word test stop) text)
    at s = ends s.rest refl (cases_lt 0 (length s.run))
      where
        none : (r : List ℕ) → s.rest ≡ r → ((rest : List ℕ) → r ≡ stop ∷ rest → ⊥) → Begins (Word test stop) text → ⊥
        none r same other h = other h.1 (sym same ∙ (span_unique test text s h.0 (stop ∷ h.1) h.2.1 fails h.2.2).1)

        stopped : (c : ℕ) (r : List ℕ) → s.rest ≡ c ∷ r → 0 < length s.run → (c ≡ stop) ⊎ (c ≡ stop → ⊥) → Decided (Begins (Word test stop) text)
        stopped c r same some (inl is) = inl (s.run, r, (some, s.pass, s.is ∙ ap (λ (t : List ℕ). s.run ++ t) (same ∙ ap (λ (b : ℕ). b ∷ r) is)))
        stopped c r same some (inr isnt) = inr (none (c ∷ r) same (λ rest e. isnt cc))

        ends : (r : List ℕ) → s.rest ≡ r → (0 < length s.run) ⊎ (length s.run ≤ 0) → Decided (Begins (Word test stop) text)
        ends [] same _ = inr (none [] same (λ rest e. cc))
        ends (c ∷ r) same (inl some) = stopped c r same some (cases_eq c stop)
        ends (c ∷ r) same (inr empty) =
            inr (λ h. let word = (span_unique test text s h.0 (stop ∷ h.1) h.2.1 fails h.2.2).0 in let some = h.2.0 in omega (arith, some, empty, ap length word))

utf8_found : (bytes : List ℕ) → Decided (IsUtf8 bytes)
utf8_found bytes = by (cases_Bool (is_utf8 bytes))
  where
    by : (is_utf8 bytes ≡ true) ⊎ (is_utf8 bytes ≡ false) → Decided (IsUtf8 bytes)
    by (inl is) = inl (IsUtf8-from_is_utf8 bytes is)
    by (inr isnt) = inr (λ it. false≢true (sym isnt ∙ is_utf8-from_IsUtf8 bytes it))

method_found : Decides Method
method_found = word_found is_token_byte 32 space_ends_token

target_found : Decides Target
target_found = where_found IsUtf8 (Word_deterministic is_uri_byte 32 refl) (word_found is_uri_byte 32 refl) utf8_found

version_found : Decides Version
version_found text = found (bytes_found (print_version 0) text) (bytes_found (print_version 1) text)
  where
    none : (Begins (Bytes (print_version 0)) text → ⊥) → (Begins (Bytes (print_version 1)) text → ⊥) → (minor : ℕ) (rest : List ℕ) → Version minor text rest → ⊥
    none old new zero rest (low, is) = old (tt, rest, is)
    none old new (suc zero) rest (low, is) = new (tt, rest, is)
    none old new (suc (suc n)) rest (low, is) = omega (arith, low)

    found : Decided (Begins (Bytes (print_version 0)) text) → Decided (Begins (Bytes (print_version 1)) text) → Decided (Begins Version text)
    found (inl h) new = inl (0, h.1, (omega arith, h.2))
    found (inr old) (inl h) = inl (1, h.1, (omega arith, h.2))
    found (inr old) (inr new) = inr (λ h. none old new h.0 h.1 h.2)

text_found : Decides Text
text_found text = at (span is_value_byte text)
  where
    at : Spanned is_value_byte text → Decided (Begins Text text)
    at s = ends (newline_found s.rest)
      where
        ends : Decided (Begins Newline s.rest) → Decided (Begins Text text)
        ends (inl (end, rest, e)) = inl ((s.run, end), rest, (s.pass, s.is ∙ ap (λ (t : List ℕ). s.run ++ t) e))
        ends (inr none) = inr (λ h. none (h.0.1, h.1, (span_unique is_value_byte text s h.0.0 (print_end h.0.1 ++ h.1) h.2.0 (Stops_value h.0.1 h.1) h.2.1).1))

field_found : Decides FieldLine
field_found text = either_way
    (λ h. let f : Field = record { name = h.0.0; raw = h.0.1.0; end = h.0.1.1 } in (
      f,
      h.1,
      (
        record { name = (h.2.1.0, h.2.1.1); raw = h.2.2.0 },
        h.2.1.2 ∙ ap (λ (m : List ℕ). f.name ++ 58 ∷ m) h.2.2.1 ∙ sym (print_field-append f h.1),
      ),
    ))
    (λ h. ((h.0.name, (h.0.raw, h.0.end)), h.1, FieldLine_parts h.0 text h.1 h.2))
    (then_found Name_deterministic (word_found is_token_byte 58 colon_ends_token) text_found text)

-- field lines, and the empty line behind them
field_is : (f : Field) (rest : List ℕ) → 1 ≤ length (print_field f)
field_is f rest =
    let after : List ℕ = f.raw ++ (print_end f.end ++ rest) in
    let e : length (print_field f ++ rest) ≡ length (f.name ++ 58 ∷ after) = ap length (print_field-append f rest) in
    let front : length (print_field f ++ rest) ≡ length (print_field f) + length rest = length-append (print_field f) rest in
    let name : length (f.name ++ 58 ∷ after) ≡ length f.name + length (58 ∷ after) = length-append f.name (58 ∷ after) in
    let raw : length after ≡ length f.raw + length (print_end f.end ++ rest) = length-append f.raw (print_end f.end ++ rest) in
    omega (arith, e, front, name, raw, length-append (print_end f.end) rest)

module _ (text m : List ℕ) (f : Field) (line : FieldLine f text m) where
  next_field : Decided (Begins Section m) → Decided (Begins Section text)
  next_field (inl ((fs, last), rest, (all, is))) = inl (
    (f ∷ fs, last),
    rest,
    (
      All-cons IsField f fs line.0 all,
      line.1 ∙ ap (λ (t : List ℕ). print_field f ++ t) is ∙ sym (append_assoc (print_field f) (flat_map print_field fs ++ print_end last) rest)
          ∙ ap (λ (t : List ℕ). t ++ rest) (sym (append_assoc (print_field f) (flat_map print_field fs) (print_end last))),
    ),
  )
  next_field (inr none) = inr (λ h.
      let skipped = Section_skip (f ∷ []) h.0.0 h.0.1 text m h.1 (All-cons IsField f [] line.0 (All-nil IsField), line.1 ∙ ap (λ (t : List ℕ). t ++ m) (sym (append-nil (print_field f)))) h.2 in
      none ((skipped.0, h.0.1), h.1, skipped.2))

first_line : (text : List ℕ) → Decided (Begins Newline text) → Decided (Begins FieldLine text) → ((m : List ℕ) → length m < length text → Decided (Begins Section m)) → Decided (Begins Section text)
first_line text (inl (end, rest, e)) field more = inl (([], end), rest, (All-nil IsField, e))
first_line text (inr empty) (inr none) more = inr (λ h. elim (Section_line h.0 text h.1 h.2) [ inl end ↦ empty end | inr field ↦ none field ])
first_line text (inr empty) (inl (f, m, line)) more = next_field text m f line (more m (omega (arith, shorter text (print_field f) m line.1, field_is f m)))

section_by : (n : ℕ) (text : List ℕ) → length text ≤ n → Decided (Begins Section text)
section_by zero text few = first_line text (newline_found text) (field_found text) (λ m less. absurd (omega (arith, few, less)))
section_by (suc n) text few = first_line text (newline_found text) (field_found text) (λ m less. section_by n m (omega (arith, few, less)))

request_found : Decides (Then RequestStart Section)
request_found = then_found RequestStart_deterministic
    (then_found Blank_deterministic blank_found
    (then_found Method_deterministic method_found
    (then_found Target_deterministic target_found
    (then_found Version_deterministic version_found newline_found)))) (λ text. section_by (length text) text (omega arith))

-- the first `room` bytes begin with a head of at most `most` fields, or with none
pub head_found : (room most : ℕ) (bytes : List ℕ) → Decided ((h : RequestHead) × (((rest : List ℕ) × ReadsRequest (take room bytes) h rest) × (length h.fields ≤ most)))
head_found room most bytes = begun (request_found (take room bytes))
  where
    fits : (h : RequestHead) (rest : List ℕ) → ReadsRequest (take room bytes) h rest → (most < length h.fields) ⊎ (length h.fields ≤ most)
        → Decided ((h : RequestHead) × (((rest : List ℕ) × ReadsRequest (take room bytes) h rest) × (length h.fields ≤ most)))
    fits h rest reads (inl many) = inr (λ other.
        let same = (request_unique (take room bytes) other.0 h other.1.0.0 rest other.1.0.1 reads).0 in
        let few = other.1.1 in omega (arith, many, few, ap (λ (k : RequestHead). length k.fields) same))
    fits h rest reads (inr few) = inl (h, ((rest, reads), few))

    begun : Decided (Begins (Then RequestStart Section) (take room bytes))
        → Decided ((h : RequestHead) × (((rest : List ℕ) × ReadsRequest (take room bytes) h rest) × (length h.fields ≤ most)))
    begun (inl (t, rest, x)) = let reads = request_from_pieces (take room bytes) t rest x in fits (request_head t) rest reads (cases_lt most (length (request_head t).fields))
    begun (inr none) = inr (λ h. none (request_tree h.0, h.1.0.0, request_pieces (take room bytes) h.0 h.1.0.0 h.1.0.1))
