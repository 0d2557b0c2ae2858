-- The normal lines of a telegram, once all of its lines were seen.
use Rattle.imp_fields.proofs.Common.{AreKept, AreSlices, AreSlicesFrom, BeginLines, Bool, Err, IsFaultOf, IsScanned, IsScannedTo, List, MessageKind, None, Ok, Option, Result, Scan, Some, TextFault, Token, Why, [], and_from, and_parts, ap, append-nil, arith, before_last_while, cases_Bool, cases_cond, cases_lt, cond, cond-false, cond-true, drop, drop-drop, drop-take, eqb-true, fault_at, fault_of, first_fault, first_kind, from_line, from_message_line, get_or, get_or-drop, get_or-reverse, inl, inr, is_empty, is_line, is_line_token, is_message_line, is_newline, is_printable, kind_of, last_while, le-leb, le-ltb, length, length-drop, length-map, length-take, line_fault, line_starts, line_without_end, lines_of, list_all, list_all-append, list_all-from_AllPass, list_all-map, lt-ltb, map, nat_lt, normal_lines, not, position, position_or_len, prefix_len_passes, refl, reverse, slice_split, starts_from, subst, suc, suffix_len, suffix_len-le-length, sym, take, take-append-drop, take-map, take-take, take_all, true, unless_fault, zero, ℕ, ◌++◌, ◌+◌, ◌-◌, ◌<◌, ◌∙◌, ◌∷◌, ◌≡◌, ◌≤◌, ◌⊎◌}
use Rattle.imp_fields.specs.declared.fault.Why.TheVariants as why
use Rattle.imp_fields.proofs.FaultLaws.{AllNone, first_fault-none, first_fault-all_none}
use Rattle.imp_fields.proofs.ListLaws.{length-before_last_while, position-some, all_pass, position-append}
use Rattle.imp_fields.proofs.ScanLaws.{pieces_behind}

-- ---- the empty lines at the end

last_while_passes : {X : Type 0} (p : X → Bool) (xs : List X) → list_all p (last_while p xs) ≡ true
last_while_passes {X = X} p xs = list_all-from_AllPass p (last_while p xs) (λ i d lt. passes i d lt)
  where
    passes : (i : ℕ) (d : X) → i < length (last_while p xs) → p (get_or (last_while p xs) i d) ≡ true
    passes i d lt =
        let n = length xs - suffix_len p xs in
        let most = suffix_len-le-length p xs in
        let size : length (last_while p xs) ≡ suffix_len p xs = omega (arith, length-drop n xs, most) in
        let turned : length xs - 1 - (length xs - 1 - (n + i)) ≡ n + i = omega (arith, lt, size, most) in
        let within : length xs - 1 - (n + i) < length xs = omega (arith, lt, size, most) in
        let early : length xs - 1 - (n + i) < suffix_len p xs = omega (arith, lt, size, most) in
        ap p (get_or-drop n xs i d ∙ ap (λ k. get_or xs k d) (sym turned) ∙ sym (get_or-reverse xs (length xs - 1 - (n + i)) d within))
        ∙ prefix_len_passes p (reverse xs) (length xs - 1 - (n + i)) d early

-- the lines of a text, and the empty ones behind them
parted : (lines : List (List ℕ)) → before_last_while is_empty lines ++ last_while is_empty lines ≡ lines
parted lines = take-append-drop (length lines - suffix_len is_empty lines) lines

no_fault : (line : List ℕ) → is_empty line ≡ true → line_fault line ≡ None
no_fault [] e = refl
no_fault (b ∷ line) e = absurd (let none : suc (length line) ≡ 0 = eqb-true _ _ e in omega (arith, none))

faultless : (lines : List (List ℕ)) → list_all is_empty lines ≡ true → AllNone (map line_fault lines)
faultless [] e = tt
faultless (line ∷ lines) e = let parts = and_parts _ _ e in (no_fault line parts.0, faultless lines parts.1)

first_fault_before : (n : ℕ) (front back : List (List ℕ)) → list_all is_empty back ≡ true → first_fault n (map line_fault (front ++ back)) ≡ first_fault n (map line_fault front)
first_fault_before n [] back e = first_fault-all_none n (map line_fault back) (faultless back e)
first_fault_before n (line ∷ front) back e = at (first_fault_before (n + 1) front back e) (line_fault line) refl
  where
    at : first_fault (n + 1) (map line_fault (front ++ back)) ≡ first_fault (n + 1) (map line_fault front) → (fault : Option Why) → line_fault line ≡ fault
        → first_fault n (map line_fault ((line ∷ front) ++ back)) ≡ first_fault n (map line_fault (line ∷ front))
    at later None h = ap (λ f. first_fault n (f ∷ map line_fault (front ++ back))) h ∙ later ∙ ap (λ f. first_fault n (f ∷ map line_fault front)) (sym h)
    at later (Some why) h = ap (λ f. first_fault n (f ∷ map line_fault (front ++ back))) h ∙ ap (λ f. first_fault n (f ∷ map line_fault front)) (sym h)

pub same_fault : (lines : List (List ℕ)) → first_fault 1 (map line_fault lines) ≡ first_fault 1 (map line_fault (before_last_while is_empty lines))
same_fault lines =
    ap (λ ls. first_fault 1 (map line_fault ls)) (sym (parted lines))
    ∙ first_fault_before 1 (before_last_while is_empty lines) (last_while is_empty lines) (last_while_passes is_empty lines)

-- ---- the message line

position-take : {X : Type 0} (p : X → Bool) (n : ℕ) (xs : List X) → position p xs ≡ None → position p (take n xs) ≡ None
position-take p n xs e = at (position p (take n xs)) refl
  where
    at : (o : Option ℕ) → position p (take n xs) ≡ o → position p (take n xs) ≡ None
    at None h = h
    at (Some k) h =
        let found : position p xs ≡ Some k = ap (position p) (sym (take-append-drop n xs)) ∙ position-append p (take n xs) (drop n xs) k h in
        absurd (let both : None ≡ Some k = sym e ∙ found in cc)

position-take_found : {X : Type 0} (p : X → Bool) (n : ℕ) (xs : List X) (k : ℕ) → position p xs ≡ Some k → k < n → position p (take n xs) ≡ Some k
position-take_found p n xs k e lt = at (position p (take n xs)) refl
  where
    at : (o : Option ℕ) → position p (take n xs) ≡ o → position p (take n xs) ≡ Some k
    at (Some j) h =
        let found : position p xs ≡ Some j = ap (position p) (sym (take-append-drop n xs)) ∙ position-append p (take n xs) (drop n xs) j h in
        h ∙ sym found ∙ e
    at None h =
        let found = position-some p xs k e in
        let joined : position_or_len p xs ≡ length (take n xs) + position_or_len p (drop n xs) = ap (position_or_len p) (sym (take-append-drop n xs)) ∙ all_pass p (take n xs) (drop n xs) h in
        absurd (omega (arith, found.0, found.1, joined, length-take n xs, lt))

-- taking eleven of some lines, and some of eleven
swap_takes : {X : Type 0} (n : ℕ) (xs : List X) → take 11 (take n xs) ≡ take n (take 11 xs)
swap_takes n xs =
    elim (cases_lt n 11) [
      | inl lt ↦ take_all 11 (take n xs) (omega (arith, length-take n xs, lt)) ∙ sym (take-take n 11 xs (omega (arith, lt)))
      | inr le ↦ take-take 11 n xs le ∙ sym (take_all n (take 11 xs) (omega (arith, length-take 11 xs, le)))
    ]

-- a line that begins a message isn't empty
no_kind : (line : List ℕ) (kind : MessageKind) → is_empty line ≡ true → kind_of line ≡ Some kind → ⊥
no_kind [] kind e told = let none : None ≡ Some kind = told in cc
no_kind (b ∷ line) kind e told = let none : suc (length line) ≡ 0 = eqb-true _ _ e in omega (arith, none)

list_all-drop : {X : Type 0} (p : X → Bool) (n : ℕ) (xs : List X) → list_all p xs ≡ true → list_all p (drop n xs) ≡ true
list_all-drop p n xs all = (and_parts _ _ (sym (list_all-append p (take n xs) (drop n xs)) ∙ ap (list_all p) (take-append-drop n xs) ∙ all)).1

-- the message line stands before the empty lines at the end
message_within : (lines : List (List ℕ)) (kind : MessageKind) (before : ℕ) → map kind_of (take 1 (drop before lines)) ≡ Some kind ∷ []
    → before < length (before_last_while is_empty lines)
message_within lines kind before told =
    let n = length lines - suffix_len is_empty lines in
    let size = length-before_last_while is_empty lines in
    elim (cases_lt before n) [
      | inl lt ↦ omega (arith, lt, size)
      | inr le ↦
          let sum : n + (before - n) ≡ before = omega (arith, le) in
          let tail : drop (before - n) (drop n lines) ≡ drop before lines = drop-drop (before - n) n lines ∙ ap (λ k. drop k lines) sum in
          let empty : list_all is_empty (drop before lines) ≡ true = ap (list_all is_empty) (sym tail) ∙ list_all-drop is_empty (before - n) (drop n lines) (last_while_passes is_empty lines) in
          absurd (first (drop before lines) empty told)
    ]
  where
    first : (xs : List (List ℕ)) → list_all is_empty xs ≡ true → map kind_of (take 1 xs) ≡ Some kind ∷ [] → ⊥
    first [] e told = cc
    first (x ∷ xs) e told = no_kind x kind (and_parts _ _ e).0 (let same : kind_of x ∷ [] ≡ Some kind ∷ [] = told in cc)

-- ---- the whole

pub record IsWhole (source : List ℕ) (s : Scan) : Type 0 where
  pub scanned : IsScanned (starts_from 0 (slice_split is_newline source)) (map line_without_end (slice_split is_newline source)) s
  pub slices : AreSlices source s.lines.items

pub whole_of : (source : List ℕ) (s : Scan) → IsScannedTo source (length source + 1) s → IsWhole source s
whole_of source s h =
    let none = pieces_behind source (length source + 1) (omega arith) in
    let starts : h.starts ≡ starts_from 0 (slice_split is_newline source) =
    sym (h.starts_are ∙ ap (λ ps. h.starts ++ starts_from (length source + 1) ps) none ∙ append-nil h.starts) in
    let lines : h.lines ≡ map line_without_end (slice_split is_newline source) =
    sym (h.lines_are ∙ ap (λ ps. h.lines ++ map line_without_end ps) none ∙ append-nil h.lines) in
    record {
      scanned = subst (λ ls. IsScanned (starts_from 0 (slice_split is_newline source)) ls s) lines (subst (λ xs. IsScanned xs h.lines s) starts h.scanned);
      slices = h.slices.slices;
    }

-- ---- faults

tested : List (List ℕ) → Result (List (List ℕ)) TextFault
tested lines = cond (nat_lt 1000 (length lines)) (Err (fault_at 0 why.Lines)) (unless_fault (first_fault 1 (map line_fault lines)) (from_message_line lines))

normal_by : (source : List ℕ) → length source ≤ 65_536 → normal_lines source ≡ tested (lines_of source)
unfolding tested
normal_by source le = cond-false _ _ _ (le-ltb _ _ le)

pub too_long : (source : List ℕ) → 65_536 < length source → normal_lines source ≡ Err (fault_at 0 why.Size)
too_long source lt = cond-true _ _ _ (lt-ltb _ _ lt)

pub too_many : (source : List ℕ) (s : Scan) → IsWhole source s → length source ≤ 65_536 → 1000 < s.filled → normal_lines source ≡ Err (fault_at 0 why.Lines)
unfolding tested
too_many source s h le lt =
    let many : 1000 < length (lines_of source) = omega (arith, lt, h.scanned.filled) in
    normal_by source le ∙ cond-true _ _ _ (lt-ltb _ _ many)

faults_of : (source : List ℕ) (s : Scan) → IsWhole source s → first_fault 1 (map line_fault (lines_of source)) ≡ s.fault
faults_of source s h = sym (h.scanned.fault ∙ same_fault (map line_without_end (slice_split is_newline source)))

few_lines : (source : List ℕ) (s : Scan) → IsWhole source s → length source ≤ 65_536 → s.filled ≤ 1000
    → normal_lines source ≡ unless_fault s.fault (from_message_line (lines_of source))
unfolding tested
few_lines source s h le few =
    let most : length (lines_of source) ≤ 1000 = omega (arith, few, h.scanned.filled) in
    normal_by source le ∙ cond-false _ _ _ (le-ltb _ _ most)
    ∙ ap (λ f. unless_fault f (from_message_line (lines_of source))) (faults_of source s h)

bad_line : (source : List ℕ) (s : Scan) (fault : TextFault) → IsWhole source s → length source ≤ 65_536 → s.filled ≤ 1000 → s.fault ≡ Some fault → normal_lines source ≡ Err fault
bad_line source s fault h le few e = few_lines source s h le few ∙ ap (λ f. unless_fault f (from_message_line (lines_of source))) e

-- a line's fault is never that memory ran out, so what is reported is the fault
fault_kinds : (line : List ℕ) (other : Why) → line_fault line ≡ Some other → (other ≡ why.Byte) ⊎ (other ≡ why.Long)
fault_kinds line other e =
    elim (cases_cond (not (list_all is_printable line)) (Some why.Byte) (cond (nat_lt 255 (length line)) (Some why.Long) None) (Some other) (sym e)) [
      | inl byte ↦ inl (let same : Some other ≡ Some why.Byte = byte in cc)
      | inr rest ↦ elim (cases_cond (nat_lt 255 (length line)) (Some why.Long) None (Some other) rest) [
        | inl long ↦ inr (let same : Some other ≡ Some why.Long = long in cc)
        | inr none ↦ absurd (let same : Some other ≡ None = none in cc)
      ]
    ]

told_by : (n : ℕ) (other : Why) → (other ≡ why.Byte) ⊎ (other ≡ why.Long) → IsFaultOf (Some (fault_at n other)) (fault_at n other)
told_by n other (inl e) = subst (λ w. IsFaultOf (Some (fault_at n w)) (fault_at n w)) (sym e) refl
told_by n other (inr e) = subst (λ w. IsFaultOf (Some (fault_at n w)) (fault_at n w)) (sym e) refl

fault_told : (n : ℕ) (lines : List (List ℕ)) (fault : TextFault) → first_fault n (map line_fault lines) ≡ Some fault → IsFaultOf (Some fault) fault
fault_told n [] fault e = absurd cc
fault_told n (line ∷ lines) fault e = at (λ h. fault_told (n + 1) lines fault h) (line_fault line) refl
  where
    at : (first_fault (n + 1) (map line_fault lines) ≡ Some fault → IsFaultOf (Some fault) fault) → (o : Option Why) → line_fault line ≡ o → IsFaultOf (Some fault) fault
    at later None h = later (ap (λ f. first_fault n (f ∷ map line_fault lines)) (sym h) ∙ e)
    at later (Some other) h =
        let told : Some (fault_at n other) ≡ Some fault = ap (λ f. first_fault n (f ∷ map line_fault lines)) (sym h) ∙ e in
        let same : fault_at n other ≡ fault = cc in
        subst (λ f. IsFaultOf (Some f) f) same (told_by n other (fault_kinds line other h))

pub bad_line_told : (source : List ℕ) (s : Scan) (fault : TextFault) → IsWhole source s → length source ≤ 65_536 → s.filled ≤ 1000 → s.fault ≡ Some fault
    → IsFaultOf (fault_of (normal_lines source)) fault
bad_line_told source s fault h le few e =
    subst (λ r. IsFaultOf (fault_of r) fault) (sym (bad_line source s fault h le few e))
    (fault_told 1 (map line_without_end (slice_split is_newline source)) fault (sym h.scanned.fault ∙ e))

good_lines : (source : List ℕ) (s : Scan) → IsWhole source s → length source ≤ 65_536 → s.filled ≤ 1000 → s.fault ≡ None → normal_lines source ≡ from_message_line (lines_of source)
good_lines source s h le few e = few_lines source s h le few ∙ ap (λ f. unless_fault f (from_message_line (lines_of source))) e

-- the lines up to the last that isn't empty, as the scan counts them
front_is : (source : List ℕ) (s : Scan) → IsWhole source s → lines_of source ≡ take s.filled (map line_without_end (slice_split is_newline source))
front_is source s h =
    let lines = map line_without_end (slice_split is_newline source) in
    ap (λ n. take n lines) (sym (h.scanned.filled ∙ length-before_last_while is_empty lines))

no_message : (source : List ℕ) (s : Scan) → IsWhole source s → length source ≤ 65_536 → s.filled ≤ 1000 → s.fault ≡ None → s.kind ≡ None
    → normal_lines source ≡ Err (fault_at 0 why.Kind)
no_message source s h le few faultless unknown =
    let lines = map line_without_end (slice_split is_newline source) in
    let starts = starts_from 0 (slice_split is_newline source) in
    let kept = subst (λ k. AreKept starts lines k s.before s.lines.items) unknown h.scanned.kept in
    let front = front_is source s h in
    let none : position is_message_line (take 11 (lines_of source)) ≡ None =
    ap (λ ls. position is_message_line (take 11 ls)) front ∙ ap (position is_message_line) (swap_takes s.filled lines)
    ∙ position-take is_message_line s.filled (take 11 lines) kept.0 in
    good_lines source s h le few faultless ∙ ap (from_line (lines_of source)) none

-- ---- the lines from the message line on

-- what is answered: the kind, and the tokens of the lines from the message line on
pub record IsNormalText (source : List ℕ) (kind : MessageKind) (tokens : List Token) : Type 0 where
  pub lines : normal_lines source ≡ Ok (map (λ t. t.text.now) tokens)
  pub slices : AreSlices source tokens
  pub starts : BeginLines source tokens
  pub first : first_kind (map (λ t. t.text.now) tokens) ≡ Some kind
  pub few : length tokens ≤ 1000
  pub printable : list_all is_line_token tokens ≡ true

-- of what a scan keeps, as many as stand before the empty lines at the end
mapped : {X : Type 0} (f : Token → X) (tokens : List Token) (xs : List X) (before filled : ℕ) → before ≤ filled → filled ≤ 1000
    → map f tokens ≡ drop before (take 1000 xs) → map f (take (filled - before) tokens) ≡ drop before (take filled xs)
mapped f tokens xs before filled le few e =
    let sum : before + (filled - before) ≡ filled = omega (arith, le) in
    sym (take-map f (filled - before) tokens) ∙ ap (take (filled - before)) e ∙ sym (drop-take before (filled - before) (take 1000 xs))
    ∙ ap (λ n. drop before (take n (take 1000 xs))) sum ∙ ap (drop before) (take-take filled 1000 xs few)

slices-take : (from n : ℕ) (source : List ℕ) (tokens : List Token) → AreSlicesFrom from source tokens → AreSlicesFrom from source (take n tokens)
slices-take from zero source tokens h = tt
slices-take from (suc n) source [] h = tt
slices-take from (suc n) source (t ∷ tokens) h = (h.0, h.1, slices-take t.end n source tokens h.2)

are_lines : (lines : List (List ℕ)) → AllNone (map line_fault lines) → list_all is_line lines ≡ true
are_lines [] h = refl
are_lines (line ∷ lines) h = and_from _ _ (is_a_line line h.0) (are_lines lines h.1)
  where
    short : (text : List ℕ) → cond (nat_lt 255 (length text)) (Some why.Long) None ≡ None → length text ≤ 255
    short text e =
        elim (cases_lt 255 (length text)) [
          | inl lt ↦ absurd (let wrong : Some why.Long ≡ None = sym (cond-true _ _ _ (lt-ltb _ _ lt)) ∙ e in cc)
          | inr le ↦ le
        ]

    is_a_line : (text : List ℕ) → line_fault text ≡ None → is_line text ≡ true
    is_a_line text e =
        elim (cases_Bool (list_all is_printable text)) [
          | inl passes ↦ and_from _ _ passes (le-leb _ _ (short text (sym (cond-false _ _ _ (ap not passes)) ∙ e)))
          | inr fails ↦ absurd (let wrong : Some why.Byte ≡ None = sym (cond-true _ _ _ (ap not fails)) ∙ e in cc)
        ]

first_kind_is : (lines : List (List ℕ)) (kind : MessageKind) → map kind_of (take 1 lines) ≡ Some kind ∷ [] → first_kind lines ≡ Some kind
first_kind_is [] kind e = absurd cc
first_kind_is (line ∷ lines) kind e = cc

pub found : (source : List ℕ) (s : Scan) (kind : MessageKind) → IsWhole source s → length source ≤ 65_536 → s.filled ≤ 1000 → s.fault ≡ None → s.kind ≡ Some kind
    → (s.before ≤ s.filled) × IsNormalText source kind (take (s.filled - s.before) s.lines.items)
found source s kind h le few faultless told =
    let lines = map line_without_end (slice_split is_newline source) in
    let starts = starts_from 0 (slice_split is_newline source) in
    let kept = subst (λ k. AreKept starts lines k s.before s.lines.items) told h.scanned.kept in
    let tokens = take (s.filled - s.before) s.lines.items in
    let front : lines_of source ≡ take s.filled lines = front_is source s h in
    let within : s.before < s.filled = omega (arith, message_within lines kind s.before kept.1, h.scanned.filled) in
    let le' : s.before ≤ s.filled = omega (arith, within) in
    let at : position is_message_line (take 11 (lines_of source)) ≡ Some s.before =
    ap (λ ls. position is_message_line (take 11 ls)) front ∙ ap (position is_message_line) (swap_takes s.filled lines)
    ∙ position-take_found is_message_line s.filled (take 11 lines) s.before kept.0 within in
    let texts : map (λ t. t.text.now) tokens ≡ drop s.before (lines_of source) =
    mapped (λ t. t.text.now) s.lines.items lines s.before s.filled le' few kept.2 ∙ ap (drop s.before) (sym front) in
    let all : length (lines_of source) ≡ s.filled = sym h.scanned.filled in
    let size : length tokens ≡ s.filled - s.before =
    sym (length-map tokens (λ t. t.text.now)) ∙ ap length texts ∙ length-drop s.before (lines_of source) ∙ ap (λ n. n - s.before) all in
    let begins : line_starts source ≡ take s.filled starts = ap (λ n. take n starts) all in
    let many : length (line_starts source) ≡ s.filled =
    omega (arith, ap length begins, length-take s.filled starts, h.scanned.begun, h.scanned.filled, length-before_last_while is_empty lines) in
    let place : length (line_starts source) - length tokens ≡ s.before = omega (arith, many, size, le') in
    let sum : s.before + (s.filled - s.before) ≡ s.filled = omega (arith, le') in
    let some : 1 ≤ s.filled - s.before = omega (arith, within) in
    let head : take 1 (drop s.before (take s.filled lines)) ≡ take 1 (drop s.before lines) =
    ap (λ n. take 1 (drop s.before (take n lines))) (sym sum) ∙ ap (take 1) (drop-take s.before (s.filled - s.before) lines)
    ∙ take-take 1 (s.filled - s.before) (drop s.before lines) some in (
      le',
      record {
        lines = good_lines source s h le few faultless ∙ ap (from_line (lines_of source)) at ∙ ap (λ ls. Ok ls) (sym texts);
        slices = slices-take 0 (s.filled - s.before) source s.lines.items h.slices;
        starts =
            mapped (λ t. t.start) s.lines.items starts s.before s.filled le' few kept.3 ∙ ap (drop s.before) (sym begins)
            ∙ ap (λ n. drop n (line_starts source)) (sym place);
        first = first_kind_is (map (λ t. t.text.now) tokens) kind (ap (λ ls. map kind_of (take 1 ls)) (texts ∙ ap (drop s.before) front) ∙ ap (map kind_of) head ∙ kept.1);
        few = omega (arith, size, few);
        printable =
            sym (list_all-map is_line (λ (t : Token). t.text.now) tokens) ∙ ap (list_all is_line) texts
            ∙ list_all-drop is_line s.before (lines_of source) (are_lines (lines_of source) (first_fault-none 1 (map line_fault (lines_of source)) (faults_of source s h ∙ faultless)));
      },
    )

pub found_tokens : (source : List ℕ) (s : Scan) (kind : MessageKind) (tokens : List Token) → IsScannedTo source (length source + 1) s → length source ≤ 65_536 → s.filled ≤ 1000
    → s.fault ≡ None → s.kind ≡ Some kind → tokens ≡ take (s.filled - s.before) s.lines.items → IsNormalText source kind tokens
found_tokens source s kind tokens h le few faultless told are =
    subst (IsNormalText source kind) (sym are) (found source s kind (whole_of source s h) le few faultless told).1

pub unknown_kind : (source : List ℕ) (s : Scan) (fault : TextFault) → IsScannedTo source (length source + 1) s → length source ≤ 65_536 → s.filled ≤ 1000
    → s.fault ≡ None → s.kind ≡ None → fault ≡ fault_at 0 why.Kind → IsFaultOf (fault_of (normal_lines source)) fault
unknown_kind source s fault h le few faultless unknown e =
    subst (IsFaultOf (fault_of (normal_lines source))) (sym e)
    (subst (λ r. IsFaultOf (fault_of r) (fault_at 0 why.Kind)) (sym (no_message source s (whole_of source s h) le few faultless unknown)) refl)
