-- What is known of a telegram once one more line was seen.
use Rattle.imp_fields.proofs.Common.{AllByRecursion, AreKept, AreSlicesBefore, AreSlicesFrom, Bool, IsScanned, IsScannedTo, IsSlice, List, MessageKind, None, Option, Scan, Sees, Some, Token, Why, [], and_parts, ap, append_assoc, arith, before_first, before_last_while, cases_lt, cond, cond-false, cond-true, drop, drop-append-le, drop-drop, drop_all, false, first_fault, inl, inr, is_empty, is_message_line, is_newline, is_printable, is_some, kind_of, le-leb, le-ltb, leb-true, length, length-append, length-drop, length-map, length-prefix_len, length-take, line_fault, line_without_end, list_all, lt-leb, lt-ltb, map, map-append, nat_le, nat_lt, ne_eqb, not, not-true, or_else, pieces_from, position, position_or_len, prefix_len, prefix_len-le-length, prefix_len_passes, refl, slice_range, slice_split, slice_split_first, slice_split_none, starts_from, subst, suc, sym, take, take-append-le, take-take, take_all, true, ℕ, ◌&&◌, ◌++◌, ◌+◌, ◌-◌, ◌<◌, ◌∙◌, ◌∷◌, ◌≡◌, ◌≤◌}
use Rattle.imp_fields.proofs.Runs.{passes_within, run_goes_on}
use Rattle.imp_fields.proofs.WrittenLaws.{all_weaker}
use Rattle.imp_fields.proofs.ListLaws.{before_last_while-more, position-some, position-append, position-more_no, position-more_yes, take-more, take-full}

-- ---- faults

pub first_fault-more : (n : ℕ) (faults : List (Option Why)) (next : Option Why)
    → first_fault n (faults ++ next ∷ []) ≡ or_else (first_fault n faults) (first_fault (n + length faults) (next ∷ []))
first_fault-more n [] next = ap (λ k. first_fault k (next ∷ [])) (let same : n ≡ n + 0 = omega arith in same)
first_fault-more n (None ∷ faults) next =
    let same : n + 1 + length faults ≡ n + suc (length faults) = omega arith in
    first_fault-more (n + 1) faults next ∙ ap (λ k. or_else (first_fault (n + 1) faults) (first_fault k (next ∷ []))) same
first_fault-more n (Some why ∷ faults) next = refl

-- ---- the lines that are kept

kept_before : {X : Type 0} (b : ℕ) (xs : List X) (y : X) → b ≤ length xs → length xs < 1000
    → drop b (take 1000 (xs ++ y ∷ [])) ≡ drop b (take 1000 xs) ++ y ∷ []
kept_before b xs y le lt =
    ap (drop b) (take-more 1000 xs y lt) ∙ drop-append-le b (take 1000 xs) (y ∷ []) (omega (arith, length-take 1000 xs, le, lt))

kept_full : {X : Type 0} (b : ℕ) (xs : List X) (y : X) → 1000 ≤ length xs → drop b (take 1000 (xs ++ y ∷ [])) ≡ drop b (take 1000 xs)
kept_full b xs y le = ap (drop b) (take-full 1000 xs y le)

-- the message line is not decided by what follows
position_kept : (lines : List (List ℕ)) (line : List ℕ) (k : ℕ) → position is_message_line (take 11 lines) ≡ Some k → position is_message_line (take 11 (lines ++ line ∷ [])) ≡ Some k
position_kept lines line k e =
    elim (cases_lt (length lines) 11) [
      | inl lt ↦ ap (position is_message_line) (take-more 11 lines line lt) ∙ position-append is_message_line (take 11 lines) (line ∷ []) k e
      | inr le ↦ ap (position is_message_line) (take-full 11 lines line le) ∙ e
    ]

-- the texts and the places of the tokens
abbrev texts : List Token → List (List ℕ)
texts tokens = map (λ t. t.text.now) tokens

abbrev places : List Token → List ℕ
places tokens = map (λ t. t.start) tokens

mapped_more : {X : Type 0} (f : Token → X) (tokens : List Token) (line : Token) (xs : List X) (count before : ℕ) → count ≡ length xs → before ≤ length xs
    → map f tokens ≡ drop before (take 1000 xs)
    → map f (cond (nat_lt count 1000) (tokens ++ line ∷ []) tokens) ≡ drop before (take 1000 (xs ++ f line ∷ []))
mapped_more f tokens line xs count before len le e =
    elim (cases_lt count 1000) [
      | inl lt ↦
          ap (map f) (cond-true _ (tokens ++ line ∷ []) tokens (lt-ltb _ _ lt)) ∙ map-append f tokens (line ∷ []) ∙ ap (λ ys. ys ++ f line ∷ []) e
          ∙ sym (kept_before before xs (f line) le (omega (arith, len, lt)))
      | inr ge ↦ ap (map f) (cond-false _ (tokens ++ line ∷ []) tokens (le-ltb _ _ ge)) ∙ e ∙ sym (kept_full before xs (f line) (omega (arith, len, ge)))
    ]

-- the message line was seen before
kept_on : (starts : List ℕ) (lines : List (List ℕ)) (kind : MessageKind) (count before : ℕ) (tokens : List Token) (line : Token)
    → length starts ≡ length lines → count ≡ length lines → AreKept starts lines (Some kind) before tokens
    → AreKept (starts ++ line.start ∷ []) (lines ++ line.text.now ∷ []) (Some kind) before (cond (nat_lt count 1000) (tokens ++ line ∷ []) tokens)
kept_on starts lines kind count before tokens line begun counted h =
    let text = line.text.now in
    let at = position-some is_message_line (take 11 lines) before h.0 in
    let within : before < length lines = omega (arith, at.1, length-take 11 lines) in
    let some : 1 ≤ length (drop before lines) = omega (arith, length-drop before lines, within) in
    let first : take 1 (drop before (lines ++ text ∷ [])) ≡ take 1 (drop before lines) =
    ap (take 1) (drop-append-le before lines (text ∷ []) (omega (arith, within))) ∙ take-append-le 1 (drop before lines) (text ∷ []) some in (
      position_kept lines text before h.0,
      ap (map kind_of) first ∙ h.1,
      mapped_more (λ t. t.text.now) tokens line lines count before counted (omega (arith, within)) h.2,
      mapped_more (λ t. t.start) tokens line starts count before (counted ∙ sym begun) (omega (arith, within, begun)) h.3,
    )

-- the message line is seen
kept_first : (starts : List ℕ) (lines : List (List ℕ)) (kind : MessageKind) (count : ℕ) (line : Token)
    → length starts ≡ length lines → count ≡ length lines → count < 11 → kind_of line.text.now ≡ Some kind → position is_message_line (take 11 lines) ≡ None
    → AreKept (starts ++ line.start ∷ []) (lines ++ line.text.now ∷ []) (Some kind) count (line ∷ [])
kept_first starts lines kind count line begun counted early told none =
    let text = line.text.now in
    let early' : length lines < 11 = omega (arith, counted, early) in
    let is_one : is_message_line text ≡ true = ap is_some told in
    let whole : take 11 lines ≡ lines = take_all 11 lines (omega (arith, early')) in
    let found : position is_message_line (take 11 (lines ++ text ∷ [])) ≡ Some count =
    ap (position is_message_line) (take-more 11 lines text early') ∙ position-more_yes is_message_line (take 11 lines) text none is_one
    ∙ ap (λ xs. Some (length xs)) whole ∙ ap (λ n. Some n) (sym counted) in
    let first : drop count (lines ++ text ∷ []) ≡ text ∷ [] =
    drop-append-le count lines (text ∷ []) (omega (arith, counted)) ∙ ap (λ xs. xs ++ text ∷ []) (drop_all count lines (omega (arith, counted))) in (
      found,
      ap (λ xs. map kind_of (take 1 xs)) first ∙ ap (λ k. k ∷ []) told,
      sym (alone lines text count (omega (arith, counted)) (omega (arith, counted)) early'),
      sym (alone starts line.start count (omega (arith, counted, begun)) (omega (arith, counted, begun)) (omega (arith, begun, early'))),
    )
  where
    alone : {X : Type 0} (xs : List X) (y : X) (n : ℕ) → n ≤ length xs → length xs ≤ n → length xs < 11 → drop n (take 1000 (xs ++ y ∷ [])) ≡ y ∷ []
    alone xs y n le ge small =
        kept_before n xs y le (omega (arith, small)) ∙ ap (λ ys. ys ++ y ∷ []) (drop_all n (take 1000 xs) (omega (arith, length-take 1000 xs, ge)))

-- no message line was seen yet
kept_none : (starts : List ℕ) (lines : List (List ℕ)) (before : ℕ) (line : Token) → position is_message_line (take 11 lines) ≡ None
    → (length lines < 11 → kind_of line.text.now ≡ None)
    → AreKept (starts ++ line.start ∷ []) (lines ++ line.text.now ∷ []) None before []
kept_none starts lines before line none not_told =
    elim (cases_lt (length lines) 11) [
      | inl lt ↦
          (ap (position is_message_line) (take-more 11 lines line.text.now lt) ∙ position-more_no is_message_line (take 11 lines) line.text.now none (ap is_some (not_told lt)), refl)
      | inr le ↦ (ap (position is_message_line) (take-full 11 lines line.text.now le) ∙ none, refl)
    ]

pub kept_step : (starts : List ℕ) (lines : List (List ℕ)) (kind next : Option MessageKind) (count before before' : ℕ) (tokens tokens' : List Token) (line : Token)
    → length starts ≡ length lines → count ≡ length lines → AreKept starts lines kind before tokens
    → next ≡ or_else kind (cond (nat_lt count 11) (kind_of line.text.now) None)
    → before' ≡ cond (is_some kind) before count
    → tokens' ≡ cond (is_some next && nat_lt count 1000) (tokens ++ line ∷ []) tokens
    → AreKept (starts ++ line.start ∷ []) (lines ++ line.text.now ∷ []) next before' tokens'
kept_step starts lines (Some kind) next count before before' tokens tokens' line begun counted h is_next is_before are_tokens =
    let P : Option MessageKind → ℕ → List Token → Type 0 = AreKept (starts ++ line.start ∷ []) (lines ++ line.text.now ∷ []) in
    let made = kept_on starts lines kind count before tokens line begun counted h in
    let are : tokens' ≡ cond (nat_lt count 1000) (tokens ++ line ∷ []) tokens = are_tokens ∙ ap (λ k. cond (is_some k && nat_lt count 1000) (tokens ++ line ∷ []) tokens) is_next in
    subst (λ k. P k before' tokens') (sym is_next) (subst (λ b. P (Some kind) b tokens') (sym is_before) (subst (P (Some kind) before) (sym are) made))
kept_step starts lines None next count before before' tokens tokens' line begun counted h is_next is_before are_tokens =
    elim (cases_lt count 11) [
      | inl lt ↦ early (kind_of line.text.now) refl lt (is_next ∙ cond-true _ _ _ (lt-ltb _ _ lt))
      | inr le ↦ late (is_next ∙ cond-false _ _ _ (le-ltb _ _ le)) (λ lt. absurd (omega (arith, counted, le, lt)))
    ]
  where
    P : Option MessageKind → ℕ → List Token → Type 0
    P = AreKept (starts ++ line.start ∷ []) (lines ++ line.text.now ∷ [])

    late : next ≡ None → (length lines < 11 → kind_of line.text.now ≡ None) → P next before' tokens'
    late is_none not_told =
        let are : tokens' ≡ [] = are_tokens ∙ ap (λ k. cond (is_some k && nat_lt count 1000) (tokens ++ line ∷ []) tokens) is_none ∙ h.1 in
        subst (λ k. P k before' tokens') (sym is_none) (subst (P None before') (sym are) (kept_none starts lines before' line h.0 not_told))

    early : (told : Option MessageKind) → kind_of line.text.now ≡ told → count < 11 → next ≡ kind_of line.text.now → P next before' tokens'
    early None e lt same = late (same ∙ e) (λ small. e)
    early (Some kind) e lt same =
        let is : next ≡ Some kind = same ∙ e in
        let small : count < 1000 = omega (arith, lt) in
        let are : tokens' ≡ line ∷ [] =
        are_tokens ∙ ap (λ k. cond (is_some k && nat_lt count 1000) (tokens ++ line ∷ []) tokens) is
        ∙ cond-true _ _ _ (lt-ltb _ _ small) ∙ ap (λ ts. ts ++ line ∷ []) h.1 in
        subst (λ k. P k before' tokens') (sym is)
        (subst (λ b. P (Some kind) b tokens') (sym is_before) (subst (P (Some kind) count) (sym are) (kept_first starts lines kind count line begun counted lt e h.0)))

pub scanned_step : (starts : List ℕ) (lines : List (List ℕ)) (line : Token) (old new : Scan) → IsScanned starts lines old → Sees line old new
    → IsScanned (starts ++ line.start ∷ []) (lines ++ line.text.now ∷ []) new
scanned_step starts lines line old new h sees =
    let text = line.text.now in
    let shown : map line_fault (lines ++ text ∷ []) ≡ map line_fault lines ++ line_fault text ∷ [] = map-append line_fault lines (text ∷ []) in
    let filled : length (before_last_while is_empty (lines ++ text ∷ [])) ≡ cond (is_empty text) (length (before_last_while is_empty lines)) (length lines + 1) = before_last_while-more is_empty lines text in
    let place : old.count + 1 ≡ 1 + length (map line_fault lines) = omega (arith, h.count, length-map lines line_fault) in
    record {
      begun = omega (arith, h.begun, length-append starts (line.start ∷ []), length-append lines (text ∷ []));
      count = omega (arith, sees.count, h.count, length-append lines (text ∷ []));
      filled = sees.filled ∙ ap (λ n. cond (is_empty text) n (old.count + 1)) h.filled ∙ ap (λ n. cond (is_empty text) (length (before_last_while is_empty lines)) (n + 1)) h.count ∙ sym filled;
      fault =
          sees.fault ∙ ap (λ f. or_else f (first_fault (old.count + 1) (line_fault text ∷ []))) h.fault
          ∙ ap (λ n. or_else (first_fault 1 (map line_fault lines)) (first_fault n (line_fault text ∷ []))) place
          ∙ sym (first_fault-more 1 (map line_fault lines) (line_fault text)) ∙ ap (first_fault 1) (sym shown);
      kept = kept_step starts lines old.kind new.kind old.count old.before new.before old.lines.items new.lines.items line h.begun h.count h.kept sees.kind sees.before sees.lines;
    }

-- ---- slices

ends_later : (place later : ℕ) (tokens : List Token) → place ≤ later → AllByRecursion (λ t. t.end ≤ place) tokens → AllByRecursion (λ t. t.end ≤ later) tokens
ends_later place later [] le h = tt
ends_later place later (t ∷ tokens) le h = (omega (arith, h.0, le), ends_later place later tokens le h.1)

ends_more : (place : ℕ) (tokens : List Token) (line : Token) → line.end ≤ place → AllByRecursion (λ t. t.end ≤ place) tokens → AllByRecursion (λ t. t.end ≤ place) (tokens ++ line ∷ [])
ends_more place [] line le h = (le, tt)
ends_more place (t ∷ tokens) line le h = (h.0, ends_more place tokens line le h.1)

slices_more : (from place : ℕ) (source : List ℕ) (tokens : List Token) (line : Token) → from ≤ place → place ≤ line.start → IsSlice source line
    → AllByRecursion (λ t. t.end ≤ place) tokens → AreSlicesFrom from source tokens → AreSlicesFrom from source (tokens ++ line ∷ [])
slices_more from place source [] line le later slice ends h = (omega (arith, le, later), slice, tt)
slices_more from place source (t ∷ tokens) line le later slice ends h = (h.0, h.1, slices_more t.end place source tokens line ends.0 later slice ends.1 h.2)

slices_step : (source : List ℕ) (place later : ℕ) (tokens : List Token) (line : Token) → line.start ≡ place → line.end ≤ later → place ≤ later → IsSlice source line
    → AreSlicesBefore source place tokens → AreSlicesBefore source later (tokens ++ line ∷ [])
slices_step source place later tokens line start end le slice h = record {
  slices = slices_more 0 place source tokens line (omega arith) (omega (arith, start)) slice h.ends h.slices;
  ends = ends_more later tokens line end (ends_later place later tokens le h.ends);
}

slices_stay : (source : List ℕ) (place later : ℕ) (tokens : List Token) → place ≤ later → AreSlicesBefore source place tokens → AreSlicesBefore source later tokens
slices_stay source place later tokens le h = record { slices = h.slices; ends = ends_later place later tokens le h.ends }

slices_seen : (source : List ℕ) (place later : ℕ) (test : Bool) (tokens tokens' : List Token) (line : Token) → line.start ≡ place → line.end ≤ later → place ≤ later → IsSlice source line
    → tokens' ≡ cond test (tokens ++ line ∷ []) tokens → AreSlicesBefore source place tokens → AreSlicesBefore source later tokens'
slices_seen source place later test tokens tokens' line start end le slice are h = subst (AreSlicesBefore source later) (sym are) (either test)
  where
    either : (b : Bool) → AreSlicesBefore source later (cond b (tokens ++ line ∷ []) tokens)
    either true = slices_step source place later tokens line start end le slice h
    either false = slices_stay source place later tokens le h

-- ---- pieces

pieces_here : (source : List ℕ) (place : ℕ) → place ≤ length source → pieces_from source place ≡ slice_split is_newline (drop place source)
pieces_here source place le = cond-true _ _ _ (le-leb _ _ le)

pub pieces_behind : (source : List ℕ) (place : ℕ) → length source < place → pieces_from source place ≡ []
pieces_behind source place lt = cond-false _ _ _ (lt-leb _ _ lt)

pieces_next : (source : List ℕ) (place : ℕ) → place ≤ length source
    → pieces_from source place ≡ before_first is_newline (drop place source) ∷ pieces_from source (place + position_or_len is_newline (drop place source) + 1)
pieces_next source place le =
    let rest = drop place source in
    let n = position_or_len is_newline rest in
    let size : length rest ≡ length source - place = length-drop place source in
    elim (cases_lt n (length rest)) [
      | inl lt ↦
          let within : place + n + 1 ≤ length source = omega (arith, size, lt, le) in
          let same : drop (n + 1) rest ≡ drop (place + n + 1) source = drop-drop (n + 1) place source ∙ ap (λ k. drop k source) (let sum : place + (n + 1) ≡ place + n + 1 = omega arith in sum) in
          pieces_here source place le ∙ slice_split_first is_newline rest 0 lt
          ∙ ap (λ xs. before_first is_newline rest ∷ slice_split is_newline xs) same
          ∙ ap (λ ps. before_first is_newline rest ∷ ps) (sym (pieces_here source (place + n + 1) within))
      | inr ge ↦
          let whole : n ≡ length rest = omega (arith, ge, prefix_len-le-length (λ x. not (is_newline x)) rest) in
          let outside : length source < place + n + 1 = omega (arith, size, whole, le) in
          pieces_here source place le ∙ slice_split_last rest whole
          ∙ ap (λ ps. before_first is_newline rest ∷ ps) (sym (pieces_behind source (place + n + 1) outside))
    ]
  where
    slice_split_last : (xs : List ℕ) → position_or_len is_newline xs ≡ length xs → slice_split is_newline xs ≡ before_first is_newline xs ∷ []
    slice_split_last xs e =
        slice_split_none is_newline xs (λ k d lt. not-true _ (prefix_len_passes (λ x. not (is_newline x)) xs k d (omega (arith, e, lt)))) ∙ ap (λ ys. ys ∷ []) (sym (take_all (position_or_len is_newline xs) xs (omega (arith, e))))

pub scanned_to_step : (source : List ℕ) (place n : ℕ) (line : Token) (old new : Scan) → IsScannedTo source place old → place ≤ length source
    → n ≡ position_or_len is_newline (drop place source) → IsSlice source line → line.start ≡ place → line.end ≤ place + n
    → line.text.now ≡ line_without_end (before_first is_newline (drop place source)) → Sees line old new → IsScannedTo source (place + n + 1) new
scanned_to_step source place n line old new h within run slice start end text sees =
    let rest = drop place source in
    let piece = before_first is_newline rest in
    let later = place + n + 1 in
    let next : pieces_from source place ≡ piece ∷ pieces_from source later = pieces_next source place within ∙ ap (λ k. piece ∷ pieces_from source (place + k + 1)) (sym run) in
    let size : length piece ≡ n = length-prefix_len (λ x. not (is_newline x)) rest ∙ sym run in
    record {
      starts = h.starts ++ line.start ∷ [];
      lines = h.lines ++ line.text.now ∷ [];
      scanned = scanned_step h.starts h.lines line old new h.scanned sees;
      slices = slices_seen source place later _ old.lines.items new.lines.items line start (omega (arith, end)) (omega arith) slice sees.lines h.slices;
      count = omega (arith, sees.count, h.count);
      starts_are =
          h.starts_are ∙ ap (λ ps. h.starts ++ starts_from place ps) next ∙ ap (λ k. h.starts ++ (place ∷ starts_from (place + k + 1) (pieces_from source later))) size
          ∙ ap (λ k. h.starts ++ (k ∷ starts_from later (pieces_from source later))) (sym start)
          ∙ sym (append_assoc h.starts (line.start ∷ []) (starts_from later (pieces_from source later)));
      lines_are =
          h.lines_are ∙ ap (λ ps. h.lines ++ map line_without_end ps) next ∙ ap (λ t. h.lines ++ (t ∷ map line_without_end (pieces_from source later))) (sym text)
          ∙ sym (append_assoc h.lines (line.text.now ∷ []) (map line_without_end (pieces_from source later)));
    }

pub rest_is : (source : List ℕ) (place : ℕ) → slice_range source place (length source) ≡ drop place source
rest_is source place = take_all (length source - place) (drop place source) (omega (arith, length-drop place source))

-- a line as the code cuts it
pub seen_to_step : (source rest piece : List ℕ) (place len size : ℕ) (line : Token) (old new : Scan) → IsScannedTo source place old → place ≤ length source
    → rest ≡ drop place source → len ≡ position_or_len is_newline rest → piece ≡ take len rest → size ≤ length piece → take size piece ≡ line_without_end piece
    → IsSlice source line → line.start ≡ place → line.end ≡ place + size → Sees line old new → IsScannedTo source (place + (len + 1)) new
seen_to_step source rest piece place len size line old new h within is_rest run is_piece short cut slice start end sees =
    let run' : len ≡ position_or_len is_newline (drop place source) = run ∙ ap (position_or_len is_newline) is_rest in
    let is_first : piece ≡ before_first is_newline (drop place source) = is_piece ∙ ap (λ n. take n rest) run' ∙ ap (take (position_or_len is_newline (drop place source))) is_rest in
    let most : length piece ≤ len = omega (arith, ap length is_piece, length-take len rest) in
    let sum : place + size - place ≡ size = omega arith in
    let front : take size (take len rest) ≡ take size rest = take-take size len rest (omega (arith, short, most)) in
    let text : line.text.now ≡ take size piece =
    slice.bytes ∙ ap (λ n. slice_range source n line.end) start ∙ ap (slice_range source place) end ∙ ap (λ n. take n (drop place source)) sum
    ∙ ap (take size) (sym is_rest) ∙ sym front ∙ ap (take size) (sym is_piece) in
    let all : place + len + 1 ≡ place + (len + 1) = omega arith in
    subst (λ k. IsScannedTo source k new) all
    (scanned_to_step source place len line old new h within run' slice start (omega (arith, end, short, most)) (text ∙ cut ∙ ap line_without_end is_first) sees)

-- ---- which bytes of a line print

line_of : (source rest : List ℕ) (place size : ℕ) (line : Token) → rest ≡ drop place source → IsSlice source line → line.start ≡ place → line.end ≡ place + size
    → line.text.now ≡ take size rest
line_of source rest place size line is_rest slice start end =
    let sum : place + size - place ≡ size = omega arith in
    slice.bytes ∙ ap (λ n. slice_range source n line.end) start ∙ ap (slice_range source place) end ∙ ap (λ n. take n (drop place source)) sum ∙ ap (take size) (sym is_rest)

pub printable_so : (source rest piece : List ℕ) (place len size front : ℕ) (line : Token) → rest ≡ drop place source → piece ≡ take len rest → size ≤ length piece
    → front ≡ prefix_len is_printable rest → IsSlice source line → line.start ≡ place → line.end ≡ place + size
    → nat_le (length line.text.now) front ≡ list_all is_printable line.text.now
printable_so source rest piece place len size front line is_rest is_piece short is_front slice start end =
    let text = line_of source rest place size line is_rest slice start end in
    let within : size ≤ length rest = omega (arith, short, ap length is_piece, length-take len rest) in
    let whole : length line.text.now ≡ size = omega (arith, ap length text, length-take size rest, within) in
    ap (λ n. nat_le n front) whole ∙ ap (nat_le size) is_front ∙ passes_within is_printable size rest within ∙ ap (list_all is_printable) (sym text)

no_newline : (b : ℕ) → is_printable b ≡ true → not (is_newline b) ≡ true
no_newline b h = let low = leb-true 32 b (and_parts _ _ h).0 in ap not (ne_eqb b 10 (λ e. omega (arith, e, low)))

pub newline_behind : (rest : List ℕ) (front more : ℕ) → front ≡ prefix_len is_printable rest → more ≡ position_or_len is_newline (slice_range rest front (length rest))
    → front + more ≡ position_or_len is_newline rest
newline_behind rest front more is_front is_more =
    let within : front ≤ length rest = omega (arith, is_front, prefix_len-le-length is_printable rest) in
    let print : list_all is_printable (take front rest) ≡ true =
    sym (passes_within is_printable front rest within) ∙ le-leb front (prefix_len is_printable rest) (omega (arith, is_front)) in
    run_goes_on (λ b. not (is_newline b)) front more rest within (all_weaker is_printable (λ b. not (is_newline b)) no_newline (take front rest) print) is_more
