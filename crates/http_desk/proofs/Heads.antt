-- Bytes that have no head.
use Rattle.http_desk.proofs.Common.{Err, Given, HasCome, HasEndedAfter, HasEndedEarly, HasGrown, HasHead, HasMore, HasNoHead, HasNoRequest, HeaderSpan, IsErrAnd, IsRequestAt, IsRequestWithin, List, Ok, ReadsRequest, ReadsRequest-append, RequestHead, RequestOverflows, Result, [], ap, append_assoc, arith, drop, header_bytes, inl, inr, length, length-map, length-take-le, most_fields, name_and_value, print_blank, print_request-append, refl, subst, sym, take, take-append-add, take_all, ℕ, ⊎_elim, ◌++◌, ◌+◌, ◌-◌, ◌<◌, ◌∙◌, ◌∷◌, ◌≡◌, ◌≤◌, ◌⊎◌}
use Rattle.httparse.specs.declared.spans.RequestSpans.{RequestSpans}
use Rattle.http_desk.specs.declared.serve.ReadEnd.{ReadEnd}
use Rattle.http_desk.specs.declared.serve.ReadEnd.TheVariants as end

nothing_behind : (xs : List ℕ) → xs ++ [] ≡ xs
nothing_behind [] = refl
nothing_behind (x ∷ xs) = ap (λ ys. x ∷ ys) (nothing_behind xs)

whole_room : (bytes : List ℕ) (h : RequestHead) → length bytes ≤ 16_384 → HasHead bytes h → (rest : List ℕ) × ReadsRequest bytes h rest
whole_room bytes h le head = (head.0.0, subst (λ b. ReadsRequest b h head.0.0) (take_all 16_384 bytes le) head.0.1)

pub full : (bytes : List ℕ) → length bytes ≤ 16_384 → 16_384 ≤ length bytes → HasNoRequest bytes → HasNoHead bytes
full bytes le ge none = (λ h head. let reads = whole_room bytes h le head in none h reads.0 reads.1, inr ge)

pub over : (bytes : List ℕ) → length bytes ≤ 16_384 → RequestOverflows most_fields bytes → HasNoHead bytes
over bytes le overflows = (
  λ h head.
      let reads = whole_room bytes h le head in
      let longer : ReadsRequest (bytes ++ []) h reads.0 = subst (λ b. ReadsRequest b h reads.0) (sym (nothing_behind bytes)) reads.1 in
      let more : most_fields < length h.fields = overflows [] h reads.0 longer in
      let few : length h.fields ≤ most_fields = head.1 in
      absurd (omega (arith, more, few)),
  inl overflows,
)

pub come_more : (start mid now : Given) (before after : List ℕ) → mid.bytes ≡ start.bytes ++ before → HasCome mid now before after → now.bytes ≡ start.bytes ++ after
come_more start mid now before after so_far more =
    more.given ∙ ap (λ b. b ++ more.part) so_far ∙ append_assoc start.bytes before more.part ∙ ap (λ b. start.bytes ++ b) (sym more.bytes)

-- one read more
pub grown_more : (start mid now : Given) (first before after : List ℕ) → HasGrown start mid first before → HasCome mid now before after → HasGrown start now first after
grown_more start mid now first before after so_far more = record {
  part = so_far.part ++ more.part;
  bytes = more.bytes ∙ ap (λ b. b ++ more.part) so_far.bytes ∙ append_assoc first so_far.part more.part;
  given = more.given ∙ ap (λ b. b ++ more.part) so_far.given ∙ append_assoc start.bytes so_far.part more.part;
  failures = more.failures ∙ so_far.failures;
  idle = more.idle ∙ so_far.idle;
}

-- reading went on behind a head, and ended early
pub ended_all : (start mid now : Given) (turns : ℕ) → turns ≤ 100_000 → mid.calls ≡ start.calls + turns → mid.failures ≡ start.failures → mid.idle ≡ start.idle → HasEndedAfter turns mid now → HasEndedEarly start now
ended_all start mid now turns few calls failures idle ended = ⊎_elim
    (λ why. inl (subst (λ (f : ℕ). (f < now.failures) ⊎ (start.idle < now.idle)) failures (subst (λ (i : ℕ). (mid.failures < now.failures) ⊎ (i < now.idle)) idle why)))
    (λ many. inr (omega (arith, few, calls, many)))
    ended

room_split : (n : ℕ) → n ≤ 16_384 → n + (16_384 - n) ≡ 16_384
room_split n le = omega (arith, le)

-- a head stays where more bytes come behind it
pub head_stays : (before part : List ℕ) (h : RequestHead) → length before ≤ 16_384 → HasHead before h → HasHead (before ++ part) h
head_stays before part h le has =
    let reads = whole_room before h le has in
    let more : List ℕ = take (16_384 - length before) part in
    let room : take 16_384 (before ++ part) ≡ before ++ more = ap (λ n. take n (before ++ part)) (sym (room_split (length before) le)) ∙ take-append-add before part (16_384 - length before) in
    ((reads.0 ++ more, subst (λ b. ReadsRequest b h (reads.0 ++ more)) (sym room) (ReadsRequest-append before h reads.0 more reads.1)), has.1)

-- a head within the room
pub begins : (bytes : List ℕ) (headers : List HeaderSpan) (spans : RequestSpans) (h : RequestHead) → length bytes ≤ 16_384 → length headers ≡ 64 → IsRequestWithin bytes headers spans → IsRequestAt bytes headers spans h → HasHead bytes h
begins bytes headers spans h room few within at =
    let count : spans.headers ≤ length headers = within.section.count_fits in
    let same : length h.fields ≡ spans.headers = sym (length-map h.fields name_and_value) ∙ ap length (sym at.fields) ∙ length-map (take spans.headers headers) (header_bytes bytes) ∙ length-take-le spans.headers headers count in
    let fits : length h.fields ≤ 64 = omega (arith, same, count, few) in
    ((drop spans.len bytes, subst (λ b. ReadsRequest b h (drop spans.len bytes)) (sym (take_all 16_384 bytes room)) at.reads), fits)

err_of : {A E : Type 0} → Result A E → E → E
err_of (Ok x) other = other
err_of (Err e) other = e

-- one fault, as the fault of two calls
pub other_err : {A B E : Type 0} (x y : E) → ◌≡◌ {A = Result A E} (Err x) (Err y) → ◌≡◌ {A = Result B E} (Err x) (Err y)
unfolding err_of
other_err x y e = ap (λ r. Err (err_of r x)) e

-- no head is there of no bytes, nor where the parser found none
cons_in : (a b c : List ℕ) (x : ℕ) → ¬ ([] ≡ a ++ (b ++ (x ∷ c)))
cons_in [] [] c x e = cc
cons_in [] (b ∷ bs) c x e = cc
cons_in (a ∷ rest) b c x e = cc

pub none_of_nothing : (h : RequestHead) → ¬ (HasHead [] h)
none_of_nothing h head =
    let reads = whole_room [] h (omega arith) head in
    cons_in (print_blank h.blank) h.method _ _ (reads.1.1 ∙ print_request-append h reads.0)

pub none_found : (bytes : List ℕ) → length bytes ≤ 16_384 → HasNoRequest bytes → (h : RequestHead) → ¬ (HasHead bytes h)
none_found bytes le none h head = let reads = whole_room bytes h le head in none h reads.0 reads.1

-- bytes that have come behind others
pub more_come : (start mid now : Given) (before after : List ℕ) → mid.bytes ≡ start.bytes ++ before → HasMore mid now before after → now.bytes ≡ start.bytes ++ after
more_come start mid now before after so_far (part, (is, come)) =
    come ∙ ap (λ b. b ++ part) so_far ∙ append_assoc start.bytes before part ∙ ap (λ b. start.bytes ++ b) (sym is)

-- an error that is passed on
pub passed_read : {A : Type 0} (r : Result A ReadEnd) (e : ReadEnd) (C : Type 0) → IsErrAnd r (λ x. x ≡ e) → (e ≡ end.Read → C) → r ≡ Err end.Read → C
passed_read (Ok x) e C same told is = absurd same
passed_read (Err x) e C same told is = let read : x ≡ end.Read = cc in told (sym same ∙ read)
