-- Once a 200 to a POST has begun.
use Rattle.http_desk.proofs.Common.{BeginsAs200, BodyAsks, Bool, Err, Fault, GetsReport, Given, Got, HasHead, HasServed, Head, HeadAsks, IsAfterStep, IsAnswer, IsAnsweredAs, IsAskedUnder, IsPartOut, IsPosted, IsWritten, List, LocalMinute, None, Ok, Option, Place, Posted, Printout, Refusal, Replied, RequestHead, Result, SendsWhole, ServeFault, Served, Some, State, StationAfter, [], accepted, added, answer_reply, ap, arith, bad_body, body_length, body_reply, body_state, bytes_eq, codes, compact_text, drop, false, fault, for_station, gets, head_asks, head_of, if◌then◌else◌, inl, inr, is_dry, is_foreign, key_of, length, length_among, length_beside, looks_at, looks_up, misreads, nat_le, number_told, own_asks, place_asks, place_of, posted_check, posted_command, posted_look, posted_telegram, posts, print_request, refl, refusal_status, refused_data, refuses, sends, sends_body, step, subst, sym, take, true, unreadable, values_of, within_length, wrong_method, ℕ, ◌++◌, ◌==◌, ◌||◌, ◌∙◌, ◌∷◌, ◌≡◌}
use Rattle.station_core.specs.Step.{detail_text}
use Rattle.station_core.specs.declared.answer.Answer.{Answer}
use Rattle.station_core.specs.declared.answer.Answer.TheVariants as answer
use Rattle.http_desk.specs.declared.serve.ServeFault.TheVariants as serve
use Rattle.http_desk.proofs.Arrived.{one_head}
use Rattle.http_desk.proofs.Beginnings.{first_byte, IsNo200, no_400, no_404, no_405, no_409, no_411, no_413, no_503, begins_as_200}
use Rattle.http_desk.proofs.Joining.{added_is}

if_no : (b : Bool) (m n : ℕ) → IsNo200 m → IsNo200 n → IsNo200 (if b then m else n)
if_no true m n first second = first
if_no false m n first second = second

no_refusal : (n : ℕ) → IsNo200 (refusal_status n)
no_refusal n = if_no ((n == 301) || (n == 302)) 400 409 no_400 no_409

-- What a head asks: what it refuses is no 200, and only a GET looks up.

abbrev IsTold : List ℕ → HeadAsks → Type 0
IsTold method (refuses f) = IsNo200 f.status
IsTold method (looks_up got) = bytes_eq method (codes "GET") ≡ true
IsTold method (sends posted n) = Unit {0}

abbrev IsLength : Result ℕ Fault → Type 0
IsLength (Ok n) = Unit {0}
IsLength (Err f) = IsNo200 f.status

within_told : (n : ℕ) (b : Bool) → IsLength (if b then Ok n else Err (fault 413 []))
within_told n true = tt
within_told n false = no_413

in_told : (told : Option ℕ) → IsLength (within_length told)
in_told None = no_400
in_told (Some n) = within_told n (nat_le n 65_536)

among_told : (values : List (List ℕ)) → IsLength (length_among values)
among_told [] = no_411
among_told (value ∷ []) = in_told (number_told value)
among_told (value ∷ other ∷ values) = no_400

beside_told : (encodings lengths : List (List ℕ)) → IsLength (length_beside encodings lengths)
beside_told [] lengths = among_told lengths
beside_told (encoding ∷ encodings) lengths = no_411

body_told : (method : List ℕ) (posted : Posted) (r : Result ℕ Fault) → IsLength r → IsTold method (sends_body posted r)
body_told method posted (Ok n) told = tt
body_told method posted (Err f) told = told

post_told : (b : Bool) (method : List ℕ) (asks : HeadAsks) → IsTold method asks → IsTold method (if b then asks else refuses (wrong_method (codes "POST")))
post_told true method asks told = told
post_told false method asks told = no_405

get_told : (b : Bool) (method : List ℕ) (got : Got) → bytes_eq method (codes "GET") ≡ b → IsTold method (if b then looks_up got else refuses (wrong_method (codes "GET")))
get_told true method got is = is
get_told false method got is = no_405

place_told : (head : Head) (place : Option Place) → IsTold head.method (place_asks head place)
place_told head None = no_404
place_told head (Some (posts posted)) =
    post_told (bytes_eq head.method (codes "POST")) head.method (sends_body posted (body_length head.fields))
    (body_told head.method posted (body_length head.fields) (beside_told (values_of (codes "transfer-encoding") head.fields) (values_of (codes "content-length") head.fields)))
place_told head (Some (gets got)) = get_told (bytes_eq head.method (codes "GET")) head.method got refl

origin_told : (b : Bool) (method : List ℕ) (asks : HeadAsks) → IsTold method asks → IsTold method (if b then refuses (fault 400 (codes "origin")) else asks)
origin_told true method asks told = no_400
origin_told false method asks told = told

head_told : (head : Head) → IsTold head.method (head_asks head)
head_told head = origin_told (is_foreign head.fields) head.method (own_asks head) (place_told head (place_of head.target))

no_get : (method : List ℕ) → method ≡ codes "POST" → ¬ (bytes_eq method (codes "GET") ≡ true)
no_get method is e = never (ap (λ m. bytes_eq m (codes "GET")) (sym is) ∙ e)
  where
    never : ¬ (bytes_eq (codes "POST") (codes "GET") ≡ true)
    never e = cc e

-- a bad body is no 200
abbrev IsBodyTold : BodyAsks → Type 0
IsBodyTold (bad_body f) = IsNo200 f.status
IsBodyTold _ = Unit {0}

asked_told : (posted : Posted) (key : Option (List ℕ)) (body : List ℕ) (asks : BodyAsks) → IsAskedUnder posted key body asks → IsBodyTold asks
asked_told (posted_command verb) None body asks is = subst IsBodyTold (sym is) no_400
asked_told (posted_command verb) (Some key) body asks (inl (command, said, is)) = subst IsBodyTold (sym is) tt
asked_told (posted_command verb) (Some key) body asks (inr (none, is)) = subst IsBodyTold (sym is) no_400
asked_told (posted_check verb) key body asks (d, checked, is) = subst IsBodyTold (sym is) tt
asked_told posted_telegram key body asks (inl (t, means, is)) = subst IsBodyTold (sym is) tt
asked_told posted_telegram key body asks (inr (told, why, is)) = subst IsBodyTold (sym is) tt
asked_told posted_look key body asks (inl (look, is_look, is)) = subst IsBodyTold (sym is) tt
asked_told posted_look key body asks (inr (told, why, (text, misread, is))) = subst IsBodyTold (sym is) tt

-- only a dry run looks
abbrev IsLooking : BodyAsks → Bool
IsLooking (looks_at look) = true
IsLooking (misreads text) = true
IsLooking _ = false

no_look : (posted : Posted) (key : Option (List ℕ)) (body : List ℕ) (asks : BodyAsks) → IsAskedUnder posted key body asks → IsLooking asks ≡ true → is_dry posted ≡ true
no_look (posted_command verb) None body asks is looking = absurd (never (ap IsLooking (sym is) ∙ looking))
  where
    never : ¬ (◌≡◌ {A = Bool} false true)
    never e = cc e
no_look (posted_command verb) (Some key) body asks (inl (command, said, is)) looking = absurd (never (ap IsLooking (sym is) ∙ looking))
  where
    never : ¬ (◌≡◌ {A = Bool} false true)
    never e = cc e
no_look (posted_command verb) (Some key) body asks (inr (none, is)) looking = absurd (never (ap IsLooking (sym is) ∙ looking))
  where
    never : ¬ (◌≡◌ {A = Bool} false true)
    never e = cc e
no_look posted_telegram key body asks (inl (t, means, is)) looking = absurd (never (ap IsLooking (sym is) ∙ looking))
  where
    never : ¬ (◌≡◌ {A = Bool} false true)
    never e = cc e
no_look posted_telegram key body asks (inr (told, why, is)) looking = absurd (never (ap IsLooking (sym is) ∙ looking))
  where
    never : ¬ (◌≡◌ {A = Bool} false true)
    never e = cc e
no_look (posted_check verb) key body asks is looking = refl
no_look posted_look key body asks is looking = refl

no_both : (b : Bool) → b ≡ true → b ≡ false → ⊥
no_both b is isnt = never (sym isnt ∙ is)
  where
    never : ¬ (◌≡◌ {A = Bool} false true)
    never e = cc e

-- the bodies of faults and refusals
abbrev fault_body : Fault → List ℕ
fault_body f = compact_text (refused_data f.status f.word)

abbrev refusal_body : Refusal → List ℕ
refusal_body refusal = compact_text (refused_data refusal.number (detail_text refusal.detail))

-- an answer that begins as a 200 does accepts
accepts : (s : State) (out : List ℕ) (given a : Answer) → given ≡ a → IsWritten s (answer_reply a) out → BeginsAs200 out → (count : ℕ) × (given ≡ accepted count)
accepts s out given (answer.Done reply) is written begun = (reply.count, is)
accepts s out given (answer.Refused refusal) is written (rest, e) = absurd (no_refusal refusal.number None (refusal_body refusal) (rest, sym written ∙ e))

append_none : (xs : List ℕ) → xs ++ [] ≡ xs
append_none [] = refl
append_none (x ∷ xs) = ap (λ ys. x ∷ ys) (append_none xs)

nothing_begins : (rest : List ℕ) → ¬ ([] ≡ codes "HTTP/1.1 2" ++ rest)
nothing_begins rest e = nothing (ap first_byte e)
  where
    nothing : ¬ (◌≡◌ {A = ℕ} 0 72)
    nothing e = omega (arith, e)

module _ (s : State) (at : LocalMinute) (bytes : List ℕ) (left : StationAfter)
    (settled : (t : State) → left.keeps t → (found : Option State) → left.may_find found → found ≡ Some t) where
  abbrev behind : RequestHead → List ℕ
  behind h = drop (length (print_request h)) bytes

  -- what a body that came says
  sent_begun : (h : RequestHead) → HasHead bytes h → (posted : Posted) (n : ℕ) → head_asks (head_of h) ≡ sends posted n → is_dry posted ≡ false
      → (asks : BodyAsks) → SendsWhole posted n (head_of h) (behind h) asks → (status : ℕ) (out : List ℕ) (after : State)
      → Replied s (body_reply s at asks) (body_state s at asks) status out after → left.keeps after → BeginsAs200 out → IsAfterStep bytes s at left.may_find
  sent_begun h has posted n is acts (bad_body f) sent status out after r kept (rest, e) =
      absurd (asked_told posted (key_of (head_of h).fields) (take n (behind h)) (bad_body f) sent.asked f.allow (fault_body f) (rest, sym r.written ∙ e))
  sent_begun h has posted n is acts (unreadable refusal) sent status out after r kept (rest, e) = absurd (no_refusal refusal.number None (refusal_body refusal) (rest, sym r.written ∙ e))
  sent_begun h has posted n is acts (looks_at look) sent status out after r kept begun =
      absurd (no_both (is_dry posted) (no_look posted (key_of (head_of h).fields) (take n (behind h)) (looks_at look) sent.asked refl) acts)
  sent_begun h has posted n is acts (misreads text) sent status out after r kept begun =
      absurd (no_both (is_dry posted) (no_look posted (key_of (head_of h).fields) (take n (behind h)) (misreads text) sent.asked refl) acts)
  sent_begun h has posted n is acts (for_station i) sent status out after r kept begun = (
    i,
    record { head = h; has = has; posted = posted; size = n; is_sent = is; sent = sent },
    accepts s out (step s i at).answer (step s i at).answer refl r.written begun,
    λ found finds. settled (step s i at).state (subst left.keeps r.state kept) found finds,
  )

  answered : (h : RequestHead) → HasHead bytes h → h.method ≡ codes "POST" → ((posted : Posted) (size : ℕ) → head_asks (head_of h) ≡ sends posted size → is_dry posted ≡ false) → (asks : HeadAsks) → head_asks (head_of h) ≡ asks → (status : ℕ) (out : List ℕ) (after : State)
      → IsAnsweredAs asks (head_of h) (behind h) s at status out after → left.keeps after → BeginsAs200 out → IsAfterStep bytes s at left.may_find
  answered h has post acts (refuses f) is status out after r kept (rest, e) = absurd (subst (IsTold h.method) is (head_told (head_of h)) f.allow (fault_body f) (rest, sym r.written ∙ e))
  answered h has post acts (looks_up got) is status out after r kept begun = absurd (no_get h.method post (subst (IsTold h.method) is (head_told (head_of h))))
  answered h has post acts (sends posted n) is status out after (asks, sent, r) kept begun =
      sent_begun h has posted n is (acts posted n is) asks sent status out after r kept begun

  no_report : (name : Printout) → GetsReport bytes name → ¬ (IsPosted bytes)
  no_report name (k, also, looks) (h, has, post, acts) =
      no_get k.method (ap (λ (g : RequestHead). g.method) (one_head bytes k h also has) ∙ post) (subst (IsTold k.method) looks (head_told (head_of k)))

  posted_whole : (status : ℕ) (out : List ℕ) → IsAnswer s at bytes status out left → IsPosted bytes → BeginsAs200 out → IsAfterStep bytes s at left.may_find
  posted_whole status out (inl (after, answers, (works, kept))) (h, has, post, acts) begun = answered h has post acts (head_asks (head_of h)) refl status out after (answers.head h has) kept begun
  posted_whole status out (inr (inl (is, told, states))) posted (more, e) = absurd (no_503 None (compact_text (refused_data 503 [])) (more, sym is ∙ e))
  posted_whole status out (inr (inr (name, found, part, told, kept))) posted begun = absurd (no_report name found posted)

  posted_part : (sent : ℕ) (old new : Given) → IsPartOut s at bytes sent old new left → IsPosted bytes → BeginsAs200 (added old new) → IsAfterStep bytes s at left.may_find
  posted_part sent old new (inl (status, out, answer, part)) posted begun =
      posted_whole status out answer posted (begins_as_200 sent out (subst BeginsAs200 (added_is old new (take sent out) part.1) begun))
  posted_part sent old new (inr (name, found, kept, part)) posted begun = absurd (no_report name found posted)

pub begun : (s : State) (at : LocalMinute) (came : List ℕ) (old new : Given) (left : StationAfter)
    → ((t : State) → left.keeps t → (found : Option State) → left.may_find found → found ≡ Some t) → (r : Result Served ServeFault) → (r ≡ Err serve.Read → new ≡ old)
    → HasServed s at came old new left r → IsPosted came → BeginsAs200 (added old new) → IsAfterStep came s at left.may_find
begun s at came old new left settled (Ok served) none is posted begins =
    posted_whole s at came left settled served.status (added old new) is posted begins
begun s at came old new left settled (Err serve.Read) none is posted (rest, e) =
    absurd (nothing_begins rest (sym (added_is old new [] (ap (λ (g : Given). g.bytes) (none refl) ∙ sym (append_none old.bytes))) ∙ e))
begun s at came old new left settled (Err (serve.Write sent)) none (is, why) posted begins =
    posted_part s at came left settled sent old new is posted begins
