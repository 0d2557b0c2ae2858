-- What a request wants, by what has come of it.
use Rattle.http_desk.proofs.Common.{Answers, BeginsWith, BodyAsks, BodyWants, Fault, FaultTold, HasHead, HasNoHead, HasPartBody, HeadAsks, HeadWants, IsAnsweredAs, IsAskedUnder, LacksBody, List, LocalMinute, Replied, Reply, RequestHead, SendsWhole, State, Wanted, Wants, ap, arith, body_reply, body_state, codes, drop, fault, fault_reply, head_asks, head_of, head_room, key_of, length, length-append, length-drop, meant, posted_of, print_request, request_unique, subst, sym, take, take-append-drop, wanted_state, ℕ, ◌++◌, ◌+◌, ◌-◌, ◌<◌, ◌∙◌, ◌≡◌, ◌≤◌}
use Rattle.http_desk.specs.declared.wanted.Post.{Post}
use Rattle.http_desk.specs.declared.wanted.Wanted.TheVariants as wanted
use Rattle.http_desk.specs.declared.wanted.HeadWants.TheVariants as wants
use Rattle.http_desk.proofs.Heads.{head_stays}

module _ (bytes : List ℕ) where
  -- a request has one head
  pub one_head : (h k : RequestHead) → HasHead bytes h → HasHead bytes k → h ≡ k
  one_head h k has also = (request_unique (take head_room bytes) h k has.0.0 also.0.0 has.0.1 also.0.1).0

  abbrev AnsweredBy : State → LocalMinute → ℕ → List ℕ → State → RequestHead → Type 0
  AnsweredBy s at status out after h = IsAnsweredAs (head_asks (head_of h)) (head_of h) (drop (length (print_request h)) bytes) s at status out after

  by_head : (s : State) (at : LocalMinute) (status : ℕ) (out : List ℕ) (after : State) (h : RequestHead) → HasHead bytes h → AnsweredBy s at status out after h → Answers bytes s at status out after
  by_head s at status out after h has answer = record {
    head = λ k also. subst (AnsweredBy s at status out after) (one_head h k has also) answer;
    none = λ no. absurd (no h has);
  }

  pub now_wants : (w : Wanted) (key : _) (start : ℕ) → BeginsWith bytes (wants.Now w) key start → Wants bytes w
  now_wants w key start b = record {
    answered = λ s at status out after r. by_head s at status out after b.head b.has (b.wants.answered (head_of b.head) (drop (length (print_request b.head)) bytes) s at status out after r);
    report = λ name is. (b.head, b.has, b.wants.report name is);
    input = λ i is. absurd (b.wants.input i is);
  }

  room_left : (n start : ℕ) → start + n ≤ length bytes → n ≤ length (drop start bytes)
  room_left n start fits = let l : length (drop start bytes) ≡ length bytes - start = length-drop start bytes in omega (arith, l, fits)

  -- what the body asks, at its place behind the head
  asked_there : (post : Post) (n : ℕ) (key : _) (start : ℕ) (body : List ℕ) (asks : BodyAsks) (b : BeginsWith bytes (wants.Body post n) key start) → start + n ≤ length bytes
      → body ≡ take n (drop start bytes) → IsAskedUnder (posted_of post) key body asks
      → SendsWhole (posted_of post) n (head_of b.head) (drop (length (print_request b.head)) bytes) asks
  asked_there post n key start body asks b fits is asked =
      let starts : drop start bytes ≡ drop (length (print_request b.head)) bytes = ap (λ k. drop k bytes) b.start_is in
      let under : IsAskedUnder (posted_of post) (key_of (head_of b.head).fields) body asks = subst (λ k. IsAskedUnder (posted_of post) k body asks) b.key_is asked in
      record {
        whole = subst (λ (l : List ℕ). n ≤ length l) starts (room_left n start fits);
        asked = subst (λ (l : List ℕ). IsAskedUnder (posted_of post) (key_of (head_of b.head).fields) l asks) (is ∙ ap (λ (l : List ℕ). take n l) starts) under;
      }

  pub body_wants : (post : Post) (n : ℕ) (key : _) (start : ℕ) (body : List ℕ) (w : Wanted) → BeginsWith bytes (wants.Body post n) key start → start + n ≤ length bytes
      → body ≡ take n (drop start bytes) → BodyWants (posted_of post) key body w → Wants bytes w
  body_wants post n key start body w b fits is (asks, asked, told) =
      let head = head_of b.head in
      let rest : List ℕ = drop (length (print_request b.head)) bytes in
      let there = asked_there post n key start body asks b fits is asked in
      record {
        answered = λ s at status out after r.
            let replied : Replied s (body_reply s at asks) (body_state s at asks) status out after =
            subst (λ (next : State). Replied s (body_reply s at asks) next status out after) (told.state s at) (subst (λ (reply : Reply). Replied s reply (wanted_state s at w) status out after) (told.reply s at) r) in
            by_head s at status out after b.head b.has (subst (λ (a : HeadAsks). IsAnsweredAs a head rest s at status out after) (sym b.wants) (asks, there, replied));
        report = λ name is. absurd (told.report name is);
        input = λ i is. record {
          head = b.head;
          has = b.has;
          posted = posted_of post;
          size = n;
          is_sent = b.wants;
          sent = subst (λ (a : BodyAsks). SendsWhole (posted_of post) n head rest a) (told.input i is) there;
        };
      }

-- more bytes came behind a head
pub begins_on : (before after part : List ℕ) (w : HeadWants) (key : _) (start : ℕ) → length before ≤ 16_384 → after ≡ before ++ part → BeginsWith before w key start → BeginsWith after w key start
begins_on before after part w key start room is b = record {
  head = b.head;
  has = subst (λ (bytes : List ℕ). HasHead bytes b.head) (sym is) (head_stays before part b.head room b.has);
  wants = b.wants;
  key_is = b.key_is;
  start_is = b.start_is;
}

pub len_of : (start n : ℕ) → (start + n) - start ≡ n
len_of start n = omega arith

-- a body that hasn't come whole
head_fits : (bytes : List ℕ) (h : RequestHead) → HasHead bytes h → length (print_request h) ≤ length bytes
head_fits bytes h has =
    let parts : length (take head_room bytes) + length (drop head_room bytes) ≡ length bytes =
    sym (length-append (take head_room bytes) (drop head_room bytes)) ∙ ap length (take-append-drop head_room bytes) in
    let front : length (take head_room bytes) ≡ length (print_request h) + length has.0.0 = ap length has.0.1.1 ∙ length-append (print_request h) has.0.0 in
    omega (arith, parts, front)

fewer_come : (whole start at n left : ℕ) → left ≡ whole - at → start ≡ at → whole < start + n → at ≤ whole → left < n
fewer_come whole start at n left rest same few fits = omega (arith, rest, same, few, fits)

pub lacks_body : (bytes : List ℕ) (w : HeadWants) (key : _) (start : ℕ) → BeginsWith bytes w key start → HasPartBody w start bytes → LacksBody bytes
lacks_body bytes (wants.Now w) key start b part = absurd part
lacks_body bytes (wants.Body post n) key start b part =
    let at : ℕ = length (print_request b.head) in
    let fewer : length (drop at bytes) < n = fewer_come (length bytes) start at n (length (drop at bytes)) (length-drop at bytes) b.start_is part (head_fits bytes b.head b.has) in
    (b.head, (b.has, (posted_of post, (n, (b.wants, fewer)))))
