-- Retries act once: the law over every list of events.
use Rattle.std.proofs.Common.{◌≡◌, ℕ, Bool, true, false, ◌&&◌, ◌||◌, ◌==◌, ◌⊎◌, inl, inr, Option, Some, None, is_none, is_some, Result, Ok, Err, List, [], ◌∷◌, ◌++◌, refl, sym, ap, subst, ◌∙◌, arith, true≢false}
use Rattle.station_core.proofs.Common.{Acted, AllByRecursion, Answer, Cargo, Done, Input, IsTrue, Keyed, LocalMinute, Refusal, Refused, State, Stepped, Wire, accepted, acted, after_all, answered, answers_of, bytes_eq, command_text, first_time, has_room, if◌then◌else◌, kept_with, key_answer, list_any, nat_tests, opening, refused, repeated, step, stepped, text_answer, with_notices}
use Rattle.station_core.specs.declared.answer.Reply.{Reply}
use Rattle.station_core.specs.Retries.{RetryEvent, sent as sending, cut_before, cut_after, reopened, World, after_events, is_done, IfDone, commits, committed, same_identity, same_request, EachOnce, StandsIn, started, ActsOnce}

-- Texts.

pub bytes_eq_refl : (a : List ℕ) → bytes_eq a a ≡ true
bytes_eq_refl [] = refl
bytes_eq_refl (x ∷ a) = let e : (x == x) ≡ true = grind (arith, nat_tests) in (λ i. e i && bytes_eq a a) ∙ bytes_eq_refl a

-- What a step does.

-- an input that is accepted for the first time
pub record Commits (s : State) (i : Input) (o : Option Answer) (after : Stepped) : Type 0 where
  pub yes : (is_none o && is_done after.answer) ≡ true
  pub new : o ≡ None
  pub count : ℕ
  pub cargo : Cargo
  pub is : after ≡ stepped (accepted count) (kept_with i count (record s { cargo = cargo }))

-- any other input changes nothing, and gets a reply only where that was kept
pub record Rests (s : State) (o : Option Answer) (after : Stepped) : Type 0 where
  pub no_commit : (is_none o && is_done after.answer) ≡ false
  pub same : after.state ≡ s
  pub kept : (r : Reply) → after.answer ≡ Done r → o ≡ Some (Done r)

by_result : (s : State) (i : Input) (a : Result Acted Refusal) → Commits s i None (first_time s i a) ⊎ Rests s None (first_time s i a)
by_result s i (Err refusal) = inr (record { no_commit = refl; same = refl; kept = λ r e. cc })
by_result s i (Ok a) =
    elim (has_room (with_notices a)) as (λ b. Commits s i None (if b then stepped (accepted a.count) (kept_with i a.count (record s { cargo = with_notices a })) else stepped (refused 402) s)
    ⊎ Rests s None (if b then stepped (accepted a.count) (kept_with i a.count (record s { cargo = with_notices a })) else stepped (refused 402) s)) [
      | true ↦ inl (record { yes = refl; new = refl; count = a.count; cargo = with_notices a; is = refl })
      | false ↦ inr (record { no_commit = refl; same = refl; kept = λ r e. cc })
    ]

by_option : (s : State) (i : Input) (m : LocalMinute) (o : Option Answer) → Commits s i o (answered s i m o) ⊎ Rests s o (answered s i m o)
by_option s i m (Some answer) = inr (record { no_commit = refl; same = refl; kept = λ r e. ap Some e })
by_option s i m None = by_result s i (acted s.cargo i m)

pub step_cases : (s : State) (i : Input) (m : LocalMinute) → Commits s i (repeated s i) (step s i m) ⊎ Rests s (repeated s i) (step s i m)
step_cases s i m = by_option s i m (repeated s i)

-- The state.

abbrev world : State → Bool → List (Input × Answer) → World
world s up told = record { state = s; is_up = up; told = told }

-- what is said of the world after an event, where an input either commits or changes nothing
state_after : (es : List RetryEvent) (s : State) (up : Bool) (told : List (Input × Answer)) → (after_events (world s up told) es).state ≡ (after_all s (committed (world s up told) es))
state_after [] s up told = refl
state_after (sending i m ∷ es) s false told = state_after es s false told
state_after (sending i m ∷ es) s true told =
    let next = told ++ (i, (step s i m).answer) ∷ [] in
    elim (step_cases s i m) as (λ _. (after_events (world (step s i m).state true next) es).state
    ≡ (after_all s ((if true && commits s i m then (i, m) ∷ [] else []) ++ committed (world (step s i m).state true next) es))) [
      | inl c ↦ (state_after es (step s i m).state true next) ∙ sym (ap (λ b. (after_all s ((if b then (i, m) ∷ [] else []) ++ committed (world (step s i m).state true next) es))) c.yes)
      | inr r ↦ (state_after es (step s i m).state true next) ∙ ap (λ z. (after_all z (committed (world (step s i m).state true next) es))) r.same
          ∙ sym (ap (λ b. (after_all s ((if b then (i, m) ∷ [] else []) ++ committed (world (step s i m).state true next) es))) r.no_commit)
    ]
state_after (cut_before i m ∷ es) s up told = state_after es s false told
state_after (cut_after i m ∷ es) s false told = state_after es s false told
state_after (cut_after i m ∷ es) s true told =
    elim (step_cases s i m) as (λ _. (after_events (world (step s i m).state false told) es).state
    ≡ (after_all s ((if true && commits s i m then (i, m) ∷ [] else []) ++ committed (world (step s i m).state false told) es))) [
      | inl c ↦ (state_after es (step s i m).state false told) ∙ sym (ap (λ b. (after_all s ((if b then (i, m) ∷ [] else []) ++ committed (world (step s i m).state false told) es))) c.yes)
      | inr r ↦ (state_after es (step s i m).state false told) ∙ ap (λ z. (after_all z (committed (world (step s i m).state false told) es))) r.same
          ∙ sym (ap (λ b. (after_all s ((if b then (i, m) ∷ [] else []) ++ committed (world (step s i m).state false told) es))) r.no_commit)
    ]
state_after (reopened ∷ es) s up told = state_after es s true told

-- What is kept.

bytes_eq_sym : (a b : List ℕ) → bytes_eq a b ≡ bytes_eq b a
bytes_eq_sym [] [] = refl
bytes_eq_sym [] (y ∷ b) = refl
bytes_eq_sym (x ∷ a) [] = refl
bytes_eq_sym (x ∷ a) (y ∷ b) = λ i. turned x y i && bytes_eq_sym a b i
  where
    turned : (x y : ℕ) → (x == y) ≡ (y == x)
    turned x y = grind (arith, nat_tests)

same_request_refl : (i : Input) → same_request i i ≡ true
same_request_refl (Keyed key command) = (λ i. bytes_eq_refl key i && bytes_eq (command_text command) (command_text command)) ∙ bytes_eq_refl (command_text command)
same_request_refl (Wire telegram) = bytes_eq_refl telegram.text

abbrev after_keeping : State → Input → ℕ → Cargo → State
after_keeping s i n c = kept_with i n (record s { cargo = c })

-- what was known stays known
known_after : (s : State) (c : Cargo) (n : ℕ) (i j : Input) → is_some (repeated s j) ≡ true → is_some (repeated (after_keeping s i n c) j) ≡ true
known_after s c n (Keyed key command) (Keyed other again) h =
    elim (bytes_eq other key) as (λ b. is_some (key_answer (if b then Some (record { request = command_text command; count = n }) else s.kept_keys other) (command_text again)) ≡ true) [ true ↦ refl | false ↦ h ]
known_after s c n (Keyed key command) (Wire telegram) h = h
known_after s c n (Wire telegram) (Keyed other again) h = h
known_after s c n (Wire telegram) (Wire other) h =
    elim (bytes_eq other.text telegram.text) as (λ b. is_some (text_answer (if b then Some n else s.kept_texts other.text)) ≡ true) [ true ↦ refl | false ↦ h ]

-- what was just kept is known
known_now : (s : State) (c : Cargo) (n : ℕ) (i j : Input) → same_identity i j ≡ true → is_some (repeated (after_keeping s i n c) j) ≡ true
known_now s c n (Keyed key command) (Keyed other again) h =
    ap (λ b. is_some (key_answer (if b then Some (record { request = command_text command; count = n }) else s.kept_keys other) (command_text again))) (bytes_eq_sym other key ∙ h)
known_now s c n (Keyed key command) (Wire telegram) h = absurd (true≢false (sym h))
known_now s c n (Wire telegram) (Keyed other again) h = absurd (true≢false (sym h))
known_now s c n (Wire telegram) (Wire other) h = ap (λ b. is_some (text_answer (if b then Some n else s.kept_texts other.text))) (bytes_eq_sym other.text telegram.text ∙ h)

-- a kept reply is the one that was just kept for this request, or was kept before
kept_from : (s : State) (c : Cargo) (n : ℕ) (i j : Input) (r : Reply) → repeated (after_keeping s i n c) j ≡ Some (Done r) → (IsTrue (same_request j i) × (accepted n ≡ Done r)) ⊎ (repeated s j ≡ Some (Done r))
kept_from s c n (Keyed key command) (Keyed other again) r h =
    elim (bytes_eq other key) as (λ b. key_answer (if b then Some (record { request = command_text command; count = n }) else s.kept_keys other) (command_text again) ≡ Some (Done r)
    → (IsTrue (b && bytes_eq (command_text again) (command_text command)) × (accepted n ≡ Done r)) ⊎ (key_answer (s.kept_keys other) (command_text again) ≡ Some (Done r))) [
      | true ↦ λ e. elim (bytes_eq (command_text command) (command_text again)) as (λ b. bytes_eq (command_text command) (command_text again) ≡ b → ◌≡◌ {A = Option Answer} (Some (if b then accepted n else refused 501)) (Some (Done r))
          → (IsTrue (bytes_eq (command_text again) (command_text command)) × (accepted n ≡ Done r)) ⊎ (key_answer (s.kept_keys other) (command_text again) ≡ Some (Done r))) [
            | true ↦ λ t e. inl (bytes_eq_sym (command_text again) (command_text command) ∙ t, some_same (accepted n) (Done r) e)
            | false ↦ λ _ e. absurd (not_refused r e)
          ] refl e
      | false ↦ λ e. inr e
    ] h
  where
    some_same : (a b : Answer) → ◌≡◌ {A = Option Answer} (Some a) (Some b) → a ≡ b
    some_same a b e = cc

    not_refused : (r : Reply) → ◌≡◌ {A = Option Answer} (Some (refused 501)) (Some (Done r)) → ⊥
    not_refused r e = cc
kept_from s c n (Keyed key command) (Wire telegram) r h = inr h
kept_from s c n (Wire telegram) (Keyed other again) r h = inr h
kept_from s c n (Wire telegram) (Wire other) r h =
    elim (bytes_eq other.text telegram.text) as (λ b. text_answer (if b then Some n else s.kept_texts other.text) ≡ Some (Done r) → (IsTrue b × (accepted n ≡ Done r)) ⊎ (text_answer (s.kept_texts other.text) ≡ Some (Done r))) [
      | true ↦ λ e. inl (refl, some_same (accepted n) (Done r) e)
      | false ↦ λ e. inr e
    ] h
  where
    some_same : (a b : Answer) → ◌≡◌ {A = Option Answer} (Some a) (Some b) → a ≡ b
    some_same a b e = cc

-- Each identity once.

abbrev AreNew : State → List (Input × LocalMinute) → Type 0
AreNew s is = AllByRecursion (λ (j : Input × LocalMinute). is_some (repeated s j.0) ≡ false) is

was_new : (a b : Bool) → (a ≡ true → b ≡ true) → b ≡ false → a ≡ false
was_new true b f e = absurd (true≢false (sym (f refl) ∙ e))
was_new false b f e = refl

new_before : (s : State) (c : Cargo) (n : ℕ) (i : Input) (is : List (Input × LocalMinute)) → AreNew (after_keeping s i n c) is → AreNew s is
new_before s c n i [] h = tt
new_before s c n i (j ∷ is) h = (was_new _ _ (known_after s c n i j.0) h.0, new_before s c n i is h.1)

others : (s : State) (c : Cargo) (n : ℕ) (i : Input) (is : List (Input × LocalMinute)) → AreNew (after_keeping s i n c) is → list_any (λ (j : Input × LocalMinute). same_identity i j.0) is ≡ false
others s c n i [] h = refl
others s c n i (j ∷ is) h = (λ k. was_new _ _ (known_now s c n i j.0) h.0 k || list_any (λ (j : Input × LocalMinute). same_identity i j.0) is) ∙ others s c n i is h.1

-- the inputs that commit are new at the start, and none comes twice
record CommitOnce (s : State) (is : List (Input × LocalMinute)) : Type 0 where
  new : AreNew s is
  once : EachOnce is

one_more : (s : State) (i : Input) (m : LocalMinute) (is : List (Input × LocalMinute)) → Commits s i (repeated s i) (step s i m) → CommitOnce (step s i m).state is → CommitOnce s ((i, m) ∷ is)
one_more s i m is c h =
    let later : AreNew (after_keeping s i c.count c.cargo) is = subst (λ z. AreNew z is) (ap (λ (z : Stepped). z.state) c.is) h.new in
    record {
      new = (ap is_some c.new, new_before s c.cargo c.count i is later);
      once = (others s c.cargo c.count i is later, h.once);
    }

commit_once : (es : List RetryEvent) (s : State) (up : Bool) (told : List (Input × Answer)) → CommitOnce s (committed (world s up told) es)
commit_once [] s up told = record { new = tt; once = tt }
commit_once (sending i m ∷ es) s false told = commit_once es s false told
commit_once (sending i m ∷ es) s true told =
    let next = told ++ (i, (step s i m).answer) ∷ [] in
    let rest = committed (world (step s i m).state true next) es in
    let after = commit_once es (step s i m).state true next in
    elim (step_cases s i m) as (λ _. CommitOnce s ((if true && commits s i m then (i, m) ∷ [] else []) ++ rest)) [
      | inl c ↦ subst (λ b. CommitOnce s ((if b then (i, m) ∷ [] else []) ++ rest)) (sym c.yes) (one_more s i m rest c after)
      | inr r ↦ subst (λ b. CommitOnce s ((if b then (i, m) ∷ [] else []) ++ rest)) (sym r.no_commit) (subst (λ z. CommitOnce z rest) r.same after)
    ]
commit_once (cut_before i m ∷ es) s up told = commit_once es s false told
commit_once (cut_after i m ∷ es) s false told = commit_once es s false told
commit_once (cut_after i m ∷ es) s true told =
    let rest = committed (world (step s i m).state false told) es in
    let after = commit_once es (step s i m).state false told in
    elim (step_cases s i m) as (λ _. CommitOnce s ((if true && commits s i m then (i, m) ∷ [] else []) ++ rest)) [
      | inl c ↦ subst (λ b. CommitOnce s ((if b then (i, m) ∷ [] else []) ++ rest)) (sym c.yes) (one_more s i m rest c after)
      | inr r ↦ subst (λ b. CommitOnce s ((if b then (i, m) ∷ [] else []) ++ rest)) (sym r.no_commit) (subst (λ z. CommitOnce z rest) r.same after)
    ]
commit_once (reopened ∷ es) s up told = commit_once es s true told

-- What is returned.

abbrev IsKeptOrStands : State → List (Input × LocalMinute) → Input → Reply → Type 0
IsKeptOrStands s is j r = (repeated s j ≡ Some (Done r)) ⊎ StandsIn is (answers_of s is) j r

abbrev AllTold : (Input → Reply → Type 0) → List (Input × Answer) → Type 0
AllTold P told = AllByRecursion (λ (t : Input × Answer). IfDone t.1 (λ r. P t.0 r)) told

if_done : (v : Answer) (Q : Reply → Type 0) → ((r : Reply) → v ≡ Done r → Q r) → IfDone v Q
if_done (Done r) Q f = f r refl
if_done (Refused e) Q f = tt

told_push : (P : Input → Reply → Type 0) (told : List (Input × Answer)) (t : Input × Answer) → AllTold P told → IfDone t.1 (λ r. P t.0 r) → AllTold P (told ++ t ∷ [])
told_push P [] t h q = (q, tt)
told_push P (x ∷ told) t h q = (h.0, told_push P told t h.1 q)

-- after a commit, what is kept or stands in the rest is kept before or stands in the whole
shifts : (s : State) (i : Input) (m : LocalMinute) (is : List (Input × LocalMinute)) (P : Input → Reply → Type 0) → Commits s i (repeated s i) (step s i m) →
    ((j : Input) (r : Reply) → IsKeptOrStands s ((i, m) ∷ is) j r → P j r) → (j : Input) (r : Reply) → IsKeptOrStands (step s i m).state is j r → P j r
shifts s i m is P c h j r (inr stands) = h j r (inr (inr stands))
shifts s i m is P c h j r (inl kept) =
    elim (kept_from s c.cargo c.count i j r (subst (λ z. repeated z j ≡ Some (Done r)) (ap (λ (z : Stepped). z.state) c.is) kept)) [
      | inl now ↦ h j r (inr (inl (now.0, ap (λ (z : Stepped). z.answer) c.is ∙ now.1)))
      | inr before ↦ h j r (inl before)
    ]

here_first : (s : State) (i : Input) (m : LocalMinute) (is : List (Input × LocalMinute)) (P : Input → Reply → Type 0) →
    ((j : Input) (r : Reply) → IsKeptOrStands s ((i, m) ∷ is) j r → P j r) → IfDone (step s i m).answer (λ r. P i r)
here_first s i m is P h = if_done _ _ (λ r e. h i r (inr (inl (same_request_refl i, e))))

told_stands : (es : List RetryEvent) (s : State) (up : Bool) (told : List (Input × Answer)) (P : Input → Reply → Type 0) →
    ((j : Input) (r : Reply) → IsKeptOrStands s (committed (world s up told) es) j r → P j r) → AllTold P told → AllTold P (after_events (world s up told) es).told
told_stands [] s up told P h t = t
told_stands (sending i m ∷ es) s false told P h t = told_stands es s false told P h t
told_stands (sending i m ∷ es) s true told P h t =
    let next = told ++ (i, (step s i m).answer) ∷ [] in
    let rest = committed (world (step s i m).state true next) es in
    elim (step_cases s i m) as (λ _. AllTold P (after_events (world (step s i m).state true next) es).told) [
      | inl c ↦
          let here = subst (λ b. (j : Input) (r : Reply) → IsKeptOrStands s ((if b then (i, m) ∷ [] else []) ++ rest) j r → P j r) c.yes h in
          told_stands es (step s i m).state true next P (shifts s i m rest P c here) (told_push P told (i, (step s i m).answer) t (here_first s i m rest P here))
      | inr k ↦
          let here = subst (λ b. (j : Input) (r : Reply) → IsKeptOrStands s ((if b then (i, m) ∷ [] else []) ++ rest) j r → P j r) k.no_commit h in
          told_stands es (step s i m).state true next P (subst (λ z. (j : Input) (r : Reply) → IsKeptOrStands z rest j r → P j r) (sym k.same) here)
          (told_push P told (i, (step s i m).answer) t (if_done _ _ (λ r e. here i r (inl (k.kept r e)))))
    ]
told_stands (cut_before i m ∷ es) s up told P h t = told_stands es s false told P h t
told_stands (cut_after i m ∷ es) s false told P h t = told_stands es s false told P h t
told_stands (cut_after i m ∷ es) s true told P h t =
    let rest = committed (world (step s i m).state false told) es in
    elim (step_cases s i m) as (λ _. AllTold P (after_events (world (step s i m).state false told) es).told) [
      | inl c ↦
          let here = subst (λ b. (j : Input) (r : Reply) → IsKeptOrStands s ((if b then (i, m) ∷ [] else []) ++ rest) j r → P j r) c.yes h in
          told_stands es (step s i m).state false told P (shifts s i m rest P c here) t
      | inr k ↦
          let here = subst (λ b. (j : Input) (r : Reply) → IsKeptOrStands s ((if b then (i, m) ∷ [] else []) ++ rest) j r → P j r) k.no_commit h in
          told_stands es (step s i m).state false told P (subst (λ z. (j : Input) (r : Reply) → IsKeptOrStands z rest j r → P j r) (sym k.same) here) t
    ]
told_stands (reopened ∷ es) s up told P h t = told_stands es s true told P h t

-- nothing is kept at the opening
pub new_keeps_none : (here : List ℕ) (i : Input) → repeated (opening here) i ≡ None
new_keeps_none here (Keyed key command) = refl
new_keeps_none here (Wire telegram) = refl

-- the law of retries
pub acts_once : (start : State) (events : List RetryEvent) → ActsOnce start events
acts_once start events = record {
  state = state_after events start true [];
  once = (commit_once events start true []).once;
  told = told_stands events start true [] (λ i reply. IsKeptOrStands start (committed (started start) events) i reply) (λ i reply h. h) tt;
}
