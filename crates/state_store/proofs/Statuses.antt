-- The status messages of a waybill, handed on from the messages of the outbox.
use Rattle.state_store.proofs.Common.{All, Bool, Err, List, None, Ok, Option, Result, Some, State, Storing, [], ap, arith, at_rest, cond, drop, false, filter, message, nat_lt, nat_tests, numbered, refl, subst, suc, sym, take, true, true≢false, zero, ℕ, ◌+◌, ◌<◌, ◌∙◌, ◌∷◌, ◌≡◌, ◌≤◌}
use Rattle.std.proofs.Common.{subst₂}
use Rattle.std.proofs.lemmas.List.Elements.{All-cons, All-head, All-nil, All-tail}
use Rattle.std.specs.Bool.{MatchBool}
use Rattle.row_sinks.specs.Handed.{HandedOut, Hands}
use Rattle.state_store.specs.Common.{Message, is_about, messages_about, messages_after}
use Rattle.state_store.specs.Status.{AreWithin, IsWithin, Passes, is_beyond}
use Rattle.state_store.specs.Store.{HandsOut}
use Rattle.state_store.specs.declared.status.StatusOf.{StatusOf}

further : (last : Option ℕ) (n : ℕ) → is_beyond last n ≡ true → is_beyond last (n + 1) ≡ true
further None n far = far
further (Some last) n far = grind (arith, nat_tests, far)

filter_take : {X : Type 0} (p : X → Bool) (k : ℕ) (xs : List X) → (j : ℕ) × (filter p (take k xs) ≡ take j (filter p xs))
filter_take p zero xs = (0, refl)
filter_take p (suc k) [] = (0, refl)
filter_take p (suc k) (x ∷ xs) =
    let more = filter_take p k xs in
    elim (p x) as (λ b. (j : ℕ) × (cond b (x ∷ filter p (take k xs)) (filter p (take k xs)) ≡ take j (cond b (x ∷ filter p xs) (filter p xs)))) [
      | true ↦ (suc more.0, ap (λ l. x ∷ l) more.1)
      | false ↦ more
    ]

numbered_take : (k n : ℕ) (xs : List (List ℕ)) → take k (numbered message n xs) ≡ numbered message n (take k xs)
numbered_take zero n xs = refl
numbered_take (suc k) n [] = refl
numbered_take (suc k) n (x ∷ xs) = ap (λ (l : List Message). message n x ∷ l) (numbered_take k (n + 1) xs)

All-take : {X : Type 0} (P : X → Type 0) (k : ℕ) (xs : List X) → All P xs → All P (take k xs)
All-take P zero xs are = All-nil P
All-take P (suc k) [] are = All-nil P
All-take P (suc k) (x ∷ xs) are = All-cons P x (take k xs) (All-head P x xs are) (All-take P k xs (All-tail P x xs are))

module _ (w after : ℕ) (last : Option ℕ) where
  abbrev Within : Message → Type 0
  Within = IsWithin w after last

  abbrev about : List Message → List Message
  about = filter (is_about w)

  -- none of the waybill is beyond the last one
  none_beyond : (n : ℕ) (xs : List (List ℕ)) → is_beyond last n ≡ true → All Within (numbered message n xs) → about (numbered message n xs) ≡ []
  none_beyond n [] far are = refl
  none_beyond n (x ∷ xs) far are =
      by_case (is_about w (message n x)) refl (none_beyond (n + 1) xs (further last n far) (All-tail Within (message n x) (numbered message (n + 1) xs) are))
    where
      rest : List Message
      rest = numbered message (n + 1) xs

      by_case : (b : Bool) → is_about w (message n x) ≡ b → about rest ≡ [] → about (message n x ∷ rest) ≡ []
      by_case true is none = absurd (true≢false (sym far ∙ (All-head Within (message n x) rest are is).1))
      by_case false is none = ap (λ b. cond b (message n x ∷ about rest) (about rest)) is ∙ none

  -- nor before the first one
  none_before : (k n : ℕ) (xs : List (List ℕ)) → n + k ≤ after + 1 → All Within (numbered message n xs)
      → (about (numbered message (n + k) (drop k xs)) ≡ about (numbered message n xs)) × All Within (numbered message (n + k) (drop k xs))
  none_before zero n xs few are =
      let same : n ≡ n + 0 = omega arith in
      (ap (λ m. about (numbered message m xs)) (sym same), subst (λ m. All Within (numbered message m xs)) same are)
  none_before (suc k) n [] few are = (refl, All-nil Within)
  none_before (suc k) n (x ∷ xs) few are =
      by_case (is_about w (message n x)) refl (none_before k (n + 1) xs (omega (arith, few)) (All-tail Within (message n x) (numbered message (n + 1) xs) are))
    where
      rest : List Message
      rest = numbered message (n + 1) xs

      same : n + 1 + k ≡ n + suc k
      same = omega arith

      Later : ℕ → Type 0
      Later m = (about (numbered message m (drop k xs)) ≡ about rest) × All Within (numbered message m (drop k xs))

      by_case : (b : Bool) → is_about w (message n x) ≡ b → Later (n + 1 + k) → (about (numbered message (n + suc k) (drop k xs)) ≡ about (message n x ∷ rest)) × All Within (numbered message (n + suc k) (drop k xs))
      by_case true is later =
          let behind : after < n = (All-head Within (message n x) rest are is).0 in
          absurd (omega (arith, few, behind))
      by_case false is later =
          let there = subst Later same later in
          (there.0 ∙ sym (ap (λ b. cond b (message n x ∷ about rest) (about rest)) is), there.1)

  module _ {K : Type 0} (takes : K → Message → Bool → K → Type 0) where
    -- the sink took the status messages among these
    only : (n : ℕ) (xs : List (List ℕ)) (from to : StatusOf K) → from.awb ≡ w → from.last ≡ last → All Within (numbered message n xs) → HandedOut (Passes takes) (numbered message n xs) from to
        → HandedOut takes (about (numbered message n xs)) from.sink.now to.sink.now
    only n [] from to of ends are end = ap (λ (t : StatusOf K). t.sink.now) end
    only n (x ∷ xs) from to of ends are (go, mid, (name, same, still, passes), rest) =
        by_case (is_beyond last n) refl (is_about w (message n x)) refl go (subst₂ (λ v l. Taken (is_beyond l n) (is_about v (message n x)) go) of ends passes)
        (only (n + 1) xs mid to (same ∙ of) (still ∙ ends) (All-tail Within (message n x) (numbered message (n + 1) xs) are)) rest
      where
        others : List Message
        others = numbered message (n + 1) xs

        Taken : Bool → Bool → Bool → Type 0
        Taken far ours goes = MatchBool far ((goes ≡ false) × (mid.sink.now ≡ from.sink.now)) (MatchBool ours (takes from.sink.now (message n x) goes mid.sink.now) ((goes ≡ true) × (mid.sink.now ≡ from.sink.now)))

        now : to ≡ mid → to.sink.now ≡ mid.sink.now
        now = ap (λ (t : StatusOf K). t.sink.now)

        as_told : (b : Bool) → is_about w (message n x) ≡ b → HandedOut takes (cond b (message n x ∷ about others) (about others)) from.sink.now to.sink.now → HandedOut takes (about (message n x ∷ others)) from.sink.now to.sink.now
        as_told b is = subst (λ c. HandedOut takes (cond c (message n x ∷ about others) (about others)) from.sink.now to.sink.now) (sym is)

        by_case : (far : Bool) → is_beyond last n ≡ far → (ours : Bool) → is_about w (message n x) ≡ ours → (goes : Bool) → Taken far ours goes
            → (HandedOut (Passes takes) others mid to → HandedOut takes (about others) mid.sink.now to.sink.now) → MatchBool goes (HandedOut (Passes takes) others mid to) (to ≡ mid)
            → HandedOut takes (about (message n x ∷ others)) from.sink.now to.sink.now
        by_case true far ours is true (stops, kept) later more = absurd (true≢false stops)
        by_case true far ours is false (stops, kept) later end = subst (λ l. HandedOut takes l from.sink.now to.sink.now) (sym (none_beyond n (x ∷ xs) far are)) (now end ∙ kept)
        by_case false far true is true took later more = as_told true is (true, mid.sink.now, took, later more)
        by_case false far true is false took later end = as_told true is (false, mid.sink.now, took, now end)
        by_case false far false is true (goes_on, kept) later more = as_told false is (subst (λ k. HandedOut takes (about others) k to.sink.now) kept (later more))
        by_case false far false is false (goes_on, kept) later end = absurd (true≢false (sym goes_on))

    first : (k n : ℕ) (xs : List (List ℕ)) (from to : StatusOf K) → from.awb ≡ w → from.last ≡ last → All Within (numbered message n xs) → HandedOut (Passes takes) (take k (numbered message n xs)) from to
        → (j : ℕ) × HandedOut takes (take j (about (numbered message n xs))) from.sink.now to.sink.now
    first k n xs from to of ends are handed =
        let some = numbered_take k n xs in
        let taken = only n (take k xs) from to of ends (subst (All Within) some (All-take Within k (numbered message n xs) are)) (subst (λ l. HandedOut (Passes takes) l from to) some handed) in
        let prefix = filter_take (is_about w) k (numbered message n xs) in
        (prefix.0, subst (λ l. HandedOut takes l from.sink.now to.sink.now) (sym (ap about some) ∙ prefix.1) taken)

    all_or_first : {E : Type 0} (n : ℕ) (xs : List (List ℕ)) (from to : StatusOf K) (r : Result (Unit {0}) E) → from.awb ≡ w → from.last ≡ last → All Within (numbered message n xs) → Hands (Passes takes) (numbered message n xs) from to r
        → Hands takes (about (numbered message n xs)) from.sink.now to.sink.now r
    all_or_first n xs from to (Ok x) of ends are handed = only n xs from to of ends are handed
    all_or_first n xs from to (Err e) of ends are (k, handed) = first k n xs from to of ends are handed

-- whatever messages were handed out, some were handed on
module _ {K : Type 0} (takes : K → Message → Bool → K → Type 0) where
  abbrev Some_passed : StatusOf K → StatusOf K → Type 0
  Some_passed from to = (to.sink.ghost_name ≡ from.sink.ghost_name) × (ms : List Message) × HandedOut takes ms from.sink.now to.sink.now

  some_passed : (ms : List Message) (from to : StatusOf K) → HandedOut (Passes takes) ms from to → Some_passed from to
  some_passed [] from to end = (ap (λ (t : StatusOf K). t.sink.ghost_name) end, [], ap (λ (t : StatusOf K). t.sink.now) end)
  some_passed (m ∷ ms) from to (go, mid, (name, same, still, passes), rest) =
      by_case (is_beyond from.last m.number) (is_about from.awb m) go passes (some_passed ms mid to) rest
    where
      Taken : Bool → Bool → Bool → Type 0
      Taken far ours goes = MatchBool far ((goes ≡ false) × (mid.sink.now ≡ from.sink.now)) (MatchBool ours (takes from.sink.now m goes mid.sink.now) ((goes ≡ true) × (mid.sink.now ≡ from.sink.now)))

      names : to ≡ mid → to.sink.ghost_name ≡ from.sink.ghost_name
      names end = ap (λ (t : StatusOf K). t.sink.ghost_name) end ∙ name

      now : to ≡ mid → to.sink.now ≡ mid.sink.now
      now = ap (λ (t : StatusOf K). t.sink.now)

      none : to ≡ mid → mid.sink.now ≡ from.sink.now → Some_passed from to
      none end kept = (names end, [], now end ∙ kept)

      by_case : (far ours goes : Bool) → Taken far ours goes → (HandedOut (Passes takes) ms mid to → Some_passed mid to) → MatchBool goes (HandedOut (Passes takes) ms mid to) (to ≡ mid) → Some_passed from to
      by_case true ours true (stops, kept) on more = absurd (true≢false stops)
      by_case true ours false (stops, kept) on end = none end kept
      by_case false true true took on more =
          let later = on more in
          (later.0 ∙ name, m ∷ later.1, (true, mid.sink.now, took, later.2))
      by_case false true false took on end = (names end, m ∷ [], (false, mid.sink.now, took, now end))
      by_case false false true (goes_on, kept) on more =
          let later = on more in
          (later.0 ∙ name, later.1, subst (λ k. HandedOut takes later.1 k to.sink.now) kept later.2)
      by_case false false false (goes_on, kept) on end = absurd (true≢false (sym goes_on))

-- what a reader is given of a waybill, of the messages after a number
pub status_only : {K S E : Type 0} (k : Storing K) (old new : K) (r : Result (Unit {0}) E) (takes : S → Message → Bool → S → Type 0) (w after : ℕ) (last : Option ℕ) (from to : StatusOf S) (start end : S)
    → HandsOut k old new r (Passes takes) (λ s. messages_after after s.cargo) from to → from.awb ≡ w → from.last ≡ last
    → ((s : State) → k.shows old (at_rest s) → k.is_sound old → AreWithin w after last s.cargo.outbox)
    → from.sink.now ≡ start → (to.sink.ghost_name ≡ from.sink.ghost_name → to.sink.now ≡ end)
    → HandsOut k old new r takes (λ s. messages_about w s.cargo) start end
status_only {K} {S} k old new r takes w after last from to start end hands of lasts are starts ends =
    let passed = some_passed takes hands.took.0 from to hands.took.1 in
    record {
      rows = λ s shown sound.
          let within = are s shown (hands.survives.sound sound) in
          let behind = none_before w after last after 1 s.cargo.outbox (omega arith) within in
          let next : 1 + after ≡ after + 1 = omega arith in
          let at = subst (λ m. (filter (is_about w) (numbered message m (drop after s.cargo.outbox)) ≡ filter (is_about w) (numbered message 1 s.cargo.outbox)) × All (IsWithin w after last) (numbered message m (drop after s.cargo.outbox))) next behind in
          subst₂ (λ a b. Hands takes (messages_about w s.cargo) a b r) starts (ends passed.0)
          (subst (λ l. Hands takes l from.sink.now to.sink.now r) at.0
          (all_or_first w after last takes (after + 1) (drop after s.cargo.outbox) from to r of lasts at.1 (hands.rows s shown sound)));
      took = (passed.1, subst₂ (λ a b. HandedOut takes passed.1 a b) starts (ends passed.0) passed.2);
      rests = hands.rests;
      survives = hands.survives;
    }

-- nothing is known of where they lie
pub anywhere : (w : ℕ) (n : ℕ) (xs : List (List ℕ)) → 1 ≤ n → All (IsWithin w 0 None) (numbered message n xs)
anywhere w n [] one = All-nil (IsWithin w 0 None)
anywhere w n (x ∷ xs) one = All-cons (IsWithin w 0 None) (message n x) (numbered message (n + 1) xs) (λ _. (omega (arith, one), refl)) (anywhere w (n + 1) xs (omega (arith, one)))
