-- What each command leaves is the state after what it answered, and what it printed is the answers.
use Rattle.cli_run.proofs.Common.{AllByRecursion, AreAnswered, AreMade, Bool, Call, Ends, Err, Given, HasAnswered, HasAnsweredAsked, HasAnsweredAsks, HasAnsweredLine, HasAnsweredRow, HasEndedAt, HasNotReceived, HasReceived, HasTakenNext, HaveBeenAnswered, HaveBeenMade, Input, IsActAsked, IsCommandAsked, IsTelegramAsked, Keeping, List, LocalMinute, None, Ok, OnlyReads, Option, Order, Request, Result, Row, RunFault, Some, State, StaysInService, [], after_all, ap, arith, asked_after, call_to, false, inl, input_of, inr, kept_lines, length, length-append, refl, row_asks, step, stock_rows, subst, suc, sym, take-append-add, take-append_seam, take-length, zero, ℕ, ⊎_elim, ◌++◌, ◌+◌, ◌∙◌, ◌∷◌, ◌≡◌, ◌⊎◌}
use Rattle.cli_run.specs.declared.telling.RunFault.TheVariants as fault
use Rattle.cli_words.specs.declared.line.LineCommand.{LineCommand}
use Rattle.cli_words.specs.declared.line.LineCommand.TheVariants as command
use Rattle.cli_run.specs.declared.request.Request.TheVariants as asked
use Rattle.cli_run.specs.Done.{HasDone, AsksAt, station_fault, HasLeft, HasSaid, IfAnswers, Turn, request_turn, row_turn, turn_after, turn_inputs, turn_line, turns_inputs, turns_text, listed, input_of_request, answers_inputs}
use Rattle.cli_run.specs.Requests.{asked_line, HasToldPart, HasToldLine}
use Rattle.cli_run.specs.Lines.{bad_line, HasToldBadRow}
use Rattle.std.specs.Prelude.{OnOk, Bool, true, false, take, drop}
use Rattle.std.proofs.lemmas.List.{append_assoc, append-nil, take-append-drop}
use Rattle.cli_run.specs.Ends.{Reached}
use Rattle.cli_run.proofs.Ran.{always, items_serve, line_service, row_service, take_serves}

abbrev Inputs : Type 0
Inputs = List (Input × LocalMinute)

after_append : (s : State) (xs ys : Inputs) → after_all s (xs ++ ys) ≡ after_all (after_all s xs) ys
after_append s [] ys = refl
after_append s (x ∷ xs) ys = after_append (step s x.0 x.1).state xs ys

all_append : (P : Input × LocalMinute → Type 0) (xs ys : Inputs) → AllByRecursion P xs → AllByRecursion P ys → AllByRecursion P (xs ++ ys)
all_append P [] ys left right = right
all_append P (x ∷ xs) ys left right = (left.0, all_append P xs ys left.1 right)

after_asked : (s : State) (asks : Request) (at : LocalMinute) → asked_after s asks at ≡ after_all s (listed (input_of_request asks at))
after_asked s (asked.Input i) at = refl
after_asked s _ at = refl

after_more : (s : State) (xs : Inputs) (asks : Request) (at : LocalMinute) → asked_after (after_all s xs) asks at ≡ after_all s (xs ++ listed (input_of_request asks at))
after_more s xs asks at = after_asked (after_all s xs) asks at ∙ sym (after_append s xs (listed (input_of_request asks at)))

are_asked : (P : Input × LocalMinute → Type 0) (asks : Request) (at : LocalMinute) → ((i : Input) → asks ≡ asked.Input i → P (i, at)) → AllByRecursion P (listed (input_of_request asks at))
are_asked P (asked.Input i) at each = (each i refl, tt)
are_asked P _ at each = tt

-- Turns, one after another.

abbrev turns_after : State → LocalMinute → List Turn → State
turns_after s at [] = s
turns_after s at (t ∷ ts) = turns_after (turn_after s at t) at ts

turn_after_is : (s : State) (at : LocalMinute) (t : Turn) → turn_after s at t ≡ after_all s (turn_inputs at t)
turn_after_is s at (request_turn number asks) = after_asked s asks at
turn_after_is s at (row_turn number) = refl

turns_after_is : (s : State) (at : LocalMinute) (ts : List Turn) → turns_after s at ts ≡ after_all s (turns_inputs at ts)
turns_after_is s at [] = refl
turns_after_is s at (t ∷ ts) =
    turns_after_is (turn_after s at t) at ts ∙ ap (λ st. after_all st (turns_inputs at ts)) (turn_after_is s at t) ∙ sym (after_append s (turn_inputs at t) (turns_inputs at ts))

text_append : (s : State) (at : LocalMinute) (ts us : List Turn) → turns_text s at (ts ++ us) ≡ turns_text s at ts ++ turns_text (turns_after s at ts) at us
text_append s at [] us = refl
text_append s at (t ∷ ts) us =
    ap (λ x. turn_line s at t ++ x) (text_append (turn_after s at t) at ts us)
    ∙ sym (append_assoc (turn_line s at t) (turns_text (turn_after s at t) at ts) (turns_text (turns_after (turn_after s at t) at ts) at us))

inputs_append : (at : LocalMinute) (ts us : List Turn) → turns_inputs at (ts ++ us) ≡ turns_inputs at ts ++ turns_inputs at us
inputs_append at [] us = refl
inputs_append at (t ∷ ts) us =
    ap (λ x. turn_inputs at t ++ x) (inputs_append at ts us) ∙ sym (append_assoc (turn_inputs at t) (turns_inputs at ts) (turns_inputs at us))

-- one more turn
one_more : (at : LocalMinute) (ts : List Turn) (t : Turn) → turns_inputs at (ts ++ t ∷ []) ≡ turns_inputs at ts ++ turn_inputs at t
one_more at ts t = inputs_append at ts (t ∷ []) ∙ ap (λ x. turns_inputs at ts ++ x) (append-nil (turn_inputs at t))

line_more : (s : State) (at : LocalMinute) (ts : List Turn) (t : Turn) → turns_text s at (ts ++ t ∷ []) ≡ turns_text s at ts ++ turn_line (after_all s (turns_inputs at ts)) at t
line_more s at ts t =
    text_append s at ts (t ∷ []) ∙ ap (λ x. turns_text s at ts ++ x) (append-nil (turn_line (turns_after s at ts) at t))
    ∙ ap (λ st. turns_text s at ts ++ turn_line st at t) (turns_after_is s at ts)

-- a line behind what was said
said_more : (s : State) (at : LocalMinute) (ts : List Turn) (t : Turn) (before mid line : List ℕ) → line ≡ turn_line (after_all s (turns_inputs at ts)) at t
    → mid ≡ before ++ turns_text s at ts → mid ++ line ≡ before ++ turns_text s at (ts ++ t ∷ [])
said_more s at ts t before mid line is said =
    ap (λ x. x ++ line) said ∙ append_assoc before (turns_text s at ts) line ∙ ap (λ x. before ++ (turns_text s at ts ++ x)) is
    ∙ ap (λ x. before ++ x) (sym (line_more s at ts t))

given : (answers : Bool) {X : Type 0} → X → IfAnswers answers X
given true x = x
given false x = tt

-- all of it was said
whole : (s : State) (at : LocalMinute) (ts : List Turn) (before after : List ℕ) (r : Result Bool RunFault) → after ≡ before ++ turns_text s at ts → HasSaid s at ts before after r
whole s at ts before after r same = record {
  rest = [];
  part = sym same ∙ sym (append-nil after);
  whole = always r same;
}

-- a line was begun
begun : (s : State) (at : LocalMinute) (ts : List Turn) (t : Turn) (before mid after line : List ℕ) (n : ℕ) (e : RunFault) → line ≡ turn_line (after_all s (turns_inputs at ts)) at t
    → mid ≡ before ++ turns_text s at ts → after ≡ mid ++ take n line → HasSaid s at (ts ++ t ∷ []) before after (Err e)
begun s at ts t before mid after line n e is said part = record {
  rest = drop n line;
  part = sym (said_more s at ts t before mid line is said) ∙ ap (λ x. mid ++ x) (sym (take-append-drop n line))
      ∙ sym (append_assoc mid (take n line) (drop n line)) ∙ ap (λ x. x ++ drop n line) (sym part);
  whole = tt;
}

module _ {K : Type 0} (k : Keeping K) (settled : (it : K) (s : State) → k.keeps it s → k.is_sound it → (found : Option State) → k.may_find it found → found ≡ Some s) where
  -- some inputs were answered, these answers were printed, and the keeper works
  record Runs (P : Input × LocalMinute → Type 0) (s : State) (at : LocalMinute) (before : List ℕ) (it : K) (after : List ℕ) : Type 0 where
    pub turns : List Turn
    pub asked : AllByRecursion P (turns_inputs at turns)
    pub kept : k.keeps it (after_all s (turns_inputs at turns))
    pub works : k.is_broken it ≡ false
    pub said : after ≡ before ++ turns_text s at turns

  module _ (P : Input × LocalMinute → Type 0) (s : State) (at : LocalMinute) (before : List ℕ) (answers : Bool) where
    abbrev Left : K → List ℕ → Result Bool RunFault → Type 0
    Left it after r = HasLeft P at answers s before after (k.may_find it) r

    -- after an answer the run goes on, and after a fault it is left
    abbrev Goes : K → List ℕ → Result Bool RunFault → Type 0
    Goes it after (Ok good) = Runs P s at before it after
    Goes it after (Err e) = Left it after (Err e)

    settle : (ts : List Turn) → AllByRecursion P (turns_inputs at ts) → (it : K) (after : List ℕ) → k.keeps it (after_all s (turns_inputs at ts)) → k.is_sound it → (r : Result Bool RunFault)
        → HasSaid s at ts before after r → Left it after r
    settle ts all it after kept sound r said = record {
      inputs = turns_inputs at ts;
      asked = all;
      answered = length (turns_inputs at ts);
      all = always r refl;
      left = λ found finds. inl (settled it _ kept sound found finds ∙ ap (λ ys. Some (after_all s ys)) (sym (take-length (turns_inputs at ts))));
      turns = ts;
      are = take-length (turns_inputs at ts);
      said = given answers said;
    }

    finish : (it : K) (after : List ℕ) (r : Result Bool RunFault) → k.is_sound it → Goes it after r → Left it after r
    finish it after (Ok good) sound run = settle run.turns run.asked it after run.kept sound (Ok good) (whole s at run.turns before after (Ok good) run.said)
    finish it after (Err e) sound left = left

    unmoved : (old new : K) (mid after : List ℕ) (r : Result Bool RunFault) → new ≡ old → after ≡ mid → k.is_sound new → Runs P s at before old mid → Goes new after r
    unmoved old new mid after (Ok good) same still sound run = record {
      turns = run.turns;
      asked = run.asked;
      kept = subst (λ it. k.keeps it (after_all s (turns_inputs at run.turns))) (sym same) run.kept;
      works = ap k.is_broken same ∙ run.works;
      said = still ∙ run.said;
    }
    unmoved old new mid after (Err e) same still sound run =
        settle run.turns run.asked new after (subst (λ it. k.keeps it (after_all s (turns_inputs at run.turns))) (sym same) run.kept) sound (Err e)
        (whole s at run.turns before after (Err e) (still ∙ run.said))

    none_yet : (it : K) → k.keeps it s → k.is_broken it ≡ false → Runs P s at before it before
    none_yet it kept works = record { turns = []; asked = tt; kept = kept; works = works; said = sym (append-nil before) }

    -- one more may have been answered, where the store failed
    stop : (ts : List Turn) → AllByRecursion P (turns_inputs at ts) → (one : Option (Input × LocalMinute)) → AllByRecursion P (listed one) → (it : K) (after : List ℕ) → (e : RunFault)
        → ((found : Option State) → k.may_find it found → (found ≡ Some (after_all s (turns_inputs at ts))) ⊎ ((e ≡ fault.Store) × (found ≡ Some (after_all (after_all s (turns_inputs at ts)) (listed one)))))
        → after ≡ before ++ turns_text s at ts → Left it after (Err e)
    stop ts all None more it after e states said = let xs = turns_inputs at ts in record {
      inputs = xs;
      asked = all;
      answered = length xs;
      all = tt;
      left = λ found finds. inl (elim (states found finds) [ inl before ↦ before | inr after ↦ after.1 ] ∙ ap (λ ys. Some (after_all s ys)) (sym (take-length xs)));
      turns = ts;
      are = take-length xs;
      said = given answers (whole s at ts before after (Err e) said);
    }
    stop ts all (Some one) more it after e states said = let xs = turns_inputs at ts in record {
      inputs = xs ++ one ∷ [];
      asked = all_append P xs (one ∷ []) all more;
      answered = length xs;
      all = tt;
      left = λ found finds. elim (states found finds) [
        | inl before ↦ inl (before ∙ ap (λ ys. Some (after_all s ys)) (sym (take-append_seam xs (one ∷ []))))
        | inr after ↦ inr (
          ap (λ cause. station_fault (Err cause)) after.0,
          omega (arith, length-append xs (one ∷ [])),
          after.1 ∙ ap Some (sym (after_append s xs (one ∷ []))) ∙ ap (λ ys. Some (after_all s ys)) (sym (take-append-add xs (one ∷ []) 1)),
        )
      ];
      turns = ts;
      are = take-append_seam xs (one ∷ []);
      said = given answers (whole s at ts before after (Err e) said);
    }

    -- the inputs with those of one more turn
    all_more : (ts : List Turn) (t : Turn) → AllByRecursion P (turns_inputs at ts) → AllByRecursion P (turn_inputs at t) → AllByRecursion P (turns_inputs at (ts ++ t ∷ []))
    all_more ts t all more = subst (AllByRecursion P) (sym (one_more at ts t)) (all_append P (turns_inputs at ts) (turn_inputs at t) all more)

    kept_more : (ts : List Turn) (number : Option ℕ) (asks : Request) (it : K) → k.keeps it (asked_after (after_all s (turns_inputs at ts)) asks at)
        → k.keeps it (after_all s (turns_inputs at (ts ++ request_turn number asks ∷ [])))
    kept_more ts number asks it kept =
        subst (λ xs. k.keeps it (after_all s xs)) (sym (one_more at ts (request_turn number asks))) (subst (k.keeps it) (after_more s (turns_inputs at ts) asks at) kept)

  module _ {E : Type 0} (P : Input × LocalMinute → Type 0) (s : State) (at : LocalMinute) (taken : E → Given) (before : List ℕ) (answers : Bool) where
    -- a request, behind others
    heard : (number : Option ℕ) (asks : Request) → ((i : Input) → asks ≡ asked.Input i → P (i, at)) → (old new : Call K E) (r : Result Bool RunFault) → k.is_sound new.keeper
        → HasAnswered k at taken number asks old new r → Runs P s at before old.keeper old.sent.bytes → Goes P s at before answers new.keeper new.sent.bytes r
    heard number asks each old new (Ok good) sound has run =
        let t = request_turn number asks in
        let answer = has.answered (after_all s (turns_inputs at run.turns)) run.kept run.works sound in
        record {
          turns = run.turns ++ t ∷ [];
          asked = all_more P s at before answers run.turns t run.asked (are_asked P asks at each);
          kept = kept_more P s at before answers run.turns number asks new.keeper answer.state;
          works = has.service.works run.works;
          said = answer.line ∙ said_more s at run.turns t before old.sent.bytes (asked_line number (after_all s (turns_inputs at run.turns)) asks at) refl run.said;
        }
    heard number asks each old new (Err e) sound has run =
        let t = request_turn number asks in
        let line = asked_line number (after_all s (turns_inputs at run.turns)) asks at in
        elim (has.stopped (after_all s (turns_inputs at run.turns)) run.kept run.works sound) [
          | inl acted ↦ settle P s at before answers (run.turns ++ t ∷ []) (all_more P s at before answers run.turns t run.asked (are_asked P asks at each)) new.keeper new.sent.bytes
              (kept_more P s at before answers run.turns number asks new.keeper acted.state) sound (Err e)
              (begun s at run.turns t before old.sent.bytes new.sent.bytes line acted.sent e refl run.said acted.line)
          | inr idle ↦ stop P s at before answers run.turns run.asked (input_of_request asks at) (are_asked P asks at each) new.keeper new.sent.bytes e
              (λ found finds. ⊎_elim (λ same. inl same) (λ store. inr (store.0, store.1 ∙ ap Some (after_asked (after_all s (turns_inputs at run.turns)) asks at))) (idle.states found finds))
              (idle.nothing ∙ run.said)
        ]

    -- one body, or one telegram
    input_goes : (IsAsked : List ℕ → Request → Type 0) → ((bytes : List ℕ) (i : Input) → IsAsked bytes (asked.Input i) → P (i, at))
        → (old new : Call K E × Given) (r : Result Bool RunFault) → k.is_sound new.0.keeper → HasAnsweredAsked IsAsked k at taken old new r
        → Runs P s at before old.0.keeper old.0.sent.bytes → Goes P s at before answers new.0.keeper new.0.sent.bytes r
    input_goes IsAsked asks_it old new r sound ran run =
        ⊎_elim (λ (got : HasReceived IsAsked (λ bytes. HasAnswered k at taken None) old.1 new.1 old.0 new.0 r).
        heard None got.asks (λ i same. asks_it got.bytes i (subst (IsAsked got.bytes) same got.asked)) old.0 new.0 r sound got.answer run)
        (λ (none : HasNotReceived old.0 new.0 r). unmoved P s at before answers old.0.keeper new.0.keeper old.0.sent.bytes new.0.sent.bytes r
        (ap (λ (c : Call K E). c.keeper) none.same) (ap (λ (c : Call K E). c.sent.bytes) none.same) sound run) ran.answered

    -- telegrams, one after another
    module _ {I : Type 0} (given : I → Given) (turned : I → I → Type 0)
        (asks_it : (bytes : List ℕ) (i : Input) → IsTelegramAsked bytes (asked.Input i) → P (i, at)) where
      abbrev Step : Call K E × I → Call K E × I → Result Bool RunFault → Type 0
      Step = HasTakenNext (λ bytes. HasAnswered k at taken None) given turned

      take_goes : (old new : Call K E × I) (r : Result Bool RunFault) → k.is_sound new.0.keeper → Step old new r → Runs P s at before old.0.keeper old.0.sent.bytes
          → Goes P s at before answers new.0.keeper new.0.sent.bytes r
      take_goes old new r sound step run = input_goes IsTelegramAsked asks_it (old.0, given step.next) (new.0, given new.1) r sound step.run run

      sound_of : (old new : Call K E × I) (r : Result Bool RunFault) → Step old new r → k.is_sound new.0.keeper → k.is_sound old.0.keeper
      sound_of old new r step h = let service = take_serves k at taken given turned old new r step in service.premise.sound h

      made : (n : ℕ) (old new : Call K E × I) (good : Bool) → AreMade Step n old new good → k.is_sound new.0.keeper → Runs P s at before old.0.keeper old.0.sent.bytes
          → Runs P s at before new.0.keeper new.0.sent.bytes
      made zero old new good (same, all) sound run = subst (λ (c : Call K E × I). Runs P s at before c.0.keeper c.0.sent.bytes) (sym same) run
      made (suc n) old new good (mid, (earlier, one, first, step, all)) sound run =
          take_goes mid new (Ok one) sound step (made n old mid earlier first (sound_of mid new (Ok one) step sound) run)

      takes_go : (count : ℕ) (old new : Call K E × I) (r : Result Bool RunFault) → HaveBeenMade Step count old new r → k.is_sound new.0.keeper → Runs P s at before old.0.keeper old.0.sent.bytes
          → Goes P s at before answers new.0.keeper new.0.sent.bytes r
      takes_go count old new (Ok good) all sound run = made count old new good all sound run
      takes_go count old new (Err e) (n, less, (mid, (earlier, first, step))) sound run =
          take_goes mid new (Err e) sound step (made n old mid earlier first (sound_of mid new (Err e) step sound) run)

    -- a line, or a row
    line_goes : ((line : List ℕ) (i : Input) → IsActAsked line (asked.Input i) → P (i, at)) → (n : ℕ) (line : List ℕ) (old new : Call K E) (r : Result Bool RunFault)
        → k.is_sound new.keeper → HasAnsweredLine k at taken n line old new r → Runs P s at before old.keeper old.sent.bytes → Goes P s at before answers new.keeper new.sent.bytes r
    line_goes asks_it n line old new r sound (inl skipped) run = unmoved P s at before answers old.keeper new.keeper old.sent.bytes new.sent.bytes r
        (ap (λ (c : Call K E). c.keeper) skipped.same) (ap (λ (c : Call K E). c.sent.bytes) skipped.same) sound run
    line_goes asks_it n line old new r sound (inr (inl unheard)) run = unmoved P s at before answers old.keeper new.keeper old.sent.bytes new.sent.bytes r
        (ap (λ (c : Call K E). c.keeper) unheard.same) (ap (λ (c : Call K E). c.sent.bytes) unheard.same) sound run
    line_goes asks_it n line old new r sound (inr (inr has)) run =
        heard (Some n) has.asks (λ i same. asks_it line i (subst (IsActAsked line) same has.asked)) old new r sound has.answer run

    -- a malformed row
    bad_goes : (n : ℕ) (old new : Call K E) (r : Result Bool RunFault) → k.is_sound new.keeper → HasToldBadRow taken n old new r → Runs P s at before old.keeper old.sent.bytes
        → Goes P s at before answers new.keeper new.sent.bytes r
    bad_goes n old new (Ok good) sound bad run =
        let t = row_turn n in
        let same = one_more at run.turns t ∙ append-nil (turns_inputs at run.turns) in
        record {
          turns = run.turns ++ t ∷ [];
          asked = all_more P s at before answers run.turns t run.asked tt;
          kept = subst (λ xs. k.keeps new.keeper (after_all s xs)) (sym same) (subst (λ it. k.keeps it (after_all s (turns_inputs at run.turns))) (sym bad.same) run.kept);
          works = ap k.is_broken bad.same ∙ run.works;
          said = bad.told.told.1 ∙ said_more s at run.turns t before old.sent.bytes (bad_line n) refl run.said;
        }
    bad_goes n old new (Err e) sound bad run =
        let t = row_turn n in
        let same = one_more at run.turns t ∙ append-nil (turns_inputs at run.turns) in
        settle P s at before answers (run.turns ++ t ∷ []) (all_more P s at before answers run.turns t run.asked tt) new.keeper new.sent.bytes
        (subst (λ xs. k.keeps new.keeper (after_all s xs)) (sym same) (subst (λ it. k.keeps it (after_all s (turns_inputs at run.turns))) (sym bad.same) run.kept)) sound (Err e)
        (begun s at run.turns t before old.sent.bytes new.sent.bytes (bad_line n) bad.told.told.sent e refl run.said bad.told.told.part)

    row_goes : ((row : Row) (order : List ℕ × Order) → row_asks row ≡ Some order → P (input_of order, at)) → (n : ℕ) (row : Row) (old new : Call K E) (r : Result Bool RunFault)
        → k.is_sound new.keeper → HasAnsweredRow k at taken n row old new r → Runs P s at before old.keeper old.sent.bytes → Goes P s at before answers new.keeper new.sent.bytes r
    row_goes asks_it n row old new r sound answered run = by_order (row_asks row) refl answered
      where
        by_order : (asks : Option (List ℕ × Order)) → row_asks row ≡ asks → HasAnsweredAsks k at taken n asks old new r → Goes P s at before answers new.keeper new.sent.bytes r
        by_order None is bad = bad_goes n old new r sound bad run
        by_order (Some order) is has =
            heard (Some n) (asked.Input (input_of order)) (λ i same. let e : input_of order ≡ i = cc in subst (λ x. P (x, at)) e (asks_it row order is)) old new r sound has run

    -- lines or rows, one after another
    module _ {A : Type 0} (Step : ℕ → A → Call K E → Call K E → Result Bool RunFault → Type 0)
        (serves : (n : ℕ) (item : A) (old new : Call K E) (r : Result Bool RunFault) → Step n item old new r → StaysInService k old.keeper new.keeper r)
        (goes : (n : ℕ) (item : A) (old new : Call K E) (r : Result Bool RunFault) → k.is_sound new.keeper → Step n item old new r → Runs P s at before old.keeper old.sent.bytes
        → Goes P s at before answers new.keeper new.sent.bytes r) where
      items_go : (n : ℕ) (items : List A) (old new : Call K E) (good : Bool) → k.is_sound new.keeper → AreAnswered Step n items old new good → Runs P s at before old.keeper old.sent.bytes
          → Runs P s at before new.keeper new.sent.bytes
      items_go n [] old new good sound (same, all) run = subst (λ (c : Call K E). Runs P s at before c.keeper c.sent.bytes) (sym same) run
      items_go n (item ∷ items) old new good sound (mid, (one, rest, step, more, all)) run =
          let service = items_serve k Step serves (n + 1) items mid new rest (Ok rest) more in
          items_go (n + 1) items mid new rest sound more (goes n item old mid (Ok one) (service.premise.sound sound) step run)

      end_goes : (items : List A) (next : Option A) (old new : Call K E) (e : RunFault) → k.is_sound new.keeper → HasEndedAt Step items next old new e → Runs P s at before old.keeper old.sent.bytes
          → Left P s at before answers new.keeper new.sent.bytes (Err e)
      end_goes items None old new e sound (why, (good, are)) run =
          unmoved P s at before answers new.keeper new.keeper new.sent.bytes new.sent.bytes (Err e) refl refl sound (items_go 1 items old new good sound are run)
      end_goes items (Some item) old new e sound (other, (mid, (good, are, step))) run =
          let service = serves (length items + 1) item mid new (Err e) step in
          goes (length items + 1) item mid new (Err e) sound step (items_go 1 items old mid good (service.premise.sound sound) are run)

      run_goes : (items_of : List ℕ → List A) (left : Option (List ℕ)) (old new : Call K E) (r : Result Bool RunFault) → k.is_sound new.keeper → HaveBeenAnswered items_of Step left old new r
          → Runs P s at before old.keeper old.sent.bytes → Goes P s at before answers new.keeper new.sent.bytes r
      run_goes items_of left old new (Ok good) sound (items, first, are) run = items_go 1 items old new good sound are run
      run_goes items_of left old new (Err e) sound (items, (next, first, end)) run = end_goes items next old new e sound end run

  module _ {I W E : Type 0} (e : Ends I W E) (at : LocalMinute) (here : List ℕ) (s : State) (old new : K × Reached I W E) (r : Result Bool RunFault)
      (kept : k.keeps old.0 s) (works : k.is_broken old.0 ≡ false) (sound : k.is_sound new.0) where
    abbrev before : List ℕ
    before = (e.printed old.1.output).bytes

    abbrev after : List ℕ
    after = (e.printed new.1.output).bytes

    -- nothing was asked
    unasked : (P : Input × LocalMinute → Type 0) → k.keeps new.0 s → HasLeft P at false s before after (k.may_find new.0) r
    unasked P still = record {
      inputs = [];
      asked = tt;
      answered = 0;
      all = always r refl;
      left = λ found finds. inl (settled new.0 s still sound found finds);
      turns = [];
      are = refl;
      said = tt;
    }

    of_same : (P : Input × LocalMinute → Type 0) → new.0 ≡ old.0 → HasLeft P at false s before after (k.may_find new.0) r
    of_same P same = unasked P (subst (λ it. k.keeps it s) (sym same) kept)

    of_reads : (P : Input × LocalMinute → Type 0) → OnlyReads k old.0 new.0 → HasLeft P at false s before after (k.may_find new.0) r
    of_reads P reads = unasked P (reads.same s kept sound)

    pub done_left : (c : LineCommand) → HasDone c here k e at old new r → HasLeft (AsksAt c at) at (answers_inputs c) s before after (k.may_find new.0) r
    done_left command.Init has = of_same _ has.same
    done_left command.Migrate has = of_same _ has.same
    done_left command.Stock has =
        let P = AsksAt command.Stock at in
        finish P s at before true new.0 after r sound (run_goes P s at e.told before true (HasAnsweredRow k at e.told) (row_service k at e.told) (row_goes P s at e.told before true (λ row order is. (refl, (row, (order, is, refl)))))
        stock_rows (e.remaining old.1.reader) (call_to e old) (call_to e new) r sound has.0 (none_yet P s at before true old.0 kept works))
    done_left (command.Take paths) has =
        let P = AsksAt (command.Take paths) at in
        finish P s at before true new.0 after r sound (takes_go P s at e.told before true e.given e.turned (λ bytes i is. (refl, (bytes, is))) (length paths.items)
        (call_to e old, old.1.reader) (call_to e new, new.1.reader) r has sound (none_yet P s at before true old.0 kept works))
    done_left (command.Act verb key) has =
        let P = AsksAt (command.Act verb key) at in
        finish P s at before true new.0 after r sound (input_goes P s at e.told before true (IsCommandAsked verb key) (λ bytes i is. (refl, (bytes, is)))
        (call_to e old, e.given old.1.reader) (call_to e new, e.given new.1.reader) r sound has (none_yet P s at before true old.0 kept works))
    done_left command.Acts has =
        let P = AsksAt command.Acts at in
        finish P s at before true new.0 after r sound (run_goes P s at e.told before true (HasAnsweredLine k at e.told) (line_service k at e.told) (line_goes P s at e.told before true (λ line i is. (refl, (line, is))))
        kept_lines (e.remaining old.1.reader) (call_to e old) (call_to e new) r sound has.0 (none_yet P s at before true old.0 kept works))
    done_left (command.Outbox f) has = of_reads _ has.told.reads
    done_left (command.Report l f) has = of_reads _ has.told.reads
    done_left (command.Waybill w) has = of_reads _ has.reads
    done_left (command.Holder w) has = of_reads _ has.reads
    done_left (command.History w) has = of_reads _ has.reads
    done_left (command.Read path) has = of_same _ has.same
    done_left (command.Serve port count) has = of_same _ has.same
