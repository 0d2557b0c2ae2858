-- What a service leaves is the state after some of what its connections asked.
use Rattle.std.proofs.Common.{◌≡◌, ◌⊎◌, ℕ, Bool, true, false, inl, inr, Ok, Err, Result, Option, Some, None, IfSome, IfOk, List, [], ◌∷◌, ◌++◌, length, drop, All, refl, sym, ap, subst, ◌∙◌, arith}
use Rattle.std.proofs.Math.Seq.{take-append_seam, take-append-add, take-length}
use Rattle.std.proofs.lemmas.Bool.{false≢true}
use Rattle.std.proofs.lemmas.List.{length-append}
use Rattle.std.proofs.lemmas.List.Elements.{All-head, All-tail}
use Rattle.httparse.specs.Grammar.{RequestHead, print_request}
use Rattle.station_days.specs.Date.{LocalMinute}
use Rattle.station_core.specs.Given.{Given, nothing_given}
use Rattle.station_core.specs.declared.answer.ActFault.TheVariants as act
use Rattle.station_core.specs.declared.answer.Input.{Input}
use Rattle.station_core.specs.Keeping.{Keeping, IsAfterAnswered}
use Rattle.station_core.specs.Step.{State, step, after_all}
use Rattle.http_desk.specs.declared.serve.Served.{Served}
use Rattle.http_desk.specs.declared.serve.ServeFault.{ServeFault}
use Rattle.http_desk.specs.declared.serve.ServeFault.TheVariants as serve
use Rattle.http_desk.specs.Reply.{head_room, most_fields, head_of, HasHead, SendsWhole, Replied, IsAnsweredAs, Answers, body_reply, body_state, AsksInput, HasServed, IsAnswer, IsBrokenAt, IsPartOut, StationAfter, station_after, WorksAt}
use Rattle.http_desk.specs.Request.{HeadAsks, refuses, looks_up, sends, head_asks, BodyAsks, bad_body, unreadable, looks_at, misreads, for_station, Posted}
use Rattle.desk_server.specs.Served.{store_fault, AreAskedBy, HasServedInputs, WasWritten, IsWritten, Exchange, GoesOn, HasServedOne, HaveServed}
use Rattle.desk_server.proofs.HeadFound.{Decided, head_found}

abbrev Inputs : Type 0
Inputs = List (Input × LocalMinute)

after_append : (s : State) (xs ys : Inputs) → after_all s (xs ++ ys) ≡ after_all (after_all s xs) ys
after_append s [] ys = refl
after_append s (x ∷ xs) ys = after_append (step s x.0 x.1).state xs ys

-- the input, if there is one
abbrev listed : Option Input → LocalMinute → Inputs
listed None at = []
listed (Some i) at = (i, at) ∷ []

-- What one connection did: the station works behind one input or none, or it broke at one.
module _ (bytes : List ℕ) (s : State) (at : LocalMinute) (left : StationAfter) where
  record Went : Type 0 where
    pub one : Option Input
    pub asks : IfSome one (AsksInput bytes)
    pub works : WorksAt left (after_all s (listed one at))

  still : WorksAt left s → Went ⊎ IsBrokenAt bytes s at left
  still works = inl (record { one = None; asks = tt; works = works })

  abbrev behind : RequestHead → List ℕ
  behind h = drop (length (print_request h)) bytes

  sent_went : (h : RequestHead) → HasHead bytes h → (posted : Posted) (n : ℕ) → head_asks (head_of h) ≡ sends posted n → (asks : BodyAsks) → SendsWhole posted n (head_of h) (behind h) asks
      → (status : ℕ) (out : List ℕ) (after : State) → Replied s (body_reply s at asks) (body_state s at asks) status out after → WorksAt left after → Went ⊎ IsBrokenAt bytes s at left
  sent_went h has posted n is (bad_body f) sent status out after r works = still (subst (WorksAt left) r.state works)
  sent_went h has posted n is (unreadable refusal) sent status out after r works = still (subst (WorksAt left) r.state works)
  sent_went h has posted n is (looks_at seen) sent status out after r works = still (subst (WorksAt left) r.state works)
  sent_went h has posted n is (misreads text) sent status out after r works = still (subst (WorksAt left) r.state works)
  sent_went h has posted n is (for_station i) sent status out after r works = inl (record {
    one = Some i;
    asks = record { head = h; has = has; posted = posted; size = n; is_sent = is; sent = sent };
    works = subst (WorksAt left) r.state works;
  })

  head_went : (h : RequestHead) → HasHead bytes h → (asks : HeadAsks) → head_asks (head_of h) ≡ asks → (status : ℕ) (out : List ℕ) (after : State)
      → IsAnsweredAs asks (head_of h) (behind h) s at status out after → WorksAt left after → Went ⊎ IsBrokenAt bytes s at left
  head_went h has (refuses f) is status out after r works = still (subst (WorksAt left) r.state works)
  head_went h has (looks_up got) is status out after r works = still (subst (WorksAt left) r.state works)
  head_went h has (sends posted n) is status out after (asks, sent, r) works = sent_went h has posted n is asks sent status out after r works

  answered : (status : ℕ) (out : List ℕ) (after : State) → Answers bytes s at status out after → WorksAt left after → Decided ((h : RequestHead) × HasHead bytes h) → Went ⊎ IsBrokenAt bytes s at left
  answered status out after answers works (inl (h, has)) = head_went h has (head_asks (head_of h)) refl status out after (answers.head h has) works
  answered status out after answers works (inr none) =
      let replied = answers.none (λ h has. none (h, has)) in
      still (subst (WorksAt left) replied.0.state works)

  answer_went : (status : ℕ) (out : List ℕ) → IsAnswer s at bytes status out left → Went ⊎ IsBrokenAt bytes s at left
  answer_went status out (inl (after, answers, works)) = answered status out after answers works (head_found head_room most_fields bytes)
  answer_went status out (inr (inl (is, told, inl works))) = still works
  answer_went status out (inr (inl (is, told, inr broken))) = inr broken
  answer_went status out (inr (inr (name, gets, part, told, works))) = still works

  part_went : (sent : ℕ) (before after : Given) → IsPartOut s at bytes sent before after left → Went ⊎ IsBrokenAt bytes s at left
  part_went sent before after (inl (status, out, answer, part)) = answer_went status out answer
  part_went sent before after (inr (name, gets, works, part)) = still works

  went : (before after : Given) (r : Result Served ServeFault) → HasServed s at bytes before after left r → Went ⊎ IsBrokenAt bytes s at left
  went before after (Ok served) has = answer_went served.status _ has
  went before after (Err serve.Read) works = still works
  went before after (Err (serve.Write sent)) (part, why) = part_went sent before after part

  -- a station that broke has an answer that says so, or one that couldn't be written
  no_silence : (before after : Given) (r : Result Served ServeFault) → HasServed s at bytes before after left r → IfOk r (λ served. served.reopen ≡ left.is_broken)
      → left.is_broken ≡ true → IfOk r (λ served. served.reopen ≡ false) → IsWritten r → ⊥
  no_silence before after (Ok served) has told broken goes written = false≢true (sym goes ∙ told ∙ broken)
  no_silence before after (Err serve.Read) (works, kept) told broken goes written = false≢true (sym works ∙ broken)
  no_silence before after (Err (serve.Write sent)) has told broken goes written = written

module _ {K : Type 0} (k : Keeping K) (settled : (it : K) (s : State) → k.keeps it s → k.is_sound it → (found : Option State) → k.may_find it found → found ≡ Some s) where
  -- the connections so far left a station that works
  record Works (all : List Exchange) (s : State) (it : K) : Type 0 where
    pub inputs : Inputs
    pub asked : AreAskedBy all inputs
    pub kept : k.keeps it (after_all s inputs)
    pub works : k.is_broken it ≡ false

  -- one of them broke it
  record Broke (all : List Exchange) (s : State) (it : K) : Type 0 where
    pub inputs : Inputs
    pub asked : AreAskedBy all inputs
    pub answered : ℕ
    pub broken : k.is_broken it ≡ true
    pub lost : All GoesOn all → All WasWritten all → ⊥
    pub left : (found : Option State) → k.may_find it found → IsAfterAnswered s inputs answered (Some act.Store) found

  asked_on : (one : Exchange) (all : List Exchange) (xs : Inputs) → AreAskedBy all xs → (i : Option Input) → IfSome i (AsksInput one.came) → AreAskedBy (one ∷ all) (xs ++ listed i one.at)
  asked_on one all xs asked None asks = inl (subst (AreAskedBy all) (sym (append_none xs)) asked)
    where
      append_none : (xs : Inputs) → xs ++ [] ≡ xs
      append_none [] = refl
      append_none (x ∷ xs) = ap (λ (ys : Inputs). x ∷ ys) (append_none xs)
  asked_on one all xs asked (Some i) asks = inr (xs, (i, one.at), asked, (refl, asks), refl)

  module _ (s : State) (one : Exchange) (all : List Exchange) (mid new : K) (has : HasServedOne k one mid new) where
    works_on : (run : Works all s mid) → Went one.came (after_all s run.inputs) one.at (station_after k new) → Works (one ∷ all) s new
    works_on run it = record {
      inputs = run.inputs ++ listed it.one one.at;
      asked = asked_on one all run.inputs run.asked it.one it.asks;
      kept = subst (k.keeps new) (sym (after_append s run.inputs (listed it.one one.at))) it.works.1;
      works = it.works.0;
    }

    breaks : k.is_sound new → (run : Works all s mid) → IsBrokenAt one.came (after_all s run.inputs) one.at (station_after k new) → Broke (one ∷ all) s new
    breaks sound run (broken, (i, asks, states)) = record {
      inputs = run.inputs ++ (i, one.at) ∷ [];
      asked = inr (run.inputs, (i, one.at), run.asked, (refl, asks), refl);
      answered = length run.inputs;
      broken = broken;
      lost = λ goes written.
          no_silence one.came (after_all s run.inputs) one.at (station_after k new) nothing_given has.sent one.end
          (has.served (after_all s run.inputs) run.kept run.works sound) (has.told (after_all s run.inputs) run.kept run.works sound)
          broken (All-head GoesOn one all goes) (All-head WasWritten one all written);
      left = λ found finds. elim (states found finds) [
        | inl before ↦ inl (before ∙ ap (λ ys. Some (after_all s ys)) (sym (take-append_seam run.inputs ((i, one.at) ∷ []))))
        | inr after ↦ inr (
          refl,
          omega (arith, length-append run.inputs ((i, one.at) ∷ [])),
          after ∙ ap Some (sym (after_append s run.inputs ((i, one.at) ∷ []))) ∙ ap (λ ys. Some (after_all s ys)) (sym (take-append-add run.inputs ((i, one.at) ∷ []) 1)),
        )
      ];
    }

    stays : (run : Broke all s mid) → new ≡ mid → Broke (one ∷ all) s new
    stays run same = record {
      inputs = run.inputs;
      asked = inl run.asked;
      answered = run.answered;
      broken = ap k.is_broken same ∙ run.broken;
      lost = λ goes written. run.lost (All-tail GoesOn one all goes) (All-tail WasWritten one all written);
      left = λ found finds. run.left found (subst (λ (it : K). k.may_find it found) same finds);
    }

    next : k.is_sound new → Works all s mid ⊎ Broke all s mid → Works (one ∷ all) s new ⊎ Broke (one ∷ all) s new
    next sound (inl run) =
        let st = after_all s run.inputs in
        elim (went one.came st one.at (station_after k new) nothing_given has.sent one.end (has.served st run.kept run.works sound)) [
          | inl it ↦ inl (works_on run it)
          | inr broken ↦ inr (breaks sound run broken)
        ]
    next sound (inr run) = inr (stays run (has.same run.broken))

  ran : (all : List Exchange) (s : State) (old new : K) → HaveServed k all old new → k.keeps old s → k.is_broken old ≡ false → k.is_sound new → Works all s new ⊎ Broke all s new
  ran [] s old new same kept works sound = inl (record {
    inputs = [];
    asked = refl;
    kept = subst (λ (it : K). k.keeps it s) (sym same) kept;
    works = ap k.is_broken same ∙ works;
  })
  ran (one ∷ all) s old new (mid, before, goes, has) kept works sound = next s one all mid new has sound (ran all s old mid before kept works (has.premise.sound sound))

  of_works : (all : List Exchange) (s : State) (it : K) → k.is_sound it → Works all s it → HasServedInputs all s (k.is_broken it) (k.may_find it)
  of_works all s it sound run = record {
    inputs = run.inputs;
    asked = run.asked;
    answered = length run.inputs;
    whole = λ works. refl;
    works = λ goes written. run.works;
    left = λ found finds. inl (settled it _ run.kept sound found finds ∙ ap (λ ys. Some (after_all s ys)) (sym (take-length run.inputs)));
  }

  of_broke : (all : List Exchange) (s : State) (it : K) → Broke all s it → HasServedInputs all s (k.is_broken it) (k.may_find it)
  of_broke all s it run = record {
    inputs = run.inputs;
    asked = run.asked;
    answered = run.answered;
    whole = λ works. absurd (false≢true (sym works ∙ run.broken));
    works = λ goes written. absurd (run.lost goes written);
    left = λ found finds. subst (λ (broken : Bool). IsAfterAnswered s run.inputs run.answered (store_fault broken) found) (sym run.broken) (run.left found finds);
  }

  pub served_inputs : (all : List Exchange) (s : State) (old new : K) → HaveServed k all old new → k.keeps old s → k.is_broken old ≡ false → k.is_sound new → HasServedInputs all s (k.is_broken new) (k.may_find new)
  served_inputs all s old new served kept works sound = elim (ran all s old new served kept works sound) [
    | inl run ↦ of_works all s new sound run
    | inr run ↦ of_broke all s new run
  ]
