-- The lines of `acts`, one after another.
use Rattle.cli_run.proofs.Common.{AreAnswered, Bool, Call, Given, HasAnsweredLine, Keeping, List, LocalMinute, Ok, Result, RunFault, State, [], ap, append-nil, append_assoc, ap₂, asked_after, false, inl, inr, refl, subst, sym, true, ℕ, ◌&&◌, ◌++◌, ◌+◌, ◌∙◌, ◌∷◌, ◌≡◌}
use Rattle.cli_run.specs.Lines.{acts_lines, AreAsked, HasRunActs}
use Rattle.cli_run.proofs.Ran.{items_serve, line_service}

module _ {K E : Type 0} (k : Keeping K) (at : LocalMinute) (taken : E → Given) where
  abbrev Line : ℕ → List ℕ → Call K E → Call K E → Result Bool RunFault → Type 0
  Line = HasAnsweredLine k at taken

  pub run_of_lines : (n : ℕ) (lines : List (List ℕ)) (old new : Call K E) (good : Bool) → AreAnswered Line n lines old new good
      → (s : State) → k.keeps old.keeper s → k.is_broken old.keeper ≡ false → k.is_sound new.keeper → HasRunActs n s at lines old.sent.bytes new.sent.bytes (k.keeps new.keeper) good
  run_of_lines n [] old new good (same, all) s kept works sound = record {
    asked = [];
    are = refl;
    written = ap (λ (c : Call K E). c.sent.bytes) same ∙ sym (append-nil old.sent.bytes);
    state = subst (λ (c : Call K E). k.keeps c.keeper s) (sym same) kept;
    good_is = all;
  }
  run_of_lines n (line ∷ lines) old new good (mid, (one, rest, step, more, all)) s kept works sound =
      let service = items_serve k Line (line_service k at taken) (n + 1) lines mid new rest (Ok rest) more in
      go step (λ t kept' works'. run_of_lines (n + 1) lines mid new rest more t kept' works' sound) (service.premise.sound sound)
    where
      go : Line n line old mid (Ok one) → ((t : State) → k.keeps mid.keeper t → k.is_broken mid.keeper ≡ false → HasRunActs (n + 1) t at lines mid.sent.bytes new.sent.bytes (k.keeps new.keeper) rest) → k.is_sound mid.keeper
          → HasRunActs n s at (line ∷ lines) old.sent.bytes new.sent.bytes (k.keeps new.keeper) good
      go (inl skipped) later mid_sound =
          let r = later s (subst (λ (c : Call K E). k.keeps c.keeper s) (sym skipped.same) kept) (ap (λ (c : Call K E). k.is_broken c.keeper) skipped.same ∙ works) in
          let is : one ≡ true = let e = skipped.good in cc in
          record {
            asked = r.asked;
            are = inl (skipped.blank, r.are);
            written = r.written ∙ ap (λ (c : Call K E). c.sent.bytes ++ acts_lines s r.asked at) skipped.same;
            state = r.state;
            good_is = all ∙ ap (λ b. b && rest) is ∙ r.good_is;
          }
      go (inr (inl unheard)) later mid_sound = absurd (let e = unheard.why in cc)
      go (inr (inr heard)) later mid_sound =
          let answer = heard.answer.answered s kept works mid_sound in
          let r = later (asked_after s heard.asks at) answer.state (heard.answer.service.works works) in
          record {
            asked = (n, heard.asks) ∷ r.asked;
            are = inr (heard.blank, (heard.asks, (r.asked, heard.asked, refl, r.are)));
            written = r.written ∙ ap (λ b. b ++ acts_lines (asked_after s heard.asks at) r.asked at) answer.line ∙ append_assoc old.sent.bytes _ _;
            state = r.state;
            good_is = all ∙ ap₂ ◌&&◌ answer.good_is r.good_is;
          }

-- Of an empty line, which CR ends, and no other line nothing is asked.
example_empty : AreAsked 1 ((13 ∷ 10 ∷ []) ∷ []) []
example_empty = inl (refl, refl)
