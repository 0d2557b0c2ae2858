-- The rows of a stock list, one after another.
use Rattle.cli_run.proofs.Common.{AreAnswered, Bool, Call, Given, HasAnsweredAsks, HasAnsweredRow, Keeping, List, LocalMinute, None, Ok, Option, Order, Result, Row, RunFault, Some, State, [], answers_of, ap, append-nil, append_assoc, ap₂, bad_line, false, input_of, is_some, list_all, map, refl, row_asks, step, subst, sym, true, ℕ, ◌&&◌, ◌++◌, ◌+◌, ◌∙◌, ◌∷◌, ◌≡◌}
use Rattle.station_core.specs.Retries.{is_done}
use Rattle.cli_run.specs.Lines.{inputs_of, answered_lines, HasRunList}
use Rattle.cli_run.proofs.Ran.{items_serve, row_service}

move_in : (a b c : Bool) → (a && (b && c)) ≡ (b && (a && c))
move_in true b c = refl
move_in false true c = refl
move_in false false c = refl

abbrev all_ask : List (Option (List ℕ × Order)) → Bool
all_ask asks = list_all (λ (order : Option (List ℕ × Order)). is_some order) asks

module _ {K E : Type 0} (k : Keeping K) (at : LocalMinute) (taken : E → Given) where
  abbrev Step : ℕ → Row → Call K E → Call K E → Result Bool RunFault → Type 0
  Step = HasAnsweredRow k at taken

  abbrev Ran : ℕ → State → List (Option (List ℕ × Order)) → Call K E → Call K E → Bool → Type 0
  Ran n s asks old new good = HasRunList n s at asks old.sent.bytes new.sent.bytes (k.keeps new.keeper) good

  -- a row by its order, and the others
  one_more : (n : ℕ) (asks : Option (List ℕ × Order)) (others : List (Option (List ℕ × Order))) (old mid new : Call K E) (one rest good : Bool)
      → HasAnsweredAsks k at taken n asks old mid (Ok one) → ((t : State) → k.keeps mid.keeper t → k.is_broken mid.keeper ≡ false → Ran (n + 1) t others mid new rest) → good ≡ (one && rest)
      → (s : State) → k.keeps old.keeper s → k.is_broken old.keeper ≡ false → k.is_sound mid.keeper → Ran n s (asks ∷ others) old new good
  one_more n None others old mid new one rest good bad later all s kept works sound =
      let r = later s (subst (λ it. k.keeps it s) (sym bad.same) kept) (ap k.is_broken bad.same ∙ works) in
      record {
        written = r.written ∙ ap (λ b. b ++ answered_lines (n + 1) others (answers_of s (inputs_of others at))) bad.told.told.1 ∙ append_assoc old.sent.bytes (bad_line n) _;
        state = r.state;
        good_is = all ∙ ap (λ b. b && rest) bad.told.told.0;
      }
  one_more n (Some order) others old mid new one rest good heard later all s kept works sound =
      let answer = heard.answered s kept works sound in
      let next = (step s (input_of order) at).state in
      let r = later next answer.state (heard.service.works works) in
      record {
        written = r.written ∙ ap (λ b. b ++ answered_lines (n + 1) others (answers_of next (inputs_of others at))) answer.line ∙ append_assoc old.sent.bytes _ _;
        state = r.state;
        good_is = all ∙ ap₂ ◌&&◌ answer.good_is r.good_is ∙ move_in (is_done (step s (input_of order) at).answer) (all_ask others) (list_all is_done (answers_of next (inputs_of others at)));
      }

  pub run_of_rows : (n : ℕ) (rows : List Row) (old new : Call K E) (good : Bool) → AreAnswered Step n rows old new good
      → (s : State) → k.keeps old.keeper s → k.is_broken old.keeper ≡ false → k.is_sound new.keeper → Ran n s (map row_asks rows) old new good
  run_of_rows n [] old new good (same, all) s kept works sound = record {
    written = ap (λ (c : Call K E). c.sent.bytes) same ∙ sym (append-nil old.sent.bytes);
    state = subst (λ (c : Call K E). k.keeps c.keeper s) (sym same) kept;
    good_is = all;
  }
  run_of_rows n (row ∷ rows) old new good (mid, (one, rest, step, more, all)) s kept works sound =
      let service = items_serve k Step (row_service k at taken) (n + 1) rows mid new rest (Ok rest) more in
      one_more n (row_asks row) (map row_asks rows) old mid new one rest good step
      (λ t kept' works'. run_of_rows (n + 1) rows mid new rest more t kept' works' sound) all s kept works (service.premise.sound sound)
