use Rattle.station_core.proofs.Common.{KeepsSound, State, [], after_all, answers_of, false, length, take, true, ◌≡◌}
use Rattle.station_core.proofs.all.act_all.Given as goal

-- what was answered so far is the run of the inputs so far
abbrev pub invariant-loop-input : goal.invariant-loop-input
invariant-loop-input g l =
    let keeper = g.K.Keeper.keeping in
    record {
      count : length l.answers.items ≡ l.input-index;
      works : keeper.is_broken l.fn.keeper ≡ false → keeper.is_broken l.keeper ≡ false;
      idle : keeper.is_broken l.fn.keeper ≡ true → (l.answers.items ≡ []) × (l.keeper ≡ l.fn.keeper);
      premise : KeepsSound keeper l.fn.keeper l.keeper;
      told : (s : State) → keeper.keeps l.fn.keeper s → keeper.is_broken l.fn.keeper ≡ false → keeper.is_sound l.keeper → l.answers.items ≡ answers_of s (take l.input-index l.inputs);
      state : (s : State) → keeper.keeps l.fn.keeper s → keeper.is_broken l.fn.keeper ≡ false → keeper.is_sound l.keeper → keeper.keeps l.keeper (after_all s (take l.input-index l.inputs));
    }
