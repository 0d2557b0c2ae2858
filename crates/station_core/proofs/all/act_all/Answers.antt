use Rattle.std.proofs.Common.{◌≡◌, true, ◌+◌, Some, take, length, List, [], ◌∷◌, ◌++◌, sym, ◌∙◌, ap, subst, inl, inr, ⊎_elim, arith, length-append}
use Rattle.station_core.proofs.Common.{Answer, after_all, answers_of}
use Rattle.station_core.proofs.Premise.{kept_on}
use Rattle.station_core.proofs.Runs.{state_after, answers_after, never_both}
use Rattle.station_core.proofs.all.act_all.Goals as goal

pub returns-in-Err-clause-leaves : goal.returns-in-Err-clause-leaves
returns-in-Err-clause-leaves g c = λ s keeps works sound found left.
    let before = c.answer_one.ensures.premise.sound sound in
    let here = after_all s (take c.loop-input.input-index c.args.inputs.now) in
    let count : length c.try_reserve.new.self.items ≡ c.loop-input.input-index = ap length c.try_reserve.ensures.items ∙ c.loop-input.invariant.count in
    ⊎_elim
    (λ same. inl (same ∙ ap (λ n. Some (after_all s (take n c.args.inputs.now))) (sym count)))
    (λ store. inr (
      ap Some store.0,
      omega arith,
      store.1 ∙ ap Some (state_after s c.args.inputs.now c.loop-input.input-index c.input-item.result c.loop-input-test.true c.input-item.is)
          ∙ ap (λ n. Some (after_all s (take (n + 1) c.args.inputs.now))) (sym count),
    ))
    (c.in-Err.ensures.leaves here (c.loop-input.invariant.state s keeps works before) (c.loop-input.invariant.works works) sound found left)

pub loop-input-preserved : goal.loop-input-preserved
loop-input-preserved g c =
    let at = c.loop-input.input-index in
    record {
      count = omega (arith, ap length c.in-Ok-push.ensures.items, ap length c.try_reserve.ensures.items, c.loop-input.invariant.count, length-append c.try_reserve.new.self.items (c.in-Ok.answer ∷ []));
      works = λ works. c.in-Ok.ensures.works (c.loop-input.invariant.works works);
      idle = λ broken.
          let still : g.K.Keeper.keeping.is_broken c.loop-input.keeper ≡ true = subst (λ keeper. g.K.Keeper.keeping.is_broken keeper ≡ true) (sym (c.loop-input.invariant.idle broken).1) broken in
          absurd (never_both (c.in-Ok.ensures.reopen still).0);
      premise = kept_on c.loop-input.invariant.premise c.answer_one.ensures.premise;
      told = λ s keeps works sound.
          let before = c.answer_one.ensures.premise.sound sound in
          let given = c.in-Ok.ensures.answers (after_all s (take at c.args.inputs.now)) (c.loop-input.invariant.state s keeps works before) (c.loop-input.invariant.works works) sound in
          c.in-Ok-push.ensures.items
          ∙ ap (λ (l : List Answer). l ++ c.in-Ok.answer ∷ []) (c.try_reserve.ensures.items ∙ c.loop-input.invariant.told s keeps works before)
          ∙ ap (λ (a : Answer). answers_of s (take at c.args.inputs.now) ++ a ∷ []) (sym given.0)
          ∙ answers_after s c.args.inputs.now at c.input-item.result c.loop-input-test.true c.input-item.is;
      state = λ s keeps works sound.
          let before = c.answer_one.ensures.premise.sound sound in
          let given = c.in-Ok.ensures.answers (after_all s (take at c.args.inputs.now)) (c.loop-input.invariant.state s keeps works before) (c.loop-input.invariant.works works) sound in
          subst (g.K.Keeper.keeping.keeps c.answer_one.new.keeper) (state_after s c.args.inputs.now at c.input-item.result c.loop-input-test.true c.input-item.is) given.1;
    }
