use Rattle.station_tables.proofs.Common.{Some, ap, ghosts, inl, inr, refl, subst, sym, ⊎_elim, ◌∙◌}
use Rattle.station_core.proofs.Refusals.{refused_stays}
use Rattle.station_tables.proofs.repeating.answer_on.Goals as goal

pub returns-in-Err-Store-clause-leaves : goal.returns-in-Err-Store-clause-leaves
returns-in-Err-Store-clause-leaves g c = λ s keeps works sound found left.
    ⊎_elim (λ before. inl before) (λ after. inr (refl, after)) (rw c.in-Err-Store.field-0-is at (c.in-Err-Store.ensures.leaves s keeps works sound found left))

pub returns-in-Err-Refused-clause-answers : goal.returns-in-Err-Refused-clause-answers
returns-in-Err-Refused-clause-answers g c = λ s keeps works sound.
    let given = rw c.in-Err-Refused.field-0-is at (c.in-Err-Refused.ensures.acts s keeps works sound) in
    (given.0, subst ((ghosts g.row.S g.S.Alter g.S.Alter-dict g.S.Store g.S.Store-dict).keeping.keeps c.act_on.new.self) (sym (refused_stays s c.args.input.now c.args.at c.in-Err-Refused.refusal given.0)) given.1)

pub returns-in-Err-Refused-clause-leaves : goal.returns-in-Err-Refused-clause-leaves
returns-in-Err-Refused-clause-leaves g c = λ s keeps works sound found left.
    let given = rw c.in-Err-Refused.field-0-is at (c.in-Err-Refused.ensures.acts s keeps works sound) in
    let found_is = rw c.in-Err-Refused.field-0-is at (c.in-Err-Refused.ensures.leaves s keeps works sound found left) in
    found_is ∙ ap Some (sym (refused_stays s c.args.input.now c.args.at c.in-Err-Refused.refusal given.0))
