use Rattle.station_engine.proofs.Common.{accepted, ap, at_rest, carried_out, has_room, kept_with, map, notice_text, outcome_of, rules, sent, sym, texts_in, with_plan, ◌∙◌}
use Rattle.station_engine.proofs.Steps.{serves_by, found_after, plan_step, plan_lawful}
use Rattle.station_engine.proofs.acting.do_plan.Goals as goal

pub returns-in_err-commit_plan : goal.returns-in_err-commit_plan
returns-in_err-commit_plan g c = λ at.
    record {
      serves = λ s shows planned sound. search rules;
      premise = c.commit_plan.ensures.premise;
      leaves = λ s shows planned sound found finds.
          let i = c.args.input.now in
          let text = c.args.text.now in
          let plan = c.args.plan.now in
          let messages = texts_in c.deref-3.result.now in
          let sends = ap texts_in c.deref-3.ensures.value ∙ c.in_ok-messages.ensures ∙ ap (map notice_text) c.deref.ensures.value in
          let room = ap (λ l. has_room (sent (texts_in l) (carried_out text (outcome_of plan) s.cargo))) (c.deref-3.ensures.value ∙ sym c.deref-2.ensures.value)
          ∙ sym (c.has_room.ensures s.cargo text (c.sizes.ensures (at_rest s) shows (c.commit_plan.ensures.premise.sound sound))) ∙ c.if-not-has_room.false in
          let is = plan_step s i at text plan messages planned sends room in
          let law = plan_lawful s i at text plan messages planned sends in
          found_after s i at (accepted plan.count) (kept_with i plan.count (with_plan text plan messages s)) found is law (λ before. before) ((c.commit_plan.ensures.leaves s shows).leaves sound found finds);
    }

pub returns : goal.returns
returns g c = λ at.
    record {
      serves = λ s shows planned sound.
          let i = c.args.input.now in
          let text = c.args.text.now in
          let plan = c.args.plan.now in
          let messages = texts_in c.deref-3.result.now in
          let sends = ap texts_in c.deref-3.ensures.value ∙ c.in_ok-messages.ensures ∙ ap (map notice_text) c.deref.ensures.value in
          let room = ap (λ l. has_room (sent (texts_in l) (carried_out text (outcome_of plan) s.cargo))) (c.deref-3.ensures.value ∙ sym c.deref-2.ensures.value)
          ∙ sym (c.has_room.ensures s.cargo text (c.sizes.ensures (at_rest s) shows (c.commit_plan.ensures.premise.sound sound))) ∙ c.if-not-has_room.false in
          let is = plan_step s i at text plan messages planned sends room in
          let law = plan_lawful s i at text plan messages planned sends in
          serves_by s i at _ (accepted plan.count) (kept_with i plan.count (with_plan text plan messages s)) is (law, c.in_ok-commit_plan.ensures.done s shows);
      premise = c.commit_plan.ensures.premise;
      leaves = λ s shows planned sound found finds.
          let i = c.args.input.now in
          let text = c.args.text.now in
          let plan = c.args.plan.now in
          let messages = texts_in c.deref-3.result.now in
          let sends = ap texts_in c.deref-3.ensures.value ∙ c.in_ok-messages.ensures ∙ ap (map notice_text) c.deref.ensures.value in
          let room = ap (λ l. has_room (sent (texts_in l) (carried_out text (outcome_of plan) s.cargo))) (c.deref-3.ensures.value ∙ sym c.deref-2.ensures.value)
          ∙ sym (c.has_room.ensures s.cargo text (c.sizes.ensures (at_rest s) shows (c.commit_plan.ensures.premise.sound sound))) ∙ c.if-not-has_room.false in
          let is = plan_step s i at text plan messages planned sends room in
          let law = plan_lawful s i at text plan messages planned sends in
          found_after s i at (accepted plan.count) (kept_with i plan.count (with_plan text plan messages s)) found is law (λ before. before) ((c.commit_plan.ensures.leaves s shows).leaves sound found finds);
    }
