use Rattle.std.proofs.Common.{refl, ◌∙◌}
use Rattle.state_store.proofs.Meant.{no_day, on_day}
use Rattle.state_store.proofs.Walks.{told_so, unread}
use Rattle.state_store.proofs.lines.part_rows.Goals as goal

pub returns-in-None : goal.returns-in-None
returns-in-None g c = unread g.S.StateStore.storing c.args.store.now _ (λ x _ _. c.no_lines.ensures ∙ no_day x.now.cargo c.args.part.now c.args.at (c.in-None.ensures.none refl))

pub returns-in-Some : goal.returns-in-Some
returns-in-Some g c = record {
  value = λ x shows sound. told_so _ _ c.rows_on.result (λ made is. is ∙ on_day x.now.cargo c.args.part.now c.args.at c.in-Some.day c.in-Some.ensures.some.0 c.in-Some.ensures.some.1) (c.rows_on.ensures.value x shows sound);
  same = c.rows_on.ensures.same;
  rests = c.rows_on.ensures.rests;
  survives = c.rows_on.ensures.survives;
}
