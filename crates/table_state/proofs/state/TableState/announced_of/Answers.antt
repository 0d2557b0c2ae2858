use Rattle.table_state.proofs.Common.{None, ap, at_rest, cond, false, has_come, has_come_by, in_tables, survives_then, sym, told_so, ◌∙◌, ◌≡◌}
use Rattle.table_state.proofs.state.TableState.announced_of.Goals as goal

pub returns : goal.returns
returns g c = record {
  value = λ s shown sound.
      let read = c.in_ok-balances.ensures.value (at_rest s) shown (c.declared.ensures.survives.sound sound) in
      let none : has_come s.cargo.book c.args.awb.now ≡ false = ap has_come_by (sym read) ∙ sym c.has_come.ensures ∙ c.if-has_come.false in
      told_so _ _ c.declared.result (λ found is. is ∙ sym (ap (λ b. cond b None (s.cargo.declared c.args.awb.now)) none)) (c.declared.ensures.value (at_rest s) (c.in_ok-balances.ensures.rests s shown) sound);
  rests = λ s shown. c.declared.ensures.rests s (c.in_ok-balances.ensures.rests s shown);
  survives = survives_then (in_tables g.S.TableStore.view) _ _ _ c.in_ok-balances.ensures.survives c.declared.ensures.survives;
}
