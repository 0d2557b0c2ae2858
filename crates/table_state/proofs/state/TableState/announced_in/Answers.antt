use Rattle.table_state.proofs.Common.{AreAnnounced, announcing, in_tables, rules, subst, survives_then, sym}
use Rattle.table_state.proofs.Announcing.{from_announced}
use Rattle.table_state.proofs.Balances.{all_put, put_next}
use Rattle.table_state.proofs.state.TableState.announced_in.Goals as goal

pub loop-number-preserved : goal.loop-number-preserved
loop-number-preserved g c = let before = c.loop-number.invariant in record {
  value = λ s shown sound.
      put_next (announcing s.cargo) c.loop-number.rows.items c.put_announced.new.rows.items c.in-Some.number.now c.loop-number.number-iterator _ c.args.waybills.now.keys c.in-Some.ensures.steps
      (c.in_ok-put_announced.ensures.value s (before.rests s shown) sound) (before.value s shown (c.put_announced.ensures.survives.sound sound));
  rests = λ s shown. c.put_announced.ensures.rests s (before.rests s shown);
  survives = survives_then (in_tables g.S.TableStore.view) _ _ _ before.survives c.put_announced.ensures.survives;
}

pub returns-in_err-put_announced : goal.returns-in_err-put_announced
returns-in_err-put_announced g c = record {
  value = λ s shown sound. search rules;
  rests = λ s shown. c.put_announced.ensures.rests s (c.loop-number.invariant.rests s shown);
  survives = survives_then (in_tables g.S.TableStore.view) _ _ _ c.loop-number.invariant.survives c.put_announced.ensures.survives;
}

pub returns : goal.returns
returns g c = record {
  value = λ s shown sound kept.
      subst (AreAnnounced s.cargo) (sym (all_put (announcing s.cargo) c.loop-number.rows.items c.loop-number.number-iterator c.args.waybills.now.keys (c.loop-number.invariant.value s shown sound) c.in-None.ensures.steps.0))
      (from_announced s.cargo c.args.waybills.now.keys c.into_iter-number-iterator.ensures.into_iter_gives.4 kept);
  rests = c.loop-number.invariant.rests;
  survives = c.loop-number.invariant.survives;
}
