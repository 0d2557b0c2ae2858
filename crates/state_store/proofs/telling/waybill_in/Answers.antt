use Rattle.state_store.proofs.Common.{Some, ap, at_rest, option_map, sym, told_of, ◌∙◌}
use Rattle.state_store.proofs.Walks.{survives_then}
use Rattle.state_store.proofs.telling.waybill_in.Goals as goal

pub returns-in_ok-told_of-in-Some : goal.returns-in_ok-told_of-in-Some
returns-in_ok-told_of-in-Some g c = record {
  value = λ s shows sound law.
      let w = c.args.number.now in
      let balances = c.in_ok-balances-in-Some.ensures.value (at_rest s) (c.declared.ensures.rests s shows) sound in
      let declared = sym c.in-Some.is ∙ c.in_ok-declared.ensures.value (at_rest s) shows (c.balances.ensures.survives.sound sound) in
      ap Some (c.in_ok-told_of-in-Some.ensures s.cargo w law balances) ∙ ap (option_map (told_of s.cargo w)) declared;
  rests = λ s shows. c.balances.ensures.rests s (c.declared.ensures.rests s shows);
  survives = survives_then g.S.StateStore.storing _ _ _ c.declared.ensures.survives c.balances.ensures.survives;
}
