use Rattle.table_state.proofs.Common.{WaybillBalances, ap, at_rest, is_in, map, refl, ◌∙◌}
use Rattle.table_state.proofs.Balances.{all_listed}
use Rattle.table_state.proofs.Lifting.{keeps_number}
use Rattle.table_state.proofs.state.TableStateStateStore.waybills.Goals as goal

pub returns : goal.returns
returns g c = record {
  value = c.in_ok-rows.ensures.value;
  rests = λ s shown.
      let now = c.in_ok-rows.ensures.rests s shown in
      keeps_number _ _ _ _ (at_rest s) now _ refl (λ sound. record {
        boarded = (now sound).kept.boarded;
        known = (now sound).kept.known;
        waybills = c.keep.ensures s.cargo.book s.cargo.declared (now sound).kept.waybills (λ w has.
            c.in_ok-kept.ensures w (ap (λ rows. is_in w (map (λ (row : WaybillBalances). row.awb) rows)) (c.deref.ensures.value ∙ c.in_ok-rows.ensures.value s shown sound) ∙ all_listed c.args.query s.cargo.book w has));
        open_lines = (now sound).kept.open_lines;
        spans = (now sound).kept.spans;
      });
  survives = record { clean = c.in_ok-rows.ensures.survives.clean; still = c.in_ok-rows.ensures.survives.still; sound = c.in_ok-rows.ensures.survives.sound; leaves = c.in_ok-rows.ensures.survives.leaves };
}
