use Rattle.table_state.proofs.Common.{AreAnnounced, at_rest, refl, subst, sym}
use Rattle.table_state.proofs.Lifting.{keeps_number}
use Rattle.table_state.proofs.state.TableState.list_announced.Goals as goal

pub returns : goal.returns
returns g c = record {
  value = c.in_ok-rows.ensures.value;
  rests = λ s shown.
      let now = c.in_ok-rows.ensures.rests s shown in
      keeps_number _ _ _ _ (at_rest s) now _ refl (λ sound. record {
        boarded = (now sound).kept.boarded;
        known = (now sound).kept.known;
        waybills = c.keep_announced.ensures s.cargo (now sound).kept.waybills (subst (AreAnnounced s.cargo) (sym c.deref.ensures.value) (c.in_ok-rows.ensures.value s shown sound));
        open_lines = (now sound).kept.open_lines;
        spans = (now sound).kept.spans;
      });
  survives = record { clean = c.in_ok-rows.ensures.survives.clean; still = c.in_ok-rows.ensures.survives.still; sound = c.in_ok-rows.ensures.survives.sound; leaves = c.in_ok-rows.ensures.survives.leaves };
}
