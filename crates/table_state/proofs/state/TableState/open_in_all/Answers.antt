use Rattle.table_state.proofs.Common.{AreExpectations, Open, at_rest, expected_for, refl, subst, sym}
use Rattle.table_state.proofs.Lifting.{keeps_number}
use Rattle.table_state.proofs.state.TableState.open_in_all.Goals as goal

pub returns : goal.returns
returns g c = record {
  value = λ s shown sound.
      c.in_ok-open.ensures s.cargo.expected (subst (AreExpectations s.cargo.expected) (sym c.deref.ensures.value) (c.in_ok-all.ensures.value s shown sound));
  rests = λ s shown.
      let now = c.in_ok-all.ensures.rests s shown in
      keeps_number _ _ _ _ (at_rest s) now _ refl (λ sound. record {
        boarded = (now sound).kept.boarded;
        known = (now sound).kept.known;
        waybills = (now sound).kept.waybills;
        spans = (now sound).kept.spans;
        open_lines = c.of.ensures s.cargo.expected (subst (AreExpectations (expected_for Open s.cargo.expected)) (sym c.deref-2.ensures.value)
            (c.in_ok-open.ensures s.cargo.expected (subst (AreExpectations s.cargo.expected) (sym c.deref.ensures.value) (c.in_ok-all.ensures.value s shown sound))));
      });
  survives = record { clean = c.in_ok-all.ensures.survives.clean; still = c.in_ok-all.ensures.survives.still; sound = c.in_ok-all.ensures.survives.sound; leaves = c.in_ok-all.ensures.survives.leaves };
}
