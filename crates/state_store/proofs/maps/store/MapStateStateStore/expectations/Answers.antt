use Rattle.state_store.proofs.Common.{AreExpectations, Cargo, Lines, ap, expected_for, lines_in, subst, sym}
use Rattle.state_store.proofs.Surviving.{cargo_is, survives_so}
use Rattle.state_store.proofs.maps.store.MapStateStateStore.expectations.Goals as goal

pub returns : goal.returns
returns c = record {
  value = λ s h _.
      let lines = lines_in c.args.self.now.expected in
      subst (λ (all : Lines). AreExpectations (expected_for c.args.query.now all) c.in_ok-expectations_for.field-0.items) (ap (λ (g : Cargo). g.expected) (cargo_is c.args.self.now s h))
      (c.in_ok-expectations_for.ensures lines (subst (AreExpectations lines) (sym c.deref.ensures.value) c.in_ok-all.ensures));
  rests = λ s shows. shows;
  survives = survives_so _ _;
}
