-- A station with nothing in it is lawful.
use Rattle.shipment_machine.proofs.Common.{IsLawful, List, arith, opening_cargo, refl, ℕ}
use Rattle.std.proofs.lemmas.Option.{none-some}
use Rattle.agent_stock.specs.declared.stock.Holder.TheVariants.{Used}

pub opening_lawful : (here : List ℕ) → IsLawful (opening_cargo here)
opening_lawful here = record {
  stocked = λ w p inside. record { pieces = omega arith; tenths = omega arith; tenth_a_piece = omega arith; no_weight_alone = λ _. refl };
  covered = λ w. record { pieces = omega arith; tenths = omega arith };
  within = λ w. refl;
  declarations = λ w. tt;
  expectations = λ flight w. tt;
  moves = tt;
  trail = tt;
  used = λ w e. absurd (none-some Used e);
  closed = λ flight. ((λ t. t), (λ t. t));
  departed = λ flight. tt;
  empty = λ flight w closed. refl;
  room = λ flight. omega arith;
  outbound = λ flight. tt;
  mark = omega arith;
}
