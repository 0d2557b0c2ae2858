-- What is in store follows from the other balances.
use Rattle.state_store.proofs.Common.{Amount, List, Move, ap, arith, balances_of, delivered, departed, found, missing, store, stored_of, taken, transferred, ℕ, ◌+◌, ◌-◌, ◌≡◌}
use Rattle.shipment_machine.specs.Laws.{IsConserved}

rest : (came stored m d e f : ℕ) → came ≡ stored + (m + (d + (e + (f + 0)))) → came - (d + e + m + f) ≡ stored
rest came stored m d e f h = omega (arith, h)

pub stored_is : (book : List Move) (w : ℕ) → IsConserved book w → stored_of (balances_of book w) ≡ store book w
stored_is book w all = λ i. record {
  pieces = rest ((taken book w).pieces + (found book w).pieces) (store book w).pieces (missing book w).pieces (departed book w).pieces (delivered book w).pieces (transferred book w).pieces
      (ap (λ (a : Amount). a.pieces) all) i;
  tenths = rest ((taken book w).tenths + (found book w).tenths) (store book w).tenths (missing book w).tenths (departed book w).tenths (delivered book w).tenths (transferred book w).tenths
      (ap (λ (a : Amount). a.tenths) all) i;
}
