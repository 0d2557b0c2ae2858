-- What is shown of a waybill in a lawful state is its balances.
use Rattle.shipment_machine.proofs.Common.{AreBalances, Bool, CameFrom, Cargo, Hand, IsBalance, IsLawful, List, Move, Place, Surplus, arith, drawn, false, held, in_store, ints, is_outside, moved_in, moved_out, neg_ℤ, pieces_of, pos, same_place, tenths_of, ℕ, ◌-ℤ◌, ◌-◌, ◌≡◌, ◌≤◌}
use Rattle.shipment_machine.proofs.Conserved.{none_in_surplus, stay_pieces, stay_tenths, store_stays}

left : (i o : ℕ) → o ≤ i → pos (i - o) ≡ pos i -ℤ pos o
left i o h = omega (arith, ints, h)

came : (i o : ℕ) → i ≤ o → pos (o - i) ≡ neg_ℤ (pos i -ℤ pos o)
came i o h = omega (arith, ints, h)

-- at places that keep what they are given
at_places : (book : List Move) (w : ℕ) (there : Place → Bool) → moved_out pieces_of book w there ≤ moved_in pieces_of book w there → moved_out tenths_of book w there ≤ moved_in tenths_of book w there → IsBalance book w there (held book w there)
at_places book w there p t = record { pieces = left _ _ p; tenths = left _ _ t }

inside : (s : Cargo) (w : ℕ) (p : Place) → IsLawful s → is_outside p ≡ false → IsBalance s.book w (same_place p) (held s.book w (same_place p))
inside s w p law e = at_places s.book w (same_place p) (stay_pieces s w law p e) (stay_tenths s w law p e)

outside : (book : List Move) (w : ℕ) (there : Place → Bool) → moved_in pieces_of book w there ≤ moved_out pieces_of book w there → moved_in tenths_of book w there ≤ moved_out tenths_of book w there → CameFrom book w there (drawn book w there)
outside book w there p t = record { pieces = came _ _ p; tenths = came _ _ t }

pub are_balances : (s : Cargo) (w : ℕ) → IsLawful s → AreBalances s.book w
are_balances s w law = record {
  taken = outside s.book w (same_place Hand) (law.covered w).pieces (law.covered w).tenths;
  found = outside s.book w (same_place Surplus) (nothing _ _ (none_in_surplus s pieces_of w law)) (nothing _ _ (none_in_surplus s tenths_of w law));
  store = at_places s.book w in_store (store_stays pieces_of s.book w (stay_pieces s w law)) (store_stays tenths_of s.book w (stay_tenths s w law));
  held = λ place e. inside s w place law e;
}
  where
    nothing : (i o : ℕ) → i ≡ 0 → i ≤ o
    nothing i o e = omega (arith, e)
