-- A move that has nothing to do with a flight keeps a state lawful.
use Rattle.shipment_machine.proofs.Common.{Bool, Built, Cargo, FlightDate, IsLawful, IsTrue, List, Move, StaysDeparted, [], and_from, and_parts, arith, brings, builds_on, built, departs_with, false, fits, leb-true, length, list_any, list_any-append, moved_in, moved_out, nat_le, nat_tests, pieces_of, refl, same_place, subst, sum_by_push, sym, taken_and_found, takes, true, true≢false, ℕ, ◌&&◌, ◌++◌, ◌+◌, ◌-◌, ◌==◌, ◌||◌, ◌∙◌, ◌∷◌, ◌≡◌, ◌≤◌}
use Rattle.shipment_machine.proofs.Places.{is_built, not_built, not_built_on, added, no_added}
use Rattle.shipment_machine.proofs.OnFlight.{same_waybills_on}
use Rattle.shipment_machine.proofs.SoundBook.{IsFitting, IsSound, with_move, sound_after}

le_test : (a b : ℕ) → a ≤ b → nat_le a b ≡ true
le_test a b h = grind (arith, nat_tests)

pub sound_of : (s : Cargo) → IsLawful s → IsSound s
sound_of s law = record {
  stocked = law.stocked;
  covered = law.covered;
  pieces = λ w. leb-true _ _ (and_parts _ _ (law.within w)).0;
  tenths = λ w. leb-true _ _ (and_parts _ _ (law.within w)).1;
  moves = law.moves;
}

pub within_of : (s : Cargo) (w : ℕ) → IsSound s → IsTrue (fits (taken_and_found s.book w))
within_of s w h = and_from _ _ (le_test _ _ (h.pieces w)) (le_test _ _ (h.tenths w))

-- What is built for a flight after a move.

-- how what is built changes
pub built_after : (book : List Move) (m : Move) (q : ℕ) (k : FlightDate) → (built (book ++ m ∷ []) q k).pieces
    ≡ (moved_in pieces_of book q (same_place (Built k)) + added (m.awb == q) (same_place (Built k) m.to) m.pieces) - (moved_out pieces_of book q (same_place (Built k)) + added (m.awb == q) (same_place (Built k) m.from) m.pieces)
built_after book m q k = λ i. sum_by_push (brings pieces_of q (same_place (Built k))) book m i - sum_by_push (takes pieces_of q (same_place (Built k))) book m i

same_built : (book : List Move) (m : Move) (q : ℕ) (k : FlightDate) → is_built m.from ≡ false → is_built m.to ≡ false → (built (book ++ m ∷ []) q k).pieces ≡ (built book q k).pieces
same_built book m q k from to = built_after book m q k ∙ unchanged _ _ _ _ (no_added (m.awb == q) (same_place (Built k) m.to) m.pieces (not_built m.to k to)) (no_added (m.awb == q) (same_place (Built k) m.from) m.pieces (not_built m.from k from))
  where
    unchanged : (i o a b : ℕ) → a ≡ 0 → b ≡ 0 → (i + a) - (o + b) ≡ i - o
    unchanged i o a b e f = omega arith

-- a later move that builds nothing for the flight
pub stays_push : (k : FlightDate) (m : Move) (book : List Move) → builds_on k m ≡ false → StaysDeparted k book → StaysDeparted k (book ++ m ∷ [])
stays_push k m [] free h = ((λ _. refl), tt)
stays_push k m (x ∷ book) free h = ((λ e. list_any-append (builds_on k) book (m ∷ []) ∙ (λ i. h.0 e i || (free i || false))), stays_push k m book free h.1)

or_none : (b c : Bool) → c ≡ false → (b || (c || false)) ≡ b
or_none true c e = refl
or_none false true e = absurd (true≢false e)
or_none false false e = refl

and_none : (a b : Bool) → a ≡ false → (a && b) ≡ false
and_none true b e = absurd (true≢false e)
and_none false b e = refl

pub departs_after : (k : FlightDate) (m : Move) (book : List Move) → departs_with k m ≡ false → list_any (departs_with k) (book ++ m ∷ []) ≡ list_any (departs_with k) book
departs_after k m book e = list_any-append (departs_with k) book (m ∷ []) ∙ or_none (list_any (departs_with k) book) (departs_with k m) e

pub lawful_after : (s : Cargo) (m : Move) → IsFitting s m → is_built m.from ≡ false → is_built m.to ≡ false → IsLawful s → IsLawful (with_move s m)
lawful_after s m fit from to law =
    let sound : IsSound (with_move s m) = sound_after s m fit (sound_of s law) in
    let departs : (k : FlightDate) → departs_with k m ≡ false = λ k. and_none (same_place m.from (Built k)) _ (not_built_on m.from k from) in
    record {
      stocked = sound.stocked;
      covered = sound.covered;
      within = λ w. within_of (with_move s m) w sound;
      declarations = law.declarations;
      expectations = law.expectations;
      moves = sound.moves;
      trail = law.trail;
      used = law.used;
      closed = λ k. ((λ h. departs_after k m s.book (departs k) ∙ (law.closed k).0 h), (λ h. (law.closed k).1 (sym (departs_after k m s.book (departs k)) ∙ h)));
      departed = λ k. stays_push k m s.book (not_built_on m.to k to) (law.departed k);
      empty = λ k q h. same_built s.book m q k from to ∙ law.empty k q h;
      room = λ k. subst (λ (ws : List ℕ). length ws ≤ 500) (sym (same_waybills_on s.book (s.book ++ m ∷ []) k (λ q. same_built s.book m q k from to))) (law.room k);
      outbound = law.outbound;
      mark = law.mark;
    }
