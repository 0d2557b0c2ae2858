-- Moves that keep a state lawful: a part of what is at a place, or pieces from outside.
use Rattle.shipment_machine.proofs.Common.{Amount, Bool, Cargo, FlightDate, Hand, IsLawful, IsNoted, IsSome, List, LocalMinute, Move, NamesFlight, None, Option, Place, Some, [], and_parts, append-nil, arith, false, fits, if◌then◌else◌, is_none, is_outside, is_pair, leb-true, move_of, nat_le, nat_tests, not, pieces_of, refl, same_place, share_heavy, share_of, subst, sym, taken, tenths_of, true, true≢false, ℕ, ◌++◌, ◌+◌, ◌==◌, ◌∙◌, ◌∷◌, ◌≡◌, ◌≤◌}
use Rattle.shipment_machine.proofs.Conserved.{came}
use Rattle.shipment_machine.proofs.SoundBook.{IsFitting, with_move, there_are, came_after, part_leaves}
use Rattle.shipment_machine.proofs.Places.{added}
use Rattle.shipment_machine.proofs.PlainMoves.{sound_of}

pub not_false : (b : Bool) → not b ≡ false → b ≡ true
not_false true e = refl
not_false false e = absurd (true≢false e)

pub is_known : {A : Type 0} (o : Option A) → is_none o ≡ false → IsSome o
is_known None e = absurd (true≢false e)
is_known (Some d) e = refl

-- a state with these further moves
abbrev pub with_moves : Cargo → List Move → Cargo
with_moves s ms = record s { book = s.book ++ ms }

pub rests : (s : Cargo) → IsLawful s → IsLawful (with_moves s [])
rests s law = subst (λ (book : List Move). IsLawful (record s { book = book })) (sym (append-nil s.book)) law

-- a move that is made where it has a piece
pub may_move : (s : Cargo) (w : ℕ) (from to : Place) (a : Amount) (flight : Option FlightDate) (at : LocalMinute) →
    (1 ≤ a.pieces → IsLawful (with_move s (record { awb = w; from = from; to = to; pieces = a.pieces; tenths = a.tenths; flight = flight; at = at }))) → IsLawful s → IsLawful (with_moves s (move_of w from to a flight at))
may_move s w from to a flight at moves law =
    elim (a.pieces == 0) as (λ b. (a.pieces == 0) ≡ b → IsLawful (with_moves s (if b then [] else record { awb = w; from = from; to = to; pieces = a.pieces; tenths = a.tenths; flight = flight; at = at } ∷ []))) [
      | true ↦ λ _. rests s law
      | false ↦ λ e. moves (positive _ e)
    ] refl
  where
    positive : (n : ℕ) → (n == 0) ≡ false → 1 ≤ n
    positive n e = grind (arith, nat_tests)

-- From a place of the store, or the missing.

-- a part of what is there, which may go back to who brought it
pub inside_back : (s : Cargo) (w n : ℕ) (from to : Place) (flight : Option FlightDate) (at : LocalMinute) → is_outside from ≡ false → is_pair from to ≡ true → (same_place Hand to ≡ true → (n ≤ (taken s.book w).pieces) × (share_of (there_are pieces_of s.book w from) (there_are tenths_of s.book w from) n ≤ (taken s.book w).tenths)) → 1 ≤ n → n ≤ there_are pieces_of s.book w from → IsSome (s.declared w) → IsNoted s from → IsNoted s to → NamesFlight from flight → NamesFlight to flight → there_are pieces_of s.book w from ≤ 9999 → IsLawful s →
    IsFitting s (record { awb = w; from = from; to = to; pieces = n; tenths = share_of (there_are pieces_of s.book w from) (there_are tenths_of s.book w from) n; flight = flight; at = at })
inside_back s w n from to flight at inside pair back some within known noted_from noted_to names_from names_to few law =
    let p = there_are pieces_of s.book w from in
    let t = there_are tenths_of s.book w from in
    let weighs : p ≤ t = (law.stocked w from inside).tenth_a_piece in
    record {
      pair = pair;
      some = some;
      few = omega arith;
      heavy = share_heavy p t n (omega arith) weighs;
      declared = known;
      noted_from = noted_from;
      noted_to = noted_to;
      names_from = names_from;
      names_to = names_to;
      leaves = λ _. part_leaves p t n some weighs within;
      back = back;
      room = λ e. absurd (true≢false (sym e ∙ inside));
    }

-- a part that stays here or leaves
pub inside_fits : (s : Cargo) (w n : ℕ) (from to : Place) (flight : Option FlightDate) (at : LocalMinute) → is_outside from ≡ false → is_pair from to ≡ true → same_place Hand to ≡ false → 1 ≤ n → n ≤ there_are pieces_of s.book w from → IsSome (s.declared w) → IsNoted s from → IsNoted s to → NamesFlight from flight → NamesFlight to flight → there_are pieces_of s.book w from ≤ 9999 → IsLawful s →
    IsFitting s (record { awb = w; from = from; to = to; pieces = n; tenths = share_of (there_are pieces_of s.book w from) (there_are tenths_of s.book w from) n; flight = flight; at = at })
inside_fits s w n from to flight at inside pair stays = inside_back s w n from to flight at inside pair (λ e. absurd (true≢false (sym e ∙ stays)))

small : (s : Cargo) (w : ℕ) (from : Place) → IsLawful s → came pieces_of s.book w ≤ 9999
small s w from law = (sound_of s law).pieces w

-- From outside.

pub outside_fits : (s : Cargo) (w n t : ℕ) (from to : Place) (flight : Option FlightDate) (at : LocalMinute) → is_outside from ≡ true → is_pair from to ≡ true → same_place Hand to ≡ false → 1 ≤ n → n ≤ t → IsSome (s.declared w) → IsNoted s from → IsNoted s to → NamesFlight from flight → NamesFlight to flight →
    came pieces_of s.book w + n ≤ 9999 → came tenths_of s.book w + t ≤ 999999 → IsFitting s (record { awb = w; from = from; to = to; pieces = n; tenths = t; flight = flight; at = at })
outside_fits s w n t from to flight at outside pair stays some heavy known noted_from noted_to names_from names_to few light = record {
  pair = pair;
  some = some;
  few = omega arith;
  heavy = heavy;
  declared = known;
  noted_from = noted_from;
  noted_to = noted_to;
  names_from = names_from;
  names_to = names_to;
  leaves = λ e. absurd (true≢false (sym outside ∙ e));
  back = λ e. absurd (true≢false (sym e ∙ stays));
  room = λ _. (few, light);
}

-- what came in with a move, at most
pub came_with : (s : Cargo) (measure : Move → ℕ) (w : ℕ) (from to : Place) (a : Amount) (flight : Option FlightDate) (at : LocalMinute) (n : ℕ) → is_pair from to ≡ true → measure (record { awb = w; from = from; to = to; pieces = a.pieces; tenths = a.tenths; flight = flight; at = at }) ≤ n → IsLawful s →
    came measure (s.book ++ move_of w from to a flight at) w ≤ came measure s.book w + n
came_with s measure w from to a flight at n pair most law =
    elim (a.pieces == 0) as (λ b. came measure (s.book ++ (if b then [] else record { awb = w; from = from; to = to; pieces = a.pieces; tenths = a.tenths; flight = flight; at = at } ∷ [])) w ≤ came measure s.book w + n) [
      | true ↦ subst (λ (book : List Move). came measure book w ≤ came measure s.book w + n) (sym (append-nil s.book)) (omega arith)
      | false ↦ let m : Move = record { awb = w; from = from; to = to; pieces = a.pieces; tenths = a.tenths; flight = flight; at = at } in
          at_most _ _ _ _ (came_after s measure m w pair law.moves) (added_most (w == w) (is_outside from) (measure m)) most
    ]
  where
    added_most : (b o : Bool) (k : ℕ) → added b o k ≤ k
    added_most true true k = omega arith
    added_most true false k = omega arith
    added_most false o k = omega arith

    at_most : (c' c x k : ℕ) → c' ≤ c + x → x ≤ k → k ≤ n → c' ≤ c + n
    at_most c' c x k e f g = omega arith

-- nothing came in with a move inside
pub came_inside : (s : Cargo) (measure : Move → ℕ) (w : ℕ) (from to : Place) (a : Amount) (flight : Option FlightDate) (at : LocalMinute) → is_pair from to ≡ true → is_outside from ≡ false → IsLawful s →
    came measure (s.book ++ move_of w from to a flight at) w ≤ came measure s.book w
came_inside s measure w from to a flight at pair inside law =
    elim (a.pieces == 0) as (λ b. came measure (s.book ++ (if b then [] else record { awb = w; from = from; to = to; pieces = a.pieces; tenths = a.tenths; flight = flight; at = at } ∷ [])) w ≤ came measure s.book w) [
      | true ↦ subst (λ (book : List Move). came measure book w ≤ came measure s.book w) (sym (append-nil s.book)) (omega arith)
      | false ↦ let m : Move = record { awb = w; from = from; to = to; pieces = a.pieces; tenths = a.tenths; flight = flight; at = at } in
          at_most _ _ _ (came_after s measure m w pair law.moves) (none_added (w == w) (is_outside from) (measure m) inside)
    ]
  where
    none_added : (b o : Bool) (k : ℕ) → o ≡ false → added b o k ≡ 0
    none_added true true k e = absurd (true≢false e)
    none_added true false k e = refl
    none_added false o k e = refl

    at_most : (c' c x : ℕ) → c' ≤ c + x → x ≡ 0 → c' ≤ c
    at_most c' c x e f = omega arith

pub fits_parts : (a : Amount) → not (fits a) ≡ false → (a.pieces ≤ 9999) × (a.tenths ≤ 999999)
fits_parts a e = let h = and_parts (nat_le a.pieces 9999) (nat_le a.tenths 999999) (not_false (fits a) e) in (leb-true _ _ h.0, leb-true _ _ h.1)
