-- The state after a departure.
use Rattle.shipment_machine.proofs.Common.{AllByRecursion, Amount, Bool, Built, Cargo, Departed, FlightDate, FlightLoad, IfSome, IsLawful, IsLawfulMove, IsNoted, IsSome, List, LocalMinute, Move, None, Option, Outbound, Some, [], ap, arith, built, bytes_eq, declaration, depart_moves, departs_with, false, flat_map, has_moves, if◌then◌else◌, is_closed, is_in, list_any, list_any-append, loads_of, ltb-true, map, move_of, nat_lt, nat_tests, pieces_of, refl, same_flight_date, same_place, subst, sym, true, true≢false, waybills_on, ℕ, ◌++◌, ◌-◌, ◌<◌, ◌==◌, ◌||◌, ◌∙◌, ◌∷◌, ◌≡◌, ◌≤◌}
use Rattle.shipment_machine.proofs.Places.{added}
use Rattle.shipment_machine.proofs.FlightKeys.{same-comm}
use Rattle.shipment_machine.proofs.OnFlight.{is_in-waybills_on, none_in}
use Rattle.shipment_machine.proofs.Conserved.{held_built}
use Rattle.shipment_machine.proofs.LawfulView.{none_on}
use Rattle.shipment_machine.proofs.SoundBook.{IsSound, move_under, all_map, same_number}
use Rattle.shipment_machine.proofs.PlainMoves.{sound_of, within_of}
use Rattle.shipment_machine.proofs.FlightMoves.{Rising-waybills_on, fewer_on, same_built_at, with_note}
use Rattle.shipment_machine.proofs.Departures.{off, off_flight, IsLeaving, departs_sound, built_off, none_build, stays_off, stays_append, leave_with, leave_otherwise}

-- a waybill that has a move is declared
moved_known : (s : Cargo) (w : ℕ) (book : List Move) → AllByRecursion (IsLawfulMove s) book → has_moves book w ≡ true → IsSome (s.declared w)
moved_known s w [] h e = absurd (true≢false (sym e))
moved_known s w (m ∷ book) h e = elim (m.awb == w) as (λ b. (m.awb == w) ≡ b → (b || has_moves book w) ≡ true → IsSome (s.declared w)) [
  | true ↦ λ same _. subst (λ (x : ℕ). IsSome (s.declared x)) (same_number m.awb w same) h.0.declared
  | false ↦ λ _ rest. moved_known s w book h.1 rest
] refl e

on_known : (s : Cargo) (w : ℕ) (flight : FlightDate) → IsLawful s → 1 ≤ (built s.book w flight).pieces → IsSome (s.declared w)
on_known s w flight law some = elim (has_moves s.book w) as (λ b. has_moves s.book w ≡ b → IsSome (s.declared w)) [
  | true ↦ λ e. moved_known s w s.book law.moves e
  | false ↦ λ e. absurd (none_here _ _ (none_in pieces_of w (same_place (Built flight)) s.book e) some)
] refl
  where
    none_here : (i o : ℕ) → i ≡ 0 → 1 ≤ i - o → ⊥
    none_here i o e h = omega arith

some_built : (s : Cargo) (w : ℕ) (flight : FlightDate) → is_in w (waybills_on s.book flight) ≡ true → 1 ≤ (built s.book w flight).pieces
some_built s w flight h = let low : 0 < (built s.book w flight).pieces = ltb-true _ _ (sym (is_in-waybills_on w s.book flight) ∙ h) in omega arith

-- a flight with something on it is noted
noted_flight : (s : Cargo) (w : ℕ) (flight : FlightDate) → IsLawful s → is_in w (waybills_on s.book flight) ≡ true → IsNoted s (Built flight)
noted_flight s w flight law h = elim (s.flights flight) as (λ o. s.flights flight ≡ o → IsSome o) [
  | None ↦ λ none. absurd (true≢false (sym h ∙ ap (is_in w) (none_on s flight law none)))
  | Some o ↦ λ _. refl
] refl

pub noted_load : (s : Cargo) (w : ℕ) (flight : FlightDate) → IsLawful s → 1 ≤ (built s.book w flight).pieces → IsNoted s (Built flight)
noted_load s w flight law some = noted_flight s w flight law (is_in-waybills_on w s.book flight ∙ above _ some)
  where
    above : (n : ℕ) → 1 ≤ n → nat_lt 0 n ≡ true
    above n h = grind (arith, nat_tests)

abbrev loaded : Cargo → FlightDate → ℕ → Amount
loaded s flight w = built s.book w flight

leaving : (s : Cargo) (flight : FlightDate) (w : ℕ) → IsLawful s → is_in w (waybills_on s.book flight) ≡ true → IsLeaving s flight (loaded s flight w) w
leaving s flight w law h = let held = held_built s w flight law in record {
  pieces = refl;
  tenths = refl;
  some = some_built s w flight h;
  few = held.pieces;
  heavy = held.tenth_a_piece;
  declared = on_known s w flight law (some_built s w flight h);
  noted = noted_flight s w flight law h;
}

-- with what leaves, and the flight closed
abbrev pub sent_off : Cargo → FlightDate → Outbound → Option FlightDate → LocalMinute → List ℕ → Cargo
sent_off s flight o named at ws = record (with_note s flight o) { book = s.book ++ off (loaded s flight) flight named at ws }

minus : (a n : ℕ) → a - n ≤ a
minus a n = omega arith

not_in_none : (b : Bool) (n : ℕ) → nat_lt 0 n ≡ b → b ≡ false → n ≡ 0
not_in_none b n e f = let g : nat_lt 0 n ≡ false = e ∙ f in grind (arith, nat_tests)

taken_whole : (b c : Bool) (m n : ℕ) → c ≡ true → m ≡ n → (b ≡ false → n ≡ 0) → m - added b c n ≡ 0
taken_whole true true m n e f g = omega arith
taken_whole false true m n e f g = let z : n ≡ 0 = g refl in omega arith
taken_whole b false m n e f g = absurd (true≢false (sym e))

not_taken : (b c : Bool) (m n : ℕ) → c ≡ false → m - added b c n ≡ m
not_taken true false m n e = omega arith
not_taken false c m n e = omega arith
not_taken true true m n e = absurd (true≢false e)

pub departed_lawful : (s : Cargo) (flight : FlightDate) (o : Outbound) (named : Option FlightDate) (at : LocalMinute) → named ≡ Some flight → (w : ℕ) (ws : List ℕ) → waybills_on s.book flight ≡ w ∷ ws → o.closed ≡ true → bytes_eq o.unload s.here ≡ false →
    IsLawful s → IsLawful (sent_off s flight o named at (waybills_on s.book flight))
departed_lawful s flight o named at is w ws some shut away law =
    let all : List ℕ = waybills_on s.book flight in
    let a = loaded s flight in
    let new : List Move = s.book ++ off a flight named at all in
    let sound : IsSound (record s { book = new }) = departs_sound a flight named at is all (Rising-waybills_on s.book flight) s (sound_of s law) (λ q h. leaving s flight q law h) in
    let after : (q : ℕ) (k : FlightDate) → (built new q k).pieces ≡ (built s.book q k).pieces - added (is_in q all) (same_flight_date k flight) (a q).pieces =
    λ q k. built_off a s.book flight named at q k all (Rising-waybills_on s.book flight) in
    let less : (q : ℕ) (k : FlightDate) → (built new q k).pieces ≤ (built s.book q k).pieces = λ q k. subst (λ (n : ℕ). n ≤ (built s.book q k).pieces) (sym (after q k)) (minus _ _) in
    record {
      stocked = sound.stocked;
      covered = sound.covered;
      within = λ q. within_of (record s { book = new }) q sound;
      declarations = law.declarations;
      expectations = law.expectations;
      moves = all_map (IsLawfulMove (record s { book = new })) (IsLawfulMove (sent_off s flight o named at all))
          (move_under (record s { book = new }) (sent_off s flight o named at all) (λ q h. h) (λ k h. still_noted (same_flight_date k flight) (s.flights k) h)) new sound.moves;
      trail = law.trail;
      used = law.used;
      closed = λ k. elim (same_flight_date k flight) as (λ b. same_flight_date k flight ≡ b → (is_closed (if b then Some o else s.flights k) ≡ true → list_any (departs_with k) new ≡ true) × (list_any (departs_with k) new ≡ true → is_closed (if b then Some o else s.flights k) ≡ true)) [
        | true ↦ λ e. ((λ _. gone k e), (λ _. shut))
        | false ↦ λ e. ((λ h. stayed k e ∙ (law.closed k).0 h), (λ h. (law.closed k).1 (sym (stayed k e) ∙ h)))
      ] refl;
      departed = λ k. stays_append k s.book (off a flight named at all) (none_build a flight named at k all) (stays_off a flight named at k all) (law.departed k);
      empty = λ k q. elim (same_flight_date k flight) as (λ b. same_flight_date k flight ≡ b → is_closed (if b then Some o else s.flights k) ≡ true → (built new q k).pieces ≡ 0) [
        | true ↦ λ e _. after q k ∙ taken_whole (is_in q all) (same_flight_date k flight) _ _ e (same_built_at s.book q k flight e) (λ out. not_in_none _ _ (sym (is_in-waybills_on q s.book flight)) out)
        | false ↦ λ e h. after q k ∙ not_taken (is_in q all) (same_flight_date k flight) _ _ e ∙ law.empty k q h
      ] refl;
      room = λ k. at_most _ _ (fewer_on s.book new k (λ q. less q k)) (law.room k);
      outbound = λ k. elim (same_flight_date k flight) as (λ b. IfSome (if b then Some o else s.flights k) (λ o. bytes_eq o.unload s.here ≡ false)) [
        | true ↦ away
        | false ↦ law.outbound k
      ];
      mark = law.mark;
    }
  where
    still_noted : (b : Bool) (was : Option Outbound) → IsSome was → IsSome (if b then Some o else was)
    still_noted true was h = refl
    still_noted false was h = h

    at_most : (a b : ℕ) → a ≤ b → b ≤ 500 → a ≤ 500
    at_most a b h e = omega arith

    or_true : (b : Bool) → (b || true) ≡ true
    or_true true = refl
    or_true false = refl

    or_false : (b : Bool) → (b || false) ≡ b
    or_false true = refl
    or_false false = refl

    gone : (k : FlightDate) → same_flight_date k flight ≡ true → list_any (departs_with k) (s.book ++ off (loaded s flight) flight named at (waybills_on s.book flight)) ≡ true
    gone k e = ap (λ (x : List ℕ). list_any (departs_with k) (s.book ++ off (loaded s flight) flight named at x)) some
        ∙ list_any-append (departs_with k) s.book (off (loaded s flight) flight named at (w ∷ ws))
        ∙ ap (λ (b : Bool). list_any (departs_with k) s.book || b) (leave_with (loaded s flight) flight named at k w ws (same-comm flight k ∙ e))
        ∙ or_true (list_any (departs_with k) s.book)

    stayed : (k : FlightDate) → same_flight_date k flight ≡ false → list_any (departs_with k) (s.book ++ off (loaded s flight) flight named at (waybills_on s.book flight)) ≡ list_any (departs_with k) s.book
    stayed k e = list_any-append (departs_with k) s.book (off (loaded s flight) flight named at (waybills_on s.book flight))
        ∙ ap (λ (b : Bool). list_any (departs_with k) s.book || b) (leave_otherwise (loaded s flight) flight named at k (waybills_on s.book flight) (same-comm flight k ∙ e))
        ∙ or_false (list_any (departs_with k) s.book)

-- the moves of a departure are those
abbrev aboard_of : Cargo → FlightDate → ℕ → FlightLoad
aboard_of s flight w = record { awb = w; declared = declaration s w; load = built s.book w flight }

moves_of : (s : Cargo) (flight : FlightDate) (at : LocalMinute) (ws : List ℕ) → ((w : ℕ) → is_in w ws ≡ true → 1 ≤ (built s.book w flight).pieces) →
    flat_map (λ a. move_of a.awb (Built flight) Departed a.load (Some flight) at) (map (aboard_of s flight) ws) ≡ off (loaded s flight) flight (Some flight) at ws
moves_of s flight at [] some = refl
moves_of s flight at (w ∷ ws) some =
    let first : ((built s.book w flight).pieces == 0) ≡ false = positive _ (some w (in_first w (is_in w ws))) in
    ap (λ (b : Bool). (if b then [] else off_flight w flight (built s.book w flight) (Some flight) at ∷ []) ++ flat_map (λ a. move_of a.awb (Built flight) Departed a.load (Some flight) at) (map (aboard_of s flight) ws)) first
    ∙ ap (λ (ms : List Move). off_flight w flight (built s.book w flight) (Some flight) at ∷ ms) (moves_of s flight at ws (λ q h. some q (in_later w q (is_in q ws) h)))
  where
    positive : (n : ℕ) → 1 ≤ n → (n == 0) ≡ false
    positive n h = grind (arith, nat_tests)

    in_first : (w : ℕ) (b : Bool) → ((w == w) || b) ≡ true
    in_first w b = let e : (w == w) ≡ true = grind (arith, nat_tests) in ap (λ c. c || b) e

    in_later : (w q : ℕ) (b : Bool) → b ≡ true → ((w == q) || b) ≡ true
    in_later w q true e = elim (w == q) as (λ c. (c || true) ≡ true) [ true ↦ refl | false ↦ refl ]
    in_later w q false e = absurd (true≢false (sym e))

pub depart_moves_are : (s : Cargo) (flight : FlightDate) (at : LocalMinute) → depart_moves (loads_of s flight) flight at ≡ off (λ w. built s.book w flight) flight (Some flight) at (waybills_on s.book flight)
depart_moves_are s flight at = moves_of s flight at (waybills_on s.book flight) (λ w h. some_built s w flight h)
