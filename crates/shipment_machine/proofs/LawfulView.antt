-- What a view of a lawful state shows is within bounds.
use Rattle.shipment_machine.proofs.Common.{All, All-cons, AllByRecursion, Bool, Built, Cargo, Expected, FlightDate, FlightLoad, IfSome, IsHeld, IsLawful, IsLawfulAmount, IsLawfulMove, IsNoted, IsOnBoard, IsSome, List, Move, None, Option, Place, Some, [], ap, arith, brings, built, declaration, expected_amount, false, filter, if◌then◌else◌, is_some, length, loads_of, ltb-true, map, moved_in, moved_out, nat_lt, pieces_of, refl, same_flight_date, same_place, sum_by-cons, sym, true, true≢false, waybills_of, waybills_on, ℕ, ◌+◌, ◌-◌, ◌<◌, ◌==◌, ◌∙◌, ◌∷◌, ◌≡◌}
use Rattle.shipment_machine.proofs.Places.{no_added}
use Rattle.shipment_machine.proofs.FlightKeys.{same-is}
use Rattle.shipment_machine.proofs.Conserved.{held_built}

-- what is expected is within bounds
expected_held : (o : Option Expected) (P : Type 0) → IfSome o (λ e. IsLawfulAmount e.pieces e.tenths × P) → IsHeld (expected_amount o)
expected_held None P h = record { pieces = omega arith; tenths = omega arith; tenth_a_piece = omega arith }
expected_held (Some e) P h = let law = h.0 in record { pieces = law.not_more; tenths = law.not_heavier; tenth_a_piece = law.tenth_a_piece }

pub held_expected : (s : Cargo) (flight : FlightDate) (w : ℕ) → IsLawful s → IsHeld (expected_amount (s.expected flight w))
held_expected s flight w law = expected_held (s.expected flight w) _ (law.expectations flight w)

none_at_all : {A : Type 0} (P : A → Type 0) → All P []
none_at_all P k d h = absurd (omega arith)

-- what a filter keeps, seen through a function
kept : {A : Type 0} (f : ℕ → A) (P : A → Type 0) (p : ℕ → Bool) → ((w : ℕ) → p w ≡ true → P (f w)) → (ws : List ℕ) → All P (map f (filter p ws))
kept f P p holds [] = none_at_all P
kept f P p holds (w ∷ ws) = elim (p w) as (λ b. p w ≡ b → All P (map f (if b then w ∷ filter p ws else filter p ws))) [
  | true ↦ λ e. All-cons P (f w) (map f (filter p ws)) (holds w e) (kept f P p holds ws)
  | false ↦ λ _. kept f P p holds ws
] refl

-- what is built on a flight is within bounds
pub on_board : (s : Cargo) (flight : FlightDate) → IsLawful s → All IsOnBoard (loads_of s flight)
on_board s flight law = kept (λ w. record { awb = w; declared = declaration s w; load = built s.book w flight }) IsOnBoard
    (λ w. nat_lt 0 (built s.book w flight).pieces)
    (λ w e. record { held = held_built s w flight law; some = let h : 0 < (built s.book w flight).pieces = ltb-true _ _ e in omega arith })
    (waybills_of s.book)

-- Nothing is built for a flight that isn't noted.

not_noted : (s : Cargo) (flight : FlightDate) → IsLawful s → s.flights flight ≡ None → (p : Place) → IsNoted s p → same_place (Built flight) p ≡ false
not_noted s flight law none (Built k) h = elim (same_flight_date flight k) as (λ b. same_flight_date flight k ≡ b → b ≡ false) [
  | true ↦ λ e. absurd (true≢false (sym h ∙ ap is_some (ap s.flights (sym (same-is flight k e))) ∙ ap is_some none))
  | false ↦ λ _. refl
] refl
not_noted s flight law none p h = refl

none_built : (s : Cargo) (flight : FlightDate) (w : ℕ) → IsLawful s → s.flights flight ≡ None → (book : List Move) → AllByRecursion (IsLawfulMove s) book → moved_in pieces_of book w (same_place (Built flight)) ≡ 0
none_built s flight w law none [] h = refl
none_built s flight w law none (m ∷ book) h =
    let here : brings pieces_of w (same_place (Built flight)) m ≡ 0 = no_added (m.awb == w) (same_place (Built flight) m.to) m.pieces (not_noted s flight law none m.to h.0.noted_to) in
    let rest : moved_in pieces_of book w (same_place (Built flight)) ≡ 0 = none_built s flight w law none book h.1 in
    sum_by-cons (brings pieces_of w (same_place (Built flight))) m book ∙ both _ _ here rest
  where
    both : (a b : ℕ) → a ≡ 0 → b ≡ 0 → a + b ≡ 0
    both a b e f = omega arith

filter_none : (p : ℕ → Bool) → ((w : ℕ) → p w ≡ false) → (ws : List ℕ) → filter p ws ≡ []
filter_none p fails [] = refl
filter_none p fails (w ∷ ws) = ap (λ (b : Bool). if b then w ∷ filter p ws else filter p ws) (fails w) ∙ filter_none p fails ws

pub none_on : (s : Cargo) (flight : FlightDate) → IsLawful s → s.flights flight ≡ None → waybills_on s.book flight ≡ []
none_on s flight law none = filter_none (λ w. nat_lt 0 (built s.book w flight).pieces)
    (λ w. ap (λ n. nat_lt 0 (n - moved_out pieces_of s.book w (same_place (Built flight)))) (none_built s flight w law none s.book law.moves) ∙ zero_less (moved_out pieces_of s.book w (same_place (Built flight))))
    (waybills_of s.book)
  where
    zero_less : (n : ℕ) → nat_lt 0 (0 - n) ≡ false
    zero_less n = let e : 0 - n ≡ 0 = omega arith in ap (nat_lt 0) e

-- a flight with something on it is noted
pub noted_outbound : (s : Cargo) (flight : FlightDate) → IsLawful s → (length (loads_of s flight) == 0) ≡ false → IsSome (s.flights flight)
noted_outbound s flight law some = elim (s.flights flight) as (λ o. s.flights flight ≡ o → IsSome o) [
  | None ↦ λ e. absurd (true≢false (sym (ap (λ (ws : List ℕ). length {A = FlightLoad} (map (λ w. record { awb = w; declared = declaration s w; load = built s.book w flight }) ws) == 0) (none_on s flight law e)) ∙ some))
  | Some o ↦ λ _. refl
] refl
