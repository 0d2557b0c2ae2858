-- A departure keeps a state lawful.
use Rattle.shipment_machine.proofs.Common.{Amount, Bool, Built, Cargo, Departed, FlightDate, IsNoted, IsSome, List, LocalMinute, Move, Option, Place, Some, StaysDeparted, [], ap, append-nil, append_assoc, arith, brings, builds_on, built, departs_with, false, is_in, list_any, list_any-append, moved_in, moved_out, nat_tests, pieces_of, refl, same_flight_date, same_place, subst, sum_by-append, sum_by-cons, sum_by_push, sym, takes, tenths_of, true, true≢false, ℕ, ◌&&◌, ◌++◌, ◌+◌, ◌-◌, ◌<◌, ◌==◌, ◌||◌, ◌∙◌, ◌∷◌, ◌≡◌, ◌≤◌}
use Rattle.shipment_machine.specs.Cargo.{IsAscending as Rising}
use Rattle.shipment_machine.proofs.Places.{added}
use Rattle.shipment_machine.proofs.Rising.{below_in, not_in}
use Rattle.shipment_machine.proofs.SoundBook.{IsFitting, IsSound, Leaves, with_move, sound_after, there_are, same_number}

abbrev pub off_flight : ℕ → FlightDate → Amount → Option FlightDate → LocalMinute → Move
off_flight w flight a named at = record { awb = w; from = Built flight; to = Departed; pieces = a.pieces; tenths = a.tenths; flight = named; at = at }

-- the moves of waybills that leave
abbrev pub off : (ℕ → Amount) → FlightDate → Option FlightDate → LocalMinute → List ℕ → List Move
off a flight named at [] = []
off a flight named at (w ∷ ws) = off_flight w flight (a w) named at ∷ off a flight named at ws

-- a waybill with so much built that may leave
pub record IsLeaving (s : Cargo) (flight : FlightDate) (a : Amount) (w : ℕ) : Type 0 where
  pub pieces : there_are pieces_of s.book w (Built flight) ≡ a.pieces
  pub tenths : there_are tenths_of s.book w (Built flight) ≡ a.tenths
  pub some : 1 ≤ a.pieces
  pub few : a.pieces ≤ 9999
  pub heavy : a.pieces ≤ a.tenths
  pub declared : IsSome (s.declared w)
  pub noted : IsNoted s (Built flight)

fitting : (s : Cargo) (flight : FlightDate) (a : Amount) (w : ℕ) (named : Option FlightDate) (at : LocalMinute) → named ≡ Some flight → IsLeaving s flight a w → IsFitting s (off_flight w flight a named at)
fitting s flight a w named at is h = record {
  pair = refl;
  some = h.some;
  few = h.few;
  heavy = h.heavy;
  declared = h.declared;
  noted_from = h.noted;
  noted_to = tt;
  names_from = is;
  names_to = tt;
  leaves = λ _. all_of _ _ _ _ h.pieces h.tenths;
  back = λ e. absurd (true≢false (sym e));
  room = λ e. absurd (true≢false (sym e));
}
  where
    all_of : (p t n m : ℕ) → p ≡ n → t ≡ m → Leaves p t n m
    all_of p t n m e f = record { few = omega arith; light = omega arith; rest = omega arith; none = λ _. omega arith }

unchanged : (measure : Move → ℕ) (book : List Move) (m : Move) (q : ℕ) (p : Place) → (m.awb == q) ≡ false → there_are measure (book ++ m ∷ []) q p ≡ there_are measure book q p
unchanged measure book m q p e =
    let i : moved_in measure (book ++ m ∷ []) q (same_place p) ≡ moved_in measure book q (same_place p) + added (m.awb == q) (same_place p m.to) (measure m) = sum_by_push (brings measure q (same_place p)) book m in
    let o : moved_out measure (book ++ m ∷ []) q (same_place p) ≡ moved_out measure book q (same_place p) + added (m.awb == q) (same_place p m.from) (measure m) = sum_by_push (takes measure q (same_place p)) book m in
    let x : added (m.awb == q) (same_place p m.to) (measure m) ≡ 0 = ap (λ (b : Bool). added b (same_place p m.to) (measure m)) e in
    let y : added (m.awb == q) (same_place p m.from) (measure m) ≡ 0 = ap (λ (b : Bool). added b (same_place p m.from) (measure m)) e in
    omega arith

still_leaving : (s : Cargo) (flight : FlightDate) (a : Amount) (q : ℕ) (m : Move) → (m.awb == q) ≡ false → IsLeaving s flight a q → IsLeaving (with_move s m) flight a q
still_leaving s flight a q m e h = record {
  pieces = unchanged pieces_of s.book m q (Built flight) e ∙ h.pieces;
  tenths = unchanged tenths_of s.book m q (Built flight) e ∙ h.tenths;
  some = h.some;
  few = h.few;
  heavy = h.heavy;
  declared = h.declared;
  noted = h.noted;
}

apart : (w q : ℕ) → w < q → (w == q) ≡ false
apart w q h = grind (arith, nat_tests)

in_later : (w q : ℕ) (b : Bool) → b ≡ true → ((w == q) || b) ≡ true
in_later w q true e = elim (w == q) as (λ c. (c || true) ≡ true) [ true ↦ refl | false ↦ refl ]
in_later w q false e = absurd (true≢false (sym e))

in_first : (w : ℕ) (b : Bool) → ((w == w) || b) ≡ true
in_first w b = let e : (w == w) ≡ true = grind (arith, nat_tests) in ap (λ c. c || b) e

-- the book stays sound
pub departs_sound : (a : ℕ → Amount) (flight : FlightDate) (named : Option FlightDate) (at : LocalMinute) → named ≡ Some flight → (ws : List ℕ) → Rising ws → (s : Cargo) → IsSound s → ((w : ℕ) → is_in w ws ≡ true → IsLeaving s flight (a w) w) →
    IsSound (record s { book = s.book ++ off a flight named at ws })
departs_sound a flight named at is [] r s sound all = subst (λ (book : List Move). IsSound (record s { book = book })) (sym (append-nil s.book)) sound
departs_sound a flight named at is (w ∷ ws) r s sound all =
    let m = off_flight w flight (a w) named at in
    let next : IsSound (with_move s m) = sound_after s m (fitting s flight (a w) w named at is (all w (in_first w (is_in w ws)))) sound in
    let rest : IsSound (record s { book = (s.book ++ m ∷ []) ++ off a flight named at ws }) = departs_sound a flight named at is ws r.1 (with_move s m) next
    (λ q h. still_leaving s flight (a q) q m (apart w q (below_in w q ws r.0 h)) (all q (in_later w q (is_in q ws) h))) in
    subst (λ (book : List Move). IsSound (record s { book = book })) (append_assoc {A = Move} s.book (m ∷ []) (off a flight named at ws)) rest

-- What leaves.

nothing : (b : Bool) (n : ℕ) → added b false n ≡ 0
nothing true n = refl
nothing false n = refl

in_off : (a : ℕ → Amount) (flight : FlightDate) (named : Option FlightDate) (at : LocalMinute) (q : ℕ) (k : FlightDate) (ws : List ℕ) → moved_in pieces_of (off a flight named at ws) q (same_place (Built k)) ≡ 0
in_off a flight named at q k [] = refl
in_off a flight named at q k (w ∷ ws) =
    let rest = in_off a flight named at q k ws in
    let first = nothing (w == q) (a w).pieces in
    sum_by-cons (brings pieces_of q (same_place (Built k))) (off_flight w flight (a w) named at) (off a flight named at ws) ∙ both _ _ first rest
  where
    both : (x y : ℕ) → x ≡ 0 → y ≡ 0 → x + y ≡ 0
    both x y e f = omega arith

out_off : (a : ℕ → Amount) (flight : FlightDate) (named : Option FlightDate) (at : LocalMinute) (q : ℕ) (k : FlightDate) (ws : List ℕ) → Rising ws →
    moved_out pieces_of (off a flight named at ws) q (same_place (Built k)) ≡ added (is_in q ws) (same_flight_date k flight) (a q).pieces
out_off a flight named at q k [] r = refl
out_off a flight named at q k (w ∷ ws) r =
    let rest = out_off a flight named at q k ws r.1 in
    sum_by-cons (takes pieces_of q (same_place (Built k))) (off_flight w flight (a w) named at) (off a flight named at ws)
    ∙ ap (λ n. added (w == q) (same_flight_date k flight) (a w).pieces + n) rest
    ∙ elim (w == q) as (λ b. (w == q) ≡ b → added b (same_flight_date k flight) (a w).pieces + added (is_in q ws) (same_flight_date k flight) (a q).pieces ≡ added (b || is_in q ws) (same_flight_date k flight) (a q).pieces) [
      | true ↦ λ e. let same : w ≡ q = same_number w q e in
          let none : is_in q ws ≡ false = subst (λ (x : ℕ). is_in x ws ≡ false) same (not_in w ws r.0) in
          let x : added true (same_flight_date k flight) (a w).pieces ≡ added true (same_flight_date k flight) (a q).pieces = ap (λ (x : ℕ). added true (same_flight_date k flight) (a x).pieces) same in
          let y : added (is_in q ws) (same_flight_date k flight) (a q).pieces ≡ 0 = ap (λ (b : Bool). added b (same_flight_date k flight) (a q).pieces) none in
          alone _ _ _ x y
      | false ↦ λ _. plain (added (is_in q ws) (same_flight_date k flight) (a q).pieces)
    ] refl
  where
    alone : (x y z : ℕ) → x ≡ z → y ≡ 0 → x + y ≡ z
    alone x y z e f = omega arith

    plain : (n : ℕ) → 0 + n ≡ n
    plain n = omega arith

pub built_off : (a : ℕ → Amount) (book : List Move) (flight : FlightDate) (named : Option FlightDate) (at : LocalMinute) (q : ℕ) (k : FlightDate) (ws : List ℕ) → Rising ws →
    (built (book ++ off a flight named at ws) q k).pieces ≡ (built book q k).pieces - added (is_in q ws) (same_flight_date k flight) (a q).pieces
built_off a book flight named at q k ws r = numbers _ _ _ _ _ _ _
    (sum_by-append (brings pieces_of q (same_place (Built k))) book (off a flight named at ws)) (sum_by-append (takes pieces_of q (same_place (Built k))) book (off a flight named at ws))
    (in_off a flight named at q k ws) (out_off a flight named at q k ws r)
  where
    numbers : (i' i x o' o y n : ℕ) → i' ≡ i + x → o' ≡ o + y → x ≡ 0 → y ≡ n → i' - o' ≡ (i - o) - n
    numbers i' i x o' o y n e1 e2 e3 e4 = omega arith

-- no move of theirs builds anything, and each leaves with the flight
pub none_build : (a : ℕ → Amount) (flight : FlightDate) (named : Option FlightDate) (at : LocalMinute) (k : FlightDate) (ws : List ℕ) → list_any (builds_on k) (off a flight named at ws) ≡ false
none_build a flight named at k [] = refl
none_build a flight named at k (w ∷ ws) = none_build a flight named at k ws

pub stays_off : (a : ℕ → Amount) (flight : FlightDate) (named : Option FlightDate) (at : LocalMinute) (k : FlightDate) (ws : List ℕ) → StaysDeparted k (off a flight named at ws)
stays_off a flight named at k [] = tt
stays_off a flight named at k (w ∷ ws) = ((λ _. none_build a flight named at k ws), stays_off a flight named at k ws)

pub stays_append : (k : FlightDate) (book later : List Move) → list_any (builds_on k) later ≡ false → StaysDeparted k later → StaysDeparted k book → StaysDeparted k (book ++ later)
stays_append k [] later none h stays = h
stays_append k (m ∷ book) later none h stays =
    ((λ e. list_any-append (builds_on k) book later ∙ (λ i. stays.0 e i || none i)), stays_append k book later none h stays.1)

pub leave_with : (a : ℕ → Amount) (flight : FlightDate) (named : Option FlightDate) (at : LocalMinute) (k : FlightDate) (w : ℕ) (ws : List ℕ) → same_flight_date flight k ≡ true → list_any (departs_with k) (off a flight named at (w ∷ ws)) ≡ true
leave_with a flight named at k w ws e = ap (λ (b : Bool). (b && true) || list_any (departs_with k) (off a flight named at ws)) e

pub leave_otherwise : (a : ℕ → Amount) (flight : FlightDate) (named : Option FlightDate) (at : LocalMinute) (k : FlightDate) (ws : List ℕ) → same_flight_date flight k ≡ false → list_any (departs_with k) (off a flight named at ws) ≡ false
leave_otherwise a flight named at k [] e = refl
leave_otherwise a flight named at k (w ∷ ws) e = (λ i. (e i && true) || leave_otherwise a flight named at k ws e i)
