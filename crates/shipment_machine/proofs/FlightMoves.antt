-- Moves onto a flight and off it keep a state lawful.
use Rattle.shipment_machine.proofs.Common.{AllByRecursion, Bool, Built, Cargo, Departed, FlightDate, Free, IfSome, IsLawful, IsLawfulMove, IsSome, List, LocalMinute, Move, Option, Outbound, Place, Some, StaysDeparted, [], ap, arith, built, bytes_eq, departs_with, false, filter, if◌then◌else◌, inl, inr, is_closed, is_in, length, list_any, moved_in, moved_out, nat_lt, nat_tests, pieces_of, put_rising, refl, same_flight_date, same_place, subst, sym, true, true≢false, waybills_of, waybills_on, ℕ, ◌&&◌, ◌++◌, ◌+◌, ◌-◌, ◌<◌, ◌==◌, ◌||◌, ◌∙◌, ◌∷◌, ◌≡◌, ◌≢◌, ◌≤◌, ◌⊎◌}
use Rattle.shipment_machine.proofs.Places.{added}
use Rattle.shipment_machine.proofs.FlightKeys.{same-sym, same-alike, same-comm}
use Rattle.shipment_machine.specs.Cargo.{IsAscending as Rising}
use Rattle.shipment_machine.proofs.Rising.{Rising-put_rising, is_in-put_rising, Rising-filter, below_in, yes_here, first_or_later}
use Rattle.shipment_machine.proofs.OnFlight.{Rising-waybills_of, is_in-waybills_on, same_waybills_on}
use Rattle.shipment_machine.proofs.SoundBook.{IsFitting, IsSound, with_move, sound_after, move_under, all_map}
use Rattle.shipment_machine.proofs.PlainMoves.{sound_of, within_of, built_after, stays_push, departs_after}

-- Rising lists.

pub Rising-waybills_on : (book : List Move) (k : FlightDate) → Rising (waybills_on book k)
Rising-waybills_on book k = Rising-filter _ _ (Rising-waybills_of book)

-- an ascending list whose numbers are all in another is no longer
pub shorter : (ys xs : List ℕ) → Rising xs → Rising ys → ((r : ℕ) → is_in r xs ≡ true → is_in r ys ≡ true) → length xs ≤ length ys
shorter ys [] rx ry sub = omega arith
shorter [] (x ∷ xs) rx ry sub = absurd (true≢false (sym (sub x (yes_here x (is_in x xs)))))
shorter (y ∷ ys) (x ∷ xs) rx ry sub =
    elim (y == x) as (λ b. (y == x) ≡ b → length (x ∷ xs) ≤ length (y ∷ ys)) [
      | true ↦ λ e. let same : y ≡ x = grind (arith, nat_tests) in
          let rest : length xs ≤ length ys = shorter ys xs rx.1 ry.1 (λ r h.
          let above : x < r = below_in x r xs rx.0 h in
          let apart : y ≢ r = λ f. absurd (omega arith) in
          first_or_later y r (is_in r ys) (sub r (later x r (is_in r xs) h)) apart) in
          omega (arith, rest)
      | false ↦ λ e. let apart : y ≢ x = grind (arith, nat_tests) in
          let low : y < x = below_in y x ys ry.0 (first_or_later y x (is_in x ys) (sub x (yes_here x (is_in x xs))) apart) in
          let rest : length (x ∷ xs) ≤ length ys = shorter ys (x ∷ xs) rx ry.1 (λ r h.
          let high : x ≤ r = at_least x r xs rx.0 h in
          let other : y ≢ r = λ f. absurd (omega arith) in
          first_or_later y r (is_in r ys) (sub r h) other) in
          omega (arith, rest)
    ] refl
  where
    later : (x r : ℕ) (b : Bool) → b ≡ true → ((x == r) || b) ≡ true
    later x r true e = elim (x == r) as (λ c. (c || true) ≡ true) [ true ↦ refl | false ↦ refl ]
    later x r false e = absurd (true≢false (sym e))

    at_least : (x r : ℕ) (xs : List ℕ) → AllByRecursion (λ y. x < y) xs → is_in r (x ∷ xs) ≡ true → x ≤ r
    at_least x r xs above = elim (x == r) as (λ c. (x == r) ≡ c → (c || is_in r xs) ≡ true → x ≤ r) [
      | true ↦ λ e _. let same : x ≡ r = grind (arith, nat_tests) in omega arith
      | false ↦ λ _ h. let low : x < r = below_in x r xs above h in omega arith
    ] refl

pub length-put : (q : ℕ) (xs : List ℕ) → length (put_rising q xs) ≤ length xs + 1
length-put q [] = omega arith
length-put q (x ∷ xs) =
    let rest = length-put q xs in
    elim (q == x) as (λ b. length (if b then x ∷ xs else (if nat_lt q x then q ∷ x ∷ xs else x ∷ put_rising q xs)) ≤ length (x ∷ xs) + 1) [
      | true ↦ omega arith
      | false ↦ elim (nat_lt q x) as (λ b. length (if b then q ∷ x ∷ xs else x ∷ put_rising q xs) ≤ length (x ∷ xs) + 1) [ true ↦ omega arith | false ↦ omega (arith, rest) ]
    ]

-- where less is built of each waybill, no more waybills are on the flight
pub fewer_on : (old new : List Move) (k : FlightDate) → ((w : ℕ) → (built new w k).pieces ≤ (built old w k).pieces) → length (waybills_on new k) ≤ length (waybills_on old k)
fewer_on old new k less = shorter (waybills_on old k) (waybills_on new k) (Rising-waybills_on new k) (Rising-waybills_on old k) (λ r h.
    is_in-waybills_on r old k ∙ more _ _ (less r) (sym (is_in-waybills_on r new k) ∙ h))
  where
    more : (a b : ℕ) → a ≤ b → nat_lt 0 a ≡ true → nat_lt 0 b ≡ true
    more a b h e = grind (arith, nat_tests)

-- Off a flight.

abbrev pub off_board : ℕ → FlightDate → ℕ → ℕ → Option FlightDate → LocalMinute → Move
off_board w flight n t named at = record { awb = w; from = Built flight; to = Free; pieces = n; tenths = t; flight = named; at = at }

no_more : (b : Bool) (i o a c : ℕ) → c ≡ 0 → (i + c) - (o + a) ≤ i - o
no_more b i o a c e = omega arith

and_never : (b : Bool) → (b && false) ≡ false
and_never true = refl
and_never false = refl

added_never : (b : Bool) (n : ℕ) → added b false n ≡ 0
added_never true n = refl
added_never false n = refl

pub offloaded : (s : Cargo) (w n t : ℕ) (flight : FlightDate) (named : Option FlightDate) (at : LocalMinute) → IsFitting s (off_board w flight n t named at) → IsLawful s → IsLawful (with_move s (off_board w flight n t named at))
offloaded s w n t flight named at fit law =
    let m = off_board w flight n t named at in
    let sound : IsSound (with_move s m) = sound_after s m fit (sound_of s law) in
    let less : (q : ℕ) (k : FlightDate) → (built (s.book ++ m ∷ []) q k).pieces ≤ (built s.book q k).pieces = λ q k.
    subst (λ (x : ℕ). x ≤ (built s.book q k).pieces) (sym (built_after s.book m q k)) (no_more true _ _ _ _ (added_never (w == q) n)) in
    let departs : (k : FlightDate) → departs_with k m ≡ false = λ k. and_never (same_flight_date flight k) in
    record {
      stocked = sound.stocked;
      covered = sound.covered;
      within = λ q. within_of (with_move s m) q sound;
      declarations = law.declarations;
      expectations = law.expectations;
      moves = sound.moves;
      trail = law.trail;
      used = law.used;
      closed = λ k. ((λ h. departs_after k m s.book (departs k) ∙ (law.closed k).0 h), (λ h. (law.closed k).1 (sym (departs_after k m s.book (departs k)) ∙ h)));
      departed = λ k. stays_push k m s.book refl (law.departed k);
      empty = λ k q h. none_left _ _ (less q k) (law.empty k q h);
      room = λ k. at_most _ _ (fewer_on s.book (s.book ++ m ∷ []) k (λ q. less q k)) (law.room k);
      outbound = law.outbound;
      mark = law.mark;
    }
  where
    none_left : (a b : ℕ) → a ≤ b → b ≡ 0 → a ≡ 0
    none_left a b h e = omega arith

    at_most : (a b : ℕ) → a ≤ b → b ≤ 500 → a ≤ 500
    at_most a b h e = omega arith

-- A new flight, or one that unloads elsewhere from now on.

-- flights with one more note
abbrev pub with_note : Cargo → FlightDate → Outbound → Cargo
with_note s flight o = record s { flights = λ k. if same_flight_date k flight then Some o else s.flights k }

pub same_departs : (j k : FlightDate) (book : List Move) → same_flight_date j k ≡ true → list_any (departs_with j) book ≡ list_any (departs_with k) book
same_departs j k [] e = refl
same_departs j k (m ∷ book) e = λ i. (same_from m.from i && same_place m.to Departed) || same_departs j k book e i
  where
    same_from : (p : Place) → same_place p (Built j) ≡ same_place p (Built k)
    same_from (Built f) = same-comm f j ∙ same-alike j k f e ∙ same-comm k f
    same_from p = refl

none_departed : (s : Cargo) (flight k : FlightDate) → IsLawful s → is_closed (s.flights flight) ≡ false → same_flight_date k flight ≡ true → list_any (departs_with k) s.book ≡ false
none_departed s flight k law ajar same = same_departs k flight s.book same ∙ not_true (list_any (departs_with flight) s.book) (λ h. true≢false (sym ((law.closed flight).1 h) ∙ ajar))
  where
    not_true : (b : Bool) → (b ≡ true → ⊥) → b ≡ false
    not_true true h = absurd (h refl)
    not_true false h = refl

pub noted_open : (s : Cargo) (flight : FlightDate) (o : Outbound) → is_closed (s.flights flight) ≡ false → o.closed ≡ false → bytes_eq o.unload s.here ≡ false → IsLawful s → IsLawful (with_note s flight o)
noted_open s flight o open' ajar away law = record {
  stocked = law.stocked;
  covered = law.covered;
  within = law.within;
  declarations = law.declarations;
  expectations = law.expectations;
  moves = all_map (IsLawfulMove s) (IsLawfulMove (with_note s flight o)) (move_under s (with_note s flight o) (λ w h. h) (λ k h. still_noted (same_flight_date k flight) (s.flights k) h)) s.book law.moves;
  trail = law.trail;
  used = law.used;
  closed = λ k. elim (same_flight_date k flight) as (λ b. same_flight_date k flight ≡ b → (is_closed (if b then Some o else s.flights k) ≡ true → list_any (departs_with k) s.book ≡ true) × (list_any (departs_with k) s.book ≡ true → is_closed (if b then Some o else s.flights k) ≡ true)) [
    | true ↦ λ e. ((λ h. absurd (true≢false (sym h ∙ ajar))), (λ h. absurd (true≢false (sym h ∙ none_departed s flight k law open' e))))
    | false ↦ λ e. ((law.closed k).0, (law.closed k).1)
  ] refl;
  departed = law.departed;
  empty = λ k q. elim (same_flight_date k flight) as (λ b. is_closed (if b then Some o else s.flights k) ≡ true → (built s.book q k).pieces ≡ 0) [
    | true ↦ λ h. absurd (true≢false (sym h ∙ ajar))
    | false ↦ λ h. law.empty k q h
  ];
  room = law.room;
  outbound = λ k. elim (same_flight_date k flight) as (λ b. IfSome (if b then Some o else s.flights k) (λ o. bytes_eq o.unload s.here ≡ false)) [
    | true ↦ away
    | false ↦ law.outbound k
  ];
  mark = law.mark;
}
  where
    still_noted : (b : Bool) (was : Option Outbound) → IsSome was → IsSome (if b then Some o else was)
    still_noted true was h = refl
    still_noted false was h = h

-- Onto a flight that is noted and open.

abbrev pub on_board : ℕ → FlightDate → ℕ → ℕ → Option FlightDate → LocalMinute → Move
on_board w flight n t named at = record { awb = w; from = Free; to = Built flight; pieces = n; tenths = t; flight = named; at = at }

never_departed : (k : FlightDate) (m : Move) (book : List Move) → list_any (departs_with k) book ≡ false → departs_with k m ≡ false → StaysDeparted k (book ++ m ∷ [])
never_departed k m [] none apart = ((λ _. refl), tt)
never_departed k m (x ∷ book) none apart =
    let parts = both_false (departs_with k x) (list_any (departs_with k) book) none in
    ((λ e. absurd (true≢false (sym e ∙ parts.0))), never_departed k m book parts.1 apart)
  where
    both_false : (a b : Bool) → (a || b) ≡ false → (a ≡ false) × (b ≡ false)
    both_false true b e = absurd (true≢false e)
    both_false false b e = (refl, e)

-- whether there is room for a waybill on a flight
abbrev pub HasRoom : Cargo → ℕ → FlightDate → Type 0
HasRoom s w flight = (is_in w (waybills_on s.book flight) ≡ true) ⊎ (length (waybills_on s.book flight) ≤ 499)

added_other : (b : Bool) (n : ℕ) (c : Bool) → c ≡ false → added b c n ≡ 0
added_other true n true e = absurd (true≢false e)
added_other true n false e = refl
added_other false n c e = refl

pub same_built_at : (book : List Move) (q : ℕ) (j k : FlightDate) → same_flight_date j k ≡ true → (built book q j).pieces ≡ (built book q k).pieces
same_built_at book q j k e =
    let tests : same_place (Built j) ≡ same_place (Built k) = λ i x. alike x i in
    ap (λ (there : Place → Bool). moved_in pieces_of book q there - moved_out pieces_of book q there) tests
  where
    alike : (x : Place) → same_place (Built j) x ≡ same_place (Built k) x
    alike (Built f) = same-alike j k f e
    alike p = refl

pub same_on : (book : List Move) (j k : FlightDate) → same_flight_date j k ≡ true → waybills_on book j ≡ waybills_on book k
same_on book j k e = λ i. filter (λ w. nat_lt 0 (same_built_at book w j k e i)) (waybills_of book)

built_less : (book : List Move) (w n t : ℕ) (flight : FlightDate) (named : Option FlightDate) (at : LocalMinute) (q : ℕ) (k : FlightDate) → added (w == q) (same_flight_date k flight) n ≡ 0 →
    (built (book ++ on_board w flight n t named at ∷ []) q k).pieces ≡ (built book q k).pieces
built_less book w n t flight named at q k none = built_after book (on_board w flight n t named at) q k ∙ plain _ _ _ _ none (added_never (w == q) n)
  where
    plain : (i o a b : ℕ) → a ≡ 0 → b ≡ 0 → (i + a) - (o + b) ≡ i - o
    plain i o a b e f = omega arith

other_waybill : (w q n : ℕ) (c : Bool) → (w == q) ≡ false → added (w == q) c n ≡ 0
other_waybill w q n c e = ap (λ (b : Bool). added b c n) e

room_on : (s : Cargo) (w n t : ℕ) (flight : FlightDate) (named : Option FlightDate) (at : LocalMinute) (k : FlightDate) → same_flight_date k flight ≡ true → HasRoom s w flight → IsLawful s →
    length (waybills_on (s.book ++ on_board w flight n t named at ∷ []) k) ≤ 500
room_on s w n t flight named at k e room law =
    let new = s.book ++ on_board w flight n t named at ∷ [] in
    let old : List ℕ = waybills_on s.book flight in
    let same : waybills_on s.book k ≡ old = same_on s.book k flight e in
    let inside : (r : ℕ) → is_in r (waybills_on new k) ≡ true → ((w == r) || is_in r old) ≡ true = λ r h.
    elim (w == r) as (λ b. (w == r) ≡ b → (b || is_in r old) ≡ true) [
      | true ↦ λ _. refl
      | false ↦ λ f. ap (is_in r) (sym same) ∙ is_in-waybills_on r s.book k ∙ ap (nat_lt 0) (sym (built_less s.book w n t flight named at r k (other_waybill w r n (same_flight_date k flight) f))) ∙ sym (is_in-waybills_on r new k) ∙ h
    ] refl in
    fits_in (waybills_on new k) old (Rising-waybills_on new k) (Rising-waybills_on s.book flight) inside (law.room flight) room
  where
    known_too : (r : ℕ) (b : Bool) (old : List ℕ) → (w == r) ≡ b → is_in w old ≡ true → (b || is_in r old) ≡ true → is_in r old ≡ true
    known_too r true old e on h = let same : w ≡ r = grind (arith, nat_tests) in subst (λ (x : ℕ). is_in x old ≡ true) same on
    known_too r false old e on h = h

    fits_in : (xs old : List ℕ) → Rising xs → Rising old → ((r : ℕ) → is_in r xs ≡ true → ((w == r) || is_in r old) ≡ true) → length old ≤ 500 → (is_in w old ≡ true) ⊎ (length old ≤ 499) → length xs ≤ 500
    fits_in xs old rx ro inside most (inl on) =
        let h : length xs ≤ length old = shorter old xs rx ro (λ r h. known_too r (w == r) old refl on (inside r h)) in
        omega arith
    fits_in xs old rx ro inside most (inr few) =
        let h : length xs ≤ length (put_rising w old) = shorter (put_rising w old) xs rx (Rising-put_rising w old ro) (λ r h. is_in-put_rising r w old ∙ inside r h) in
        omega (arith, length-put w old)

pub manifested : (s : Cargo) (w n t : ℕ) (flight : FlightDate) (named : Option FlightDate) (at : LocalMinute) → IsFitting s (on_board w flight n t named at) → is_closed (s.flights flight) ≡ false → HasRoom s w flight →
    IsLawful s → IsLawful (with_move s (on_board w flight n t named at))
manifested s w n t flight named at fit ajar room law =
    let m = on_board w flight n t named at in
    let sound : IsSound (with_move s m) = sound_after s m fit (sound_of s law) in
    let departs : (k : FlightDate) → departs_with k m ≡ false = λ k. refl in
    let unlike : (k : FlightDate) → is_closed (s.flights k) ≡ true → same_flight_date k flight ≡ false = λ k h.
    elim (same_flight_date k flight) as (λ b. same_flight_date k flight ≡ b → b ≡ false) [
      | true ↦ λ e. absurd (true≢false (sym ((law.closed k).0 h) ∙ none_departed s flight k law ajar e))
      | false ↦ λ _. refl
    ] refl in
    record {
      stocked = sound.stocked;
      covered = sound.covered;
      within = λ q. within_of (with_move s m) q sound;
      declarations = law.declarations;
      expectations = law.expectations;
      moves = sound.moves;
      trail = law.trail;
      used = law.used;
      closed = λ k. ((λ h. departs_after k m s.book (departs k) ∙ (law.closed k).0 h), (λ h. (law.closed k).1 (sym (departs_after k m s.book (departs k)) ∙ h)));
      departed = λ k. elim (same_flight_date flight k) as (λ b. same_flight_date flight k ≡ b → StaysDeparted k (s.book ++ m ∷ [])) [
        | true ↦ λ e. never_departed k m s.book (none_departed s flight k law ajar (same-sym flight k e)) refl
        | false ↦ λ e. stays_push k m s.book e (law.departed k)
      ] refl;
      empty = λ k q h. built_less s.book w n t flight named at q k (added_other (w == q) n (same_flight_date k flight) (unlike k h)) ∙ law.empty k q h;
      room = λ k. elim (same_flight_date k flight) as (λ b. same_flight_date k flight ≡ b → length (waybills_on (s.book ++ m ∷ []) k) ≤ 500) [
        | true ↦ λ e. room_on s w n t flight named at k e room law
        | false ↦ λ e. subst (λ (ws : List ℕ). length ws ≤ 500) (sym (same_waybills_on s.book (s.book ++ m ∷ []) k (λ q. built_less s.book w n t flight named at q k (added_other (w == q) n (same_flight_date k flight) e)))) (law.room k)
      ] refl;
      outbound = law.outbound;
      mark = law.mark;
    }
