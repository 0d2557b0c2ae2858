-- The carried part of a lawful state is lawful, and a carried waybill is as it was.
use Rattle.std.proofs.Common.{◌≡◌, ◌∙◌, refl, sym, ap, subst, arith, ℕ, ◌≤◌, ◌==◌, Bool, true, false, true≢false, ◌&&◌, ◌||◌, List, [], ◌∷◌, length, Option, Some, None, IfSome, IsSome, nat_le, nat_lt, not}
use Rattle.std.specs.Prelude.{IsTrue, ◌↔◌}
use Rattle.std.specs.Bool.{if◌then◌else◌}
use Rattle.std.specs.List.{AllByRecursion, filter, list_any}
use Rattle.std.proofs.lemmas.Bool.{and_parts, eqb-true, or_left, or_right}
use Rattle.std.proofs.lemmas.Option.{none-some, same_Some}
use Rattle.agent_stock.specs.declared.stock.Holder.{Holder}
use Rattle.agent_stock.specs.declared.stock.Holder.TheVariants.{Desk, Agent, Void, Used}
use Rattle.std.specs.Str.{bytes_eq}
use Rattle.shipment_machine.specs.Common.{is_line}
use Rattle.shipment_machine.specs.declared.flight.FlightDate.{FlightDate}
use Rattle.shipment_machine.specs.declared.moves.Move.{Move}
use Rattle.shipment_machine.specs.declared.moves.Part.{Part}
use Rattle.shipment_machine.specs.declared.moves.Place.{Place}
use Rattle.shipment_machine.specs.declared.moves.Place.TheVariants.{Built, Departed, Hand}
use Rattle.shipment_machine.specs.declared.moves.Outbound.{Outbound}
use Rattle.shipment_machine.specs.Book.{built, fits, pieces_of, same_place, taken_and_found, tenths_of, waybills_on}
use Rattle.shipment_machine.specs.Cargo.{Cargo}
use Rattle.shipment_machine.specs.Effect.{is_closed}
use Rattle.shipment_machine.specs.Lawful.{IsCovered, IsLawful, IsLawfulAmount, IsLawfulMove, IsNoted, IsStocked, StaysDeparted, builds_on, departs_with}
use Rattle.shipment_machine.proofs.FlightKeys.{same-refl}
use Rattle.shipment_machine.proofs.OnFlight.{Rising-waybills_of, is_in-waybills_on}
use Rattle.shipment_machine.proofs.Rising.{Rising-filter, is_in-filter, same_rising}
use Rattle.station_core.specs.Step.{IsLawfulState, State}
use Rattle.carried_station.specs.Carried.{Choice, MayCarry, carried, carried_cargo, carried_lines, carried_moves, holder_if_carried, if_carried, names_built}
use Rattle.carried_station.specs.Laws.{IsSameWaybill}
use Rattle.carried_station.proofs.Sums.{same_in, same_out, same_held, same_balances, same_taken_and_found, nothing_in, nothing_out, nothing_held, nothing_taken_and_found}

-- Lists.

any_kept : {X : Type 0} (p q : X → Bool) (xs : List X) → list_any p (filter q xs) ≡ true → list_any p xs ≡ true
any_kept p q [] h = h
any_kept p q (x ∷ xs) h = elim (q x) as (λ b. list_any p (if b then x ∷ filter q xs else filter q xs) ≡ true → (p x || list_any p xs) ≡ true) [
  | true ↦ λ e. elim (p x) as (λ b. (b || list_any p (filter q xs)) ≡ true → (b || list_any p xs) ≡ true) [ true ↦ λ _. refl | false ↦ λ e. any_kept p q xs e ] e
  | false ↦ λ e. or_right (p x) (list_any p xs) (any_kept p q xs e)
] h

none_kept : {X : Type 0} (p q : X → Bool) (xs : List X) → list_any p xs ≡ false → list_any p (filter q xs) ≡ false
none_kept p q xs h = elim (list_any p (filter q xs)) as (λ b. list_any p (filter q xs) ≡ b → b ≡ false) [
  | true ↦ λ e. absurd (true≢false (sym (any_kept p q xs e) ∙ h))
  | false ↦ λ _. refl
] refl

any_more : {X : Type 0} (p q : X → Bool) → ((x : X) → p x ≡ true → q x ≡ true) → (xs : List X) → list_any p xs ≡ true → list_any q xs ≡ true
any_more p q more [] h = h
any_more p q more (x ∷ xs) h = elim (p x) as (λ b. p x ≡ b → (b || list_any p xs) ≡ true → (q x || list_any q xs) ≡ true) [
  | true ↦ λ e _. or_left (q x) (list_any q xs) (more x e)
  | false ↦ λ _ e. or_right (q x) (list_any q xs) (any_more p q more xs e)
] refl h

filter_within : {X : Type 0} (p q : X → Bool) → ((x : X) → p x ≡ true → q x ≡ true) → (xs : List X) → filter p (filter q xs) ≡ filter p xs
filter_within p q within [] = refl
filter_within p q within (x ∷ xs) =
    let rest = filter_within p q within xs in
    elim (q x) as (λ b. q x ≡ b → filter p (if b then x ∷ filter q xs else filter q xs) ≡ (if p x then x ∷ filter p xs else filter p xs)) [
      | true ↦ λ _. ap (λ ys. if p x then x ∷ ys else ys) rest
      | false ↦ λ off. rest ∙ elim (p x) as (λ b. p x ≡ b → filter p xs ≡ (if b then x ∷ filter p xs else filter p xs)) [
        | true ↦ λ on. absurd (true≢false (sym (within x on) ∙ off))
        | false ↦ λ _. refl
      ] refl
    ] refl

shorter : {X : Type 0} (p : X → Bool) (xs : List X) → length (filter p xs) ≤ length xs
shorter p [] = omega arith
shorter p (x ∷ xs) =
    let rest = shorter p xs in
    elim (p x) as (λ b. length (if b then x ∷ filter p xs else filter p xs) ≤ length (x ∷ xs)) [ true ↦ omega (arith, rest) | false ↦ omega (arith, rest) ]

if_kept : {X : Type 0} (b : Bool) (o : Option X) (P : X → Type 0) → IfSome o P → IfSome (if_carried b o) P
if_kept true o P h = h
if_kept false o P h = tt

none_left : {X : Type 0} (o : Option X) (A : Type 0) → o ≡ None → IsSome o → A
none_left None A e h = absurd (true≢false (sym h))
none_left (Some x) A e h = absurd (none-some x (sym e))

-- Used numbers.

abbrev is_used : Holder → Bool
is_used Used = true
is_used _ = false

not_used : (holder : Holder) (A : Type 0) → is_used holder ≡ false → Some holder ≡ Some Used → A
not_used holder A off e = absurd (true≢false (sym (ap is_used (same_Some holder Used e)) ∙ off))

used_kept : (b : Bool) (holder : Option Holder) (A : Type 0) → holder_if_carried b holder ≡ Some Used → (b ≡ true → holder ≡ Some Used → A) → A
used_kept true holder A e known = known refl e
used_kept false (Some Used) A e known = absurd (none-some Used e)
used_kept false (Some Desk) A e known = not_used Desk A refl e
used_kept false (Some Void) A e known = not_used Void A refl e
used_kept false (Some (Agent code)) A e known = not_used (Agent code) A refl e
used_kept false None A e known = absurd (none-some Used e)

module _ (s : Cargo) (c : Choice) where
  kept_declared : (w : ℕ) → c.waybill w ≡ true → IsSome (s.declared w) → IsSome ((carried_cargo c s).declared w)
  kept_declared w on h = subst (λ b. IsSome (if_carried b (s.declared w))) (sym on) h

  -- Moves and lines of the trail.

  noted : (p : Place) → ((f : FlightDate) → same_place p (Built f) ≡ true → IsSome (s.flights f) → c.flight f ≡ true) → IsNoted s p → IsNoted (carried_cargo c s) p
  noted (Built f) named h = subst (λ b. IsSome (if_carried b (s.flights f))) (sym (named f (same-refl f) h)) h
  noted p named h = tt

  move_kept : (m : Move) → IsLawfulMove s m → c.waybill m.awb ≡ true → ((f : FlightDate) → names_built f m ≡ true → IsSome (s.flights f) → c.flight f ≡ true) → IsLawfulMove (carried_cargo c s) m
  move_kept m law on named = record {
    pair = law.pair;
    some = law.some;
    not_more = law.not_more;
    declared = kept_declared m.awb on law.declared;
    noted_from = noted m.from (λ f e. named f (or_left (same_place m.from (Built f)) (same_place m.to (Built f)) e)) law.noted_from;
    noted_to = noted m.to (λ f e. named f (or_right (same_place m.from (Built f)) (same_place m.to (Built f)) e)) law.noted_to;
    names_from = law.names_from;
    names_to = law.names_to;
  }

  moves_kept : (book : List Move) → AllByRecursion (IsLawfulMove s) book → ((f : FlightDate) → list_any (names_built f) (carried_moves c book) ≡ true → IsSome (s.flights f) → c.flight f ≡ true)
      → AllByRecursion (IsLawfulMove (carried_cargo c s)) (carried_moves c book)
  moves_kept [] law named = tt
  moves_kept (m ∷ book) law named =
      elim (c.waybill m.awb) as (λ b. c.waybill m.awb ≡ b
      → ((f : FlightDate) → list_any (names_built f) (if b then m ∷ carried_moves c book else carried_moves c book) ≡ true → IsSome (s.flights f) → c.flight f ≡ true)
      → AllByRecursion (IsLawfulMove (carried_cargo c s)) (if b then m ∷ carried_moves c book else carried_moves c book)) [
        | true ↦ λ on named. (
          move_kept m law.0 on (λ f e. named f (or_left (names_built f m) (list_any (names_built f) (carried_moves c book)) e)),
          moves_kept book law.1 (λ f e. named f (or_right (names_built f m) (list_any (names_built f) (carried_moves c book)) e)),
        )
        | false ↦ λ _ named. moves_kept book law.1 named
      ] refl named

  lines_kept : (trail : List (ℕ × List ℕ)) → AllByRecursion (λ (row : ℕ × List ℕ). IsSome (s.declared row.0) × IsTrue (is_line row.1)) trail
      → AllByRecursion (λ (row : ℕ × List ℕ). IsSome ((carried_cargo c s).declared row.0) × IsTrue (is_line row.1)) (carried_lines c trail)
  lines_kept [] law = tt
  lines_kept (row ∷ trail) law =
      elim (c.waybill row.0) as (λ b. c.waybill row.0 ≡ b
      → AllByRecursion (λ (row : ℕ × List ℕ). IsSome ((carried_cargo c s).declared row.0) × IsTrue (is_line row.1)) (if b then row ∷ carried_lines c trail else carried_lines c trail)) [
        | true ↦ λ on. ((kept_declared row.0 on law.0.0, law.0.1), lines_kept trail law.1)
        | false ↦ λ _. lines_kept trail law.1
      ] refl

  -- Flights.

  stays_departed : (f : FlightDate) (book : List Move) → StaysDeparted f book → StaysDeparted f (carried_moves c book)
  stays_departed f [] law = tt
  stays_departed f (m ∷ book) law = elim (c.waybill m.awb) as (λ b. StaysDeparted f (if b then m ∷ carried_moves c book else carried_moves c book)) [
    | true ↦ ((λ leaves. none_kept (builds_on f) (λ m. c.waybill m.awb) book (law.0 leaves)), stays_departed f book law.1)
    | false ↦ stays_departed f book law.1
  ]

  was_closed : (f : FlightDate) → IsTrue (is_closed ((carried_cargo c s).flights f)) → (c.flight f ≡ true) × IsTrue (is_closed (s.flights f))
  was_closed f e = elim (c.flight f) as (λ b. is_closed (if_carried b (s.flights f)) ≡ true → (b ≡ true) × (is_closed (s.flights f) ≡ true)) [
    | true ↦ λ e. (refl, e)
    | false ↦ λ e. absurd (true≢false (sym e))
  ] e

  closed_noted : (o : Option Outbound) → is_closed o ≡ true → IsSome o
  closed_noted None e = absurd (true≢false (sym e))
  closed_noted (Some o) e = refl

  leaving_named : (f : FlightDate) (m : Move) → departs_with f m ≡ true → names_built f m ≡ true
  leaving_named f m e = or_left (same_place m.from (Built f)) (same_place m.to (Built f)) (and_parts (same_place m.from (Built f)) (same_place m.to Departed) e).0

  -- the waybills on a flight are those that are carried of them
  on_flight : (f : FlightDate) → waybills_on (carried_moves c s.book) f ≡ filter c.waybill (waybills_on s.book f)
  on_flight f = same_rising _ _ (Rising-filter _ _ (Rising-waybills_of (carried_moves c s.book))) (Rising-filter _ _ (Rising-filter _ _ (Rising-waybills_of s.book))) (λ w.
      is_in-waybills_on w (carried_moves c s.book) f ∙ here w ∙ ap (λ b. c.waybill w && b) (sym (is_in-waybills_on w s.book f)) ∙ sym (is_in-filter c.waybill w (waybills_on s.book f)))
    where
      here : (w : ℕ) → nat_lt 0 (built (carried_moves c s.book) w f).pieces ≡ (c.waybill w && nat_lt 0 (built s.book w f).pieces)
      here w = elim (c.waybill w) as (λ b. c.waybill w ≡ b → nat_lt 0 (built (carried_moves c s.book) w f).pieces ≡ (b && nat_lt 0 (built s.book w f).pieces)) [
        | true ↦ λ on. ap (λ a. nat_lt 0 a.pieces) (same_held c s.book w on (same_place (Built f)))
        | false ↦ λ off. ap (λ a. nat_lt 0 a.pieces) (nothing_held c s.book w off (same_place (Built f)))
      ] refl

  -- Each waybill.

  stocked_kept : (w : ℕ) (p : Place) → IsStocked s.book w p → IsStocked (carried_moves c s.book) w p
  stocked_kept w p law = elim (c.waybill w) as (λ b. c.waybill w ≡ b → IsStocked (carried_moves c s.book) w p) [
    | true ↦ λ on.
        let inp = same_in c s.book w on pieces_of (same_place p) in
        let outp = same_out c s.book w on pieces_of (same_place p) in
        let int = same_in c s.book w on tenths_of (same_place p) in
        let outt = same_out c s.book w on tenths_of (same_place p) in
        let all = same_held c s.book w on (same_place p) in
        record {
          pieces = omega (arith, inp, outp, law.pieces);
          tenths = omega (arith, int, outt, law.tenths);
          tenth_a_piece = subst (λ a. a.pieces ≤ a.tenths) (sym all) law.tenth_a_piece;
          no_weight_alone = λ e. ap (λ a. a.tenths) all ∙ law.no_weight_alone (sym (ap (λ a. a.pieces) all) ∙ e);
        }
    | false ↦ λ off.
        let all = nothing_held c s.book w off (same_place p) in
        record {
          pieces = omega (arith, nothing_in c s.book w off pieces_of (same_place p), nothing_out c s.book w off pieces_of (same_place p));
          tenths = omega (arith, nothing_in c s.book w off tenths_of (same_place p), nothing_out c s.book w off tenths_of (same_place p));
          tenth_a_piece = let e = ap (λ a. a.pieces) all in let f = ap (λ a. a.tenths) all in omega (arith, e, f);
          no_weight_alone = λ _. ap (λ a. a.tenths) all;
        }
  ] refl

  covered_kept : (w : ℕ) → IsCovered s.book w → IsCovered (carried_moves c s.book) w
  covered_kept w law = elim (c.waybill w) as (λ b. c.waybill w ≡ b → IsCovered (carried_moves c s.book) w) [
    | true ↦ λ on. record {
      pieces = omega (arith, same_in c s.book w on pieces_of (same_place Hand), same_out c s.book w on pieces_of (same_place Hand), law.pieces);
      tenths = omega (arith, same_in c s.book w on tenths_of (same_place Hand), same_out c s.book w on tenths_of (same_place Hand), law.tenths);
    }
    | false ↦ λ off. record {
      pieces = omega (arith, nothing_in c s.book w off pieces_of (same_place Hand), nothing_out c s.book w off pieces_of (same_place Hand));
      tenths = omega (arith, nothing_in c s.book w off tenths_of (same_place Hand), nothing_out c s.book w off tenths_of (same_place Hand));
    }
  ] refl

  within_kept : (w : ℕ) → fits (taken_and_found s.book w) ≡ true → fits (taken_and_found (carried_moves c s.book) w) ≡ true
  within_kept w law = elim (c.waybill w) as (λ b. c.waybill w ≡ b → fits (taken_and_found (carried_moves c s.book) w) ≡ true) [
    | true ↦ λ on. ap fits (same_taken_and_found c s.book w on) ∙ law
    | false ↦ λ off. ap fits (nothing_taken_and_found c s.book w off)
  ] refl

  emptied : (f : FlightDate) (w : ℕ) → (built s.book w f).pieces ≡ 0 → (built (carried_moves c s.book) w f).pieces ≡ 0
  emptied f w law = elim (c.waybill w) as (λ b. c.waybill w ≡ b → (built (carried_moves c s.book) w f).pieces ≡ 0) [
    | true ↦ λ on. ap (λ a. a.pieces) (same_held c s.book w on (same_place (Built f))) ∙ law
    | false ↦ λ off. ap (λ a. a.pieces) (nothing_held c s.book w off (same_place (Built f)))
  ] refl

  expected_kept : (f : FlightDate) (w : ℕ) → IfSome (s.expected f w) (λ e. IsLawfulAmount e.pieces e.tenths × IsSome (s.declared w))
      → IfSome ((carried_cargo c s).expected f w) (λ e. IsLawfulAmount e.pieces e.tenths × IsSome ((carried_cargo c s).declared w))
  expected_kept f w law = elim (c.waybill w) as (λ b. IfSome (if_carried b (s.expected f w)) (λ e. IsLawfulAmount e.pieces e.tenths × IsSome (if_carried b (s.declared w)))) [
    | true ↦ law
    | false ↦ tt
  ]

-- What the conditions on a choice say of flights.
module _ (s : State) (day : ℕ) (c : Choice) (law : IsLawful s.cargo) (may : MayCarry s day c) where
  named_carried : (f : FlightDate) → list_any (names_built f) (carried_moves c s.cargo.book) ≡ true → IsSome (s.cargo.flights f) → c.flight f ≡ true
  named_carried f named some = over (s.cargo.flights f) some (may.flights f)
    where
      over : (o : Option Outbound) → IsSome o → IfSome o (λ o. c.flight f ≡ (list_any (names_built f) (carried_moves c s.cargo.book) || (not o.closed && nat_le day f.day))) → c.flight f ≡ true
      over None off e = absurd (true≢false (sym off))
      over (Some o) _ e = e ∙ or_left (list_any (names_built f) (carried_moves c s.cargo.book)) (not o.closed && nat_le day f.day) named

  closed_kept : (f : FlightDate) → IsTrue (is_closed ((carried_cargo c s.cargo).flights f)) ↔ IsTrue (list_any (departs_with f) (carried_moves c s.cargo.book))
  closed_kept f = (
    (λ e. let was = was_closed s.cargo c f e in may.left f was.0 was.1),
    (λ e. let closed : is_closed (s.cargo.flights f) ≡ true = (law.closed f).1 (any_kept (departs_with f) (λ m. c.waybill m.awb) s.cargo.book e) in
        let named = any_more (departs_with f) (names_built f) (leaving_named s.cargo c f) (carried_moves c s.cargo.book) e in
        subst (λ b. is_closed (if_carried b (s.cargo.flights f)) ≡ true) (sym (named_carried f named (closed_noted s.cargo c (s.cargo.flights f) closed))) closed),
  )

  pub cargo_kept : IsLawful (carried_cargo c s.cargo)
  cargo_kept = record {
    stocked = λ w p inside. stocked_kept s.cargo c w p (law.stocked w p inside);
    covered = λ w. covered_kept s.cargo c w (law.covered w);
    within = λ w. within_kept s.cargo c w (law.within w);
    declarations = λ w. if_kept (c.waybill w) (s.cargo.declared w) (λ d. IsLawfulAmount d.pieces d.tenths) (law.declarations w);
    expectations = λ f w. expected_kept s.cargo c f w (law.expectations f w);
    moves = moves_kept s.cargo c s.cargo.book law.moves named_carried;
    trail = lines_kept s.cargo c s.cargo.trail law.trail;
    used = λ w e. used_kept (c.waybill w) (s.cargo.holders w) (IsSome ((carried_cargo c s.cargo).declared w)) e (λ on used. kept_declared s.cargo c w on (law.used w used));
    closed = closed_kept;
    departed = λ f. stays_departed s.cargo c f s.cargo.book (law.departed f);
    empty = λ f w e. emptied s.cargo c f w (law.empty f w (was_closed s.cargo c f e).1);
    room = λ f. omega (arith, ap length (on_flight s.cargo c f), shorter c.waybill (waybills_on s.cargo.book f), law.room f);
    outbound = λ f. if_kept (c.flight f) (s.cargo.flights f) (λ o. bytes_eq o.unload s.cargo.here ≡ false) (law.outbound f);
    mark = omega arith;
  }

-- the carried part of a lawful state is lawful
pub carried_lawful : (s : State) (day : ℕ) (c : Choice) → IsLawfulState s → MayCarry s day c → IsLawfulState (carried c s)
carried_lawful s day c law may = record {
  cargo = cargo_kept s day c law.cargo may;
  parts = λ p. part_kept p (s.cargo.parts p) (law.parts p) (may.manifests p);
}
  where
    part_kept : (p : Part) (o : Option (List ℕ)) → IfSome o (λ text. IsSome (s.kept_texts text)) → IfSome o (λ text. IsTrue (c.part p) → IsTrue (c.text text))
        → IfSome (if_carried (c.part p) o) (λ text. IsSome ((carried c s).kept_texts text))
    part_kept p None law may = if_kept (c.part p) None (λ text. IsSome ((carried c s).kept_texts text)) tt
    part_kept p (Some text) law may = elim (c.part p) as (λ b. c.part p ≡ b → IfSome (if_carried b (Some text)) (λ text. IsSome ((carried c s).kept_texts text))) [
      | true ↦ λ on. subst (λ b. IsSome (if_carried b (s.kept_texts text))) (sym (may on)) law
      | false ↦ λ _. tt
    ] refl

-- a carried waybill is as it was
pub same_waybill : (s : State) (c : Choice) (w : ℕ) → c.waybill w ≡ true → IsSameWaybill w s.cargo (carried c s).cargo
same_waybill s c w on = record {
  declared = ap (λ b. if_carried b (s.cargo.declared w)) on;
  holder = ap (λ b. holder_if_carried b (s.cargo.holders w)) on;
  balances = same_balances c s.cargo.book w on;
  built = λ f. same_held c s.cargo.book w on (same_place (Built f));
  moves = filter_within (λ (m : Move). m.awb == w) (λ m. c.waybill m.awb) (λ m e. ap c.waybill (eqb-true m.awb w e) ∙ on) s.cargo.book;
  trail = filter_within (λ (line : ℕ × List ℕ). line.0 == w) (λ line. c.waybill line.0) (λ line e. ap c.waybill (eqb-true line.0 w e) ∙ on) s.cargo.trail;
  expected = λ f. ap (λ b. if_carried b (s.cargo.expected f w)) on;
}
