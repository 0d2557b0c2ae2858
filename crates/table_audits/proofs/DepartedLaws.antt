-- Flights that have departed, marked move by move.
use Rattle.std.proofs.Common.{◌≡◌, ◌≢◌, ℕ, zero, suc, ℤ, pos, Bool, true, false, cond, ◌&&◌, ◌||◌, Some, unwrap_or, List, [], ◌∷◌, ◌++◌, map, length, slice_get, replicate, refl, sym, ap, ap₂, ◌∙◌, true≢false, arith, int_eq}
use Rattle.table_audits.proofs.Common.{AreDistinct, Built, Departed, FlightDate, Hand, IsPosting, IsSpot, Move, OnFlight, Place, Plain, Posting, Spot, StaysDeparted, and_no, builds_on, departs_in, departs_with, is_built, is_false, is_marked, list_any, marked, marks_of, none_is, place_code, same-is, same-refl, same_flight_date, same_place, slice_set, some_is}
use Rattle.sqlite_keyed.proofs.ListLemmas.{map_same}
use Rattle.table_audits.proofs.Lists.{or_no, or_yes, any_push, any_within, got_map}

-- ---- one move more

first_or : (a b : Bool) → (a || b) ≡ false → a ≡ false
first_or a b h = grind arith

pub stays_push : (f : FlightDate) (past : List Move) (m : Move) → StaysDeparted f past → (list_any (departs_with f) past ≡ true → builds_on f m ≡ false) → StaysDeparted f (past ++ m ∷ [])
stays_push f [] m stays none = (λ h. refl, tt)
stays_push f (a ∷ past) m stays none = (
  λ h. any_push (builds_on f) past m ∙ ap₂ (λ x y. x || y) (stays.0 h) (none (ap (λ b. b || list_any (departs_with f) past) h)),
  stays_push f past m stays.1 (λ h. none (ap (λ b. departs_with f a || b) h ∙ or_yes (departs_with f a))),
)

pub stays_pop : (f : FlightDate) (past : List Move) (m : Move) → StaysDeparted f (past ++ m ∷ []) → StaysDeparted f past
stays_pop f [] m stays = tt
stays_pop f (a ∷ past) m stays = (
  λ h. first_or (list_any (builds_on f) past) (builds_on f m) (sym (any_push (builds_on f) past m) ∙ stays.0 h),
  stays_pop f past m stays.1,
)

pub broken : (f : FlightDate) (past : List Move) (m : Move) (next : List Move) → list_any (departs_with f) past ≡ true → builds_on f m ≡ true → StaysDeparted f (past ++ m ∷ next) → ⊥
broken f [] m next some builds stays = true≢false (sym some)
broken f (a ∷ past) m next some builds stays = go (departs_with f a) refl some (λ h. broken f past m next h builds stays.1)
  where
    go : (b : Bool) → departs_with f a ≡ b → (b || list_any (departs_with f) past) ≡ true → (list_any (departs_with f) past ≡ true → ⊥) → ⊥
    go true e h more = true≢false (sym (any_within (builds_on f) past m next builds) ∙ stays.0 e)
    go false e h more = more h

-- ---- places of a move

pub plain_off : (p : Place) (f : FlightDate) → is_built p ≡ false → same_place p (Built f) ≡ false
plain_off (Built g) f h = absurd (true≢false h)
plain_off _ f h = refl

and_yes : (b : Bool) → (b && true) ≡ b
and_yes b = grind arith

departed_code : (p : Place) (code : ℤ) → code ≡ pos (place_code p) → int_eq code (pos 4) ≡ same_place p Departed
departed_code Hand code is = ap (λ c. int_eq c (pos 4)) is
departed_code _ code is = ap (λ c. int_eq c (pos 4)) is

-- ---- marks

module _ (h : FlightDate → Bool) (g : FlightDate) where
  off_list : (flights : List FlightDate) → ((j : ℕ) → slice_get flights j ≢ Some g) → map h flights ≡ map (λ f. h f || same_flight_date g f) flights
  off_list [] none = refl
  off_list (f ∷ flights) none =
      ap₂ (λ (y : Bool) ys. y ∷ ys) (sym (ap (λ b. h f || b) (is_false (same_flight_date g f) (λ e. absurd (none 0 (ap (λ x. Some x) (sym (same-is g f e)))))) ∙ or_no (h f)))
      (off_list flights (λ j is. none (suc j) is))

  pub set_mark : (flights : List FlightDate) (i : ℕ) → slice_get flights i ≡ Some g → ((j : ℕ) → slice_get flights j ≡ Some g → j ≡ i) → slice_set (map h flights) i true ≡ map (λ f. h f || same_flight_date g f) flights
  set_mark [] i is one = absurd (true≢false (sym (none_is g is)))
  set_mark (f ∷ flights) zero is one =
      ap₂ (λ (y : Bool) ys. y ∷ ys) (sym (ap (λ b. h f || b) (ap (same_flight_date g) (some_is f g is) ∙ same-refl g) ∙ or_yes (h f)))
      (off_list flights (λ j at. let bad : suc j ≡ 0 = one (suc j) at in absurd (let never : ⊥ = omega arith in never)))
  set_mark (f ∷ flights) (suc i) is one =
      ap₂ (λ (y : Bool) ys. y ∷ ys)
      (sym (ap (λ b. h f || b) (is_false (same_flight_date g f) (λ e. absurd (let bad : 0 ≡ suc i = one 0 (ap (λ x. Some x) (sym (same-is g f e))) in let never : ⊥ = omega arith in never))) ∙ or_no (h f)))
      (set_mark flights i is (λ j at. let more : suc j ≡ suc i = one (suc j) at in omega arith))

module _ (flights : List FlightDate) (distinct : AreDistinct flights) (past : List Move) (m : Move) (p : Posting) (is : IsPosting flights p m) where
  -- each flight is marked anew where the move departs with it
  marks_then : (h : FlightDate → Bool) → ((f : FlightDate) → departs_with f m ≡ h f) → marks_of flights (past ++ m ∷ []) ≡ map (λ f. departs_in past f || h f) flights
  marks_then h same = map_same (departs_in (past ++ m ∷ [])) (λ f. departs_in past f || h f) (λ f. any_push (departs_with f) past m ∙ ap (λ b. departs_in past f || b) (same f)) flights

  none_then : ((f : FlightDate) → departs_with f m ≡ false) → marks_of flights past ≡ marks_of flights (past ++ m ∷ [])
  none_then none = map_same (departs_in past) (λ f. departs_in past f || false) (λ f. sym (or_no (departs_in past f))) flights ∙ sym (marks_then (λ f. false) none)

  pub marked_then : marked (marks_of flights past) p.from p.to ≡ marks_of flights (past ++ m ∷ [])
  marked_then = go p.from p.to is.from_is is.to_is
    where
      from_plain : is_built m.from ≡ false → (f : FlightDate) → departs_with f m ≡ false
      from_plain h f = ap (λ b. b && same_place m.to Departed) (plain_off m.from f h)

      to_other : same_place m.to Departed ≡ false → (f : FlightDate) → departs_with f m ≡ false
      to_other h f = ap (λ b. same_place m.from (Built f) && b) h ∙ and_no (same_place m.from (Built f))

      at_flight : (i : ℕ) (code : ℤ) (g : FlightDate) → m.from ≡ Built g → slice_get flights i ≡ Some g → code ≡ pos (place_code m.to) → (b : Bool) → int_eq code (pos 4) ≡ b
          → cond b (slice_set (marks_of flights past) i true) (marks_of flights past) ≡ marks_of flights (past ++ m ∷ [])
      at_flight i code g from at to true e =
          set_mark (departs_in past) g flights i at (λ j here. distinct j i g here at)
          ∙ sym (marks_then (λ f. same_flight_date g f) (λ f. ap₂ (λ q b. same_place q (Built f) && b) from (sym (departed_code m.to code to) ∙ e) ∙ and_yes (same_flight_date g f)))
      at_flight i code g from at to false e = none_then (to_other (sym (departed_code m.to code to) ∙ e))

      go : (from to : Spot) → IsSpot flights from m.from → IsSpot flights to m.to → marked (marks_of flights past) from to ≡ marks_of flights (past ++ m ∷ [])
      go (Plain a) (Plain b) came went = none_then (from_plain came.0)
      go (Plain a) (OnFlight j) came went = none_then (from_plain came.0)
      go (OnFlight i) (Plain b) came went = at_flight i b came.0 came.1 came.2 went.1 (int_eq b (pos 4)) refl
      go (OnFlight i) (OnFlight j) came went = none_then (to_other (ap (λ q. same_place q Departed) went.1))

  mark_at : (i : ℕ) (g : FlightDate) → slice_get flights i ≡ Some g → is_marked (marks_of flights past) (OnFlight i) ≡ departs_in past g
  mark_at i g at = ap (λ o. unwrap_or o false) (got_map (departs_in past) flights i g at)

  pub may_build : is_marked (marks_of flights past) p.to ≡ false → (f : FlightDate) → list_any (departs_with f) past ≡ true → builds_on f m ≡ false
  may_build free f gone = go p.to is.to_is free
    where
      go : (to : Spot) → IsSpot flights to m.to → is_marked (marks_of flights past) to ≡ false → builds_on f m ≡ false
      go (Plain code) went e = plain_off m.to f went.0
      go (OnFlight i) went e = ap (λ q. same_place q (Built f)) went.1
          ∙ is_false (same_flight_date went.0 f) (λ same. sym (sym gone ∙ ap (departs_in past) (sym (same-is went.0 f same)) ∙ sym (mark_at i went.0 went.2) ∙ e))

  pub may_not_build : is_marked (marks_of flights past) p.to ≡ true → (f : FlightDate) × (list_any (departs_with f) past ≡ true) × (builds_on f m ≡ true)
  may_not_build gone = go p.to is.to_is gone
    where
      go : (to : Spot) → IsSpot flights to m.to → is_marked (marks_of flights past) to ≡ true → (f : FlightDate) × (list_any (departs_with f) past ≡ true) × (builds_on f m ≡ true)
      go (Plain code) went e = absurd (true≢false (sym e))
      go (OnFlight i) went e = (went.0, sym (mark_at i went.0 went.2) ∙ e, ap (λ q. same_place q (Built went.0)) went.1 ∙ same-refl went.0)

-- ---- no moves

pub no_marks : (flights : List FlightDate) → replicate (length flights) false ≡ marks_of flights []
no_marks [] = refl
no_marks (f ∷ flights) = ap (λ l. false ∷ l) (no_marks flights)
