-- The amounts of a lawful book agree, and no place holds more than came in.
use Rattle.shipment_machine.proofs.Common.{AllByRecursion, Bool, Built, Cargo, FlightDate, Free, Hand, IsConserved, IsHeld, IsLawful, IsLawfulMove, List, Missing, Move, None, Place, Surplus, [], and_parts, ap, arith, brings, built, false, found, free, if◌then◌else◌, leb-true, missing, moved_in, moved_out, pieces_of, refl, sum_by-cons, sym, taken, takes, tenths_of, true, true≢false, ℕ, ◌&&◌, ◌+◌, ◌-◌, ◌==◌, ◌||◌, ◌∙◌, ◌∷◌, ◌≡◌, ◌≤◌}
use Rattle.shipment_machine.specs.Book.{same_place, in_store, is_outside, beyond_store}
use Rattle.shipment_machine.proofs.BalanceLaws.{in_at, out_at, total_in, total_out}
use Rattle.shipment_machine.proofs.ByFlight.{Entry, sum_all, sum_at, covered}
use Rattle.shipment_machine.proofs.Places.{never_surplus, is_built, no_added}

-- Nothing moves to the surplus.

pub none_in : (s : Cargo) (measure : Move → ℕ) (w : ℕ) (book : List Move) → AllByRecursion (IsLawfulMove s) book → moved_in measure book w (same_place Surplus) ≡ 0
none_in s measure w [] h = refl
none_in s measure w (m ∷ book) h = sum_by-cons (brings measure w (same_place Surplus)) m book
    ∙ ap (λ k. k + moved_in measure book w (same_place Surplus)) (no_added (m.awb == w) (same_place Surplus m.to) (measure m) (never_surplus m.from m.to h.0.pair))
    ∙ only_rest (moved_in measure book w (same_place Surplus)) (none_in s measure w book h.1)
  where
    only_rest : (n : ℕ) → n ≡ 0 → 0 + n ≡ 0
    only_rest n e = omega arith

pub none_in_surplus : (s : Cargo) (measure : Move → ℕ) (w : ℕ) → IsLawful s → moved_in measure s.book w (same_place Surplus) ≡ 0
none_in_surplus s measure w law = none_in s measure w s.book law.moves

-- What is built of a waybill, flight by flight.

abbrev with_entry : Bool → Place → ℕ → List Entry → List Entry
with_entry true (Built k) n rest = (k, n) ∷ rest
with_entry b p n rest = rest

abbrev ins : (Move → ℕ) → ℕ → List Move → List Entry
ins measure w [] = []
ins measure w (m ∷ book) = with_entry (m.awb == w) m.to (measure m) (ins measure w book)

abbrev outs : (Move → ℕ) → ℕ → List Move → List Entry
outs measure w [] = []
outs measure w (m ∷ book) = with_entry (m.awb == w) m.from (measure m) (outs measure w book)

at_entry : (k : FlightDate) (n : ℕ) (rest : List Entry) (b : Bool) (p : Place) → sum_at k (with_entry b p n rest) ≡ (if b && same_place (Built k) p then n else 0) + sum_at k rest
at_entry k n rest true (Built f) = refl
at_entry k n rest true p = omega arith
at_entry k n rest false p = omega arith

all_entry : (n : ℕ) (rest : List Entry) (b : Bool) (p : Place) → sum_all (with_entry b p n rest) ≡ (if b && is_built p then n else 0) + sum_all rest
all_entry n rest true (Built f) = refl
all_entry n rest true p = omega arith
all_entry n rest false p = omega arith

ins_at : (measure : Move → ℕ) (w : ℕ) (k : FlightDate) (book : List Move) → moved_in measure book w (same_place (Built k)) ≡ sum_at k (ins measure w book)
ins_at measure w k [] = refl
ins_at measure w k (m ∷ book) = sum_by-cons (brings measure w (same_place (Built k))) m book
    ∙ ap (λ n. (if (m.awb == w) && same_place (Built k) m.to then measure m else 0) + n) (ins_at measure w k book)
    ∙ sym (at_entry k (measure m) (ins measure w book) (m.awb == w) m.to)

outs_at : (measure : Move → ℕ) (w : ℕ) (k : FlightDate) (book : List Move) → moved_out measure book w (same_place (Built k)) ≡ sum_at k (outs measure w book)
outs_at measure w k [] = refl
outs_at measure w k (m ∷ book) = sum_by-cons (takes measure w (same_place (Built k))) m book
    ∙ ap (λ n. (if (m.awb == w) && same_place (Built k) m.from then measure m else 0) + n) (outs_at measure w k book)
    ∙ sym (at_entry k (measure m) (outs measure w book) (m.awb == w) m.from)

ins_all : (measure : Move → ℕ) (w : ℕ) (book : List Move) → moved_in measure book w is_built ≡ sum_all (ins measure w book)
ins_all measure w [] = refl
ins_all measure w (m ∷ book) = sum_by-cons (brings measure w is_built) m book
    ∙ ap (λ n. (if (m.awb == w) && is_built m.to then measure m else 0) + n) (ins_all measure w book)
    ∙ sym (all_entry (measure m) (ins measure w book) (m.awb == w) m.to)

outs_all : (measure : Move → ℕ) (w : ℕ) (book : List Move) → moved_out measure book w is_built ≡ sum_all (outs measure w book)
outs_all measure w [] = refl
outs_all measure w (m ∷ book) = sum_by-cons (takes measure w is_built) m book
    ∙ ap (λ n. (if (m.awb == w) && is_built m.from then measure m else 0) + n) (outs_all measure w book)
    ∙ sym (all_entry (measure m) (outs measure w book) (m.awb == w) m.from)

-- The store is the free cargo and all that is built.

store_split : (n : ℕ) (b : Bool) (p : Place) → (if b && in_store p then n else 0) ≡ (if b && same_place Free p then n else 0) + (if b && is_built p then n else 0)
store_split n false p = refl
store_split n true Free = omega arith
store_split n true (Built f) = omega arith
store_split n true p = refl

store_in : (measure : Move → ℕ) (w : ℕ) (book : List Move) → moved_in measure book w in_store ≡ moved_in measure book w (same_place Free) + moved_in measure book w is_built
store_in measure w [] = refl
store_in measure w (m ∷ book) = simp sum_by-cons (omega (arith, store_in measure w book, store_split (measure m) (m.awb == w) m.to))

store_out : (measure : Move → ℕ) (w : ℕ) (book : List Move) → moved_out measure book w in_store ≡ moved_out measure book w (same_place Free) + moved_out measure book w is_built
store_out measure w [] = refl
store_out measure w (m ∷ book) = simp sum_by-cons (omega (arith, store_out measure w book, store_split (measure m) (m.awb == w) m.from))

-- no more goes back to who brought it than was taken over
abbrev pub Covers : (Move → ℕ) → List Move → ℕ → Type 0
Covers measure book w = moved_in measure book w (same_place Hand) ≤ moved_out measure book w (same_place Hand)

-- no more leaves a place of the station than enters it
abbrev pub Stays : (Move → ℕ) → List Move → ℕ → Place → Type 0
Stays measure book w p = moved_out measure book w (same_place p) ≤ moved_in measure book w (same_place p)

abbrev pub AllStay : (Move → ℕ) → List Move → ℕ → Type 0
AllStay measure book w = (p : Place) → is_outside p ≡ false → Stays measure book w p

-- what is built for one flight is built
built_within : (measure : Move → ℕ) (book : List Move) (w : ℕ) (k : FlightDate) → AllStay measure book w →
    (moved_out measure book w is_built ≤ moved_in measure book w is_built)
    × (moved_in measure book w (same_place (Built k)) - moved_out measure book w (same_place (Built k)) ≤ moved_in measure book w is_built - moved_out measure book w is_built)
built_within measure book w k stay =
    let both = covered (ins measure w book) (outs measure w book) k (λ j. let h = stay (Built j) refl in omega (arith, h, ins_at measure w j book, outs_at measure w j book)) in
    let first : sum_all (outs measure w book) ≤ sum_all (ins measure w book) = both.0 in
    let second : sum_at k (ins measure w book) - sum_at k (outs measure w book) ≤ sum_all (ins measure w book) - sum_all (outs measure w book) = both.1 in
    (omega (arith, first, ins_all measure w book, outs_all measure w book), omega (arith, second, ins_all measure w book, outs_all measure w book, ins_at measure w k book, outs_at measure w k book))

-- what a measure says came in
abbrev pub came : (Move → ℕ) → List Move → ℕ → ℕ
came measure book w = (moved_out measure book w (same_place Hand) - moved_in measure book w (same_place Hand)) + (moved_out measure book w (same_place Surplus) - moved_in measure book w (same_place Surplus))

abbrev there_is : (Move → ℕ) → List Move → ℕ → (Place → Bool) → ℕ
there_is measure book w there = moved_in measure book w there - moved_out measure book w there

abbrev flight_any : FlightDate
flight_any = record { flight = record { carrier = []; number = 0; suffix = None }; day = 0 }

-- no more leaves the store than enters it
pub store_stays : (measure : Move → ℕ) (book : List Move) (w : ℕ) → AllStay measure book w → moved_out measure book w in_store ≤ moved_in measure book w in_store
store_stays measure book w stay =
    omega (arith, (built_within measure book w flight_any stay).0, stay Free refl, store_in measure w book, store_out measure w book)

-- what is at these places together
abbrev there_at : (Move → ℕ) → List Move → ℕ → List Place → ℕ
there_at measure book w [] = 0
there_at measure book w (place ∷ places) = there_is measure book w (same_place place) + there_at measure book w places

-- whether none of these places is outside
abbrev any_outside : List Place → Bool
any_outside [] = false
any_outside (place ∷ places) = is_outside place || any_outside places

both_false : (a b : Bool) → (a || b) ≡ false → (a ≡ false) × (b ≡ false)
both_false true b e = absurd (true≢false e)
both_false false b e = (refl, e)

all_stay : (measure : Move → ℕ) (book : List Move) (w : ℕ) (places : List Place) → any_outside places ≡ false → AllStay measure book w →
    (out_at measure book w places ≤ in_at measure book w places) × (there_at measure book w places ≡ in_at measure book w places - out_at measure book w places)
all_stay measure book w [] inside stay = (omega arith, refl)
all_stay measure book w (place ∷ places) inside stay =
    let parts = both_false (is_outside place) (any_outside places) inside in
    let rest = all_stay measure book w places parts.1 stay in
    let less : out_at measure book w places ≤ in_at measure book w places = rest.0 in
    let same : there_at measure book w places ≡ in_at measure book w places - out_at measure book w places = rest.1 in
    let here : moved_out measure book w (same_place place) ≤ moved_in measure book w (same_place place) = stay place parts.0 in
    (omega arith, omega arith)

equal_sums : (hi ho si so ti to i o there n : ℕ) → hi + si + ti + i ≡ n → ho + so + to + o ≡ n → hi ≤ ho → si ≡ 0 → to ≤ ti → o ≤ i → there ≡ i - o →
    (ho - hi) + (so - si) ≡ (ti - to) + there
equal_sums hi ho si so ti to i o there n a b c d e f g = omega arith

conserved : (s : Cargo) (measure : Move → ℕ) (w : ℕ) → IsLawful s → Covers measure s.book w → AllStay measure s.book w →
    came measure s.book w ≡ there_is measure s.book w in_store + there_at measure s.book w beyond_store
conserved s measure w law back stay =
    let beyond = all_stay measure s.book w beyond_store refl stay in
    equal_sums _ _ _ _ _ _ _ _ _ _ (total_in measure w s.book) (total_out measure w s.book) back (none_in_surplus s measure w law)
    (store_stays measure s.book w stay) beyond.0 beyond.1

pub stay_pieces : (s : Cargo) (w : ℕ) → IsLawful s → AllStay pieces_of s.book w
stay_pieces s w law p inside = (law.stocked w p inside).pieces

pub stay_tenths : (s : Cargo) (w : ℕ) → IsLawful s → AllStay tenths_of s.book w
stay_tenths s w law p inside = (law.stocked w p inside).tenths

pub is_conserved : (s : Cargo) (w : ℕ) → IsLawful s → IsConserved s.book w
is_conserved s w law =
    let pieces = conserved s pieces_of w law (law.covered w).pieces (stay_pieces s w law) in
    let tenths = conserved s tenths_of w law (law.covered w).tenths (stay_tenths s w law) in
    λ i. record { pieces = pieces i; tenths = tenths i }

-- No place of the store, and not the missing, holds more than came in.

free_within : (s : Cargo) (measure : Move → ℕ) (w : ℕ) → IsLawful s → Covers measure s.book w → AllStay measure s.book w → there_is measure s.book w (same_place Free) ≤ came measure s.book w
free_within s measure w law back stay = omega (arith, conserved s measure w law back stay, (built_within measure s.book w flight_any stay).0, stay Free refl, store_in measure w s.book, store_out measure w s.book)

load_within : (s : Cargo) (measure : Move → ℕ) (w : ℕ) (k : FlightDate) → IsLawful s → Covers measure s.book w → AllStay measure s.book w → there_is measure s.book w (same_place (Built k)) ≤ came measure s.book w
load_within s measure w k law back stay = omega (arith, conserved s measure w law back stay, (built_within measure s.book w k stay).0, (built_within measure s.book w k stay).1, stay Free refl, store_in measure w s.book, store_out measure w s.book)

missing_within : (s : Cargo) (measure : Move → ℕ) (w : ℕ) → IsLawful s → Covers measure s.book w → AllStay measure s.book w → there_is measure s.book w (same_place Missing) ≤ came measure s.book w
missing_within s measure w law back stay =
    let first : there_is measure s.book w (same_place Missing) ≤ there_at measure s.book w beyond_store = first_there measure s.book w Missing (rest beyond_store) in
    omega (arith, conserved s measure w law back stay, first)
  where
    rest : List Place → List Place
    rest [] = []
    rest (place ∷ places) = places

    first_there : (measure : Move → ℕ) (book : List Move) (w : ℕ) (place : Place) (places : List Place) → there_is measure book w (same_place place) ≤ there_at measure book w (place ∷ places)
    first_there measure book w place places = omega arith

few_came : (s : Cargo) (w : ℕ) → IsLawful s → came pieces_of s.book w ≤ 9999
few_came s w law = leb-true _ _ (and_parts _ _ (law.within w)).0

light_came : (s : Cargo) (w : ℕ) → IsLawful s → came tenths_of s.book w ≤ 999999
light_came s w law = leb-true _ _ (and_parts _ _ (law.within w)).1

pub held_free : (s : Cargo) (w : ℕ) → IsLawful s → IsHeld (free s.book w)
held_free s w law = record {
  pieces = omega (arith, free_within s pieces_of w law (law.covered w).pieces (stay_pieces s w law), few_came s w law);
  tenths = omega (arith, free_within s tenths_of w law (law.covered w).tenths (stay_tenths s w law), light_came s w law);
  tenth_a_piece = (law.stocked w Free refl).tenth_a_piece;
}

pub held_built : (s : Cargo) (w : ℕ) (k : FlightDate) → IsLawful s → IsHeld (built s.book w k)
held_built s w k law = record {
  pieces = omega (arith, load_within s pieces_of w k law (law.covered w).pieces (stay_pieces s w law), few_came s w law);
  tenths = omega (arith, load_within s tenths_of w k law (law.covered w).tenths (stay_tenths s w law), light_came s w law);
  tenth_a_piece = (law.stocked w (Built k) refl).tenth_a_piece;
}

pub held_missing : (s : Cargo) (w : ℕ) → IsLawful s → IsHeld (missing s.book w)
held_missing s w law = record {
  pieces = omega (arith, missing_within s pieces_of w law (law.covered w).pieces (stay_pieces s w law), few_came s w law);
  tenths = omega (arith, missing_within s tenths_of w law (law.covered w).tenths (stay_tenths s w law), light_came s w law);
  tenth_a_piece = (law.stocked w Missing refl).tenth_a_piece;
}

pub missing_came : (s : Cargo) (w : ℕ) → IsLawful s → (missing s.book w).tenths ≤ (taken s.book w).tenths + (found s.book w).tenths
missing_came s w law = missing_within s tenths_of w law (law.covered w).tenths (stay_tenths s w law)
