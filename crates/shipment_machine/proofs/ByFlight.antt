-- Sums by flight: where no more goes out than in at each flight, no more goes out than in at all.
use Rattle.shipment_machine.proofs.Common.{Bool, FlightDate, List, [], ap, arith, false, if◌then◌else◌, length, refl, same_flight_date, suc, sym, true, zero, ℕ, ◌+◌, ◌-◌, ◌∙◌, ◌∷◌, ◌≡◌, ◌≤◌}
use Rattle.shipment_machine.proofs.FlightKeys.{same-refl, same-alike, same-comm}

-- amounts on flights
abbrev pub Entry : Type 0
Entry = FlightDate × ℕ

abbrev pub sum_all : List Entry → ℕ
sum_all [] = 0
sum_all (e ∷ es) = e.1 + sum_all es

abbrev pub sum_at : FlightDate → List Entry → ℕ
sum_at k [] = 0
sum_at k (e ∷ es) = (if same_flight_date k e.0 then e.1 else 0) + sum_at k es

abbrev pub without : FlightDate → List Entry → List Entry
without k [] = []
without k (e ∷ es) = if same_flight_date k e.0 then without k es else e ∷ without k es

pub split_at : (k : FlightDate) (es : List Entry) → sum_all es ≡ sum_at k es + sum_all (without k es)
split_at k [] = refl
split_at k (e ∷ es) =
    let rest = split_at k es in
    elim (same_flight_date k e.0) as (λ b. e.1 + sum_all es ≡ (if b then e.1 else 0) + sum_at k es + sum_all (if b then without k es else e ∷ without k es)) [
      | true ↦ omega (arith, rest)
      | false ↦ omega (arith, rest)
    ]

-- at another flight nothing is left out, at the same flight nothing is left
other_at : (j k : FlightDate) (es : List Entry) → same_flight_date j k ≡ false → sum_at j (without k es) ≡ sum_at j es
other_at j k [] h = refl
other_at j k (e ∷ es) h =
    let rest = other_at j k es h in
    elim (same_flight_date k e.0) as (λ b. same_flight_date k e.0 ≡ b → sum_at j (if b then without k es else e ∷ without k es) ≡ (if same_flight_date j e.0 then e.1 else 0) + sum_at j es) [
      | true ↦ λ is. let no : same_flight_date j e.0 ≡ false = same-comm j e.0 ∙ sym (same-alike k e.0 j is) ∙ same-comm k j ∙ h in
          let none : (if same_flight_date j e.0 then e.1 else 0) ≡ 0 = ap (λ (b : Bool). if b then e.1 else 0) no in
          omega (arith, rest, none)
      | false ↦ λ _. omega (arith, rest)
    ] refl

same_at : (j k : FlightDate) (es : List Entry) → same_flight_date j k ≡ true → sum_at j (without k es) ≡ 0
same_at j k [] h = refl
same_at j k (e ∷ es) h =
    let rest = same_at j k es h in
    elim (same_flight_date k e.0) as (λ b. same_flight_date k e.0 ≡ b → sum_at j (if b then without k es else e ∷ without k es) ≡ 0) [
      | true ↦ λ _. rest
      | false ↦ λ is. let no : same_flight_date j e.0 ≡ false = same-alike j k e.0 h ∙ is in
          let none : (if same_flight_date j e.0 then e.1 else 0) ≡ 0 = ap (λ (b : Bool). if b then e.1 else 0) no in
          omega (arith, rest, none)
    ] refl

abbrev Covers : List Entry → List Entry → Type 0
Covers ins outs = (k : FlightDate) → sum_at k outs ≤ sum_at k ins

covers_without : (k : FlightDate) (ins outs : List Entry) → Covers ins outs → Covers (without k ins) (without k outs)
covers_without k ins outs h j =
    elim (same_flight_date j k) as (λ b. same_flight_date j k ≡ b → sum_at j (without k outs) ≤ sum_at j (without k ins)) [
      | true ↦ λ is. omega (arith, same_at j k outs is)
      | false ↦ λ is. omega (arith, other_at j k outs is, other_at j k ins is, h j)
    ] refl

length_without : (k : FlightDate) (es : List Entry) → length (without k es) ≤ length es
length_without k [] = omega arith
length_without k (e ∷ es) =
    let rest = length_without k es in
    elim (same_flight_date k e.0) as (λ b. length (if b then without k es else e ∷ without k es) ≤ length (e ∷ es)) [
      | true ↦ omega (arith, rest)
      | false ↦ omega (arith, rest)
    ]

covered_by : (n : ℕ) (ins outs : List Entry) → length outs ≤ n → Covers ins outs → sum_all outs ≤ sum_all ins
covered_by n ins [] small h = omega arith
covered_by zero ins (e ∷ outs) small h = absurd (omega arith)
covered_by (suc n) ins (e ∷ outs) small h =
    let k : FlightDate = e.0 in
    let gone : without k (e ∷ outs) ≡ without k outs = ap (λ (b : Bool). if b then without k outs else e ∷ without k outs) (same-refl k) in
    let shorter : length (without k (e ∷ outs)) ≤ n = omega (arith, ap length gone, length_without k outs) in
    let rest : sum_all (without k (e ∷ outs)) ≤ sum_all (without k ins) = covered_by n (without k ins) (without k (e ∷ outs)) shorter (covers_without k ins (e ∷ outs) h) in
    omega (arith, rest, split_at k (e ∷ outs), split_at k ins, h k)

-- what stays at one flight stays in all
pub covered : (ins outs : List Entry) (k : FlightDate) → ((j : FlightDate) → sum_at j outs ≤ sum_at j ins) → (sum_all outs ≤ sum_all ins) × (sum_at k ins - sum_at k outs ≤ sum_all ins - sum_all outs)
covered ins outs k h =
    let rest : sum_all (without k outs) ≤ sum_all (without k ins) = covered_by (length (without k outs)) (without k ins) (without k outs) (omega arith) (covers_without k ins outs h) in
    (omega (arith, rest, split_at k outs, split_at k ins, h k), omega (arith, rest, split_at k outs, split_at k ins, h k))
