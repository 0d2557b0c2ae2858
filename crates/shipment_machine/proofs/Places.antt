-- What each place is and isn't. A place that isn't built is like the others, so that few lines name one.
use Rattle.std.proofs.Common.{◌≡◌, ℕ, ◌+◌, Bool, true, false, ◌&&◌, if◌then◌else◌, IsSome, refl, sym, ◌∙◌, arith, true≢false}
use Rattle.shipment_machine.proofs.Common.{Built, Cargo, FlightDate, Hand, IsNoted, Place, Surplus, is_outside, is_pair, same_place}
use Rattle.shipment_machine.proofs.FlightKeys.{same-alike}

-- Nothing moves to the surplus, and to the hand only from the free cargo.

pub never_surplus : (from to : Place) → is_pair from to ≡ true → same_place Surplus to ≡ false
never_surplus from Surplus e = absurd (true≢false (sym e ∙ no from))
  where
    no : (p : Place) → is_pair p Surplus ≡ false
    no Hand = refl
    no (Built f) = refl
    no p = refl
never_surplus from to e = refl

pub outside_split : (b : Bool) (p : Place) (n : ℕ) → (if b && same_place Hand p then n else 0) + (if b && same_place Surplus p then n else 0) ≡ (if b && is_outside p then n else 0)
outside_split true Hand n = omega arith
outside_split true Surplus n = omega arith
outside_split true p n = refl
outside_split false p n = refl

-- Built places.

abbrev pub is_built : Place → Bool
is_built (Built k) = true
is_built _ = false

pub not_built : (p : Place) (k : FlightDate) → is_built p ≡ false → same_place (Built k) p ≡ false
not_built (Built f) k e = absurd (true≢false e)
not_built p k e = refl

pub not_built_on : (p : Place) (k : FlightDate) → is_built p ≡ false → same_place p (Built k) ≡ false
not_built_on (Built f) k e = absurd (true≢false e)
not_built_on p k e = refl

-- a place is noted wherever its flight still is
pub noted_under : (s s' : Cargo) → ((k : FlightDate) → IsSome (s.flights k) → IsSome (s'.flights k)) → (p : Place) → IsNoted s p → IsNoted s' p
noted_under s s' more (Built f) h = more f h
noted_under s s' more p h = tt

-- One place is another, where a test says so.

pub same_test : (p f : Place) → same_place p f ≡ true → (x : Place) → same_place f x ≡ same_place p x
same_test (Built j) (Built k) e (Built l) = sym (same-alike j k l e)
same_test (Built j) (Built k) e x = refl
same_test p (Built k) e x = absurd (true≢false (sym e))
same_test p f e x = cc

pub outside_too : (p f : Place) → same_place p f ≡ true → is_outside p ≡ false → is_outside f ≡ false
outside_too p Hand e inside = absurd (true≢false (sym e ∙ no p inside))
  where
    no : (p : Place) → is_outside p ≡ false → same_place p Hand ≡ false
    no Hand e = absurd (true≢false e)
    no p e = refl
outside_too p Surplus e inside = absurd (true≢false (sym e ∙ no p inside))
  where
    no : (p : Place) → is_outside p ≡ false → same_place p Surplus ≡ false
    no Hand e = absurd (true≢false e)
    no Surplus e = absurd (true≢false e)
    no p e = refl
outside_too p f e inside = refl

-- Amounts where a test holds.

abbrev pub added : Bool → Bool → ℕ → ℕ
added b c n = if b && c then n else 0

pub no_added : (b c : Bool) (n : ℕ) → c ≡ false → added b c n ≡ 0
no_added true true n e = absurd (true≢false e)
no_added true false n e = refl
no_added false c n e = refl
