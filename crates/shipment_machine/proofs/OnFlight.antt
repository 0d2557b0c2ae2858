-- Which waybills are on a flight depends on the balances alone.
use Rattle.shipment_machine.proofs.Common.{Bool, Built, FlightDate, List, Move, Place, [], ap, arith, brings, built, false, has_moves, if◌then◌else◌, is_in, moved_in, moved_out, nat_lt, pieces_of, refl, same_place, sum_by-cons, sym, true, true≢false, waybills_of, waybills_on, zero-add, ℕ, ◌&&◌, ◌+◌, ◌-◌, ◌==◌, ◌||◌, ◌∙◌, ◌∷◌, ◌≡◌}
use Rattle.shipment_machine.specs.Cargo.{IsAscending as Rising}
use Rattle.shipment_machine.proofs.Rising.{Rising-put_rising, is_in-put_rising, Rising-filter, is_in-filter, same_rising}

pub Rising-waybills_of : (book : List Move) → Rising (waybills_of book)
Rising-waybills_of [] = tt
Rising-waybills_of (m ∷ book) = Rising-put_rising m.awb (waybills_of book) (Rising-waybills_of book)

pub is_in-waybills_of : (r : ℕ) (book : List Move) → is_in r (waybills_of book) ≡ has_moves book r
is_in-waybills_of r [] = refl
is_in-waybills_of r (m ∷ book) = is_in-put_rising r m.awb (waybills_of book) ∙ ap (λ b. (m.awb == r) || b) (is_in-waybills_of r book)

nothing_brought : (b c : Bool) (n : ℕ) → b ≡ false → (if b && c then n else 0) ≡ 0
nothing_brought true c n e = absurd (true≢false e)
nothing_brought false c n e = refl

left_false : (b c : Bool) → (b || c) ≡ false → b ≡ false
left_false true c e = absurd (true≢false e)
left_false false c e = refl

right_false : (b c : Bool) → (b || c) ≡ false → c ≡ false
right_false true c e = absurd (true≢false e)
right_false false c e = e

-- nothing moved in of a waybill that has no move
pub none_in : (measure : Move → ℕ) (w : ℕ) (there : Place → Bool) (book : List Move) → has_moves book w ≡ false → moved_in measure book w there ≡ 0
none_in measure w there [] e = refl
none_in measure w there (m ∷ book) e = sum_by-cons (brings measure w there) m book
    ∙ ap (λ n. n + moved_in measure book w there) (nothing_brought (m.awb == w) (there m.to) (measure m) (left_false (m.awb == w) (has_moves book w) e))
    ∙ zero-add (moved_in measure book w there) ∙ none_in measure w there book (right_false (m.awb == w) (has_moves book w) e)

pub is_in-waybills_on : (r : ℕ) (book : List Move) (k : FlightDate) → is_in r (waybills_on book k) ≡ nat_lt 0 (built book r k).pieces
is_in-waybills_on r book k = is_in-filter (λ w. nat_lt 0 (built book w k).pieces) r (waybills_of book)
    ∙ ap (λ b. nat_lt 0 (built book r k).pieces && b) (is_in-waybills_of r book)
    ∙ elim (has_moves book r) as (λ b. has_moves book r ≡ b → (nat_lt 0 (built book r k).pieces && b) ≡ nat_lt 0 (built book r k).pieces) [
      | true ↦ λ _. and_true (nat_lt 0 (built book r k).pieces)
      | false ↦ λ e. and_false (nat_lt 0 (built book r k).pieces) ∙ sym (ap (λ n. nat_lt 0 (n - moved_out pieces_of book r (same_place (Built k)))) (none_in pieces_of r (same_place (Built k)) book e) ∙ zero_less (moved_out pieces_of book r (same_place (Built k))))
    ] refl
  where
    and_true : (b : Bool) → (b && true) ≡ b
    and_true true = refl
    and_true false = refl

    and_false : (b : Bool) → (b && false) ≡ false
    and_false true = refl
    and_false false = refl

    zero_less : (n : ℕ) → nat_lt 0 (0 - n) ≡ false
    zero_less n = let e : 0 - n ≡ 0 = omega arith in ap (nat_lt 0) e

-- where the same is built of each waybill, the same waybills are on the flight
pub same_waybills_on : (old new : List Move) (k : FlightDate) → ((w : ℕ) → (built new w k).pieces ≡ (built old w k).pieces) → waybills_on new k ≡ waybills_on old k
same_waybills_on old new k e = same_rising _ _ (Rising-filter _ _ (Rising-waybills_of new)) (Rising-filter _ _ (Rising-waybills_of old))
    (λ r. is_in-waybills_on r new k ∙ ap (nat_lt 0) (e r) ∙ sym (is_in-waybills_on r old k))
