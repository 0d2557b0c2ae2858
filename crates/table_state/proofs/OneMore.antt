-- How many waybills are on a flight when one more move is in the book.
use Rattle.table_state.proofs.Common.{All, Bool, Built, FlightDate, IsBoarded, List, Move, Option, Place, Rising-filter, Rising-put_rising, Rising-waybills_of, Some, WereThere, [], ap, ap₂, arith, balance, below_more, cond, false, get_or, get_or-set_other, get_or-set_same, int_lt, ints, is_in, is_in-put_rising, is_in-waybills_on, joins, length, length-set, moved_in, moved_out, nat_lt, nat_tests, neg_ℤ, pieces_of, pos, put_rising, refl, same_flight_date, same_place, same_rising, set, subst, suc, sym, true, true≢false, waybills_on, ℕ, ℤ, ◌&&◌, ◌++◌, ◌+ℤ◌, ◌+◌, ◌<◌, ◌==◌, ◌||◌, ◌∙◌, ◌∷◌, ◌≡◌, ◌≤◌}
use Rattle.shipment_machine.proofs.FlightKeys.{same-is}
use Rattle.row_codec.proofs.Tests.{and_no, is_nat}
use Rattle.row_codec.proofs.Codes.{same_is}
use Rattle.row_codec.proofs.FlightRows.{positive}
use Rattle.row_codec.proofs.Moved.{balance_then, more}
use Rattle.table_state.specs.declared.counted.Boarded.{Boarded}

-- a number that is new among ascending ones makes one more
one_longer : (q : ℕ) (xs : List ℕ) → is_in q xs ≡ false → length (put_rising q xs) ≡ suc (length xs)
one_longer q [] h = refl
one_longer q (x ∷ xs) h = here (x == q) refl h (one_longer q xs)
  where
    turned : (a b : ℕ) → (a == b) ≡ false → (b == a) ≡ false
    turned a b e = grind (arith, nat_tests)

    after : (b : Bool) → length (put_rising q xs) ≡ suc (length xs) → length (cond b (q ∷ x ∷ xs) (x ∷ put_rising q xs)) ≡ suc (suc (length xs))
    after true more = refl
    after false more = ap suc more

    here : (b : Bool) → (x == q) ≡ b → (b || is_in q xs) ≡ false → (is_in q xs ≡ false → length (put_rising q xs) ≡ suc (length xs)) → length (put_rising q (x ∷ xs)) ≡ suc (suc (length xs))
    here true e h go = absurd (true≢false h)
    here false e h go = ap (λ b. length (cond b (x ∷ xs) (cond (nat_lt q x) (q ∷ x ∷ xs) (x ∷ put_rising q xs)))) (turned x q e) ∙ after (nat_lt q x) (go h)

and_yes : (b : Bool) → (b && true) ≡ b
and_yes true = refl
and_yes false = refl

module _ (book : List Move) (m : Move) (f : FlightDate) (off : same_place (Built f) m.from ≡ false) where
  abbrev then : List Move
  then = book ++ m ∷ []

  abbrev on : ℕ → ℤ
  on w = balance pieces_of book w (same_place (Built f))

  is_on : (b : List Move) (w : ℕ) → is_in w (waybills_on b f) ≡ int_lt (pos 0) (balance pieces_of b w (same_place (Built f)))
  is_on b w = is_in-waybills_on w b f ∙ sym (positive (moved_in pieces_of b w (same_place (Built f))) (moved_out pieces_of b w (same_place (Built f))))

  -- what it comes to of each waybill
  comes_to : (to : Bool) → same_place (Built f) m.to ≡ to → (w : ℕ) → balance pieces_of then w (same_place (Built f)) ≡ on w +ℤ pos (cond ((m.awb == w) && to) m.pieces 0)
  comes_to to is w =
      balance_then pieces_of book m w (same_place (Built f))
      ∙ ap₂ (λ x y. on w +ℤ neg_ℤ (pos (cond x m.pieces 0)) +ℤ pos (cond ((m.awb == w) && y) m.pieces 0)) (ap (λ b. (m.awb == w) && b) off ∙ and_no (m.awb == w)) is
      ∙ more (on w) (cond ((m.awb == w) && to) m.pieces 0)

  same_list : ((w : ℕ) → is_in w (waybills_on then f) ≡ is_in w (waybills_on book f)) → length (waybills_on then f) ≡ length (waybills_on book f)
  same_list e = ap length (same_rising _ _ (Rising-filter _ _ (Rising-waybills_of then)) (Rising-filter _ _ (Rising-waybills_of book)) e)

  -- a move between other places
  pub passes : same_place (Built f) m.to ≡ false → length (waybills_on then f) ≡ length (waybills_on book f)
  passes past = same_list (λ w.
      is_on then w
      ∙ ap (int_lt (pos 0)) (comes_to false past w ∙ ap (λ b. on w +ℤ pos (cond b m.pieces 0)) (and_no (m.awb == w)) ∙ nothing (on w))
      ∙ sym (is_on book w))
    where
      nothing : (z : ℤ) → z +ℤ pos 0 ≡ z
      nothing z = omega (arith, ints)

  -- a move onto the flight
  module _ (onto : same_place (Built f) m.to ≡ true) (were : ℤ) (there : WereThere book m were) where
    place_is : Built f ≡ m.to
    place_is = same_is (Built f) m.to onto

    were_is : were ≡ on m.awb
    were_is = there (subst (λ (p : Place). same_place p m.from ≡ false) place_is off) ∙ ap (λ (p : Place). balance pieces_of book m.awb (same_place p)) (sym place_is)

    is_then : (w : ℕ) → is_in w (waybills_on then f) ≡ int_lt (pos 0) (on w +ℤ pos (cond (m.awb == w) m.pieces 0))
    is_then w = is_on then w ∙ ap (int_lt (pos 0)) (comes_to true onto w ∙ ap (λ b. on w +ℤ pos (cond b m.pieces 0)) (and_yes (m.awb == w)))

    pub stays_aboard : joins were m.pieces ≡ false → length (waybills_on then f) ≡ length (waybills_on book f)
    stays_aboard none = same_list (λ w. is_then w ∙ each w (m.awb == w) refl ∙ sym (is_on book w))
      where
        unchanged : (z : ℤ) (n : ℕ) → joins z n ≡ false → int_lt (pos 0) (z +ℤ pos n) ≡ int_lt (pos 0) z
        unchanged z n h = grind (arith, ints)

        nothing : (z : ℤ) → int_lt (pos 0) (z +ℤ pos 0) ≡ int_lt (pos 0) z
        nothing z = grind (arith, ints)

        each : (w : ℕ) (b : Bool) → (m.awb == w) ≡ b → int_lt (pos 0) (on w +ℤ pos (cond b m.pieces 0)) ≡ int_lt (pos 0) (on w)
        each w true e = unchanged (on w) m.pieces (ap (λ z. joins z m.pieces) (sym (were_is ∙ ap on (is_nat m.awb w e))) ∙ none)
        each w false e = nothing (on w)

    pub comes_aboard : joins were m.pieces ≡ true → length (waybills_on then f) ≡ length (waybills_on book f) + 1
    comes_aboard first =
        ap length (same_rising _ _ (Rising-filter _ _ (Rising-waybills_of then)) (Rising-put_rising m.awb (waybills_on book f) (Rising-filter _ _ (Rising-waybills_of book)))
        (λ w. is_then w ∙ each w (m.awb == w) refl ∙ ap (λ b. (m.awb == w) || b) (sym (is_on book w)) ∙ sym (is_in-put_rising w m.awb (waybills_on book f))))
        ∙ one_longer m.awb (waybills_on book f) (is_on book m.awb ∙ ap (int_lt (pos 0)) (sym were_is) ∙ before were m.pieces first)
        ∙ one_more (length (waybills_on book f))
      where
        one_more : (n : ℕ) → suc n ≡ n + 1
        one_more n = omega arith

        before : (z : ℤ) (n : ℕ) → joins z n ≡ true → int_lt (pos 0) z ≡ false
        before z n h = grind (arith, ints)

        after : (z : ℤ) (n : ℕ) → joins z n ≡ true → int_lt (pos 0) (z +ℤ pos n) ≡ true
        after z n h = grind (arith, ints)

        nothing : (z : ℤ) → int_lt (pos 0) (z +ℤ pos 0) ≡ int_lt (pos 0) z
        nothing z = grind (arith, ints)

        each : (w : ℕ) (b : Bool) → (m.awb == w) ≡ b → int_lt (pos 0) (on w +ℤ pos (cond b m.pieces 0)) ≡ (b || int_lt (pos 0) (on w))
        each w true e = after (on w) m.pieces (ap (λ z. joins z m.pieces) (sym (were_is ∙ ap on (is_nat m.awb w e))) ∙ first)
        each w false e = nothing (on w)

-- the number of one flight is that of another that compares the same
pub of_same : (boarded : Option Boarded) (b : Boarded) (f : FlightDate) → boarded ≡ Some b → same_flight_date b.flight f ≡ true → (book : List Move) → IsBoarded boarded book → b.waybills ≡ length (waybills_on book f)
of_same boarded b f is same book known = subst (λ o. IsBoarded o book) is known ∙ ap (λ (g : FlightDate). length (waybills_on book g)) (same-is b.flight f same)

-- the numbers of so many flights are those after a move, and the others are as before
pub record PostedTo (m : Move) (were : ℤ) (before now : List (Option Boarded)) (n : ℕ) : Type 0 where
  pub long : length now ≡ length before
  pub done : (book : List Move) → All (λ b. IsBoarded b book) before → WereThere book m were → (k : ℕ) → k < n → (d : Option Boarded) → IsBoarded (get_or now k d) (book ++ m ∷ [])
  pub left : (k : ℕ) (d : Option Boarded) → n ≤ k → get_or now k d ≡ get_or before k d

pub posted_more : (m : Move) (were : ℤ) (before now : List (Option Boarded)) (n : ℕ) (old after : Option Boarded) → PostedTo m were before now n → n < length now
    → ((book : List Move) → IsBoarded (get_or now n old) book → WereThere book m were → IsBoarded after (book ++ m ∷ [])) → PostedTo m were before (set now n after) (n + 1)
posted_more m were before now n old after was short next = record {
  long = length-set now n after ∙ was.long;
  done = λ book known there. below_more (λ k. (d : Option Boarded) → IsBoarded (get_or (set now n after) k d) (book ++ m ∷ [])) n
      (λ k less d. subst (λ b. IsBoarded b (book ++ m ∷ [])) (sym (get_or-set_other now n k after d (omega arith))) (was.done book known there k less d))
      (λ d. subst (λ b. IsBoarded b (book ++ m ∷ [])) (sym (get_or-set_same now n after d short))
      (next book (subst (λ b. IsBoarded b book) (sym (was.left n old (omega arith))) (known n old (subst (λ z. n < z) was.long short))) there));
  left = λ k d far. get_or-set_other now n k after d (omega arith) ∙ was.left k d (omega arith);
}
