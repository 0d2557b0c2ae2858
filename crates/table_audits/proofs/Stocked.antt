-- What a sum at a place says of the place.
use Rattle.table_audits.proofs.Common.{BookSums, Bool, Built, FlightDate, Hand, IsCovered, IsStocked, List, Move, None, Option, Place, Some, Tally, amount, ap, ap₂, arith, built, cond, drawn, drawn_at, drawn_by, false, int_eq, int_le, ints, is_covered, is_left, is_nothing, moved_in, moved_out, nat_le, nat_lt, nat_tests, natural, neg_ℤ, negsuc, option_map, pieces_of, pos, refl, rows_again, running, same_place, some_is, suc, sym, tenths_of, true, unless_nothing, zero, ℕ, ℤ, ◌&&◌, ◌+◌, ◌-ℤ◌, ◌-◌, ◌<◌, ◌∙◌, ◌≡◌, ◌≤◌}
use Rattle.table_audits.specs.Moves.{is_within}

-- ---- rows and what they mean

pub row_tally : {V : Type 0} (row : Tally → V) (read : V → Tally) → ((t : Tally) → read (row t) ≡ t) → (o u : Option Tally) → option_map row o ≡ option_map row u → o ≡ u
row_tally row read same o u h = sym (rows_again row read same o) ∙ ap (option_map read) h ∙ rows_again row read same u

-- ---- numbers

-- what came in is a, of weight c; what went out is b, of weight d
more_in : (a b c d : ℕ) → (int_le (pos 1) (pos a -ℤ pos b) && int_le (pos a -ℤ pos b) (pos c -ℤ pos d)) ≡ true → (b < a) × (d ≤ c) × (a - b ≤ c - d)
more_in a b c d h = (grind (arith, ints), grind (arith, ints), grind (arith, ints))

in_more : (a b c d : ℕ) → b ≤ a → d ≤ c → a - b ≤ c - d → (a - b ≡ 0 → c - d ≡ 0) → (int_eq (pos a -ℤ pos b) (pos 0) && int_eq (pos c -ℤ pos d) (pos 0)) ≡ false
    → (int_le (pos 1) (pos a -ℤ pos b) && int_le (pos a -ℤ pos b) (pos c -ℤ pos d)) ≡ true
in_more a b c d low light heavy none h = grind (arith, ints, none)

all_gone : (a b c d : ℕ) → (int_eq (pos a -ℤ pos b) (pos 0) && int_eq (pos c -ℤ pos d) (pos 0)) ≡ true → (a ≡ b) × (c ≡ d)
all_gone a b c d h = (grind (arith, ints), grind (arith, ints))

pub over_is : (z : ℤ) (a b : ℕ) → z ≡ pos a -ℤ pos b → natural (neg_ℤ z) ≡ b - a
over_is (pos zero) a b h = let x : 0 ≡ b - a = omega (arith, ints, h) in x
over_is (pos (suc n)) a b h = let x : 0 ≡ b - a = omega (arith, ints, h) in x
over_is (negsuc n) a b h = let x : suc n ≡ b - a = omega (arith, ints, h) in x

-- ---- a place

module _ (book : List Move) (w : ℕ) (p : Place) where
  abbrev came : ℕ
  came = moved_in pieces_of book w (same_place p)

  abbrev went : ℕ
  went = moved_out pieces_of book w (same_place p)

  abbrev came_weight : ℕ
  came_weight = moved_in tenths_of book w (same_place p)

  abbrev went_weight : ℕ
  went_weight = moved_out tenths_of book w (same_place p)

  pub stocked_even : is_nothing (running book w p) ≡ true → IsStocked book w p
  stocked_even h =
      let even = all_gone came went came_weight went_weight h in
      record { pieces = omega (arith, even.0); tenths = omega (arith, even.1); tenth_a_piece = omega (arith, even.0, even.1); no_weight_alone = λ e. omega (arith, even.1) }

  stocked_left : is_left (running book w p) ≡ true → IsStocked book w p
  stocked_left h =
      let three = more_in came went came_weight went_weight h in
      record { pieces = omega (arith, three.0); tenths = three.1; tenth_a_piece = three.2; no_weight_alone = λ e. omega (arith, three.0, e) }

  left_stocked : IsStocked book w p → is_nothing (running book w p) ≡ false → is_left (running book w p) ≡ true
  left_stocked is h = in_more came went came_weight went_weight is.pieces is.tenths is.tenth_a_piece is.no_weight_alone h

  -- a sum and the place
  even_where : (b : Bool) (r : Tally) → ◌≡◌ {A = Option Tally} None (cond b None (Some r)) → b ≡ true
  even_where true r h = refl
  even_where false r h = absurd (cc)

  left_where : (b : Bool) (r s : Tally) → Some s ≡ cond b None (Some r) → (b ≡ false) × (s ≡ r)
  left_where true r s h = absurd (cc)
  left_where false r s h = (refl, some_is s r h)

  pub told_even : None ≡ unless_nothing (running book w p) → is_nothing (running book w p) ≡ true
  told_even h = even_where (is_nothing (running book w p)) (running book w p) h

  pub told_left : (t : Tally) → Some t ≡ unless_nothing (running book w p) → (is_nothing (running book w p) ≡ false) × (t ≡ running book w p)
  told_left t h = left_where (is_nothing (running book w p)) (running book w p) t h

  pub told_stocked : (o : Option Tally) → o ≡ unless_nothing (running book w p) → ((t : Tally) → o ≡ Some t → is_left t ≡ true) → IsStocked book w p
  told_stocked None h lawful = stocked_even (told_even h)
  told_stocked (Some t) h lawful = stocked_left (ap is_left (sym (told_left t h).1) ∙ lawful t refl)

  pub stocked_told : (t : Tally) → Some t ≡ unless_nothing (running book w p) → IsStocked book w p → is_left t ≡ true
  stocked_told t h is = ap is_left (told_left t h).1 ∙ left_stocked is (told_left t h).0

  -- what came from a place outside
  pub told_drawn : (o : Option Tally) → o ≡ unless_nothing (running book w p) → drawn_by o ≡ drawn book w (same_place p)
  told_drawn None h =
      let even = all_gone came went came_weight went_weight (told_even h) in
      let pieces : 0 ≡ went - came = omega (arith, even.0) in
      let tenths : 0 ≡ went_weight - came_weight = omega (arith, even.1) in
      ap₂ amount pieces tenths
  told_drawn (Some t) h =
      let same = (told_left t h).1 in
      ap₂ amount (over_is t.pieces came went (ap (λ (r : Tally). r.pieces) same)) (over_is t.tenths came_weight went_weight (ap (λ (r : Tally). r.tenths) same))

-- ---- what went back to who brought it

no_more : (a b c d : ℕ) → (int_le (pos a -ℤ pos b) (pos 0) && int_le (pos c -ℤ pos d) (pos 0)) ≡ true → (a ≤ b) × (c ≤ d)
no_more a b c d h = (grind (arith, ints), grind (arith, ints))

none_more : (a b c d : ℕ) → a ≤ b → c ≤ d → (int_le (pos a -ℤ pos b) (pos 0) && int_le (pos c -ℤ pos d) (pos 0)) ≡ true
none_more a b c d h k = grind (arith, ints)

module _ (book : List Move) (w : ℕ) where
  pub told_covered : (o : Option Tally) → o ≡ unless_nothing (running book w Hand) → ((t : Tally) → o ≡ Some t → is_covered t ≡ true) → IsCovered book w
  told_covered None h lawful =
      let even = all_gone (came book w Hand) (went book w Hand) (came_weight book w Hand) (went_weight book w Hand) (told_even book w Hand h) in
      record { pieces = omega (arith, even.0); tenths = omega (arith, even.1) }
  told_covered (Some t) h lawful =
      let two = no_more (came book w Hand) (went book w Hand) (came_weight book w Hand) (went_weight book w Hand) (ap is_covered (sym (told_left book w Hand t h).1) ∙ lawful t refl) in
      record { pieces = two.0; tenths = two.1 }

  pub covered_told : (t : Tally) → Some t ≡ unless_nothing (running book w Hand) → IsCovered book w → is_covered t ≡ true
  covered_told t h is = ap is_covered (told_left book w Hand t h).1 ∙ none_more (came book w Hand) (went book w Hand) (came_weight book w Hand) (went_weight book w Hand) is.pieces is.tenths

-- ---- both places outside

module _ (sums : BookSums) (z awb : ℤ) (same : z ≡ awb) (a b c d : ℕ) (hand : a ≡ (drawn_at sums z (pos 0)).pieces) (surplus : b ≡ (drawn_at sums z (pos 1)).pieces)
    (hand_weight : c ≡ (drawn_at sums z (pos 0)).tenths) (surplus_weight : d ≡ (drawn_at sums z (pos 1)).tenths) where
  both_are : (nat_le (a + b) 9999 && nat_le (c + d) 999_999) ≡ is_within sums awb
  both_are = (λ i. nat_le (hand i + surplus i) 9999 && nat_le (hand_weight i + surplus_weight i) 999_999) ∙ ap (is_within sums) same

  pub within_then : (r : Bool) → true ≡ nat_le (a + b) 9999 → r ≡ nat_le (c + d) 999_999 → r ≡ is_within sums awb
  within_then r pieces tenths = tenths ∙ ap (λ x. x && nat_le (c + d) 999_999) pieces ∙ both_are

  pub within_else : (r : Bool) → r ≡ false → r ≡ nat_le (a + b) 9999 → r ≡ is_within sums awb
  within_else r not pieces = not ∙ ap (λ x. x && nat_le (c + d) 999_999) (sym not ∙ pieces) ∙ both_are

-- ---- on a flight

module _ (book : List Move) (w : ℕ) (f : FlightDate) where
  pub built_none : None ≡ unless_nothing (running book w (Built f)) → (built book w f).pieces ≡ 0
  built_none h =
      let even = all_gone (came book w (Built f)) (went book w (Built f)) (came_weight book w (Built f)) (went_weight book w (Built f)) (told_even book w (Built f) h) in
      omega (arith, even.0)

  pub built_some : (t : Tally) → Some t ≡ unless_nothing (running book w (Built f)) → is_left t ≡ true → nat_lt 0 (built book w f).pieces ≡ true
  built_some t h left =
      let three = more_in (came book w (Built f)) (went book w (Built f)) (came_weight book w (Built f)) (went_weight book w (Built f)) (ap is_left (sym (told_left book w (Built f) t h).1) ∙ left) in
      positive (came book w (Built f)) (went book w (Built f)) three.0
    where
      positive : (a b : ℕ) → b < a → nat_lt 0 (a - b) ≡ true
      positive a b h = grind (arith, nat_tests)
