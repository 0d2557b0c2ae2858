-- Places and their codes.
use Rattle.std.proofs.Common.{◌≡◌, ℕ, ℤ, pos, negsuc, ◌==◌, Bool, true, false, cond, ◌&&◌, Option, Some, None, option_map, refl, sym, ap, ap₂, ◌∙◌, true≢false, int_eq, int_cmp}
use Rattle.row_codec.proofs.Common.{Built, CountKey, Delivered, Departed, FlightDate, Free, Hand, Missing, Place, Sums, Surplus, Tally, Transferred, count_cmp, count_here, count_in, count_row, eq_by_cmp, first_true, int_tied, is_built, pair_eq, place_code, plain_place, plus, posting, same-is, same-refl, same_place, second_true, unless_nothing}
use Rattle.row_codec.proofs.Tests.{same_bool, is_false, and_no, some_is, none_is, is_int, int_itself, int_pos, is_nat}

pub same_is : (p q : Place) → same_place p q ≡ true → p ≡ q
same_is Hand Hand e = refl
same_is Surplus Surplus e = refl
same_is Free Free e = refl
same_is (Built a) (Built b) e = ap Built (same-is a b e)
same_is Departed Departed e = refl
same_is Delivered Delivered e = refl
same_is Missing Missing e = refl
same_is Transferred Transferred e = refl
same_is _ _ e = absurd (true≢false (sym e))

pub same_itself : (p : Place) → same_place p p ≡ true
same_itself (Built a) = same-refl a
same_itself _ = refl

-- a place that isn't built is the one of its code
pub plain_again : (p : Place) → is_built p ≡ false → plain_place (pos (place_code p)) ≡ Some p
plain_again (Built f) h = absurd (true≢false h)
plain_again _ h = refl

either : {G : Type 0} (b : Bool) (x p : Place) (o : Option Place) → cond b (Some x) o ≡ Some p → (b ≡ true → x ≡ p → G) → (o ≡ Some p → G) → G
either true x p o h f g = f refl (some_is x p h)
either false x p o h f g = g h

at_code : (code : ℤ) (x p : Place) → int_eq code (pos (place_code x)) ≡ true → x ≡ p → code ≡ pos (place_code p)
at_code code x p h e = is_int code (pos (place_code x)) h ∙ ap (λ y. pos (place_code y)) e

pub plain_code : (code : ℤ) (p : Place) → plain_place code ≡ Some p → code ≡ pos (place_code p)
plain_code code p h =
    either (int_eq code (pos 0)) Hand p _ h (at_code code Hand p) (λ h1.
    either (int_eq code (pos 1)) Surplus p _ h1 (at_code code Surplus p) (λ h2.
    either (int_eq code (pos 2)) Free p _ h2 (at_code code Free p) (λ h4.
    either (int_eq code (pos 4)) Departed p _ h4 (at_code code Departed p) (λ h5.
    either (int_eq code (pos 5)) Delivered p _ h5 (at_code code Delivered p) (λ h6.
    either (int_eq code (pos 6)) Missing p _ h6 (at_code code Missing p) (λ h7.
    either (int_eq code (pos 7)) Transferred p None h7 (at_code code Transferred p) (λ no. absurd (true≢false (sym (none_is p no))))))))))

pub count_eq : (w a : ℕ) (code c : ℤ) → eq_by_cmp count_cmp (pos w, code) (pos a, c) ≡ ((a == w) && int_eq code c)
count_eq w a code c = pair_eq int_cmp int_cmp (pos w, code) (pos a, c) ∙ ap₂ ◌&&◌ (int_tied (pos w) (pos a) ∙ int_pos w a) (int_tied code c)

-- the row of a sum after an amount more
pub row_after : {V : Type 0} (row : Tally → V) (sums : Sums) (a : ℕ) (place : Place) (by : Tally) (w : ℕ) (p : Place)
    → option_map row (unless_nothing (posting a place by sums w p))
    ≡ cond ((a == w) && same_place p place) (option_map row (unless_nothing (plus (sums a place) by))) (option_map row (unless_nothing (sums w p)))
row_after row sums a place by w p = go ((a == w) && same_place p place) refl
  where
    go : (b : Bool) → ((a == w) && same_place p place) ≡ b
        → option_map row (unless_nothing (cond b (plus (sums w p) by) (sums w p))) ≡ cond b (option_map row (unless_nothing (plus (sums a place) by))) (option_map row (unless_nothing (sums w p)))
    go true e = ap₂ (λ x y. option_map row (unless_nothing (plus (sums x y) by))) (sym (is_nat a w (first_true (a == w) _ e))) (same_is p place (second_true (a == w) _ e))
    go false e = refl

module _ (sums : Sums) (a : ℕ) (place : Place) (by : Tally) (plain : is_built place ≡ false) where
  pub at_key : count_in sums (pos a, pos (place_code place)) ≡ option_map count_row (unless_nothing (sums a place))
  at_key = ap (count_here sums a) (plain_again place plain)

  same_code : (code : ℤ) (p : Place) → plain_place code ≡ Some p → int_eq code (pos (place_code place)) ≡ same_place p place
  same_code code p e = same_bool _ _
      (λ h. let at : code ≡ pos (place_code place) = is_int code (pos (place_code place)) h in
      let one : p ≡ place = some_is p place (sym e ∙ ap plain_place at ∙ plain_again place plain) in
      ap (λ x. same_place x place) one ∙ same_itself place)
      (λ h. ap (λ z. int_eq z (pos (place_code place))) (plain_code code p e ∙ ap (λ x. pos (place_code x)) (same_is p place h)) ∙ int_itself (pos (place_code place)))

  no_code : (code : ℤ) → plain_place code ≡ None → int_eq code (pos (place_code place)) ≡ false
  no_code code e = is_false _ (λ h. none_is place (sym e ∙ ap plain_place (is_int code (pos (place_code place)) h) ∙ plain_again place plain))

  pub after : (q : CountKey) → count_in (posting a place by sums) q ≡ cond (eq_by_cmp count_cmp q (pos a, pos (place_code place))) (option_map count_row (unless_nothing (plus (sums a place) by))) (count_in sums q)
  after (pos w, code) = go (plain_place code) refl
    where
      go : (o : Option Place) → plain_place code ≡ o → count_here (posting a place by sums) w o ≡ cond (eq_by_cmp count_cmp (pos w, code) (pos a, pos (place_code place))) (option_map count_row (unless_nothing (plus (sums a place) by))) (count_here sums w o)
      go None e = ap (λ b. cond b (option_map count_row (unless_nothing (plus (sums a place) by))) None) (sym (count_eq w a code (pos (place_code place)) ∙ ap (λ b. (a == w) && b) (no_code code e) ∙ and_no (a == w)))
      go (Some p) e =
          row_after count_row sums a place by w p
          ∙ ap (λ b. cond b (option_map count_row (unless_nothing (plus (sums a place) by))) (option_map count_row (unless_nothing (sums w p))))
          (sym (count_eq w a code (pos (place_code place)) ∙ ap (λ b. (a == w) && b) (same_code code p e)))
  after (negsuc n, code) = refl

pub not_built : (code : ℤ) (p : Place) → plain_place code ≡ Some p → is_built p ≡ false
not_built code (Built f) h = sym (none_is (Built f) (sym (ap plain_place (plain_code code (Built f) h)) ∙ h))
not_built code _ h = refl

pub plain_by : (p : Place) → ((f : FlightDate) → p ≡ Built f → ⊥) → is_built p ≡ false
plain_by (Built f) h = absurd (h f refl)
plain_by _ h = refl

pub apart : (f : FlightDate) (p : Place) → is_built p ≡ false → same_place p (Built f) ≡ false
apart f (Built g) h = absurd (true≢false h)
apart f _ h = refl

-- what comes to a flight leaves the counts as they are
pub counts_stay : (sums : Sums) (a : ℕ) (f : FlightDate) (by : Tally) (q : CountKey) → count_in (posting a (Built f) by sums) q ≡ count_in sums q
counts_stay sums a f by (pos w, code) = go (plain_place code) refl
  where
    go : (o : Option Place) → plain_place code ≡ o → count_here (posting a (Built f) by sums) w o ≡ count_here sums w o
    go None e = refl
    go (Some p) e = ap (λ b. option_map count_row (unless_nothing (cond b (plus (sums w p) by) (sums w p)))) (ap (λ b. (a == w) && b) (apart f p (not_built code p e)) ∙ and_no (a == w))
counts_stay sums a f by (negsuc n, code) = refl
