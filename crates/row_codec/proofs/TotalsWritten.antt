-- What is built on a flight, by the flight's written form.
use Rattle.std.proofs.Common.{◌≡◌, ℕ, ℤ, pos, negsuc, ◌==◌, Bool, true, false, cond, ◌&&◌, List, Option, Some, None, option_map, refl, sym, ap, ap₂, ◌∙◌, true≢false, arith, int_eq, int_cmp, is_eq}
use Rattle.row_codec.proofs.Common.{BuildKey, Built, Designator, FlightDate, IsTrue, Place, Sums, Tally, build_cmp, build_here, build_in, build_row, bytes_cmp, bytes_eq, bytes_eq-true, eq_by_cmp, flight_of, flight_text, int_tied, is_built, is_designator, is_written, nat_tests, one_by_fields, pair_cmp, pair_eq, plus, posting, same_flight, same_of_one, same_place, texts_same, texts_total, tied_itself, unless_nothing, written_flight}
use Rattle.row_codec.proofs.Codes.{row_after}
use Rattle.row_codec.proofs.FlightKeys.{read_again, written_reads}
use Rattle.row_codec.proofs.MapLaws.{is_tied}
use Rattle.row_codec.proofs.Tests.{same_bool, is_false, and_no, some_is, none_is, int_pos}

-- a designator as it is written is read as itself
pub written_again : (f : Designator) → IsTrue (is_designator f) → written_flight (flight_text f) ≡ Some f
written_again f is = ap (λ b. cond b (flight_of (flight_text f)) None) (written_reads f is) ∙ read_again f is

-- and what is read as one is written so
pub written_so : (text : List ℕ) (d : Designator) → written_flight text ≡ Some d → flight_text d ≡ text
written_so text d h = go (flight_of text) h
  where
    at : (b : Bool) (e : Designator) → bytes_eq (flight_text e) text ≡ b → cond b (Some e) None ≡ Some d → flight_text d ≡ text
    at true e is h = ap flight_text (sym (some_is e d h)) ∙ bytes_eq-true (flight_text e) text is
    at false e is h = absurd (true≢false (sym (none_is d h)))

    go : (o : Option Designator) → cond (is_written text o) o None ≡ Some d → flight_text d ≡ text
    go None h = absurd (true≢false (sym (none_is d h)))
    go (Some e) h = at (bytes_eq (flight_text e) text) e refl h

pub is_text : (a b : List ℕ) → eq_by_cmp bytes_cmp a b ≡ true → a ≡ b
is_text a b h = texts_same a b (is_tied _ h)

pub text_itself : (a : List ℕ) → eq_by_cmp bytes_cmp a a ≡ true
text_itself a = ap is_eq (tied_itself texts_total a)

pub build_eq : (text t : List ℕ) (day d w a : ℤ) → eq_by_cmp build_cmp (text, (day, w)) (t, (d, a)) ≡ (eq_by_cmp bytes_cmp text t && (int_eq day d && int_eq w a))
build_eq text t day d w a = pair_eq bytes_cmp (pair_cmp int_cmp int_cmp) (text, (day, w)) (t, (d, a))
    ∙ ap (λ b. eq_by_cmp bytes_cmp text t && b) (pair_eq int_cmp int_cmp (day, w) (d, a) ∙ ap₂ ◌&&◌ (int_tied day d) (int_tied w a))

turned : (s d w : Bool) → (s && (d && w)) ≡ (w && (s && d))
turned s d w = grind arith

nat_turned : (a b : ℕ) → (a == b) ≡ (b == a)
nat_turned a b = grind (arith, nat_tests)

module _ (sums : Sums) (a : ℕ) (f : FlightDate) (by : Tally) (designator : IsTrue (is_designator f.flight)) where
  pub at_key : build_in sums (flight_text f.flight, (pos f.day, pos a)) ≡ option_map build_row (unless_nothing (sums a (Built f)))
  at_key = ap (build_here sums f.day a) (written_again f.flight designator)

  same_text : (text : List ℕ) (d : Designator) → written_flight text ≡ Some d → eq_by_cmp bytes_cmp text (flight_text f.flight) ≡ same_flight d f.flight
  same_text text d e = same_bool _ _
      (λ h. let at : text ≡ flight_text f.flight = is_text text (flight_text f.flight) h in
      let one : d ≡ f.flight = some_is d f.flight (sym e ∙ ap written_flight at ∙ written_again f.flight designator) in
      same_of_one d f.flight one)
      (λ h. ap (λ t. eq_by_cmp bytes_cmp t (flight_text f.flight)) (sym (written_so text d e) ∙ ap flight_text (one_by_fields d f.flight h)) ∙ text_itself (flight_text f.flight))

  no_text : (text : List ℕ) → written_flight text ≡ None → eq_by_cmp bytes_cmp text (flight_text f.flight) ≡ false
  no_text text e = is_false _ (λ h. none_is f.flight (sym e ∙ ap written_flight (is_text text (flight_text f.flight) h) ∙ written_again f.flight designator))

  pub after : (q : BuildKey) → build_in (posting a (Built f) by sums) q ≡ cond (eq_by_cmp build_cmp q (flight_text f.flight, (pos f.day, pos a))) (option_map build_row (unless_nothing (plus (sums a (Built f)) by))) (build_in sums q)
  after (text, (pos day, pos w)) = go (written_flight text) refl
    where
      eq : eq_by_cmp build_cmp (text, (pos day, pos w)) (flight_text f.flight, (pos f.day, pos a)) ≡ (eq_by_cmp bytes_cmp text (flight_text f.flight) && ((f.day == day) && (a == w)))
      eq = build_eq text (flight_text f.flight) (pos day) (pos f.day) (pos w) (pos a) ∙ ap (λ b. eq_by_cmp bytes_cmp text (flight_text f.flight) && b) (ap₂ ◌&&◌ (int_pos day f.day) (int_pos w a))

      go : (o : Option Designator) → written_flight text ≡ o
          → build_here (posting a (Built f) by sums) day w o ≡ cond (eq_by_cmp build_cmp (text, (pos day, pos w)) (flight_text f.flight, (pos f.day, pos a))) (option_map build_row (unless_nothing (plus (sums a (Built f)) by))) (build_here sums day w o)
      go None e = ap (λ b. cond b (option_map build_row (unless_nothing (plus (sums a (Built f)) by))) None) (sym (eq ∙ ap (λ b. b && ((f.day == day) && (a == w))) (no_text text e)))
      go (Some d) e =
          row_after build_row sums a (Built f) by w (Built (record { flight = d; day = day }))
          ∙ ap (λ b. cond b (option_map build_row (unless_nothing (plus (sums a (Built f)) by))) (option_map build_row (unless_nothing (sums w (Built (record { flight = d; day = day }))))))
          (sym (eq ∙ ap₂ (λ s t. s && (t && (a == w))) (same_text text d e) (nat_turned f.day day) ∙ turned (same_flight d f.flight) (day == f.day) (a == w)))
  after (text, (pos day, negsuc n)) = ap (λ b. cond b (option_map build_row (unless_nothing (plus (sums a (Built f)) by))) None)
      (sym (build_eq text (flight_text f.flight) (pos day) (pos f.day) (negsuc n) (pos a) ∙ ap (λ b. eq_by_cmp bytes_cmp text (flight_text f.flight) && b) (and_no _) ∙ and_no _))
  after (text, (negsuc n, w)) = ap (λ b. cond b (option_map build_row (unless_nothing (plus (sums a (Built f)) by))) None)
      (sym (build_eq text (flight_text f.flight) (negsuc n) (pos f.day) w (pos a) ∙ and_no _))

pub off : (g : FlightDate) (p : Place) → is_built p ≡ false → same_place (Built g) p ≡ false
off g (Built f) h = absurd (true≢false h)
off g _ h = refl

-- what comes to another place leaves the flights as they are
pub builds_stay : (sums : Sums) (a : ℕ) (place : Place) (by : Tally) → is_built place ≡ false → (q : BuildKey) → build_in (posting a place by sums) q ≡ build_in sums q
builds_stay sums a place by plain (text, (pos day, pos w)) = go (written_flight text)
  where
    go : (o : Option Designator) → build_here (posting a place by sums) day w o ≡ build_here sums day w o
    go None = refl
    go (Some d) = ap (λ b. option_map build_row (unless_nothing (cond b (plus (sums w (Built (record { flight = d; day = day }))) by) (sums w (Built (record { flight = d; day = day }))))))
        (ap (λ b. (a == w) && b) (off (record { flight = d; day = day }) place plain) ∙ and_no (a == w))
builds_stay sums a place by plain (text, (pos day, negsuc n)) = refl
builds_stay sums a place by plain (text, (negsuc n, w)) = refl
