-- What is known of sums after an amount more.
use Rattle.row_codec.proofs.Common.{AreSumsOf, AreSumsOn, Bool, Built, Hand, IfSome, None, Place, Some, Sums, Tally, ap, ap₂, arith, cond, false, first_true, is_built, nat_cmp, nat_tests, plus, posting, refl, second_true, subst, sum_at, sum_on, sym, true, true≢false, with_sum, ℕ, ◌&&◌, ◌==◌, ◌∙◌, ◌≡◌}
use Rattle.std.specs.BTreeMap.{Updates, get, is_at}
use Rattle.shipment_machine.specs.Book.{same_place}
use Rattle.row_codec.specs.declared.known.LoadSums.{LoadSums}
use Rattle.row_codec.specs.declared.known.PlaceSums.{PlaceSums}
use Rattle.row_codec.proofs.Tests.{and_no, is_nat}
use Rattle.row_codec.proofs.Codes.{same_is}

-- one place has another sum, and the others what they had
at_with : (kept : PlaceSums) (sum : Tally) (p q : Place) → is_built q ≡ false → sum_at (with_sum kept q sum) p ≡ cond (same_place p q) (Some sum) (sum_at kept p)
at_with kept sum Hand (Built g) plain = absurd (true≢false plain)
at_with kept sum _ (Built g) plain = absurd (true≢false plain)
at_with kept sum _ _ plain = refl

-- what is kept is of a place that isn't built
plain_at : (kept : PlaceSums) (was : Tally) (q : Place) → sum_at kept q ≡ Some was → is_built q ≡ false
plain_at kept was (Built f) has = absurd (cc)
plain_at kept was _ has = refl

itself : (w : ℕ) → (w == w) ≡ true
itself w = grind (arith, nat_tests)

module _ (kept : PlaceSums) (sums : Sums) (w : ℕ) (q : Place) (by : Tally) (are : AreSumsOf kept (sums w)) where
  -- an amount that comes to a place that is kept
  pub sum_posted : (was sum : Tally) → sum_at kept q ≡ Some was → sum ≡ plus was by → AreSumsOf (with_sum kept q sum) (posting w q by sums w)
  sum_posted was sum has is p = subst (λ o. IfSome o (λ t. t ≡ posting w q by sums w p)) (sym (at_with kept sum p q (plain_at kept was q has))) (go (same_place p q) refl)
    where
      had : was ≡ sums w q
      had = subst (λ o. IfSome o (λ t. t ≡ sums w q)) has (are q)

      go : (b : Bool) → same_place p q ≡ b → IfSome (cond b (Some sum) (sum_at kept p)) (λ t. t ≡ cond ((w == w) && b) (plus (sums w p) by) (sums w p))
      go true e =
          is ∙ ap (λ r. plus r by) (had ∙ ap (sums w) (sym (same_is p q e)))
          ∙ ap (λ b. cond (b && true) (plus (sums w p) by) (sums w p)) (sym (itself w))
      go false e = subst (λ b. IfSome (sum_at kept p) (λ t. t ≡ cond b (plus (sums w p) by) (sums w p))) (sym (and_no (w == w))) (are p)

another : (a w : ℕ) → is_at (nat_cmp a) w ≡ false → (a == w) ≡ false
another a w h = grind (arith, nat_tests, h)

one : (a w : ℕ) → is_at (nat_cmp a) w ≡ true → a ≡ w
one a w h = grind (arith, h)

module _ (kept more : LoadSums) (a : ℕ) (sum : Tally) (flight : more.flight ≡ kept.flight) (updates : Updates nat_cmp kept.sums more.sums a (Some sum)) where
  -- the sum of a waybill is right, and those of the others are
  with_others : (sums : Sums) → ((w : ℕ) (p : Place) → is_at (nat_cmp a) w ≡ false → IfSome (sum_on kept w p) (λ t. t ≡ sums w p)) → sum ≡ sums a (Built kept.flight) → AreSumsOn more sums
  with_others sums others is w p = on (same_place (Built more.flight) p) refl
    where
      on : (b : Bool) → same_place (Built more.flight) p ≡ b → IfSome (cond b (get nat_cmp more.sums w) None) (λ t. t ≡ sums w p)
      on false e = tt
      on true e = subst (λ o. IfSome o (λ t. t ≡ sums w p)) (sym (updates.0 w)) (at (is_at (nat_cmp a) w) refl)
        where
          here : Built kept.flight ≡ p
          here = ap Built (sym flight) ∙ same_is (Built more.flight) p e

          at : (b : Bool) → is_at (nat_cmp a) w ≡ b → IfSome (cond b (Some sum) (get nat_cmp kept.sums w)) (λ t. t ≡ sums w p)
          at true i = is ∙ ap₂ sums (one a w i) here
          at false i = subst (λ b. IfSome (cond b (get nat_cmp kept.sums w) None) (λ t. t ≡ sums w p)) (ap (λ f. same_place (Built f) p) (sym flight) ∙ e) (others w p i)

  pub sum_more : (sums : Sums) → AreSumsOn kept sums → sum ≡ sums a (Built kept.flight) → AreSumsOn more sums
  sum_more sums are = with_others sums (λ w p i. are w p)

  -- an amount that comes to a waybill whose sum is kept
  pub more_posted : (sums : Sums) (q : Place) (by : Tally) (was : Tally) → AreSumsOn kept sums → sum_on kept a q ≡ Some was → sum ≡ plus was by → AreSumsOn more (posting a q by sums)
  more_posted sums q by was are has is = with_others (posting a q by sums)
      (λ w p i. subst (λ b. IfSome (sum_on kept w p) (λ t. t ≡ cond (b && same_place p q) (plus (sums w p) by) (sums w p))) (sym (another a w i)) (are w p))
      (go (same_place (Built kept.flight) q) refl has)
    where
      had : was ≡ sums a q
      had = subst (λ o. IfSome o (λ t. t ≡ sums a q)) has (are a q)

      go : (b : Bool) → same_place (Built kept.flight) q ≡ b → cond b (get nat_cmp kept.sums a) None ≡ Some was → sum ≡ cond ((a == a) && b) (plus (sums a (Built kept.flight)) by) (sums a (Built kept.flight))
      go true e some =
          is ∙ ap (λ r. plus r by) (had ∙ ap (sums a) (sym (same_is (Built kept.flight) q e)))
          ∙ ap (λ b. cond (b && true) (plus (sums a (Built kept.flight)) by) (sums a (Built kept.flight))) (sym (itself a))
      go false e some = absurd (cc)

-- an amount that comes to where no sum is kept
pub none_posted : (kept : LoadSums) (sums : Sums) (a : ℕ) (q : Place) (by : Tally) → AreSumsOn kept sums → sum_on kept a q ≡ None → AreSumsOn kept (posting a q by sums)
none_posted kept sums a q by are none w p = go ((a == w) && same_place p q) refl
  where
    go : (b : Bool) → ((a == w) && same_place p q) ≡ b → IfSome (sum_on kept w p) (λ t. t ≡ cond b (plus (sums w p) by) (sums w p))
    go false e = are w p
    go true e = subst (λ o. IfSome o (λ t. t ≡ plus (sums w p) by))
        (sym none ∙ ap₂ (sum_on kept) (is_nat a w (first_true (a == w) (same_place p q) e)) (sym (same_is p q (second_true (a == w) (same_place p q) e)))) tt
