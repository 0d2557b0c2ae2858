-- The orders of the keys that are made of columns.
use Rattle.station_schema.proofs.Common.{Bool, Equal, Greater, IsAntisymmetric, IsTotalOrder, Less, List, Ordering, ap, ap₂, arith, bytes_cmp, eq_by_cmp, false, int_cmp, int_eq, ints, is_eq, nat_cmp-IsAntisymmetric, on_total, ordering_then, pair_cmp, refl, slice_cmp-IsAntisymmetric, sym, then_total, tied_itself, true, ℕ, ℤ, ◌&&◌, ◌∙◌, ◌≡◌}
use Rattle.std.proofs.lemmas.Cmp.{nat_list_cmp_total}

both_tied : (a b : Ordering) → ordering_then a b ≡ Equal → (a ≡ Equal) × (b ≡ Equal)
both_tied Equal b h = (refl, h)
both_tied _ b h = absurd (cc)

-- two columns, or one and the rest
module _ {X Y : Type 0} (first : X → X → Ordering) (second : Y → Y → Ordering) where
  pub pair_total : IsTotalOrder first → IsTotalOrder second → IsTotalOrder (pair_cmp first second)
  pair_total a b = then_total (on_total (λ (p : X × Y). p.0) a) (on_total (λ (p : X × Y). p.1) b)

  pub pair_same : IsAntisymmetric first → IsAntisymmetric second → IsAntisymmetric (pair_cmp first second)
  pair_same a b x y h = let two = both_tied (first x.0 y.0) (second x.1 y.1) h in ap₂ (λ u v. (u, v)) (a x.0 y.0 two.0) (b x.1 y.1 two.1)

  both_eq : (a b : Ordering) → is_eq (ordering_then a b) ≡ (is_eq a && is_eq b)
  both_eq Less b = refl
  both_eq Equal b = refl
  both_eq Greater b = refl

  pub pair_eq : (x y : X × Y) → eq_by_cmp (pair_cmp first second) x y ≡ (eq_by_cmp first x.0 y.0 && eq_by_cmp second x.1 y.1)
  pair_eq x y = both_eq (first x.0 y.0) (second x.1 y.1)

pub int_tied : (a b : ℤ) → eq_by_cmp int_cmp a b ≡ int_eq a b
int_tied a b = grind (arith, ints)

pub int_turned : (a b : ℤ) → int_eq a b ≡ int_eq b a
int_turned a b = grind (arith, ints)

-- two numbers that are the same third
pub int_both : (a b n : ℤ) → int_eq a n ≡ true → int_eq b n ≡ true → int_cmp a b ≡ Equal
int_both a b n h k = grind (arith, ints)

pub texts_total : IsTotalOrder bytes_cmp
texts_total = nat_list_cmp_total

pub texts_same : IsAntisymmetric bytes_cmp
texts_same = slice_cmp-IsAntisymmetric nat_cmp-IsAntisymmetric

pub is_tied : (o : Ordering) → is_eq o ≡ true → o ≡ Equal
is_tied Equal h = refl
is_tied _ h = absurd (cc)

-- two texts that are the same third
pub texts_both : (a b t : List ℕ) → eq_by_cmp bytes_cmp a t ≡ true → eq_by_cmp bytes_cmp b t ≡ true → bytes_cmp a b ≡ Equal
texts_both a b t h k = ap (λ x. bytes_cmp x b) (texts_same a t (is_tied _ h) ∙ sym (texts_same b t (is_tied _ k))) ∙ tied_itself texts_total b

pub first_true : (a b : Bool) → (a && b) ≡ true → a ≡ true
first_true true b h = refl
first_true false b h = h

pub second_true : (a b : Bool) → (a && b) ≡ true → b ≡ true
second_true true b h = h
second_true false b h = absurd (cc)
