-- What the steps of an order change in what is named.
use Rattle.state_store.proofs.Common.{Holder, IsSome, None, Option, Some, ap, arith, cases_lt, cond, inl, inr, named_by, nat_eq, nat_le, nat_lt, nat_tests, sym, ℕ, ◌&&◌, ◌<◌, ◌∙◌, ◌≡◌, ◌≤◌}
use Rattle.state_store.proofs.Named.{Entries, Begins, begins, Names, Rise, named, one_name}

module _ {X : Type 0} (k j : ℕ) (x y : X) where
  pub apart_below : j < k → cond (nat_eq k j) x y ≡ y
  apart_below lt = grind (arith, nat_tests)

  pub apart_above : k < j → cond (nat_eq k j) x y ≡ y
  apart_above lt = grind (arith, nat_tests)

pub at_itself : {X : Type 0} (k : ℕ) (x y : X) → cond (nat_eq k k) x y ≡ x
at_itself k x y = grind (arith, nat_tests)

-- an entry begins at k that names whom k had anyway
module _ (b : Option Holder) (g f : Begins) (k : ℕ) (h : Option Holder) (is : (j : ℕ) → f j ≡ cond (nat_eq k j) (Some h) (g j)) (had : Names b g k h) where
  below : (j : ℕ) → j < k → f j ≡ g j
  below j lt = is j ∙ apart_below k j (Some h) (g j) lt

  above : (j : ℕ) → k < j → f j ≡ g j
  above j lt = is j ∙ apart_above k j (Some h) (g j) lt

  here : f k ≡ Some h
  here = is k ∙ at_itself k (Some h) (g k)

  pub still_named : (q : ℕ) (o : Option Holder) → Names b g q o → Names b f q o
  still_named q o (inl x) =
      elim (cases_lt q k) [
        | inl lt ↦ inl (
          x.0,
          record {
            up_to = x.1.up_to;
            names = below x.0 (omega (arith, lt, x.1.up_to)) ∙ x.1.names;
            none_after = λ j after up_to. below j (omega (arith, lt, up_to)) ∙ x.1.none_after j after up_to;
          },
        )
        | inr le ↦
            elim (cases_lt k x.0) [
              | inl lt ↦ inl (
                x.0,
                record {
                  up_to = x.1.up_to;
                  names = above x.0 lt ∙ x.1.names;
                  none_after = λ j after up_to. above j (omega (arith, lt, after)) ∙ x.1.none_after j after up_to;
                },
              )
              | inr ge ↦
                  let it : Names b g k o = inl (x.0, record { up_to = ge; names = x.1.names; none_after = λ j after up_to. x.1.none_after j after (omega (arith, le, up_to)) }) in
                  inl (
                    k,
                    record {
                      up_to = le;
                      names = here ∙ ap Some (one_name b g k h o had it);
                      none_after = λ j after up_to. above j after ∙ x.1.none_after j (omega (arith, ge, after)) up_to;
                    },
                  )
            ]
      ]
  still_named q o (inr x) =
      elim (cases_lt q k) [
        | inl lt ↦ inr (x.0, λ j up_to. below j (omega (arith, lt, up_to)) ∙ x.1 j up_to)
        | inr le ↦
            let it : Names b g k o = inr (x.0, λ j up_to. x.1 j (omega (arith, le, up_to))) in
            inl (
              k,
              record {
                up_to = le;
                names = here ∙ ap Some (one_name b g k h o had it);
                none_after = λ j after up_to. above j after ∙ x.1 j up_to;
              },
            )
      ]

-- an entry that begins where nothing changes
pub begun : (es fs : Entries) (k : ℕ) → Rise es → Rise fs → ((j : ℕ) → begins fs j ≡ cond (nat_eq k j) (Some (named_by None es k)) (begins es j)) → (q : ℕ) → named_by None fs q ≡ named_by None es q
begun es fs k up ups is q =
    one_name None (begins fs) q (named_by None fs q) (named_by None es q) (named None fs q ups)
    (still_named None (begins es) (begins fs) k (named_by None es k) is (named None es k up) q (named_by None es q) (named None es q up))

-- a run is given
module _ (g f : Begins) (first end : ℕ) (h : Option Holder) (some : first < end) (ends : IsSome (g end))
    (is : (j : ℕ) → f j ≡ cond (nat_eq first j) (Some h) (cond (nat_lt first j && nat_lt j end) None (g j))) where
  outside_below : (j : ℕ) → j < first → f j ≡ g j
  outside_below j lt = grind (arith, nat_tests, is j)

  outside_above : (j : ℕ) → end ≤ j → f j ≡ g j
  outside_above j le = grind (arith, nat_tests, is j, some)

  inside : (j : ℕ) → first < j → j < end → f j ≡ None
  inside j lt below = grind (arith, nat_tests, is j)

  begins_here : f first ≡ Some h
  begins_here = grind (arith, nat_tests, is first)

  clash : {o : Option (Option Holder)} → IsSome o → o ≡ None → ⊥
  clash some none = cc (some, none)

  pub given_below : (q : ℕ) (o : Option Holder) → q < first → Names None g q o → Names None f q o
  given_below q o lt (inl x) = inl (
    x.0,
    record {
      up_to = x.1.up_to;
      names = outside_below x.0 (omega (arith, lt, x.1.up_to)) ∙ x.1.names;
      none_after = λ j after up_to. outside_below j (omega (arith, lt, up_to)) ∙ x.1.none_after j after up_to;
    },
  )
  given_below q o lt (inr x) = inr (x.0, λ j up_to. outside_below j (omega (arith, lt, up_to)) ∙ x.1 j up_to)

  pub given_inside : (q : ℕ) → first ≤ q → q < end → Names None f q h
  given_inside q from below = inl (
    first,
    record {
      up_to = from;
      names = begins_here;
      none_after = λ j after up_to. inside j after (omega (arith, below, up_to));
    },
  )

  pub given_above : (q : ℕ) (o : Option Holder) → end ≤ q → Names None g q o → Names None f q o
  given_above q o le (inl x) =
      elim (cases_lt x.0 end) [
        | inl lt ↦ absurd (clash ends (x.1.none_after end lt le))
        | inr ge ↦ inl (
          x.0,
          record {
            up_to = x.1.up_to;
            names = outside_above x.0 ge ∙ x.1.names;
            none_after = λ j after up_to. outside_above j (omega (arith, ge, after)) ∙ x.1.none_after j after up_to;
          },
        )
      ]
  given_above q o le (inr x) = absurd (clash ends (x.1 end le))

among : (first end q : ℕ) (x y : Option Holder) → first ≤ q → q < end → cond (nat_le first q && nat_lt q end) x y ≡ x
among first end q x y from below = grind (arith, nat_tests)

not_yet : (first end q : ℕ) (x y : Option Holder) → q < first → cond (nat_le first q && nat_lt q end) x y ≡ y
not_yet first end q x y lt = grind (arith, nat_tests)

no_more : (first end q : ℕ) (x y : Option Holder) → end ≤ q → cond (nat_le first q && nat_lt q end) x y ≡ y
no_more first end q x y le = grind (arith, nat_tests)

pub given : (es fs : Entries) (first end : ℕ) (h : Option Holder) → Rise es → Rise fs → first < end → IsSome (begins es end)
    → ((j : ℕ) → begins fs j ≡ cond (nat_eq first j) (Some h) (cond (nat_lt first j && nat_lt j end) None (begins es j)))
    → (q : ℕ) → named_by None fs q ≡ cond (nat_le first q && nat_lt q end) h (named_by None es q)
given es fs first end h up ups some ends is q =
    let o = named_by None es q in
    let now = named None fs q ups in
    let was = named None es q up in
    let same : (p : Option Holder) → Names None (begins fs) q p → named_by None fs q ≡ p = λ p it. one_name None (begins fs) q (named_by None fs q) p now it in
    elim (cases_lt q first) [
      | inl lt ↦ same o (given_below (begins es) (begins fs) first end h some ends is q o lt was) ∙ sym (not_yet first end q h o lt)
      | inr from ↦
          elim (cases_lt q end) [
            | inl below ↦ same h (given_inside (begins es) (begins fs) first end h some ends is q from below) ∙ sym (among first end q h o from below)
            | inr le ↦ same o (given_above (begins es) (begins fs) first end h some ends is q o le was) ∙ sym (no_more first end q h o le)
          ]
    ]
