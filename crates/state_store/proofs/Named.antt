-- The entry that names a number's holder, by the look-ups of a map.
use Rattle.state_store.proofs.Common.{Holder, IsSome, IsStrictlySortedBy, List, None, Option, Some, [], ap, arith, cases_lt, common_steps, cond, false, inl, inr, is_at, is_gt, is_lt, keys_of, lookup, named_by, nat_cmp, nat_eq, nat_le, nat_tests, refl, sorted_head, sorted_tail, subst, sym, ℕ, ◌<◌, ◌∙◌, ◌∷◌, ◌≡◌, ◌≤◌, ◌⊎◌}
use Rattle.std.specs.declared.cmp.Ordering.TheVariants.{Less}

abbrev pub Entries : Type 0
Entries = List (ℕ × Option Holder)

-- what begins at a key
abbrev pub Begins : Type 0
Begins = ℕ → Option (Option Holder)

abbrev pub begins : Entries → Begins
begins es k = lookup (is_at (nat_cmp k)) es

-- the last entry up to q begins at k and names o
pub record IsLast (g : Begins) (q k : ℕ) (o : Option Holder) : Type 0 where
  pub up_to : k ≤ q
  pub names : g k ≡ Some o
  pub none_after : (j : ℕ) → k < j → j ≤ q → g j ≡ None

-- o is named for q: by the last entry up to it, or nobody is, where none begins
abbrev pub Names : Option Holder → Begins → ℕ → Option Holder → Type 0
Names before g q o = ((k : ℕ) × IsLast g q k o) ⊎ ((o ≡ before) × ((j : ℕ) → j ≤ q → g j ≡ None))

-- all keys lie above a number
abbrev pub AreAbove : ℕ → Entries → Type 0
AreAbove k [] = Unit {0}
AreAbove k (e ∷ es) = (k < e.0) × AreAbove k es

abbrev pub Rise : Entries → Type 0
Rise [] = Unit {0}
Rise (e ∷ es) = AreAbove e.0 es × Rise es

pub lower : (j k : ℕ) (es : Entries) → j ≤ k → AreAbove k es → AreAbove j es
lower j k [] le h = tt
lower j k (e ∷ es) le h = (omega (arith, le, h.0), lower j k es le h.1)

less_is : (a b : ℕ) → nat_cmp a b ≡ Less → a < b
less_is a b h = grind (arith, nat_tests)

above_head : (k : ℕ) (es : Entries) → IsStrictlySortedBy nat_cmp (k ∷ keys_of es) → Rise es → AreAbove k es
above_head k [] h up = tt
above_head k (e ∷ es) h up =
    let lt = less_is k e.0 (sorted_head nat_cmp k (keys_of (e ∷ es)) h).0 in
    (lt, lower k e.0 es (omega (arith, lt)) up.0)

pub rises : (es : Entries) → IsStrictlySortedBy nat_cmp (keys_of es) → Rise es
rises [] h = tt
rises (e ∷ es) h =
    let up = rises es (sorted_tail nat_cmp e.0 (keys_of es) h) in
    (above_head e.0 es h up, up)

pub is_key : (k a : ℕ) → is_at (nat_cmp k) a ≡ nat_eq k a
is_key k a = grind (arith, common_steps)

here : (k : ℕ) (e : ℕ × Option Holder) (es : Entries) → k ≡ e.0 → begins (e ∷ es) k ≡ Some e.1
here k e es is = grind (arith, common_steps)

there : (k : ℕ) (e : ℕ × Option Holder) (es : Entries) → e.0 < k → begins (e ∷ es) k ≡ begins es k
there k e es lt = grind (arith, common_steps)

before_all : (j k : ℕ) (es : Entries) → j ≤ k → AreAbove k es → begins es j ≡ None
before_all j k [] le h = refl
before_all j k (e ∷ es) le h = grind (arith, common_steps, h.0, before_all j k es le h.1)

taken : (q a : ℕ) (x y : Option Holder) → a ≤ q → cond (nat_le a q) x y ≡ x
taken q a x y le = grind (arith, nat_tests)

left : (q a : ℕ) (x y : Option Holder) → q < a → cond (nat_le a q) x y ≡ y
left q a x y lt = grind (arith, nat_tests)

-- no entry up to the number names another
none_up_to : (b : Option Holder) (es : Entries) (q : ℕ) → ((j : ℕ) → j ≤ q → begins es j ≡ None) → Rise es → named_by b es q ≡ b
none_up_to b [] q none up = refl
none_up_to b (e ∷ es) q none up =
    elim (cases_lt q e.0) [
      | inl lt ↦ ap (λ x. named_by x es q) (left q e.0 e.1 b lt) ∙ none_up_to b es q (λ j le. before_all j e.0 es (omega (arith, le, lt)) up.0) up.1
      | inr le ↦ absurd (some_none (sym (here e.0 e es refl) ∙ none e.0 (omega (arith, le))))
    ]
  where
    some_none : {x : Option Holder} → Some x ≡ None → ⊥
    some_none h = cc h

-- what is named is the entries' word
pub named : (b : Option Holder) (es : Entries) (q : ℕ) → Rise es → Names b (begins es) q (named_by b es q)
named b [] q up = inr (refl, λ j le. refl)
named b (e ∷ es) q up =
    elim (cases_lt q e.0) [
      | inl lt ↦
          let none : (j : ℕ) → j ≤ q → begins (e ∷ es) j ≡ None = λ j le. before_all j q (e ∷ es) le (lt, lower q e.0 es (omega (arith, lt)) up.0) in
          inr (none_up_to b (e ∷ es) q none up, none)
      | inr le ↦
          let word : named_by b (e ∷ es) q ≡ named_by e.1 es q = ap (λ x. named_by x es q) (taken q e.0 e.1 b (omega (arith, le))) in
          subst (Names b (begins (e ∷ es)) q) (sym word) (further (named e.1 es q up.1) (omega (arith, le)))
    ]
  where
    none_some : {x : Option Holder} → None ≡ Some x → ⊥
    none_some h = cc h

    above : (k : ℕ) (o : Option Holder) → begins es k ≡ Some o → e.0 < k
    above k o some = elim (cases_lt e.0 k) [
      | inl lt ↦ lt
      | inr le ↦ absurd (none_some (sym (before_all k e.0 es (omega (arith, le)) up.0) ∙ some))
    ]

    further : Names e.1 (begins es) q (named_by e.1 es q) → e.0 ≤ q → Names b (begins (e ∷ es)) q (named_by e.1 es q)
    further (inl last) le = inl (
      last.0,
      record {
        up_to = last.1.up_to;
        names = there last.0 e es (above last.0 (named_by e.1 es q) last.1.names) ∙ last.1.names;
        none_after = λ j lt up_to. there j e es (omega (arith, above last.0 (named_by e.1 es q) last.1.names, lt)) ∙ last.1.none_after j lt up_to;
      },
    )
    further (inr none) le = inl (
      e.0,
      record {
        up_to = le;
        names = here e.0 e es refl ∙ ap Some (sym none.0);
        none_after = λ j lt up_to. there j e es lt ∙ none.1 j up_to;
      },
    )

clash : {x : Option Holder} {o : Option (Option Holder)} → o ≡ Some x → o ≡ None → ⊥
clash some none = cc (some, none)

-- one holder is named
pub one_name : (b : Option Holder) (g : Begins) (q : ℕ) (o p : Option Holder) → Names b g q o → Names b g q p → o ≡ p
one_name b g q o p (inl x) (inl y) =
    elim (cases_lt x.0 y.0) [
      | inl lt ↦ absurd (clash y.1.names (x.1.none_after y.0 lt y.1.up_to))
      | inr le ↦
          elim (cases_lt y.0 x.0) [
            | inl lt ↦ absurd (clash x.1.names (y.1.none_after x.0 lt x.1.up_to))
            | inr ge ↦ let same : x.0 ≡ y.0 = omega (arith, le, ge) in some_is (sym x.1.names ∙ ap g same ∙ y.1.names)
          ]
    ]
  where
    some_is : {x y : Option Holder} → Some x ≡ Some y → x ≡ y
    some_is h = cc h
one_name b g q o p (inl x) (inr y) = absurd (clash x.1.names (y.1 x.0 x.1.up_to))
one_name b g q o p (inr x) (inl y) = absurd (clash y.1.names (x.1 y.0 y.1.up_to))
one_name b g q o p (inr x) (inr y) = x.0 ∙ sym y.0

-- the entry that was read is the last one up to the number
pub is_named : (es : Entries) (q k : ℕ) (o : Option Holder) → Rise es → k ≤ q → begins es k ≡ Some o → ((j : ℕ) → k < j → j ≤ q → begins es j ≡ None) → o ≡ named_by None es q
is_named es q k o up le names after =
    one_name None (begins es) q o (named_by None es q) (inl (k, record { up_to = le; names = names; none_after = after })) (named None es q up)

pub none_named : (es : Entries) (q : ℕ) → Rise es → ((j : ℕ) → j ≤ q → begins es j ≡ None) → None ≡ named_by None es q
none_named es q up none = sym (none_up_to None es q none up)

pub le_is : (a b : ℕ) → is_gt (nat_cmp a b) ≡ false → a ≤ b
le_is a b h = grind (arith, common_steps, h)

pub le_by : (a b : ℕ) → a ≤ b → is_gt (nat_cmp a b) ≡ false
le_by a b h = grind (arith, common_steps, h)

-- what lies above the last of a part isn't in it
pub none_beyond : (es : Entries) (k j : ℕ) → k < j → (IsSome (begins es j) → is_lt (nat_cmp k j) ≡ false) → begins es j ≡ None
none_beyond es k j lt last = by_case (begins es j) last
  where
    not_both : is_lt (nat_cmp k j) ≡ false → ⊥
    not_both h = grind (arith, common_steps, h, lt)

    by_case : (o : Option (Option Holder)) → (IsSome o → is_lt (nat_cmp k j) ≡ false) → o ≡ None
    by_case None last = refl
    by_case (Some x) last = absurd (not_both (last refl))

pub less_by : (a b : ℕ) → a < b → nat_cmp a b ≡ Less
less_by a b h = grind (arith, nat_tests)

pub none_unless : {X : Type 0} (o : Option X) → (IsSome o → ⊥) → o ≡ None
none_unless None no_one = refl
none_unless (Some x) no_one = absurd (no_one refl)
