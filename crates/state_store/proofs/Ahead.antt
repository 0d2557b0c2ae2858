-- The entries of a stock that are ahead, and what an entry more says.
use Rattle.state_store.proofs.Common.{AreStockRuns, Bool, Holder, Holders, IsNoneFrom, None, Option, Some, StockRun, [], ap, arith, cases_lt, cond, false, inl, inr, named_by, nat_le, nat_lt, nat_tests, refl, subst, true, with_numbers, with_run, ℕ, ◌&&◌, ◌+◌, ◌<◌, ◌∙◌, ◌∷◌, ◌≡◌, ◌≤◌}
use Rattle.state_store.proofs.Below.{below}
use Rattle.state_store.proofs.Named.{AreAbove, Entries, Names, Rise, begins, named, one_name}

-- ---- numbers of one holder, some more of them

module _ (held : Holders) (first from : ℕ) (holder : Holder) (none : IsNoneFrom first held) (le : first ≤ from) where
  pub none_further : IsNoneFrom from (with_numbers held first from holder)
  none_further q far = past (nat_le first q && nat_lt q from) (grind (arith, nat_tests))
    where
      past : (b : Bool) → b ≡ false → (cond b (Some holder) (held q)) ≡ None
      past b e = ap (λ x. cond x (Some holder) (held q)) e ∙ none q (omega (arith, le, far))

  pub some_more : (row : StockRun) → row.first ≡ from → row.holder ≡ holder → with_run (with_numbers held first from holder) row ≡ with_numbers held first (from + row.count) holder
  some_more row at has = λ i q. step q i
    where
      step : (q : ℕ) → with_run (with_numbers held first from holder) row q ≡ with_numbers held first (from + row.count) holder q
      step q = grind (arith, nat_tests, at, has, le)

pub none_yet : (held : Holders) (first : ℕ) (holder : Holder) → with_numbers held first first holder ≡ held
none_yet held first holder = λ i q. step q i
  where
    step : (q : ℕ) → with_numbers held first first holder q ≡ held q
    step q = grind (arith, nat_tests)

pub none_at_all : (held : Holders) (first end : ℕ) (holder : Holder) → end ≤ first → with_numbers held first end holder ≡ held
none_at_all held first end holder le = λ i q. step q i
  where
    step : (q : ℕ) → with_numbers held first end holder q ≡ held q
    step q = grind (arith, nat_tests, le)

-- ---- entries

pub above_none : (b : Option Holder) (es : Entries) (k q : ℕ) → AreAbove k es → q ≤ k → named_by b es q ≡ b
above_none b [] k q h le = refl
above_none b (e ∷ es) k q h le =
    ap (λ x. named_by x es q) (left (nat_le e.0 q) (grind (arith, nat_tests, h.0, le))) ∙ above_none b es k q h.1 le
  where
    left : (t : Bool) → t ≡ false → cond t e.1 b ≡ b
    left t f = ap (λ x. cond x e.1 b) f

-- from a number on, one holder has the numbers up to the first entry ahead, and the entries say the rest
pub record IsAhead (held : Holders) (from : ℕ) (named : Option Holder) (ahead : Entries) : Type 0 where
  pub says : (q : ℕ) → from ≤ q → held q ≡ named_by named ahead q
  pub rise : Rise ahead
  pub starts : (k : ℕ) (next : Option Holder) (more : Entries) → ahead ≡ (k, next) ∷ more → from ≤ k

module _ (held : Holders) (from key : ℕ) (named next : Option Holder) (ahead more : Entries) (is : ahead ≡ (key, next) ∷ more) (h : IsAhead held from named ahead) where
  rise_more : Rise ((key, next) ∷ more)
  rise_more = subst Rise is h.rise

  says_more : (q : ℕ) → from ≤ q → held q ≡ named_by named ((key, next) ∷ more) q
  says_more q le = h.says q le ∙ ap (λ (es : Entries). named_by named es q) is

  -- up to the entry
  pub up_to : (q : ℕ) → from ≤ q → q < key → held q ≡ named
  up_to q le lt =
      says_more q le ∙ ap (λ x. named_by x more q) (left (nat_le key q) (grind (arith, nat_tests, lt))) ∙ above_none named more key q rise_more.0 (omega (arith, lt))
    where
      left : (t : Bool) → t ≡ false → cond t next named ≡ named
      left t f = ap (λ x. cond x next named) f

  pub then_ahead : IsAhead held key next more
  then_ahead = record {
    says = λ q le. says_more q (omega (arith, le, h.starts key next more is)) ∙ ap (λ x. named_by x more q) (right q (nat_le key q) (grind (arith, nat_tests, le)));
    rise = rise_more.1;
    starts = λ k other others at. first_above k other others (subst (AreAbove key) at rise_more.0);
  }
    where
      right : (q : ℕ) (t : Bool) → t ≡ true → cond t next named ≡ next
      right q t f = ap (λ x. cond x next named) f

      first_above : (k : ℕ) (other : Option Holder) (others : Entries) → AreAbove key ((k, other) ∷ others) → key ≤ k
      first_above k other others a = omega (arith, a.0)

  -- the numbers up to the entry are those of one holder, or nobody's
  pub below_some : (holder : Holder) → named ≡ Some holder → below key held ≡ with_numbers (below from held) from key holder
  below_some holder some = λ i q. step q i
    where
      by_it : (q : ℕ) → from ≤ q → q < key → held q ≡ Some holder → below key held q ≡ with_numbers (below from held) from key holder q
      by_it q le lt it = grind (arith, nat_tests, le, lt, it)

      step : (q : ℕ) → below key held q ≡ with_numbers (below from held) from key holder q
      step q = elim (cases_lt q from) [
        | inl lt ↦ grind (arith, nat_tests, lt, h.starts key next more is)
        | inr le ↦ elim (cases_lt q key) [
          | inl lt ↦ by_it q le lt (up_to q le lt ∙ some)
          | inr far ↦ grind (arith, nat_tests, far, le)
        ]
      ]

  pub below_none : named ≡ None → below key held ≡ below from held
  below_none none = λ i q. step q i
    where
      by_it : (q : ℕ) → from ≤ q → q < key → held q ≡ None → below key held q ≡ below from held q
      by_it q le lt it = grind (arith, nat_tests, le, lt, it)

      step : (q : ℕ) → below key held q ≡ below from held q
      step q = elim (cases_lt q from) [
        | inl lt ↦ grind (arith, nat_tests, lt, h.starts key next more is)
        | inr le ↦ elim (cases_lt q key) [
          | inl lt ↦ by_it q le lt (up_to q le lt ∙ none)
          | inr far ↦ grind (arith, nat_tests, far, le)
        ]
      ]

pub none_from_below : (held : Holders) (from : ℕ) → IsNoneFrom from (below from held)
none_from_below held from q le = grind (arith, nat_tests, le)

pub first_ahead : (es : Entries) → Rise es → IsAhead (λ q. named_by None es q) 0 None es
first_ahead es up = record { says = λ q _. refl; rise = up; starts = λ k next more _. omega arith }

-- at the end
pub all_below : (held : Holders) (from : ℕ) (ahead : Entries) → ahead ≡ [] → IsAhead held from None ahead → below from held ≡ held
all_below held from ahead end h = λ i q. step q i
  where
    by_it : (q : ℕ) → from ≤ q → held q ≡ None → below from held q ≡ held q
    by_it q le it = grind (arith, nat_tests, le, it)

    step : (q : ℕ) → below from held q ≡ held q
    step q = elim (cases_lt q from) [
      | inl lt ↦ grind (arith, nat_tests, lt)
      | inr le ↦ by_it q le (h.says q le ∙ ap (λ (es : Entries). named_by None es q) end)
    ]

pub nobody_below : (held : Holders) → below 0 held ≡ (λ q. None)
nobody_below held = λ i q. step q i
  where
    step : (q : ℕ) → below 0 held q ≡ None
    step q = grind (arith, nat_tests)

pub no_runs : AreStockRuns (λ q. None) []
no_runs = record { maximal = tt; rising = tt; complete = λ q h. h }

-- no entry begins behind a key up to a number, so both have one holder
pub named_alike : (es : Entries) (key q : ℕ) → Rise es → key ≤ q → ((j : ℕ) → key < j → j ≤ q → begins es j ≡ None) → named_by None es q ≡ named_by None es key
named_alike es key q up le none = one_name None (begins es) q (named_by None es q) (named_by None es key) (named None es q up) (further (named None es key up))
  where
    further : Names None (begins es) key (named_by None es key) → Names None (begins es) q (named_by None es key)
    further (inl x) = inl (
      x.0,
      record {
        up_to = omega (arith, x.1.up_to, le);
        names = x.1.names;
        none_after = λ j after up_to. elim (cases_lt key j) [
          | inl lt ↦ none j lt up_to
          | inr ge ↦ x.1.none_after j after ge
        ];
      },
    )
    further (inr x) = inr (x.0, λ j up_to. elim (cases_lt key j) [ inl lt ↦ none j lt up_to | inr ge ↦ x.1 j ge ])
