-- The lowest number that fails, row after row.
use Rattle.stock_tables.proofs.Common.{Bool, Holder, Holders, IsTrue, List, None, Option, Run, Some, StandFrom, StockRun, [], ap, arith, cases_lt, covers, drop, drop_more, end_of, false, find, find_here, find_next, get_or, holders_by, inl, inr, length, not, passes, range_with_len, refl, suc, sym, true, zero, ℕ, ◌+◌, ◌-◌, ◌<◌, ◌∙◌, ◌∷◌, ◌≡◌, ◌≤◌, ◌⊎◌}
use Rattle.agent_stock.specs.declared.stock.Test.{Test}
use Rattle.stock_tables.proofs.Standing.{inside, here, passed, ahead, none_below, stand_lower}

abbrev pub fails_at : Holders → Test → ℕ → Bool
fails_at h test q = not (passes test (h q))

-- what is looked for from a number on, below another
abbrev pub lowest_from : (ℕ → Bool) → ℕ → ℕ → Option ℕ
lowest_from p from end = find p (range_with_len from (end - from))

no_more : (p : ℕ → Bool) (from end : ℕ) → end ≤ from → lowest_from p from end ≡ None
no_more p from end le = let none : end - from ≡ 0 = omega (arith, le) in ap (λ n. find p (range_with_len from n)) none

skip_by : (p : ℕ → Bool) (d a end : ℕ) → ((q : ℕ) → a ≤ q → q < a + d → q < end → p q ≡ false) → lowest_from p a end ≡ lowest_from p (a + d) end
skip_by p zero a end pass = let same : a ≡ a + 0 = omega arith in ap (λ n. lowest_from p n end) same
skip_by p (suc d) a end pass =
    elim (cases_lt a end) [
      | inl lt ↦
          let more : end - a ≡ suc (end - (a + 1)) = omega (arith, lt) in
          let same : (a + 1) + d ≡ a + suc d = omega arith in
          find_next p a (end - a) (end - (a + 1)) more (pass a (omega arith) (omega arith) lt)
          ∙ skip_by p d (a + 1) end (λ q from below within. pass q (omega (arith, from)) (omega (arith, below, same)) within)
          ∙ ap (λ n. lowest_from p n end) same
      | inr le ↦ no_more p a end le ∙ sym (no_more p (a + suc d) end (omega (arith, le)))
    ]

pub skip : (p : ℕ → Bool) (a b end : ℕ) → a ≤ b → ((q : ℕ) → a ≤ q → q < b → q < end → p q ≡ false) → lowest_from p a end ≡ lowest_from p b end
skip p a b end le pass =
    let same : a + (b - a) ≡ b = omega (arith, le) in
    skip_by p (b - a) a end (λ q from below within. pass q from (omega (arith, below, same)) within) ∙ ap (λ n. lowest_from p n end) same

pub first_fails : (p : ℕ → Bool) (from end : ℕ) → from < end → p from ≡ true → lowest_from p from end ≡ Some from
first_fails p from end lt fails = let more : end - from ≡ suc (end - (from + 1)) = omega (arith, lt) in find_here p from (end - from) (end - (from + 1)) more fails

-- numbers of one holder, or of none, where the first doesn't fail
pub same_pass : (h : Holders) (test : Test) (o : Option Holder) (a b end : ℕ) → a ≤ b → ((q : ℕ) → a ≤ q → q < b → q < end → h q ≡ o) → ((a < b) × ((a < end) × (passes test o ≡ false)) → ⊥)
    → lowest_from (fails_at h test) a end ≡ lowest_from (fails_at h test) b end
same_pass h test o a b end le same stays =
    skip (fails_at h test) a b end le (λ q from below within. ap (λ x. not (passes test x)) (same q from below within) ∙ go (passes test o) refl (omega (arith, from, below)) (omega (arith, from, within)))
  where
    go : (t : Bool) → passes test o ≡ t → a < b → a < end → not (passes test o) ≡ false
    go true e lt less = ap not e
    go false e lt less = absurd (stays (lt, (less, e)))

pub same_fails : (h : Holders) (test : Test) (o : Option Holder) (a end : ℕ) → a < end → h a ≡ o → passes test o ≡ false → lowest_from (fails_at h test) a end ≡ Some a
same_fails h test o a end lt is fails = first_fails (fails_at h test) a end lt (ap (λ x. not (passes test x)) is ∙ ap not fails)

-- the rows that are left, from a number on
pub record Left (h : Holders) (run : Run) (test : Test) (near rest : List StockRun) (next : ℕ) : Type 0 where
  pub first : run.first ≤ next
  pub lowest : lowest_from (fails_at h test) run.first (run.first + run.count) ≡ lowest_from (fails_at h test) next (run.first + run.count)
  pub same : (q : ℕ) → next ≤ q → holders_by near q ≡ holders_by rest q
  pub stand : StandFrom 0 rest

module _ (h : Holders) (run : Run) (test : Test) (near : List StockRun) (agree : (q : ℕ) → IsTrue (covers run q) → holders_by near q ≡ h q) where
  abbrev end : ℕ
  end = run.first + run.count

  module _ (rest : List StockRun) (next : ℕ) (left : Left h run test near rest next) where
    holder_at : (q : ℕ) → next ≤ q → q < run.first + run.count → h q ≡ holders_by rest q
    holder_at q from below = sym (agree q (inside run.first run.count q (let first = left.first in omega (arith, first, from)) below)) ∙ left.same q from

  -- a row further
  module _ (row : StockRun) (rest : List StockRun) (next from to : ℕ) (left : Left h run test near (row ∷ rest) next) (up : next ≤ from) (low : row.first ≤ from) (is : (from ≡ next) ⊎ (from ≡ row.first)) where
    none_at : (q : ℕ) → next ≤ q → q < from → q < run.first + run.count → h q ≡ None
    none_at q above below within =
        let lt : q < row.first = elim is [ inl e ↦ absurd (omega (arith, e, above, below)) | inr e ↦ omega (arith, e, below) ] in
        holder_at (row ∷ rest) next left q above within ∙ ahead row rest q lt ∙ none_below (end_of row) rest q left.stand.1 (omega (arith, lt))

    pub gap_fails : (next < from) × ((next < run.first + run.count) × (passes test None ≡ false)) → lowest_from (fails_at h test) run.first (run.first + run.count) ≡ Some next
    gap_fails f = left.lowest ∙ same_fails h test None next (run.first + run.count) f.1.0 (none_at next (omega arith) f.0 f.1.0) f.1.1

    module _ (stays : (next < from) × ((next < run.first + run.count) × (passes test None ≡ false)) → ⊥) (upper : from ≤ to) (high : end_of row ≤ to) (are : (to ≡ from) ⊎ (to ≡ end_of row)) where
      past_gap : lowest_from (fails_at h test) run.first (run.first + run.count) ≡ lowest_from (fails_at h test) from (run.first + run.count)
      past_gap = left.lowest ∙ same_pass h test None next from (run.first + run.count) up none_at stays

      held_at : (q : ℕ) → from ≤ q → q < to → q < run.first + run.count → h q ≡ Some row.holder
      held_at q above below within =
          let lt : q < end_of row = elim are [ inl e ↦ absurd (omega (arith, e, above, below)) | inr e ↦ omega (arith, e, below) ] in
          holder_at (row ∷ rest) next left q (omega (arith, up, above)) within ∙ here row rest q (omega (arith, low, above)) lt

      pub row_fails : (from < to) × ((from < run.first + run.count) × (passes test (Some row.holder) ≡ false)) → lowest_from (fails_at h test) run.first (run.first + run.count) ≡ Some from
      row_fails f = past_gap ∙ same_fails h test (Some row.holder) from (run.first + run.count) f.1.0 (held_at from (omega arith) f.0 f.1.0) f.1.1

      pub goes_on : ((from < to) × ((from < run.first + run.count) × (passes test (Some row.holder) ≡ false)) → ⊥) → Left h run test near rest to
      goes_on on = record {
        first = let first = left.first in omega (arith, first, up, upper);
        lowest = past_gap ∙ same_pass h test (Some row.holder) from to (run.first + run.count) upper held_at on;
        same = λ q above. left.same q (omega (arith, up, upper, above)) ∙ passed row rest q (omega (arith, high, above));
        stand = stand_lower (end_of row) 0 rest (omega arith) left.stand.1;
      }

  -- no row is left
  module _ (next : ℕ) (left : Left h run test near [] next) where
    pub last_fails : (next < run.first + run.count) × ((next < run.first + run.count) × (passes test None ≡ false)) → lowest_from (fails_at h test) run.first (run.first + run.count) ≡ Some next
    last_fails f = left.lowest ∙ same_fails h test None next (run.first + run.count) f.0 (holder_at [] next left next (omega arith) f.0) f.1.1

    pub none_fails : ((next < run.first + run.count) × ((next < run.first + run.count) × (passes test None ≡ false)) → ⊥) → lowest_from (fails_at h test) run.first (run.first + run.count) ≡ None
    none_fails on =
        elim (cases_lt next (run.first + run.count)) [
          | inl lt ↦ left.lowest ∙ same_pass h test None next (run.first + run.count) (run.first + run.count) (omega (arith, lt)) (λ q above below within. holder_at [] next left q above within) on
              ∙ no_more (fails_at h test) (run.first + run.count) (run.first + run.count) (omega arith)
          | inr le ↦ left.lowest ∙ no_more (fails_at h test) next (run.first + run.count) le
        ]

pub begin : (h : Holders) (run : Run) (test : Test) (near : List StockRun) → StandFrom 0 near → Left h run test near near run.first
begin h run test near stand = record { first = omega arith; lowest = refl; same = λ q above. refl; stand = stand }

pub whole : (h : Holders) (run : Run) (test : Test) → find (fails_at h test) (range_with_len run.first run.count) ≡ lowest_from (fails_at h test) run.first (run.first + run.count)
whole h run test = let same : run.count ≡ (run.first + run.count) - run.first = omega arith in ap (λ n. find (fails_at h test) (range_with_len run.first n)) same

-- the row at a place, and those behind it
pub at_place : (row : StockRun) (rows : List StockRun) (n : ℕ) → n < length rows → row ≡ get_or rows n row → drop n rows ≡ row ∷ drop (n + 1) rows
at_place row rows n lt is = drop_more rows n row lt ∙ ap (λ (r : StockRun). r ∷ drop (n + 1) rows) (sym is)

pub as_row : (from next key first : ℕ) → key ≡ first → (from ≡ next) ⊎ (from ≡ key) → (from ≡ next) ⊎ (from ≡ first)
as_row from next key first is (inl e) = inl e
as_row from next key first is (inr e) = inr (e ∙ is)
