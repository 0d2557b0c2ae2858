-- Rows that are compared with the sums one by one.
use Rattle.table_audits.proofs.Common.{AllByRecursion, AreCounts, AreSums, BookSums, Bool, Count, CountKey, CountPlace, FlightDate, IsTrue, Less, List, Move, Some, T, Tables, Tally, [], ap, below_all, cond, count_cmp, count_entry, count_in, count_place_cmp, count_row, counts_total, entries, get-entries, int_cmp, int_cmp-IsAntisymmetric, is_at, is_eq, is_lt, is_sorted, keys_of, lookup, map, option_map, pair_same, refl, running, subst, sym, ◌↔◌, ◌∙◌, ◌∷◌, ◌≡◌}
use Rattle.std.specs.List.Sorted.{IsStrictlySortedBy}
use Rattle.std.specs.FinMap.{find}
use Rattle.table_audits.proofs.Posted.{mapped}
use Rattle.table_audits.proofs.Sorted.{both, entries_are}

find_entry : (es : List (CountPlace × Tally)) (q : CountKey) → find count_cmp q (map count_entry es) ≡ option_map count_row (lookup (is_at (count_place_cmp (record { awb = q.0; place = q.1 }))) es)
find_entry [] q = refl
find_entry (e ∷ es) q =
    ap (cond (is_eq (count_cmp q (count_entry e).0)) (Some (count_row e.1))) (find_entry es q)
    ∙ sym (mapped count_row (is_eq (count_cmp q (count_entry e).0)) (Some e.1) (lookup (is_at (count_place_cmp (record { awb = q.0; place = q.1 }))) es))

below : (k : CountPlace) (es : List (CountPlace × Tally)) → AllByRecursion (λ q. count_place_cmp k q ≡ Less) (keys_of es) → T (below_all count_cmp (k.awb, k.place) (map count_entry es))
below k [] all = tt
below k (e ∷ es) all = both (is_lt (count_cmp (k.awb, k.place) (count_entry e).0)) _ (subst (λ o. T (is_lt o)) (sym all.0) tt) (below k es all.1)

rises : (es : List (CountPlace × Tally)) → IsStrictlySortedBy count_place_cmp (keys_of es) → T (is_sorted count_cmp (map count_entry es))
unfolding IsStrictlySortedBy
rises [] up = tt
rises (e ∷ es) up = both (below_all count_cmp (e.0.awb, e.0.place) (map count_entry es)) _ (below e.0 es up.0) (rises es up.1)

module _ (sums : BookSums) (t : Tables) (flights : List FlightDate) (book : List Move) (are : AreSums flights sums (running book)) where
  told : (q : CountKey) → find count_cmp q (map count_entry sums.counts.entries) ≡ count_in (running book) q
  told q = find_entry sums.counts.entries q ∙ are.counts q

  pub same_rows : entries t.counts ≡ map count_entry sums.counts.entries → AreCounts t.counts book
  same_rows h q = get-entries t.counts q ∙ ap (find count_cmp q) h ∙ told q

  pub rows_same : IsStrictlySortedBy count_place_cmp (keys_of sums.counts.entries) → AreCounts t.counts book → entries t.counts ≡ map count_entry sums.counts.entries
  rows_same up h =
      entries_are count_cmp counts_total (pair_same int_cmp int_cmp int_cmp-IsAntisymmetric int_cmp-IsAntisymmetric) t.counts (map count_entry sums.counts.entries)
      (rises sums.counts.entries up) (λ q. h q ∙ sym (told q))

pub counts_compared : (sums : BookSums) (t : Tables) (flights : List FlightDate) (book : List Move) (rows : List (CountKey × Count)) (b : Bool)
    → (IsTrue b ↔ (rows ≡ map count_entry sums.counts.entries)) → IsStrictlySortedBy count_place_cmp (keys_of sums.counts.entries)
    → AreSums flights sums (running book) → entries t.counts ≡ rows → IsTrue b ↔ AreCounts t.counts book
counts_compared sums t flights book rows b says up are is = (
  λ h. same_rows sums t flights book are (is ∙ says.0 h),
  λ h. says.1 (sym is ∙ rows_same sums t flights book are up h),
)
