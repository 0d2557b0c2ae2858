-- Laws about a store that shows the trees of a list of another.
use Rattle.std.proofs.Common.{◌≡◌, ◌≢◌, ◌⊎◌, ◌<◌, ◌≤◌, ℕ, ◌+◌, if◌then◌else◌, pos, false, Bool, IsTrue, List, [], ◌∷◌, ◌++◌, length, find, unwrap_or, option_map, nat_lt, Option, Some, None, Less, slice_index, refl, sym, ap, subst, subst₂, ◌∙◌, inl, inr, arith, eqb, ltb, ne_eqb, lt-ltb, le-ltb, ltb-true, ltb-false}
use Rattle.std.proofs.Math.Path.{fun_ext}
use Rattle.std.proofs.lemmas.Bool.{cases_eq, cases_Bool}
use Rattle.std.proofs.lemmas.Bool.Decides.{nat_tests}
use Rattle.std.proofs.lemmas.Int.{ints}
use Rattle.sqlite_trees.specs.Listing.{listed_once}
use Rattle.sqlite_trees.specs.Objects.{catalog_tree, version_tree, number_in, row_for, set_at, shape_code, IsListed}
use Rattle.sqlite_trees.specs.Tree.{Trees, no_trees, rowid, has_rowid}
use Rattle.sqlite_trees.specs.View.{View, IsClean, IsOrdered, IsShaped}
use Rattle.sqlite_trees.specs.declared.store.Shape.{Shape}
use Rattle.sqlite_trees.specs.declared.store.Shape.TheVariants.{Absent, Table}
use Rattle.sqlite_value.specs.Order.{Row, column, value_cmp}
use Rattle.sqlite_value.specs.declared.value.Value.TheVariants.{Int}
use Rattle.std.specs.List.{AllByRecursion}
use Rattle.sqlite_value.proofs.OrderLemmas.{value_cmp-Int}
use Rattle.sqlite_trees.proofs.Doubt.{no_doubt}
use Rattle.shown_trees.specs.Shown.{own_trees, own_shapes, own_reals, reals_by, renumbered, rows_from, shapes_by, shown_row, AreLaidOut, AreLow, IsShown}
use Rattle.shown_trees.specs.declared.layout.Layout.{Layout}
use Rattle.shown_trees.proofs.Rows.{found_own, found_none}

-- past the numbers of the trees that are shown
pub record IsPastAll (numbers : List ℕ) (t : ℕ) : Type 0 where
  pub other : t ≢ version_tree
  pub apart : t ≢ catalog_tree
  pub high : length numbers ≤ t

pub kind_of : (numbers : List ℕ) (t : ℕ) → (t ≡ version_tree) ⊎ ((t ≡ catalog_tree) ⊎ ((t < length numbers) ⊎ IsPastAll numbers t))
kind_of numbers t = elim (cases_eq t version_tree) [
  | inl is ↦ inl is
  | inr other ↦ elim (cases_eq t catalog_tree) [
    | inl is ↦ inr (inl is)
    | inr apart ↦ elim (cases_Bool (ltb t (length numbers))) [
      | inl low ↦ inr (inr (inl (ltb-true t (length numbers) low)))
      | inr high ↦ inr (inr (inr (record { other = other; apart = apart; high = ltb-false t (length numbers) high })))
    ]
  ]
]

-- a value for each tree that is shown, and one for the list and the version
abbrev pub own_values : {X : Type 0} → X → X → List ℕ → (ℕ → X) → ℕ → X
own_values none first numbers f = set_at (set_at (λ t. if nat_lt t (length numbers) then f (slice_index numbers t) else none) catalog_tree first) version_tree first

module _ {X : Type 0} (none first : X) (numbers : List ℕ) (f : ℕ → X) (t : ℕ) where
  pub value_at : length numbers < 65536 → t < length numbers → own_values none first numbers f t ≡ f (slice_index numbers t)
  value_at few low = rw (ne_eqb t version_tree (omega arith), ne_eqb t catalog_tree (omega arith), lt-ltb t (length numbers) low)

  pub value_past : IsPastAll numbers t → own_values none first numbers f t ≡ none
  value_past past = rw (ne_eqb t version_tree past.other, ne_eqb t catalog_tree past.apart, le-ltb t (length numbers) past.high)

module _ (numbers : List ℕ) (trees : Trees) (t : ℕ) where
  pub own_at : length numbers < 65536 → t < length numbers → own_trees numbers trees t ≡ trees (slice_index numbers t)
  own_at few low = rw (ne_eqb t version_tree (omega arith), ne_eqb t catalog_tree (omega arith), lt-ltb t (length numbers) low)

  pub own_past : IsPastAll numbers t → own_trees numbers trees t ≡ []
  own_past past = rw (ne_eqb t version_tree past.other, ne_eqb t catalog_tree past.apart, le-ltb t (length numbers) past.high)

nothing_from : (from : ℕ) (numbers : List ℕ) → rows_from from numbers [] ≡ []
nothing_from from [] = refl
nothing_from from (n ∷ numbers) = nothing_from (from + 1) numbers

pub own_nothing : (numbers : List ℕ) → own_trees numbers no_trees ≡ no_trees
own_nothing numbers = fun_ext (λ t. elim (cases_Bool (eqb t version_tree)) [
  | inl here ↦ rw here
  | inr apart ↦ elim (cases_Bool (eqb t catalog_tree)) [
    | inl here ↦ rw (apart, here) (nothing_from 0 numbers)
    | inr other ↦ elim (cases_Bool (ltb t (length numbers))) [ inl low ↦ rw (apart, other, low) | inr high ↦ rw (apart, other, high) ]
  ]
])

-- the rows are ascending by their numbers
pub id_below : (a b : ℕ) → a < b → value_cmp (Int (pos a)) (Int (pos b)) ≡ Less
id_below a b h = value_cmp-Int (pos a) (pos b) ∙ grind (arith, ints, nat_tests)

abbrev pub IsPast : ℕ → Row → Type 0
IsPast k r = value_cmp (Int (pos k)) (rowid r) ≡ Less

pub all_past : (from k : ℕ) (numbers : List ℕ) (rows : List Row) → k ≤ from → AllByRecursion (IsPast k) (rows_from from numbers rows)
all_past from k [] rows h = tt
all_past from k (n ∷ numbers) rows h = go (find (has_rowid (pos (n + 1))) rows) (all_past (from + 1) k numbers rows (omega arith))
  where
    go : (o : Option Row) → AllByRecursion (IsPast k) (rows_from (from + 1) numbers rows) → AllByRecursion (IsPast k) (shown_row from o ++ rows_from (from + 1) numbers rows)
    go None rest = rest
    go (Some row) rest = (id_below k (from + 1) (omega arith), rest)

pub rows_are_ordered : (from : ℕ) (numbers : List ℕ) (rows : List Row) → IsShaped Table (rows_from from numbers rows)
rows_are_ordered from [] rows = (tt, tt)
rows_are_ordered from (n ∷ numbers) rows = go (find (has_rowid (pos (n + 1))) rows) (rows_are_ordered (from + 1) numbers rows)
  where
    go : (o : Option Row) → IsShaped Table (rows_from (from + 1) numbers rows) → IsShaped Table (shown_row from o ++ rows_from (from + 1) numbers rows)
    go None rest = rest
    go (Some row) rest = ((all_past (from + 1) (from + 1) numbers rows (omega arith), rest.0), (refl, rest.1))

-- what a row says of its tree it says under the new number
module _ (numbers : List ℕ) (few : length numbers < 65536) (rows : List Row) {X : Type 0} (f : Row → X) (t : ℕ) where
  pub says : t < length numbers → ((row : Row) → f (renumbered t row) ≡ f row) → f (row_for rows (slice_index numbers t)) ≡ f (row_for (rows_from 0 numbers rows) t)
  says here same =
      sym (over_option (find (has_rowid (pos (slice_index numbers t + 1))) rows))
      ∙ ap (λ (o : Option Row). f (unwrap_or o [])) (sym (found_own 0 t t numbers rows (omega arith) here))
    where
      over_option : (o : Option Row) → f (unwrap_or (option_map (renumbered t) o) []) ≡ f (unwrap_or o [])
      over_option None = refl
      over_option (Some row) = same row

  pub says_nothing : length numbers ≤ t → f [] ≡ f (row_for (rows_from 0 numbers rows) t)
  says_nothing high = ap (λ (o : Option Row). f (unwrap_or o [])) (sym (found_none 0 t numbers rows (omega arith)))

module _ (numbers : List ℕ) (few : length numbers < 65536) (low : AreLow numbers) (trees : Trees) (shape : ℕ → Shape) (reals : ℕ → ℕ)
    (listed : IsListed (trees catalog_tree) shape reals) where
  listed_value : {X : Type 0} (none first : X) (of : ℕ → X) (code : X → ℕ) (column : Row → ℕ) → code none ≡ column [] → ((t : ℕ) (row : Row) → column (renumbered t row) ≡ column row)
      → ((t : ℕ) → t ≢ catalog_tree → t ≢ version_tree → code (of t) ≡ column (row_for (trees catalog_tree) t))
      → (t : ℕ) → t ≢ catalog_tree → t ≢ version_tree → code (own_values none first numbers of t) ≡ column (row_for (rows_from 0 numbers (trees catalog_tree)) t)
  listed_value none first of code column nothing same each t other apart = elim (kind_of numbers t) [
    | inl is ↦ absurd (apart is)
    | inr (inl is) ↦ absurd (other is)
    | inr (inr (inl here)) ↦
        let small = low t here in
        ap code (value_at none first numbers of t few here) ∙ each (slice_index numbers t) (λ e. absurd (omega arith)) (λ e. absurd (omega arith))
        ∙ says numbers few (trees catalog_tree) column t here (same t)
    | inr (inr (inr past)) ↦ ap code (value_past none first numbers of t past) ∙ nothing ∙ says_nothing numbers few (trees catalog_tree) column t past.high
  ]

  pub own_listed : IsListed (own_trees numbers trees catalog_tree) (own_shapes numbers shape) (own_reals numbers reals)
  own_listed = record {
    itself = (refl, refl);
    version = (refl, refl);
    shapes = listed_value Absent Table shape shape_code (λ (r : Row). number_in (column r 5)) refl (λ t row. refl) listed.shapes;
    columns = listed_value 0 0 reals (λ n. n) (λ (r : Row). number_in (column r 6)) refl (λ t row. refl) listed.columns;
  }

  pub own_ordered : IsOrdered shape trees → IsOrdered (own_shapes numbers shape) (own_trees numbers trees)
  own_ordered ordered t = elim (kind_of numbers t) [
    | inl here ↦ subst (λ n. IsShaped (own_shapes numbers shape n) (own_trees numbers trees n)) (sym here) (subst (λ s. IsShaped s (trees version_tree)) listed.version.0 (ordered version_tree))
    | inr (inl here) ↦ subst (λ n. IsShaped (own_shapes numbers shape n) (own_trees numbers trees n)) (sym here) (rows_are_ordered 0 numbers (trees catalog_tree))
    | inr (inr (inl here)) ↦ subst₂ IsShaped (sym (value_at Absent Table numbers shape t few here)) (sym (own_at numbers trees t few here)) (ordered (slice_index numbers t))
    | inr (inr (inr past)) ↦
        let none : IsShaped Absent [] = refl in
        subst₂ IsShaped (sym (value_past Absent Table numbers shape t past)) (sym (own_past numbers trees t past)) none
  ]

-- laws about what is shown, while the store isn't broken
module _ {numbers : List ℕ} {layouts before : List Layout} {makes : Bool} {v : View} (inside : IsShown numbers layouts before makes v)
    (shut : v.is_clean ≡ false → v.is_open ≡ false) (broken : v.is_open ≡ false → IsTrue v.is_broken) (sound : v.is_broken ≡ false)
    (now : IsListed (v.trees catalog_tree) v.shape v.reals) where
  clean : IsClean v
  clean = elim (cases_Bool v.is_clean) [ inl sure ↦ no_doubt v.is_clean sure | inr dirty ↦ absurd (let b = broken (shut dirty) in cc) ]

  is_open : IsTrue v.is_open
  is_open = elim (cases_Bool v.is_open) [ inl on ↦ on | inr off ↦ absurd (let b = broken off in cc) ]

  listed_as : (trees : Trees) (shape : ℕ → Shape) (reals : ℕ → ℕ) (layouts : List Layout) → IsListed (trees catalog_tree) shape reals → AreLaidOut numbers layouts shape reals
      → IsListed (own_trees numbers trees catalog_tree) (shapes_by layouts) (reals_by layouts)
  listed_as trees shape reals layouts listed laid =
      subst₂ (IsListed (own_trees numbers trees catalog_tree)) laid.shaped laid.typed (own_listed numbers inside.apart.few inside.apart.low trees shape reals listed)

  pub view_listed : IsListed (own_trees numbers v.trees catalog_tree) (shapes_by layouts) (reals_by layouts)
  view_listed = listed_as v.trees v.shape v.reals layouts now (inside.now clean)

  pub view_ordered : IsOrdered v.shape v.trees → IsOrdered (shapes_by layouts) (own_trees numbers v.trees)
  view_ordered ordered =
      subst (λ shape. IsOrdered shape (own_trees numbers v.trees)) (inside.now clean).shaped (own_ordered numbers inside.apart.few inside.apart.low v.trees v.shape v.reals now ordered)

  -- if the lists that are shown are the same, so are the shapes
  pub view_unaltered : own_trees numbers v.trees catalog_tree ≡ own_trees numbers v.committed catalog_tree → (shapes_by layouts ≡ shapes_by before) × (reals_by layouts ≡ reals_by before)
  view_unaltered same = listed_once _ _ _ _ _ view_listed
      (subst (λ rows. IsListed rows (shapes_by before) (reals_by before)) (sym same)
      (listed_as v.committed v.committed_shape v.committed_reals before (inside.listed clean is_open) (inside.kept clean)))
