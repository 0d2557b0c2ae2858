-- What a call does to the trees that are shown is what it does inside.
use Rattle.station_files.proofs.Common.{Absent, AllByRecursion, AreApart, AreLaidOut, Bool, Commits, Creates, Equal, Err, GoBack, GoesBack, Greater, IfErr, Int, IsClean, IsFailure, IsListed, IsNumberOf, IsPast, IsRolledBack, IsShown, IsTrue, KeepsCommitted, Layout, Less, List, Marks, None, Object, Ok, OnOk, Option, Ordering, Releases, Result, Row, SetsTree, Shape, Snapshot, Some, StoreError, Table, Text, Trees, View, [], add-one, all_past, ap, append-nil, append_assoc, ap₂, arith, cases_Bool, cases_eq, catalog_tree, column, doubt, drop, drop-cons, eq-eqb, false, find, fun_ext, get_or, has_rowid, id_below, if◌then◌else◌, inl, inr, ints, is_eq, kind_of, length, length-map, ltb, ltb-false, ltb-true, map, map-append, ne_eqb, newest, object_row, option_map, own_at, own_past, own_reals, own_shapes, own_snapshot, own_trees, own_values, own_view, pos, put_row, reals_by, refl, renumbered, rowid, rows_from, set_at, shapes_by, shown_row, slice_index, slice_index_or, snapshot, subst, subst₂, suc, sym, take, take-map, true, value_at, value_cmp, value_cmp-Int, value_cmp_total, value_past, version_rows, version_tree, with_tree, zero, ℕ, ◌++◌, ◌+◌, ◌-◌, ◌<◌, ◌∙◌, ◌∷◌, ◌≡◌, ◌≢◌, ◌≤◌}
use Rattle.std.proofs.Math.Seq.{take-append_seam}
use Rattle.std.proofs.lemmas.Bool.Decides.{nat_tests}
use Rattle.std.proofs.lemmas.List.{drop_all, get_or-map, get_or_past, nil_from_length}
use Rattle.std.specs.Ordering.{match_ordering, ordering_reverse}
use Rattle.station_files.proofs.OwnListing.{column_taken, find_taken, four_taken}

id_same : (a : ℕ) → value_cmp (Int (pos a)) (Int (pos a)) ≡ Equal
id_same a = value_cmp-Int (pos a) (pos a) ∙ grind (arith, ints, nat_tests)

id_above : (a b : ℕ) → b < a → value_cmp (Int (pos a)) (Int (pos b)) ≡ Greater
id_above a b h = value_cmp-Int (pos a) (pos b) ∙ grind (arith, ints, nat_tests)

id_other : (n m : ℕ) → m ≢ n → is_eq (value_cmp (Int (pos (n + 1))) (Int (pos (m + 1)))) ≡ false
id_other n m other = elim (cases_Bool (ltb n m)) [
  | inl low ↦ let h = ltb-true n m low in ap is_eq (id_below (n + 1) (m + 1) (omega arith))
  | inr high ↦ let h = ltb-false n m high in ap is_eq (id_above (n + 1) (m + 1) (omega arith))
]

-- a row that is put in is found, and each other one is found as before
module _ (n : ℕ) (o : Object) where
  put_found : (rows : List Row) → find (has_rowid (pos (n + 1))) (put_row (object_row n o) rows) ≡ Some (object_row n o)
  put_found [] = rw (id_same (n + 1)) refl
  put_found (r ∷ rows) = go (value_cmp (rowid r) (Int (pos (n + 1)))) refl (put_found rows)
    where
      go : (c : Ordering) → value_cmp (rowid r) (Int (pos (n + 1))) ≡ c → find (has_rowid (pos (n + 1))) (put_row (object_row n o) rows) ≡ Some (object_row n o)
          → find (has_rowid (pos (n + 1))) (match_ordering c (r ∷ put_row (object_row n o) rows) (object_row n o ∷ rows) (object_row n o ∷ r ∷ rows)) ≡ Some (object_row n o)
      go Less e rest = rw e rest
      go Equal e rest = rw (id_same (n + 1)) refl
      go Greater e rest = rw (id_same (n + 1)) refl

  pub other_found : (m : ℕ) (rows : List Row) → m ≢ n → find (has_rowid (pos (m + 1))) (put_row (object_row n o) rows) ≡ find (has_rowid (pos (m + 1))) rows
  other_found m [] other = rw (id_other n m other) refl
  other_found m (r ∷ rows) other = go (value_cmp (rowid r) (Int (pos (n + 1)))) refl (other_found m rows other)
    where
      go : (c : Ordering) → value_cmp (rowid r) (Int (pos (n + 1))) ≡ c → find (has_rowid (pos (m + 1))) (put_row (object_row n o) rows) ≡ find (has_rowid (pos (m + 1))) rows
          → find (has_rowid (pos (m + 1))) (match_ordering c (r ∷ put_row (object_row n o) rows) (object_row n o ∷ rows) (object_row n o ∷ r ∷ rows)) ≡ find (has_rowid (pos (m + 1))) (r ∷ rows)
      go Less e rest = elim (cases_Bool (has_rowid (pos (m + 1)) r)) [ inl is ↦ rw is refl | inr apart ↦ rw apart rest ]
      go Equal e rest = let apart : has_rowid (pos (m + 1)) r ≡ false = ap is_eq (value_cmp_total.congr (rowid r) (Int (pos (n + 1))) (Int (pos (m + 1))) e) ∙ id_other n m other in rw (id_other n m other, apart) refl
      go Greater e rest = rw (id_other n m other) refl

  put_first : (rows : List Row) → AllByRecursion (IsPast (n + 1)) rows → put_row (object_row n o) rows ≡ object_row n o ∷ rows
  put_first [] h = refl
  put_first (r ∷ rows) h = rw (value_cmp_total.antisymm (rowid r) (Int (pos (n + 1))) ∙ ap ordering_reverse h.0) refl

  put_over : (found : Option Row) (rows : List Row) → AllByRecursion (IsPast (n + 1)) rows → put_row (object_row n o) (shown_row n found ++ rows) ≡ object_row n o ∷ rows
  put_over None rows h = put_first rows h
  put_over (Some r) rows h = rw (id_same (n + 1)) refl

  put_behind : (from : ℕ) (found : Option Row) (rows : List Row) → from < n → shown_row from found ++ put_row (object_row n o) rows ≡ put_row (object_row n o) (shown_row from found ++ rows)
  put_behind from None rows h = refl
  put_behind from (Some r) rows h = rw (id_below (from + 1) (n + 1) (omega arith)) refl

  rows_stay : (from : ℕ) (numbers : List ℕ) (rows : List Row) → ((s : ℕ) → s < length numbers → get_or numbers s 0 ≢ n)
      → rows_from from numbers (put_row (object_row n o) rows) ≡ rows_from from numbers rows
  rows_stay from [] rows never = refl
  rows_stay from (m ∷ numbers) rows never =
      ap₂ (λ (found : Option Row) (rest : List Row). shown_row from found ++ rest) (other_found m rows (never zero (omega arith)))
      (rows_stay (from + 1) numbers rows (λ s h. never (suc s) (omega arith)))

-- a tree that is put in the list inside is put in the list that is shown
rows_put : (from at t : ℕ) (o : Object) (numbers : List ℕ) (rows : List Row) → t ≡ from + at → at < length numbers
    → ((s : ℕ) → s < length numbers → get_or numbers s 0 ≡ get_or numbers at 0 → s ≡ at)
    → rows_from from numbers (put_row (object_row (get_or numbers at 0) o) rows) ≡ put_row (object_row t o) (rows_from from numbers rows)
rows_put from at t o [] rows is low apart = absurd (omega arith)
rows_put from zero t o (m ∷ numbers) rows is low apart =
    let here : t ≡ from = omega arith in
    let never = λ (s : ℕ) (h : s < length numbers) (e : get_or numbers s 0 ≡ m). let same = apart (suc s) (omega arith) e in absurd (omega arith) in
    rw here (ap₂ (λ (found : Option Row) (rest : List Row). shown_row from found ++ rest) (put_found m o rows) (rows_stay m o (from + 1) numbers rows never)
    ∙ sym (put_over from o (find (has_rowid (pos (m + 1))) rows) (rows_from (from + 1) numbers rows) (all_past (from + 1) (from + 1) numbers rows (omega arith))))
rows_put from (suc at) t o (m ∷ numbers) rows is low apart =
    let other = λ (e : m ≡ get_or numbers at 0). let same = apart zero (omega arith) e in absurd (omega arith) in
    ap₂ (λ (found : Option Row) (rest : List Row). shown_row from found ++ rest) (other_found (get_or numbers at 0) o m rows other)
    (rows_put (from + 1) at t o numbers rows (omega arith) (omega arith) (λ s h e. let same = apart (suc s) (omega arith) e in omega arith))
    ∙ put_behind t o from (find (has_rowid (pos (m + 1))) rows) (rows_from (from + 1) numbers rows) (omega arith)

set_same : {X : Type 0} (f : ℕ → X) (n : ℕ) (x : X) → set_at f n x n ≡ x
set_same f n x = rw (eq-eqb n n refl) refl

pub set_other : {X : Type 0} (f : ℕ → X) (n : ℕ) (x : X) (k : ℕ) → k ≢ n → set_at f n x k ≡ f k
set_other f n x k other = rw (ne_eqb k n other) refl

no_marks : {X Y : Type 0} (f : X → Y) (xs : List X) → map f xs ≡ [] → xs ≡ []
no_marks f xs none = nil_from_length xs (sym (length-map xs f) ∙ ap length none)

-- the shapes or the REAL columns
module _ {X : Type 0} (none first : X) (numbers : List ℕ) (few : length numbers < 65536) where
  -- they are those of the layouts, if they are at each place
  values_by : (of : Layout → X) (layouts : List Layout) (f : ℕ → X) → length layouts ≡ length numbers
      → ((t : ℕ) (d : Layout) → t < length numbers → of (slice_index_or layouts t d) ≡ f (slice_index numbers t)) → Layout
      → own_values none first numbers f ≡ set_at (set_at (λ t. slice_index_or (map of layouts) t none) catalog_tree first) version_tree first
  values_by of layouts f all each d = fun_ext (λ t. elim (kind_of numbers t) [
    | inl is ↦ rw (eq-eqb t version_tree is) refl
    | inr (inl is) ↦ rw is refl
    | inr (inr (inl here)) ↦
        value_at none first numbers f t few here ∙ sym (each t d here) ∙ sym (get_or-map of layouts t d none (omega arith))
        ∙ rw (ne_eqb t version_tree (omega arith), ne_eqb t catalog_tree (omega arith)) refl
    | inr (inr (inr past)) ↦
        value_past none first numbers f t past ∙ sym (get_or_past (map of layouts) t none (omega (arith, length-map layouts of, past.high)))
        ∙ rw (ne_eqb t version_tree past.other, ne_eqb t catalog_tree past.apart) refl
  ])

  values_set : (apart : AreApart numbers) (t : ℕ) → t < length numbers → (f : ℕ → X) (x : X)
      → own_values none first numbers (set_at f (slice_index numbers t) x) ≡ set_at (own_values none first numbers f) t x
  values_set apart t here f x = let g = set_at f (slice_index numbers t) x in let own = own_values none first numbers in fun_ext (λ k. elim (cases_eq k t) [
    | inl is ↦ subst (λ k. own g k ≡ set_at (own f) t x k) (sym is) (value_at none first numbers g t few here ∙ set_same f (slice_index numbers t) x ∙ sym (set_same (own f) t x))
    | inr other ↦ elim (kind_of numbers k) [
      | inl is ↦ subst (λ k. own g k ≡ own f k) (sym is) refl
      | inr (inl is) ↦ subst (λ k. own g k ≡ own f k) (sym is) refl
      | inr (inr (inl low)) ↦ value_at none first numbers g k few low ∙ set_other f (slice_index numbers t) x (slice_index numbers k) (λ e. other (apart.apart k t low here e))
          ∙ sym (value_at none first numbers f k few low)
      | inr (inr (inr past)) ↦ value_past none first numbers g k past ∙ sym (value_past none first numbers f k past)
    ] ∙ sym (set_other (own f) t x k other)
  ])

-- trees are laid out as they are at each place
pub laid_out : (numbers : List ℕ) → length numbers < 65536 → (layouts : List Layout) → length layouts ≡ length numbers → (shape : ℕ → Shape) (reals : ℕ → ℕ)
    → ((t : ℕ) (d : Layout) → t < length numbers → ((slice_index_or layouts t d).shape ≡ shape (slice_index numbers t)) × ((slice_index_or layouts t d).reals ≡ reals (slice_index numbers t)))
    → AreLaidOut numbers layouts shape reals
laid_out numbers few layouts all shape reals each =
    let none : Layout = record { shape = Absent; reals = 0 } in
    record {
      shaped = values_by Absent Table numbers few (λ l. l.shape) layouts shape all (λ t d low. (each t d low).0) none;
      typed = values_by 0 0 numbers few (λ l. l.reals) layouts reals all (λ t d low. (each t d low).1) none;
    }

module _ (numbers : List ℕ) (apart : AreApart numbers) where
  trees_agree : (T U : Trees) (k : ℕ) → (k ≡ version_tree → T version_tree ≡ U version_tree) → (k ≡ catalog_tree → T catalog_tree ≡ U catalog_tree)
      → (k < length numbers → T (slice_index numbers k) ≡ U (slice_index numbers k)) → own_trees numbers T k ≡ own_trees numbers U k
  trees_agree T U k version catalog inside = elim (kind_of numbers k) [
    | inl is ↦ subst (λ x. own_trees numbers T x ≡ own_trees numbers U x) (sym is) (version is)
    | inr (inl is) ↦ subst (λ x. own_trees numbers T x ≡ own_trees numbers U x) (sym is) (ap (rows_from 0 numbers) (catalog is))
    | inr (inr (inl here)) ↦ own_at numbers T k apart.few here ∙ inside here ∙ sym (own_at numbers U k apart.few here)
    | inr (inr (inr past)) ↦ own_past numbers T k past ∙ sym (own_past numbers U k past)
  ]

  own_version : (trees : Trees) (es : List Row) → own_trees numbers (with_tree trees version_tree es) ≡ with_tree (own_trees numbers trees) version_tree es
  own_version trees es = fun_ext (λ k. elim (cases_eq k version_tree) [
    | inl is ↦ subst (λ x. own_trees numbers (with_tree trees version_tree es) x ≡ with_tree (own_trees numbers trees) version_tree es x) (sym is) refl
    | inr other ↦
        trees_agree (with_tree trees version_tree es) trees k (λ e. absurd (other e)) (λ _. refl)
        (λ h. let small = apart.low k h in set_other trees version_tree es (slice_index numbers k) (λ e. absurd (omega arith)))
        ∙ sym (set_other (own_trees numbers trees) version_tree es k other)
  ])

  module _ (t : ℕ) (here : t < length numbers) where
    own_edit : (trees : Trees) (es : List Row) → own_trees numbers (with_tree trees (slice_index numbers t) es) ≡ with_tree (own_trees numbers trees) t es
    own_edit trees es = fun_ext (λ k. elim (cases_eq k t) [
      | inl is ↦ subst (λ x. own_trees numbers (with_tree trees (slice_index numbers t) es) x ≡ with_tree (own_trees numbers trees) t es x) (sym is)
          (own_at numbers (with_tree trees (slice_index numbers t) es) t apart.few here ∙ set_same trees (slice_index numbers t) es ∙ sym (set_same (own_trees numbers trees) t es))
      | inr other ↦
          let small = apart.low t here in
          let few = apart.few in
          trees_agree (with_tree trees (slice_index numbers t) es) trees k (λ _. set_other trees (slice_index numbers t) es version_tree (λ e. absurd (omega arith)))
          (λ _. set_other trees (slice_index numbers t) es catalog_tree (λ e. absurd (omega arith)))
          (λ h. set_other trees (slice_index numbers t) es (slice_index numbers k) (λ e. other (apart.apart k t h here e)))
          ∙ sym (set_other (own_trees numbers trees) t es k other)
    ])

    tree_made : (o : Object) (trees : Trees)
        → own_trees numbers (with_tree (with_tree trees (slice_index numbers t) []) catalog_tree (put_row (object_row (slice_index numbers t) o) (trees catalog_tree)))
        ≡ with_tree (with_tree (own_trees numbers trees) t []) catalog_tree (put_row (object_row t o) (own_trees numbers trees catalog_tree))
    tree_made o trees =
        let n = slice_index numbers t in
        let empty = with_tree trees n [] in
        let es = put_row (object_row n o) (trees catalog_tree) in
        fun_ext (λ k. elim (cases_eq k catalog_tree) [
          | inl is ↦ subst (λ x. own_trees numbers (with_tree empty catalog_tree es) x ≡ with_tree (with_tree (own_trees numbers trees) t []) catalog_tree (put_row (object_row t o) (own_trees numbers trees catalog_tree)) x) (sym is)
              (rows_put 0 t t o numbers (trees catalog_tree) (omega arith) here (λ s h e. apart.apart s t h here e))
          | inr other ↦
              trees_agree (with_tree empty catalog_tree es) empty k (λ _. refl) (λ e. absurd (other e))
              (λ h. let small = apart.low k h in set_other empty catalog_tree es (slice_index numbers k) (λ e. absurd (omega arith)))
              ∙ ap (λ (trees : Trees). trees k) (own_edit trees [])
              ∙ sym (set_other (with_tree (own_trees numbers trees) t []) catalog_tree (put_row (object_row t o) (own_trees numbers trees catalog_tree)) k other)
        ])

pub last : {X : Type 0} (xs : List X) → xs ≢ [] → length xs - 1 < length xs
last [] some = absurd (some refl)
last (x ∷ xs) some = omega arith

-- the last commit stands
pub record KeepsCommit (a b : View) : Type 0 where
  pub shape : b.committed_shape ≡ a.committed_shape
  pub reals : b.committed_reals ≡ a.committed_reals
  pub numbered : b.is_numbered ≡ a.is_numbered
  pub was_open : IsTrue b.is_open → IsTrue a.is_open
  pub committed : IsTrue b.is_open → b.committed ≡ a.committed

-- and the trees have their layouts
pub record Stays (a b : View) : Type 0 where
  pub commit : KeepsCommit a b
  pub shape : b.shape ≡ a.shape
  pub reals : b.reals ≡ a.reals

pub commit_kept : {a b : View} {trees : Trees} {shape : ℕ → Shape} {reals : ℕ → ℕ} {cursors : ℕ → Option (List Row)} {marks : List Snapshot} {is_broken : Bool}
    → b ≡ record a { trees = trees; shape = shape; reals = reals; cursors = cursors; marks = marks; is_broken = is_broken } → KeepsCommit a b
commit_kept is = record {
  shape = ap (λ (v : View). v.committed_shape) is;
  reals = ap (λ (v : View). v.committed_reals) is;
  numbered = ap (λ (v : View). v.is_numbered) is;
  was_open = λ on. subst (λ (v : View). IsTrue v.is_open) is on;
  committed = λ on. ap (λ (v : View). v.committed) is;
}

pub stays : {a b : View} {trees : Trees} {cursors : ℕ → Option (List Row)} {marks : List Snapshot}
    → b ≡ record a { trees = trees; cursors = cursors; marks = marks } → Stays a b
stays is = record { commit = commit_kept is; shape = ap (λ (v : View). v.shape) is; reals = ap (λ (v : View). v.reals) is }

stays_failed : {a b : View} → KeepsCommitted a b → Stays a b
stays_failed k = record {
  commit = record { shape = k.committed_shape; reals = k.committed_reals; numbered = k.numbered; was_open = k.was_open; committed = k.committed };
  shape = k.shape;
  reals = k.reals;
}

-- after a call that may fail
pub stays_after : {X : Type 0} {a b : View} (r : Result X StoreError) → OnOk r (IsClean b → Stays a b) → IfErr r (IsFailure a b) → IsClean b → Stays a b
stays_after (Ok x) done failed clean = done clean
stays_after (Err e) done failed clean = stays_failed failed.kept

module _ {numbers : List ℕ} {layouts before : List Layout} {makes : Bool} {a : View} (it : IsShown numbers layouts before makes a) where
  abbrev own : View → View
  own = own_view numbers layouts before

  -- what a call of one tree does
  module _ {t n : ℕ} (inside : IsNumberOf numbers layouts a t n) where
    pub rows_inside : own_trees numbers a.trees t ≡ a.trees n
    rows_inside = own_at numbers a.trees t it.apart.few inside.low ∙ ap a.trees (sym inside.is)

    pub sets_inside : (b : View) (edit : Shape → List Row → List Row) → SetsTree a b n (edit (a.shape n)) → SetsTree (own a) (own b) t (edit (shapes_by layouts t))
    sets_inside b edit sets = record {
      sound = sets.sound;
      is = ap own sets.is ∙ ap (λ (trees : Trees). record (own a) { trees = trees; cursors = b.cursors })
          (ap (λ m. own_trees numbers (with_tree a.trees m (edit (a.shape n) (a.trees n)))) inside.is ∙ own_edit numbers it.apart t inside.low a.trees (edit (a.shape n) (a.trees n))
          ∙ ap₂ (λ s es. with_tree (own_trees numbers a.trees) t (edit s es)) inside.shaped (sym rows_inside));
    }

    pub creates_inside : (b : View) {new : List Layout} (o : Object) → doubt a.is_clean ≤ doubt b.is_clean → AreLaidOut numbers new b.shape b.reals → IsClean b → Creates a b n o
        → Creates (own a) (own_view numbers new before b) t o
    creates_inside b {new = new} o falls now clean makes =
        let made = with_tree (with_tree (own_trees numbers a.trees) t []) catalog_tree (put_row (object_row t o) (own_trees numbers a.trees catalog_tree)) in
        let was = it.now (omega arith) in
        let is = subst (λ k. Creates a b k o) inside.is makes in
        record {
          sound = makes.sound;
          is = ap (own_view numbers new before) is.is
              ∙ ap (λ (trees : Trees). record (own a) { trees = trees; shape = shapes_by new; reals = reals_by new; cursors = b.cursors }) (tree_made numbers it.apart t inside.low o a.trees)
              ∙ ap₂ (λ (shape : ℕ → Shape) (reals : ℕ → ℕ). record (own a) { trees = made; shape = shape; reals = reals; cursors = b.cursors })
              (sym now.shaped ∙ ap (λ (v : View). own_shapes numbers v.shape) is.is ∙ values_set Absent Table numbers it.apart.few it.apart t inside.low a.shape o.shape ∙ ap (λ (f : ℕ → Shape). set_at f t o.shape) was.shaped)
              (sym now.typed ∙ ap (λ (v : View). own_reals numbers v.reals) is.is ∙ values_set 0 0 numbers it.apart.few it.apart t inside.low a.reals o.reals ∙ ap (λ (f : ℕ → ℕ). set_at f t o.reals) was.typed);
        }

  -- what is shown after a call
  module _ (b : View) (falls : doubt a.is_clean ≤ doubt b.is_clean) where
    pub shown_laid : {new : List Layout} → length new ≡ length layouts → (IsClean b → AreLaidOut numbers new b.shape b.reals) → (IsClean b → KeepsCommit a b)
        → IsShown numbers new before makes b
    shown_laid same now keeps = record {
      apart = it.apart;
      all = (same ∙ it.all.0, it.all.1);
      numbered = λ may clean. subst IsTrue (sym (keeps clean).numbered) (it.numbered may (omega arith));
      now = now;
      kept = λ clean. let k = keeps clean in let was = it.kept (omega arith) in
          record { shaped = ap (own_shapes numbers) k.shape ∙ was.shaped; typed = ap (own_reals numbers) k.reals ∙ was.typed };
      listed = λ clean on. let k = keeps clean in subst (λ (trees : Trees). IsListed (trees catalog_tree) b.committed_shape b.committed_reals) (sym (k.committed on))
          (subst₂ (IsListed (a.committed catalog_tree)) (sym k.shape) (sym k.reals) (it.listed (omega arith) (k.was_open on)));
    }

    pub shown : (IsClean b → Stays a b) → IsShown numbers layouts before makes b
    shown still = shown_laid refl
        (λ clean. let s = still clean in let was = it.now (omega arith) in record { shaped = ap (own_shapes numbers) s.shape ∙ was.shaped; typed = ap (own_reals numbers) s.reals ∙ was.typed })
        (λ clean. (still clean).commit)

    pub shown_committed : {new : List Layout} → new ≡ layouts → (a.is_broken ≡ false → IsListed (a.trees catalog_tree) a.shape a.reals) → (IsClean b → Commits a b) → IsShown numbers layouts new makes b
    shown_committed same listed commits = subst (λ new. IsShown numbers layouts new makes b) (sym same) (record {
      apart = it.apart;
      all = (it.all.0, it.all.0);
      numbered = λ may clean. subst (λ (v : View). IsTrue v.is_numbered) (sym (commits clean).is) (it.numbered may (omega arith));
      now = λ clean. subst (λ (v : View). AreLaidOut numbers layouts v.shape v.reals) (sym (commits clean).is) (it.now (omega arith));
      kept = λ clean. subst (λ (v : View). AreLaidOut numbers layouts v.committed_shape v.committed_reals) (sym (commits clean).is) (it.now (omega arith));
      listed = λ clean on. subst (λ (v : View). IsListed (v.committed catalog_tree) v.committed_shape v.committed_reals) (sym (commits clean).is) (listed (commits clean).sound);
    })

    pub marks_shown : IsClean b → Marks a b → Marks (own a) (own b)
    marks_shown clean marks = let was = it.now (omega arith) in record {
      sound = marks.sound;
      is = ap own marks.is ∙ ap (λ (ms : List Snapshot). record (own a) { marks = ms })
          (map-append (own_snapshot numbers) a.marks (snapshot a ∷ [])
          ∙ ap₂ (λ (shape : ℕ → Shape) (reals : ℕ → ℕ). map (own_snapshot numbers) a.marks ++ record { trees = own_trees numbers a.trees; shape = shape; reals = reals } ∷ []) was.shaped was.typed);
    }

  -- what a rollback does, or a commit that failed
  module _ {new : List Layout} (b : View) (falls : doubt a.is_clean ≤ doubt b.is_clean) (broken : b.is_open ≡ false → IsTrue b.is_broken) (back : IsRolledBack a b)
      (went : GoBack layouts before new b) where
    went_to : {X : Type 0} (of : List Layout → X) (on broken : Bool) → b.is_open ≡ on → b.is_broken ≡ broken → new ≡ (if broken then layouts else before)
        → of new ≡ (if on then of before else of layouts)
    went_to of true true on is at = absurd (let u = back.undone on in cc)
    went_to of true false on is at = ap of at
    went_to of false true on is at = ap of at
    went_to of false false on is at = absurd (let u = broken on in cc)

    goes : {X : Type 0} (of : List Layout → X) → IsClean b → of new ≡ (if b.is_open then of before else of layouts)
    goes of clean = went_to of b.is_open b.is_broken refl refl (went.1 clean)

    pub back_shown : IsRolledBack (own a) (own_view numbers new before b)
    back_shown = record {
      kept = λ clean. let k = back.kept clean in record {
        shape = goes shapes_by clean;
        reals = goes reals_by clean;
        committed_shape = refl;
        committed_reals = refl;
        numbered = refl;
        was_open = k.was_open;
        committed = λ on. ap (own_trees numbers) (k.committed on);
        marks = λ on. ap (map (own_snapshot numbers)) (k.marks on);
      };
      shape = λ same. elim went.0 [ inl e ↦ ap shapes_by e | inr e ↦ ap shapes_by e ∙ sym same ];
      reals = λ same. elim went.0 [ inl e ↦ ap reals_by e | inr e ↦ ap reals_by e ∙ sym same ];
      committed_shape = refl;
      committed_reals = refl;
      numbered = refl;
      undone = λ on. let u = back.undone on in (ap (own_trees numbers) u.0, u.1);
    }

    laid_back : (on : Bool) → new ≡ (if on then before else layouts) → b.shape ≡ (if on then a.committed_shape else a.shape) → b.reals ≡ (if on then a.committed_reals else a.reals)
        → AreLaidOut numbers layouts a.shape a.reals → AreLaidOut numbers before a.committed_shape a.committed_reals → AreLaidOut numbers new b.shape b.reals
    laid_back true at shape reals now kept = record { shaped = ap (own_shapes numbers) shape ∙ kept.shaped ∙ ap shapes_by (sym at); typed = ap (own_reals numbers) reals ∙ kept.typed ∙ ap reals_by (sym at) }
    laid_back false at shape reals now kept = record { shaped = ap (own_shapes numbers) shape ∙ now.shaped ∙ ap shapes_by (sym at); typed = ap (own_reals numbers) reals ∙ now.typed ∙ ap reals_by (sym at) }

    pub shown_back : IsShown numbers new before makes b
    shown_back = shown_laid b falls (elim went.0 [ inl e ↦ ap length e | inr e ↦ ap length e ∙ it.all.1 ∙ sym it.all.0 ])
        (λ clean. let k = back.kept clean in laid_back b.is_open (goes (λ l. l) clean) k.shape k.reals (it.now (omega arith)) (it.kept (omega arith)))
        (λ clean. let k = back.kept clean in record { shape = back.committed_shape; reals = back.committed_reals; numbered = back.numbered; was_open = k.was_open; committed = k.committed })

  newest_own : a.marks ≢ [] → newest (own a) ≡ own_snapshot numbers (newest a)
  newest_own some = rw length-map (get_or-map (own_snapshot numbers) a.marks (length a.marks - 1) (snapshot a) (snapshot (own a)) (last a.marks some))

  -- what going back to the newest mark does
  module _ {new : List Layout} (b : View) (falls : doubt a.is_clean ≤ doubt b.is_clean) (laid : AreLaidOut numbers new b.shape b.reals) where
    pub goes_back_shown : map (own_snapshot numbers) a.marks ≢ [] → (a.marks ≢ [] → GoesBack a b) → GoesBack (own a) (own_view numbers new before b)
    goes_back_shown marked goes =
        let some : a.marks ≢ [] = λ none. marked (ap (map (own_snapshot numbers)) none) in
        let back = goes some in
        record {
          was_open = back.was_open;
          is = ap (own_view numbers new before) back.is
              ∙ ap₂ (λ (shape : ℕ → Shape) (reals : ℕ → ℕ). record (own a) { trees = own_trees numbers (newest a).trees; shape = shape; reals = reals; cursors = b.cursors; is_broken = false })
              (sym laid.shaped ∙ ap (λ (v : View). own_shapes numbers v.shape) back.is) (sym laid.typed ∙ ap (λ (v : View). own_reals numbers v.reals) back.is)
              ∙ ap (λ (s : Snapshot). record (own a) { trees = s.trees; shape = s.shape; reals = s.reals; cursors = b.cursors; is_broken = false }) (sym (newest_own some));
        }

    pub unmarked_shown : IsClean b → map (own_snapshot numbers) a.marks ≡ [] → (a.marks ≡ [] → b ≡ a) → own_view numbers new before b ≡ own a
    unmarked_shown clean none stays =
        let same = stays (no_marks (own_snapshot numbers) a.marks none) in
        let was = it.now (omega arith) in
        ap (own_view numbers new before) same
        ∙ ap₂ (λ (shape : ℕ → Shape) (reals : ℕ → ℕ). record (own a) { shape = shape; reals = reals })
        (sym laid.shaped ∙ ap (λ (v : View). own_shapes numbers v.shape) same ∙ was.shaped) (sym laid.typed ∙ ap (λ (v : View). own_reals numbers v.reals) same ∙ was.typed)

    pub shown_to : length new ≡ length layouts → (IsClean b → a.marks ≢ [] → GoesBack a b) → (IsClean b → a.marks ≡ [] → b ≡ a) → IsShown numbers new before makes b
    shown_to same back stays = shown_laid b falls same (λ _. laid) (λ clean. go clean a.marks refl)
      where
        go : IsClean b → (marks : List Snapshot) → a.marks ≡ marks → KeepsCommit a b
        go clean [] none = commit_kept (stays clean none)
        go clean (x ∷ xs) is = commit_kept (back clean (λ none. absurd (cc))).is

module _ (numbers : List ℕ) (layouts before : List Layout) (a b : View) where
  pub releases_shown : Releases a b → Releases (own_view numbers layouts before a) (own_view numbers layouts before b)
  releases_shown is = ap (own_view numbers layouts before) is ∙ ap (λ (marks : List Snapshot). record (own_view numbers layouts before a) { marks = marks })
      (rw length-map (sym (take-map (own_snapshot numbers) (length a.marks - 1) a.marks)))

  pub sets_version : (apart : AreApart numbers) (version : ℕ) → SetsTree a b version_tree (λ _. version_rows version)
      → SetsTree (own_view numbers layouts before a) (own_view numbers layouts before b) version_tree (λ _. version_rows version)
  sets_version apart version sets = record {
    sound = sets.sound;
    is = ap (own_view numbers layouts before) sets.is
        ∙ ap (λ (trees : Trees). record (own_view numbers layouts before a) { trees = trees; cursors = b.cursors }) (own_version numbers apart a.trees (version_rows version));
  }

taken_row : (t : ℕ) (r : Row) → take 5 (renumbered t (take 5 r)) ≡ take 5 (renumbered t r)
taken_row t r = ap (λ (x : Row). Int (pos (t + 1)) ∷ x) (four_taken r)

-- the row of one number is found among the first five columns
pub row_taken : (t n : ℕ) (rows all : List Row) → rows ≡ map (take 5) all
    → map (take 5) (rows_from t (n ∷ []) all) ≡ map (take 5) (shown_row t (find (has_rowid (pos (n + 1))) rows))
row_taken t n rows all is =
    go (find (has_rowid (pos (n + 1))) all)
    ∙ ap (λ (o : Option Row). map (take 5) (shown_row t o)) (sym (ap (find (has_rowid (pos (n + 1)))) is ∙ find_taken (pos (n + 1)) all))
  where
    go : (o : Option Row) → map (take 5) (shown_row t o ++ []) ≡ map (take 5) (shown_row t (option_map (take 5) o))
    go None = refl
    go (Some r) = ap (λ (x : Row). x ∷ []) (sym (taken_row t r))

rows_apart : (from : ℕ) (n : ℕ) (numbers : List ℕ) (all : List Row) → rows_from from (n ∷ numbers) all ≡ rows_from from (n ∷ []) all ++ rows_from (from + 1) numbers all
rows_apart from n numbers all = sym (append_assoc (shown_row from (find (has_rowid (pos (n + 1))) all)) [] (rows_from (from + 1) numbers all))

-- one more number has been looked up
pub more_rows : (t : ℕ) (numbers : List ℕ) (all own new whole : List Row) → t < length numbers → own ++ map (take 5) (rows_from t (drop t numbers) all) ≡ whole
    → new ≡ own ++ map (take 5) (rows_from t (slice_index numbers t ∷ []) all) → new ++ map (take 5) (rows_from (t + 1) (drop (t + 1) numbers) all) ≡ whole
more_rows t numbers all own new whole low before is =
    ap (λ (x : List Row). x ++ map (take 5) (rows_from (t + 1) (drop (t + 1) numbers) all)) is
    ∙ append_assoc own (map (take 5) (rows_from t (slice_index numbers t ∷ []) all)) (map (take 5) (rows_from (t + 1) (drop (t + 1) numbers) all))
    ∙ ap (λ (x : List Row). own ++ x) (sym (map-append (take 5) (rows_from t (slice_index numbers t ∷ []) all) (rows_from (t + 1) (drop (t + 1) numbers) all))
    ∙ ap (map (take 5)) (sym (rows_apart t (slice_index numbers t) (drop (t + 1) numbers) all))
    ∙ ap (λ (ns : List ℕ). map (take 5) (rows_from t ns all)) (sym (next_number t numbers low)))
    ∙ before
  where
    next_number : (t : ℕ) (numbers : List ℕ) → t < length numbers → drop t numbers ≡ slice_index numbers t ∷ drop (t + 1) numbers
    next_number t numbers low = rw add-one (drop-cons numbers t 0 low)

pub all_unnamed : (name : List ℕ) (rows : List Row) → AllByRecursion (λ r. column r 2 ≢ Text name) (map (take 5) rows) → AllByRecursion (λ r. column r 2 ≢ Text name) rows
all_unnamed name [] all = tt
all_unnamed name (r ∷ rows) all = (λ e. all.0 (column_taken r 2 (omega arith) ∙ e), all_unnamed name rows all.1)

pub all_rows : (t : ℕ) (numbers : List ℕ) (all own whole : List Row) → length numbers ≤ t → own ++ map (take 5) (rows_from t (drop t numbers) all) ≡ whole → own ≡ whole
all_rows t numbers all own whole past is =
    sym (append-nil own) ∙ ap (λ (ns : List ℕ). own ++ map (take 5) (rows_from t ns all)) (sym (drop_all t numbers past)) ∙ is

-- a vector all of whose elements were written
pub written_back : {X : Type 0} (xs ys : List X) (n : ℕ) → length xs ≡ length ys → n ≡ length ys → take n (xs ++ drop (length xs) ys) ≡ xs
written_back xs ys n e is = let same : n ≡ length xs = omega arith in rw same (take-append_seam xs (drop (length xs) ys))
