-- No two entries of sqlite_schema have one name, so all lists of a file's trees say the same of a
-- tree with a name.
use Rattle.station_files.proofs.Common.{Absent, Blob, Equal, FrozenIndex, FrozenTable, Greater, Has, Index, Int, IsFile, IsSoundFile, Less, List, None, Null, Ordering, PageMap, Pageless, Real, Row, Shape, Some, Table, Text, Value, Wanted, [], and_parts, ap, arith, bytes, cases_Bool, cases_eq, class, column, false, find, get_or, has_left, has_right, has_rowid, header_in, inl, inr, is_eq, is_present, list_any, listed_from, map, nat_cmp, not, number_in, pos, refl, row_for, rows_at, same_value, shape_at, shape_code, some_from, subst, suc, sym, true, trunks_of, unlocked, unwrap_or, value_cmp, value_cmp-Text, value_cmp-apart, value_cmp_total, ℕ, ◌&&◌, ◌++◌, ◌+◌, ◌<◌, ◌∙◌, ◌∷◌, ◌≡◌, ◌≢◌, ◌⊎◌}
use Rattle.std.proofs.lemmas.Map.Text.{is_eq-slice_cmp}
use Rattle.std.proofs.lemmas.Slice.Eq.{bytes_eq-Decides}
use Rattle.std.specs.Char.{to_ascii_lowercase}
use Rattle.std.specs.Ordering.{ordering_reverse}
use Rattle.sqlite_btree.proofs.StoredLemmas.{stored_root_live}
use Rattle.sqlite_btree.specs.Chain.{Layout}
use Rattle.sqlite_pool.proofs.FileLemmas.{unlocked_lock, unlocked_other}
use Rattle.sqlite_pool.proofs.FreeLemmas.{live_listed, live_unlisted}
use Rattle.sqlite_pool.proofs.PoolLemmas.{none_of}
use Rattle.sqlite_pool.specs.File.{in_use}
use Rattle.sqlite_pool.specs.FreeList.{times_free}
use Rattle.sqlite_pool.specs.Header.{lock_page}
use Rattle.sqlite_store.specs.Db.{roots_of, IsKept}
use Rattle.sqlite_trees.specs.Sound.{are_in_order, head_at, may_follow, same_name, Head}
use Rattle.station_files.proofs.SameReading.{root_at, root_by, shape_is}

-- a value that SQLite holds equal to a text or to NULL is the same

same_text : (s t : List ℕ) → same_value (Text s) (Text t) ≡ true → s ≡ t
same_text s t h = (bytes_eq-Decides s t).0 (sym (is_eq-slice_cmp s t) ∙ sym (ap is_eq (value_cmp-Text s t)) ∙ h)

unlike : (a b : Value) → (class a ≡ class b → ⊥) → is_eq (nat_cmp (class a) (class b)) ≡ false → same_value a b ≡ true → ⊥
unlike a b other unequal h = let e = sym (ap is_eq (value_cmp-apart a b other)) ∙ h in cc

abbrev pub IsWord : Value → Type 0
IsWord v = (v ≡ Null) ⊎ ((t : List ℕ) × (v ≡ Text t))

before_text : (v : Value) (t : List ℕ) → same_value v (Text t) ≡ true → v ≡ Text t
before_text Null t h = absurd (unlike Null (Text t) (λ e. omega (arith, e)) refl h)
before_text (Int n) t h = absurd (unlike (Int n) (Text t) (λ e. omega (arith, e)) refl h)
before_text (Real x) t h = absurd (unlike (Real x) (Text t) (λ e. omega (arith, e)) refl h)
before_text (Text s) t h = ap Text (same_text s t h)
before_text (Blob b) t h = absurd (unlike (Blob b) (Text t) (λ e. omega (arith, e)) refl h)

before_null : (v : Value) → same_value v Null ≡ true → v ≡ Null
before_null Null h = refl
before_null (Int n) h = absurd (unlike (Int n) Null (λ e. omega (arith, e)) refl h)
before_null (Real x) h = absurd (unlike (Real x) Null (λ e. omega (arith, e)) refl h)
before_null (Text s) h = absurd (unlike (Text s) Null (λ e. omega (arith, e)) refl h)
before_null (Blob b) h = absurd (unlike (Blob b) Null (λ e. omega (arith, e)) refl h)

turned : (a b : Value) → same_value a b ≡ true → same_value b a ≡ true
turned a b h = go (value_cmp b a) (ap is_eq (sym (value_cmp_total.antisymm a b)) ∙ h)
  where
    go : (o : Ordering) → is_eq (ordering_reverse o) ≡ true → is_eq o ≡ true
    go Less h = h
    go Equal h = h
    go Greater h = h

word_is : (v word : Value) → IsWord word → same_value v word ≡ true → v ≡ word
word_is v word (inl none) h = before_null v (subst (λ w. same_value v w ≡ true) none h) ∙ sym none
word_is v word (inr (t, text)) h = before_text v t (subst (λ w. same_value v w ≡ true) text h) ∙ sym text

-- what one entry is equal to
through : (entry a b : Value) → IsWord a → same_value entry a ≡ true → same_value entry b ≡ true → b ≡ a
through entry a b word p q = word_is b a word (turned a b (subst (λ v. same_value v b ≡ true) (word_is entry a word p) q))

-- no two entries have one name

same_itself : (name : List ℕ) → same_name name name ≡ true
unfolding same_name
same_itself name = (bytes_eq-Decides (map to_ascii_lowercase name) (map to_ascii_lowercase name)).1 refl

other_name : (earlier : List Head) (head e : Head) → may_follow earlier head ≡ true → Has earlier e → same_name (bytes e.1) (bytes head.1) ≡ false
unfolding may_follow
other_name earlier head e follows there = elim (cases_Bool (same_name (bytes e.1) (bytes head.1))) [
  | inl same ↦ absurd (let a = some_from (λ (x : Head). same_name (bytes x.1) (bytes head.1)) earlier e there same in let b : not (list_any (λ (x : Head). same_name (bytes x.1) (bytes head.1)) earlier) ≡ true = (and_parts _ _ follows).0 in cc)
  | inr other ↦ other
]

later_name : (earlier : List Head) (entries : List Row) (e : Head) (r : Row) → are_in_order earlier (map (head_at 1) entries) ≡ true → Has earlier e → Has entries r
    → same_name (bytes e.1) (bytes (column r 2)) ≡ false
later_name earlier [] e r up there h = absurd h
later_name earlier (x ∷ entries) e r up there (inl is) = rw is (other_name earlier (head_at 1 x) e (and_parts _ _ up).0 there)
later_name earlier (x ∷ entries) e r up there (inr later) = later_name (earlier ++ head_at 1 x ∷ []) entries e r (and_parts _ _ up).1 (has_left earlier (head_at 1 x ∷ []) e there) later

named_again : (earlier : List Head) (entries : List Row) (x f : Row) → are_in_order (earlier ++ head_at 1 x ∷ []) (map (head_at 1) entries) ≡ true → Has entries f → column x 2 ≡ column f 2 → ⊥
named_again earlier entries x f up there name =
    let other = later_name (earlier ++ head_at 1 x ∷ []) entries (head_at 1 x) f up (has_right earlier (head_at 1 x ∷ []) (head_at 1 x) (inl refl)) there in
    let one : same_name (bytes (column f 2)) (bytes (column f 2)) ≡ false = subst (λ v. same_name (bytes v) (bytes (column f 2)) ≡ false) name other in
    let self = same_itself (bytes (column f 2)) in
    cc

pub named_once : (earlier : List Head) (entries : List Row) (e f : Row) → are_in_order earlier (map (head_at 1) entries) ≡ true → Has entries e → Has entries f → column e 2 ≡ column f 2 → e ≡ f
named_once earlier [] e f up h k same = absurd h
named_once earlier (x ∷ entries) e f up (inl a) (inl b) same = a ∙ sym b
named_once earlier (x ∷ entries) e f up (inl a) (inr b) same = absurd (named_again earlier entries x f (and_parts _ _ up).1 b (sym (ap (λ (r : Row). column r 2) a) ∙ same))
named_once earlier (x ∷ entries) e f up (inr a) (inl b) same = absurd (named_again earlier entries x e (and_parts _ _ up).1 a (sym (ap (λ (r : Row). column r 2) b) ∙ sym same))
named_once earlier (x ∷ entries) e f up (inr a) (inr b) same = named_once (earlier ++ head_at 1 x ∷ []) entries e f (and_parts _ _ up).1 a b same

-- the entry of a tree with pages

-- an entry with these columns
pub record Entry (entries : List Row) (kind name table sql : Value) : Type 0 where
  pub entry : Row
  pub there : Has entries entry
  pub kind_is : same_value (column entry 1) kind ≡ true
  pub name_is : same_value (column entry 2) name ≡ true
  pub table_is : same_value (column entry 3) table ≡ true
  pub sql_is : same_value (column entry 5) sql ≡ true

rooted : (entries : List Row) (kind name table sql : Value) → root_by entries kind name table sql ≢ 0 → Entry entries kind name table sql
rooted [] kind name table sql h = absurd (h refl)
rooted (x ∷ entries) kind name table sql h = elim (cases_Bool (same_value (column x 1) kind && same_value (column x 2) name && same_value (column x 3) table && same_value (column x 5) sql)) [
  | inl is ↦
      let d = and_parts _ _ is in
      let c = and_parts _ _ d.0 in
      let b = and_parts _ _ c.0 in
      record { entry = x; there = inl refl; kind_is = b.0; name_is = b.1; table_is = c.1; sql_is = d.1 }
  | inr none ↦
      let r = rooted entries kind name table sql (rw none at h) in
      record { entry = r.entry; there = inr r.there; kind_is = r.kind_is; name_is = r.name_is; table_is = r.table_is; sql_is = r.sql_is }
]

no_zero : (size : ℕ) (pages : PageMap) → IsSoundFile size pages → in_use size pages 0 ≡ None
unfolding in_use
no_zero size pages sound =
    let none = none_of (pages 0) (λ h. omega (arith, ((sound.counted 0).0 h).0)) in
    none_of (in_use size pages 0) (λ h. let trunks = trunks_of (unlocked size pages) (header_in pages) in
    elim (cases_eq (times_free (unlocked size pages) trunks 0) 0) [
      | inl free ↦ elim (cases_eq 0 (lock_page size)) [
        | inl lock ↦ (let x = rw (live_unlisted (unlocked size pages) trunks 0 free, unlocked_lock size pages 0 lock) at h in cc)
        | inr other ↦ (let x = rw (live_unlisted (unlocked size pages) trunks 0 free, unlocked_other size pages 0 other, none) at h in cc)
      ]
      | inr taken ↦ (let x = rw (live_listed (unlocked size pages) trunks 0 (omega arith)) at h in cc)
    ])

live : (size : ℕ) (layout : Layout) (shape : Shape) (root : ℕ) → 0 < shape_code shape → shape_code shape < 3 → IsKept size layout shape root → (layout.nodes root ≢ []) × (is_present shape ≡ true)
live size layout Absent root a b kept = absurd (omega (arith, a))
live size layout Table root a b kept = (stored_root_live kept.1.stored, refl)
live size layout (Index o) root a b kept = (stored_root_live kept.1.stored, refl)
live size layout Pageless root a b kept = absurd (omega (arith, b))
live size layout FrozenTable root a b kept = absurd (omega (arith, b))
live size layout (FrozenIndex o) root a b kept = absurd (omega (arith, b))

module _ (size : ℕ) (ws : List Wanted) (pages : PageMap) (file : IsFile size ws pages) where
  abbrev entries : List Row
  entries = rows_at size (in_use size pages) Table 1

  pub entry_of : (t : ℕ) (r : Row) → t < 65536 → find (has_rowid (pos (t + 1))) (listed_from 0 ws) ≡ Some r → 0 < number_in (column r 5) → number_in (column r 5) < 3
      → Entry entries (column r 1) (column r 2) (column r 3) (column r 4)
  unfolding roots_of
  entry_of t r low found some few =
      let is : row_for (listed_from 0 ws) t ≡ r = ap (λ o. unwrap_or o []) found in
      let code : shape_code (shape_at ws t) ≡ number_in (column r 5) = shape_is t (omega (arith, low)) (omega (arith, low)) ws ∙ ap (λ (r : Row). number_in (column r 5)) is in
      let db = file.db in
      let root = get_or (roots_of size ws (in_use size pages)) t 0 in
      let laid = live size (db.layouts (suc t)) (shape_at ws t) root (omega (arith, code, some)) (omega (arith, code, few)) (db.trees.kept (suc t)) in
      let at : root ≡ root_by entries (column r 1) (column r 2) (column r 3) (column r 4) =
      root_at entries 0 ws t t (omega arith) laid.1 ∙ ap (λ (r : Row). root_by entries (column r 1) (column r 2) (column r 3) (column r 4)) is in
      rooted entries _ _ _ _ (λ zero. let x = sym ((db.trees.laid (suc t)).nodes root laid.0) ∙ ap (in_use size pages) (at ∙ zero) ∙ no_zero size pages file.sound in cc)

-- what a row says that is a text or NULL, another row with the same entry says too
pub record SaysTheSame (a b : Row) : Type 0 where
  pub kind : column b 1 ≡ column a 1
  pub name : column b 2 ≡ column a 2
  pub table : column b 3 ≡ column a 3
  pub sql : column b 4 ≡ column a 4

-- each of these columns is a text or NULL
pub record IsWorded (r : Row) : Type 0 where
  pub kind : IsWord (column r 1)
  pub name : IsWord (column r 2)
  pub table : IsWord (column r 3)
  pub sql : IsWord (column r 4)

pub says_the_same : (entries : List Row) (a b : Row) (t : List ℕ) → are_in_order [] (map (head_at 1) entries) ≡ true → IsWorded a → column a 2 ≡ Text t → column b 2 ≡ Text t
    → Entry entries (column a 1) (column a 2) (column a 3) (column a 4) → Entry entries (column b 1) (column b 2) (column b 3) (column b 4) → SaysTheSame a b
says_the_same entries a b t up words named other e f =
    let name_of_e = before_text (column e.entry 2) t (subst (λ v. same_value (column e.entry 2) v ≡ true) named e.name_is) in
    let name_of_f = before_text (column f.entry 2) t (subst (λ v. same_value (column f.entry 2) v ≡ true) other f.name_is) in
    let one : f.entry ≡ e.entry = sym (named_once [] entries e.entry f.entry up e.there f.there (name_of_e ∙ sym name_of_f)) in
    record {
      kind = through (column e.entry 1) (column a 1) (column b 1) words.kind e.kind_is (subst (λ (r : Row). same_value (column r 1) (column b 1) ≡ true) one f.kind_is);
      name = other ∙ sym named;
      table = through (column e.entry 3) (column a 3) (column b 3) words.table e.table_is (subst (λ (r : Row). same_value (column r 3) (column b 3) ≡ true) one f.table_is);
      sql = through (column e.entry 5) (column a 4) (column b 4) words.sql e.sql_is (subst (λ (r : Row). same_value (column r 5) (column b 4) ≡ true) one f.sql_is);
    }
