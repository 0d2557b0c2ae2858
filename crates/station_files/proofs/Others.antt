-- Each call of a store leaves the trees of other programs as they were.
use Rattle.station_files.proofs.Common.{AreApart, AreCalls, Creates, Err, GoesBack, Has, IfErr, IsClean, IsFailure, IsQuiet, IsTrue, List, Marks, MayShow, Object, Ok, OnOk, Option, Releases, Result, Row, SameOthers, SetsTree, Shape, Shows, Snapshot, SparesOthers, StoreError, Trees, View, [], ap, arith, catalog_tree, false, get_or_default, has_at, has_either, has_front, inl, inr, length, newest, object_row, on_ok_weaker, put_row, refl, row_for, slice_index, slice_index_or, snapshot, subst, sym, take, take-append-drop, unwrap_or, version_tree, with_tree, ℕ, ◌-◌, ◌<◌, ◌∙◌, ◌∷◌, ◌≡◌, ◌≢◌}
use Rattle.sqlite_trees.specs.declared.store.Store.{Ghosts}
use Rattle.station_files.proofs.Owning.{last, other_found, set_other}

pub same_others : (numbers : List ℕ) (db : Trees) → SameOthers numbers db db
same_others numbers db = record { rows = λ t other. refl; listed = λ t other. refl }

pub same_after : {numbers : List ℕ} {first was db : Trees} → SameOthers numbers first was → SameOthers numbers was db → SameOthers numbers first db
same_after one two = record { rows = λ t other. two.rows t other ∙ one.rows t other; listed = λ t other. two.listed t other ∙ one.listed t other }

-- what a store shows after a call, it showed before, but for the trees with these numbers
pub record ShowsOnly (numbers : List ℕ) (a b : View) : Type 0 where
  pub each : (db : Trees) → Shows b db → (was : Trees) × Shows a was × SameOthers numbers was db

-- one tree with these numbers is edited, or made
module _ {numbers : List ℕ} (apart : AreApart numbers) {t n : ℕ} (low : t < length numbers) (is : n ≡ slice_index numbers t) (trees : Trees) where
  edited : (es : List Row) → SameOthers numbers trees (with_tree trees n es)
  edited es = record {
    rows = λ k other. set_other trees n es k (λ same. other.apart t low (sym is ∙ sym same));
    listed = λ k other. ap (λ rows. row_for rows k) (set_other trees n es catalog_tree (λ same. absurd (omega (arith, apart.low t low, is, same))));
  }

  made : (o : Object) → SameOthers numbers trees (with_tree (with_tree trees n []) catalog_tree (put_row (object_row n o) (trees catalog_tree)))
  made o = record {
    rows = λ k other. set_other (with_tree trees n []) catalog_tree _ k other.unlisting ∙ (edited []).rows k other;
    listed = λ k other. ap (λ (o : Option Row). unwrap_or o []) (other_found n o k (trees catalog_tree) (λ same. other.apart t low (sym is ∙ sym same)));
  }

-- the newest mark is one of them
has_newest : {X : Type 0} (xs : List X) (d : X) → xs ≢ [] → Has xs (slice_index_or xs (length xs - 1) d)
has_newest xs d some = has_at xs (length xs - 1) _ (last xs some) (get_or_default xs (length xs - 1) d _ (last xs some))

module _ (numbers : List ℕ) (a b : View) where
  as_shown : (db : Trees) → Shows a db → (was : Trees) × Shows a was × SameOthers numbers was db
  as_shown db was = (db, was, same_others numbers db)

  marked : (ms : List Snapshot) (db : Trees) → IsTrue a.is_open → ((m : Snapshot) → Has ms m → Has a.marks m) → (m : Snapshot) × Has ms m × (db ≡ m.trees)
      → (was : Trees) × Shows a was × SameOthers numbers was db
  marked ms db on each m = as_shown db (inr (on, (m.0, each m.0 m.1, m.2)))

  -- one tree is edited
  pub edits : {trees : Trees} {shape : ℕ → Shape} {reals : ℕ → ℕ} {cursors : ℕ → Option (List Row)} → SameOthers numbers a.trees trees → a.is_broken ≡ false
      → b ≡ record a { trees = trees; shape = shape; reals = reals; cursors = cursors } → ShowsOnly numbers a b
  edits same sound is = record {
    each = λ db shows. elim (subst (λ (v : View). Shows v db) is shows) [
      | inl now ↦ (a.trees, inl (sound, refl), subst (SameOthers numbers a.trees) (sym now.1) same)
      | inr back ↦ as_shown db (inr back)
    ];
  }

  pub keeps : {cursors : ℕ → Option (List Row)} → b ≡ record a { cursors = cursors } → ShowsOnly numbers a b
  keeps is = record { each = λ db shows. as_shown db (subst (λ (v : View). Shows v db) is shows) }

  pub sets : AreApart numbers → {t n : ℕ} {edit : List Row → List Row} → t < length numbers → n ≡ slice_index numbers t → SetsTree a b n edit → ShowsOnly numbers a b
  sets apart low is one = edits (edited apart low is a.trees _) one.sound one.is

  pub sets_version : {edit : List Row → List Row} → SetsTree a b version_tree edit → ShowsOnly numbers a b
  sets_version one = edits (record { rows = λ k other. set_other a.trees version_tree _ k other.unversioned; listed = λ k other. refl }) one.sound one.is

  pub creates : AreApart numbers → {t n : ℕ} (o : Object) → t < length numbers → n ≡ slice_index numbers t → Creates a b n o → ShowsOnly numbers a b
  creates apart o low is one = edits (made apart low is a.trees o) one.sound one.is

  pub fails : {e : StoreError} → IsFailure a b e → ShowsOnly numbers a b
  fails err = record {
    each = λ db shows. elim shows [
      | inl now ↦ (keeps (err.unchanged now.0)).each db (inl now)
      | inr (on, m) ↦ marked b.marks db (err.kept.was_open on) (λ x has. subst (λ (ms : List Snapshot). Has ms x) (err.kept.marks on) has) m
    ];
  }

  pub sets_mark : Marks a b → ShowsOnly numbers a b
  sets_mark marks = record {
    each = λ db shows. elim (subst (λ (v : View). Shows v db) marks.is shows) [
      | inl now ↦ as_shown db (inl (marks.sound, now.1))
      | inr (on, (m, has, is)) ↦ elim (has_either a.marks (snapshot a ∷ []) m has) [
        | inl old ↦ as_shown db (inr (on, (m, old, is)))
        | inr (inl new) ↦ as_shown db (inl (marks.sound, is ∙ ap (λ (x : Snapshot). x.trees) new))
        | inr (inr none) ↦ absurd none
      ]
    ];
  }

  pub releases : Releases a b → ShowsOnly numbers a b
  releases is = record {
    each = λ db shows. elim (subst (λ (v : View). Shows v db) is shows) [
      | inl now ↦ as_shown db (inl now)
      | inr (on, m) ↦ marked _ db on (λ x has. has_front a.marks (take (length a.marks - 1) a.marks) _ x (sym (take-append-drop (length a.marks - 1) a.marks)) has) m
    ];
  }

  pub goes_back : (a.marks ≡ [] → b ≡ a) → (a.marks ≢ [] → GoesBack a b) → ShowsOnly numbers a b
  goes_back none some = go a.marks refl
    where
      go : (ms : List Snapshot) → a.marks ≡ ms → ShowsOnly numbers a b
      go [] is = keeps (none is)
      go (x ∷ xs) is =
          let newer = λ (no : a.marks ≡ []). absurd (cc) in
          let back = some newer in
          record {
            each = λ db shows. elim (subst (λ (v : View). Shows v db) back.is shows) [
              | inl now ↦ as_shown db (inr (back.was_open, (newest a, has_newest a.marks (snapshot a) newer, now.1)))
              | inr (on, m) ↦ as_shown db (inr (back.was_open, m))
            ];
          }

module _ {S : Type 0} (g : Ghosts S) (numbers : List ℕ) (old new : S) where
  abbrev a : View
  a = g.view old

  abbrev b : View
  b = g.view new

  -- a call that commits nothing
  pub spares : IsQuiet g.view g.faults g.recovers g.is_shielded old new → (IsClean b → ShowsOnly numbers a b) → SparesOthers g numbers old new
  spares quiet only = record {
    clean = λ clean. omega (arith, quiet.clean, clean);
    others = λ clean db may. elim may [ inl now ↦ let was = (only clean).each db now in (was.0, inl was.1, was.2) | inr left ↦ (db, inr (quiet.outcomes db left), same_others numbers db) ];
  }

  pub spares_after : IsQuiet g.view g.faults g.recovers g.is_shielded old new → {X : Type 0} (r : Result X StoreError) → OnOk r (IsClean b → ShowsOnly numbers a b) → IfErr r (IsFailure a b)
      → SparesOthers g numbers old new
  spares_after quiet (Ok x) done err = spares quiet done
  spares_after quiet (Err e) done err = spares quiet (λ clean. fails numbers a b err)

  -- a call that edits one of the trees with these numbers
  pub spares_set : AreApart numbers → {t n : ℕ} (edit : List Row → List Row) → t < length numbers → n ≡ slice_index numbers t → IsQuiet g.view g.faults g.recovers g.is_shielded old new
      → {X : Type 0} (r : Result X StoreError) → OnOk r (IsClean b → SetsTree a b n edit) → IfErr r (IsFailure a b) → SparesOthers g numbers old new
  spares_set apart edit low is quiet r done err = spares_after quiet r (on_ok_weaker r (λ h clean. sets numbers a b apart low is (h clean)) done) err

-- calls, one after another
module _ {S X : Type 0} (g : Ghosts S) (own : Ghosts X) (inner : X → S) (numbers : X → List ℕ)
    (steps : (old new : X) (tree : Option ℕ) → own.is_step old new tree → SparesOthers g (numbers old) (inner old) (inner new) × (numbers new ≡ numbers old)) where
  pub calls_spare : (first : X) (calls : List (X × Option ℕ)) (end : X) → AreCalls own first calls end → SparesOthers g (numbers first) (inner first) (inner end)
  calls_spare first [] end same = record {
    clean = λ clean. subst (λ x. IsClean (g.view (inner x))) same clean;
    others = λ clean db may. (db, subst (λ x. MayShow g (inner x) db) same may, same_others (numbers first) db);
  }
  calls_spare first ((mid, tree) ∷ more) end (step, on) =
      let rest = calls_spare mid more end on in
      let one = steps first mid tree step in
      record {
        clean = λ clean. one.0.clean (rest.clean clean);
        others = λ clean db may.
            let late = rest.others clean db may in
            let early = one.0.others (rest.clean clean) late.0 late.1 in
            (early.0, early.1, same_after early.2 (subst (λ n. SameOthers n late.0 db) one.1 late.2));
      }
