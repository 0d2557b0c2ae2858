-- The entries of declarations as the rows of the readers.
use Rattle.std.proofs.Common.{◌≡◌, ◌∙◌, arith, ℕ, Bool, true, false, cond, ◌==◌, Option, Some, None, List, [], ◌∷◌, ◌++◌, map, option_map, find, refl, sym, ap, subst, Less}
use Rattle.state_store.proofs.Common.{AllByRecursion, AreAnnounced, Declared, IsStrictlySortedBy, MapState, Move, and_from, announced_by, below_all, cargo_of, common_steps, eqb-true, flat_map, flat_map-cons, has_come, is_at, is_lt, is_sorted, keys_of, lookup, nat_cmp, sorted_head, sorted_tail}
use Rattle.station_core.specs.declared.rows.AnnouncedRow.{AnnouncedRow}

key_is : (k w : ℕ) → is_at (nat_cmp w) k ≡ (w == k)
key_is k w = grind (arith, common_steps)

module _ (book : List Move) where
  abbrev rows_of : List (ℕ × Declared) → List AnnouncedRow
  rows_of es = flat_map (announced_by book) es

  abbrev pair : AnnouncedRow → ℕ × Declared
  pair row = (row.awb, row.declared)

  -- the row of an entry, if nothing of its waybill has come in, before the others
  abbrev put : Bool → ℕ × Declared → List (ℕ × Declared) → List AnnouncedRow
  put b e es = cond b [] (record { awb = e.0; declared = e.1 } ∷ []) ++ rows_of es

  put_is : (e : ℕ × Declared) (es : List (ℕ × Declared)) → rows_of (e ∷ es) ≡ put (has_come book e.0) e es
  put_is e es = flat_map-cons (announced_by book) e es

  below : (k : ℕ) (es : List (ℕ × Declared)) → AllByRecursion (λ y. nat_cmp k y ≡ Less) (keys_of es) → below_all nat_cmp k (map pair (rows_of es)) ≡ true
  below k [] h = refl
  below k (e ∷ es) h = ap (λ rows. below_all nat_cmp k (map pair rows)) (put_is e es) ∙ by_case (has_come book e.0) (below k es h.1)
    where
      by_case : (b : Bool) → below_all nat_cmp k (map pair (rows_of es)) ≡ true → below_all nat_cmp k (map pair (put b e es)) ≡ true
      by_case true rest = rest
      by_case false rest = and_from _ _ (ap is_lt h.0) rest

  rising : (es : List (ℕ × Declared)) → IsStrictlySortedBy nat_cmp (keys_of es) → is_sorted nat_cmp (map pair (rows_of es)) ≡ true
  rising [] h = refl
  rising (e ∷ es) h = ap (λ rows. is_sorted nat_cmp (map pair rows)) (put_is e es) ∙ by_case (has_come book e.0) (rising es (sorted_tail nat_cmp e.0 (keys_of es) h))
    where
      by_case : (b : Bool) → is_sorted nat_cmp (map pair (rows_of es)) ≡ true → is_sorted nat_cmp (map pair (put b e es)) ≡ true
      by_case true rest = rest
      by_case false rest = and_from _ _ (below e.0 es (sorted_head nat_cmp e.0 (keys_of es) h)) rest

  abbrev told : ℕ → List AnnouncedRow → Option Declared
  told w rows = option_map (λ row. row.declared) (find (λ row. w == row.awb) rows)

  same : (w : ℕ) (es : List (ℕ × Declared)) → cond (has_come book w) None (lookup (is_at (nat_cmp w)) es) ≡ told w (rows_of es)
  same w [] = none_both (has_come book w)
    where
      none_both : (b : Bool) → cond b None (lookup {X = Declared} (is_at (nat_cmp w)) []) ≡ None
      none_both true = refl
      none_both false = refl
  same w (e ∷ es) = ap (λ b. cond (has_come book w) None (cond b (Some e.1) (lookup (is_at (nat_cmp w)) es))) (key_is e.0 w) ∙ by_case (w == e.0) (has_come book e.0) refl refl (same w es) ∙ sym (ap (told w) (put_is e es))
    where
      come : (c : Bool) → (w == e.0) ≡ true → has_come book e.0 ≡ c → has_come book w ≡ c
      come c at h = ap (has_come book) (eqb-true w e.0 at) ∙ h

      by_case : (b c : Bool) → (w == e.0) ≡ b → has_come book e.0 ≡ c → cond (has_come book w) None (lookup (is_at (nat_cmp w)) es) ≡ told w (rows_of es)
          → cond (has_come book w) None (cond b (Some e.1) (lookup (is_at (nat_cmp w)) es)) ≡ told w (put c e es)
      by_case true true at h rest = ap (λ x. cond x None (Some e.1)) (come true at h) ∙ sym (ap (λ x. cond x None (lookup (is_at (nat_cmp w)) es)) (come true at h)) ∙ rest
      by_case true false at h rest = ap (λ x. cond x None (Some e.1)) (come false at h) ∙ sym (ap (λ x. option_map (λ (row : AnnouncedRow). row.declared) (cond x (Some (record { awb = e.0; declared = e.1 })) (find (λ row. w == row.awb) (rows_of es)))) at)
      by_case false true at h rest = rest
      by_case false false at h rest = rest ∙ sym (ap (λ x. option_map (λ (row : AnnouncedRow). row.declared) (cond x (Some (record { awb = e.0; declared = e.1 })) (find (λ row. w == row.awb) (rows_of es)))) at)

pub are_announced : (k : MapState) (rows : List AnnouncedRow) → IsStrictlySortedBy nat_cmp (keys_of k.declared.entries) → rows ≡ flat_map (announced_by k.book.moves.items) k.declared.entries → AreAnnounced (cargo_of k) rows
are_announced k rows ordered are = subst (AreAnnounced (cargo_of k)) (sym are) (record {
  rising = rising k.book.moves.items k.declared.entries ordered;
  same = λ w. same k.book.moves.items w k.declared.entries;
})
