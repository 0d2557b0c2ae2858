-- What the statements on `trail` do.
use Rattle.station_rows.proofs.Common.{Edits, Eq, Executes, Gt, Int, IsInside, IsKeyedBy-insert_by, IsPlaced, Ok, State, TrailLine, [], at_ints, cast_int, cast_null, edits_trail, false, filter, insert_by, insert_ran, insert_trail_text, is_line_after, is_line_of, last_term, puts, refl, station_schema, tables_of, trail, trail_id, trail_row, trail_shown, typed_trail, value_rows, with_trail_line, ℕ, ℤ, ◌∷◌}
use Rattle.station_rows.proofs.NumberedLemmas.{all_listed, lists}
use Rattle.station_rows.proofs.Terms.{Lists}
use Rattle.station_rows.proofs.Texts.{after_trail_is, all_trail_is, insert_trail_is, of_trail_is, trail_terms}

trail_placed : IsPlaced station_schema 7 trail
trail_placed = record { there = refl; uncounted = refl; unstamped = refl; idle = λ _ _ _. refl }

pub inserts_trail : (old new : State) (t : TrailLine) (count : ℕ) → IsInside old → Executes insert_trail_text (trail_shown t) old new (Ok count) → Edits old new (with_trail_line t)
inserts_trail old new t count inside h =
    let was = typed_trail old.now inside.station in
    let ran = insert_ran station_schema old new inside.station.schema 7 trail trail_placed insert_trail_text (trail_shown t) count h trail_terms 4 insert_trail_is in
    let put = puts trail_id trail_row (λ _. refl) station_schema _ trail old.now.trees new.now.trees (tables_of old.now.trees).trail was.rows (value_rows (trail_shown t) 4 1 trail_terms) t
    (rw (cast_null, cast_int t.number, cast_int t.awb)) ran.applies in
    edits_trail old new inside ran.kept ran.applies.tables ran.shown (λ xs. insert_by trail_id xs t) put.rows (IsKeyedBy-insert_by trail_id _ t was.keyed)

pub lists_all_trail_lines : Lists all_trail_is [] trail_shown (λ tables. tables.trail)
lists_all_trail_lines = all_listed (lists typed_trail (λ _. refl) (λ tables. tables.trail) (λ _. refl) all_trail_is _ _ (λ _. refl) _ (λ _. refl))

pub lists_trail_after : (number : ℤ) → Lists after_trail_is (Int number ∷ []) trail_shown (λ tables. filter (is_line_after number) tables.trail)
lists_trail_after number = lists typed_trail (λ _. refl) (λ tables. tables.trail) (λ _. refl) after_trail_is _ _ (λ t. last_term (at_ints false Gt t.number number)) _ (λ _. refl)

pub lists_trail_of : (awb : ℤ) → Lists of_trail_is (Int awb ∷ []) trail_shown (λ tables. filter (is_line_of awb) tables.trail)
lists_trail_of awb = lists typed_trail (λ _. refl) (λ tables. tables.trail) (λ _. refl) of_trail_is _ _ (λ t. last_term (at_ints false Eq t.awb awb)) _ (λ _. refl)
