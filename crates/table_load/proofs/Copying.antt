-- What the statements on a station of version 2 do.
use Rattle.std.proofs.Common.{◌≡◌, ℕ, ℤ, pos, List, [], ◌∷◌, Ok, true, false, map, filter, fold, refl, sym, ap, ◌∙◌, map-id, int_eq, IsPermutation}
use Rattle.table_load.proofs.Common.{CommitsBy, Edits, Eq, Executes, Int, IsInside, IsKeyedBy, Null, OldWaybill, Row, State, Station, Survives, Text, any_rows, asks, at_ints, clearing, copying, execute_survives, insert_by, last_key, last_term, list_all, map-map, map_same, old_waybill_id, old_waybill_row, one_table, overlay, puts_all, raising, removed_any, seen, station, station_id, station_in, station_row, station_schema, tables_of, typed_old_waybills, typed_stations, typed_waybills, undated, value_cmp-Int, waybill, waybill2, waybill_id, waybill_row}
use Rattle.sqlite.specs.Term.{col, holds}
use Rattle.sqlite.specs.Cast.{cast_row}
use Rattle.sqlite_keyed.specs.Lists.{update_where, delete_where}
use Rattle.sqlite_keyed.proofs.KeyedLemmas.{IsKeyedBy-insert_by}
use Rattle.sqlite_typed.proofs.AnswerLemmas.{answer_by_keys}
use Rattle.station_schema.proofs.Listed.{changed_at}
use Rattle.station_schema.proofs.Ran.{IsPlaced, select_ran, update_ran, delete_ran}
use Rattle.station_schema.proofs.Shared.{cast_int, cast_null}
use Rattle.station_schema.proofs.StationLemmas.{station_placed}
use Rattle.station_schema.proofs.Stored.{edits_stations, edits_old_waybills, edits_waybills}
use Rattle.table_load.proofs.UpgradeTexts.{copy_text, copy_terms, copy_query, copy_is, clear_text, clear_is, raise_text, raise_terms, raise_is, station_is}

waybill_placed : IsPlaced station_schema 1 waybill
waybill_placed = record { there = refl; uncounted = refl; unstamped = refl; idle = λ _ _ _. refl }

waybill2_placed : IsPlaced station_schema 13 waybill2
waybill2_placed = record { there = refl; uncounted = refl; unstamped = refl; idle = λ _ _ _. refl }

all_kept : {X : Type 0} (xs : List X) → filter (λ _. true) xs ≡ xs
all_kept [] = refl
all_kept (x ∷ xs) = ap (λ l. x ∷ l) (all_kept xs)

none_left : {X : Type 0} (xs : List X) → delete_where (λ _. true) xs ≡ []
none_left [] = refl
none_left (x ∷ xs) = none_left xs

-- rows that are put into a list in the order of its keys
all_keyed : {X : Type 0} (key : X → ℤ) (news xs : List X) → IsKeyedBy key xs → IsKeyedBy key (fold (insert_by key) xs news)
all_keyed key [] xs up = up
all_keyed key (n ∷ news) xs up = all_keyed key news (insert_by key xs n) (IsKeyedBy-insert_by key xs n up)

-- ---- waybill2 from waybill

copy_shown : OldWaybill → Row
copy_shown w = Int w.awb ∷ Null ∷ Text w.origin ∷ Text w.destination ∷ Int w.pieces ∷ Int w.tenths ∷ Text w.goods ∷ Int w.notified ∷ Int (pos 0) ∷ []

copied_row : (w : OldWaybill) → cast_row waybill2 (copy_shown w) ≡ waybill_row (undated w)
unfolding copy_shown
copied_row w = rw (cast_null, cast_int w.awb, cast_int w.pieces, cast_int w.tenths, cast_int w.notified, cast_int (pos 0)) refl

copied_rows : (olds : List OldWaybill) → map (λ s. cast_row waybill2 s) (map copy_shown olds) ≡ map waybill_row (map undated olds)
copied_rows olds = map-map (λ s. cast_row waybill2 s) copy_shown olds ∙ map_same _ (λ w. waybill_row (undated w)) copied_row olds ∙ sym (map-map waybill_row undated olds)

pub copies : (old new : State) (count : ℕ) → IsInside old → Executes copy_text [] old new (Ok count) → Edits old new copying
unfolding copy_shown
copies old new count inside h =
    let was = typed_old_waybills old.now inside.station in
    let there = typed_waybills old.now inside.station in
    let olds = (tables_of old.now.trees).old_waybills in
    let ran = select_ran station_schema old new inside.station.schema 13 waybill2 waybill2_placed copy_text [] count h (asks copy_query) copy_is in
    let source = seen old_waybill_id old_waybill_row (λ _. refl) station_schema old.now.trees 1 olds was.rows was.keyed [] [] copy_terms (λ _. true) (λ _. refl) copy_shown (λ _. refl) in
    let answer : map (λ (r : Row). r) ran.0 ≡ map copy_shown (filter (λ _. true) olds) =
    answer_by_keys copy_query (overlay old.now.trees []) [] source (λ _. true) (λ _. refl) (λ r. r) copy_shown (λ _. refl) refl refl (λ a b. last_key (value_cmp-Int a.awb b.awb)) ran.0 (ran.1.answer Null) in
    let rows : ran.0 ≡ map copy_shown olds = sym (map-id ran.0) ∙ answer ∙ ap (map copy_shown) (all_kept olds) in
    let news : map (λ s. cast_row waybill2 s) ran.0 ≡ map waybill_row (map undated olds) = ap (map (λ s. cast_row waybill2 s)) rows ∙ copied_rows olds in
    let put = puts_all waybill_id waybill_row (λ _. refl) station_schema _ waybill2 old.now.trees new.now.trees (tables_of old.now.trees).waybills there.rows ran.0 (map undated olds) news ran.2.applies in
    let e = edits_waybills old new inside ran.2.kept ran.2.applies.tables ran.2.shown (λ xs. fold (insert_by waybill_id) xs (map undated olds)) put (all_keyed waybill_id (map undated olds) (tables_of old.now.trees).waybills there.keyed) in
    record { station = e.station; tables = e.tables; shown = e.shown }

pub copy_survives : (old new : State) → Survives old new (CommitsBy copy_text [] old) → Survives old new (λ _. ¬ IsInside old)
copy_survives old new = execute_survives copy_text [] old new _ copy_is.0 ((λ e. cc), λ _ e. cc)

-- ---- waybill is emptied

id_shown : OldWaybill → Row
id_shown w = Int w.awb ∷ []

pub clears : (old new : State) (count : ℕ) → IsInside old → Executes clear_text [] old new (Ok count) → Edits old new clearing
unfolding id_shown
clears old new count inside h =
    let was = typed_old_waybills old.now inside.station in
    let olds = (tables_of old.now.trees).old_waybills in
    let ran = delete_ran station_schema old new inside.station.schema 1 waybill waybill_placed clear_text [] count h (asks (one_table 1 [] (col 1 0 ∷ []) [])) clear_is in
    let rows : IsPermutation (map id_shown (filter (λ _. true) olds)) ran.0 =
    any_rows old_waybill_id old_waybill_row (λ _. refl) station_schema old.now.trees 1 olds was.rows was.keyed [] [] (col 1 0 ∷ []) (λ _. true) (λ _. refl) id_shown (λ _. refl) ran.0 ran.1 in
    let gone : new.now.trees 1 ≡ map old_waybill_row (delete_where (λ _. true) olds) =
    removed_any old_waybill_id old_waybill_row (λ _. refl) station_schema _ waybill old.now.trees new.now.trees olds was.rows was.keyed (λ _. true) id_shown (λ _. refl) ran.0 rows ran.2.applies in
    edits_old_waybills old new inside ran.2.kept ran.2.applies.tables ran.2.shown (λ _. []) (gone ∙ ap (map old_waybill_row) (none_left olds)) tt

pub clear_survives : (old new : State) → Survives old new (CommitsBy clear_text [] old) → Survives old new (λ _. ¬ IsInside old)
clear_survives old new = execute_survives clear_text [] old new _ clear_is.0 ((λ e. cc), λ _ e. cc)

-- ---- the version

at_one : (params : Row) (s : Station) → list_all (holds (params ∷ station_row s ∷ [])) station_is ≡ int_eq s.id (pos 1)
at_one params s = last_term (at_ints false Eq s.id (pos 1))

pub raises : (old new : State) (count : ℕ) → IsInside old → Executes raise_text [] old new (Ok count) → Edits old new raising
raises old new count inside h =
    let was = typed_stations old.now inside.station in
    let ran = update_ran station_schema old new inside.station.schema 0 station station_placed raise_text [] count h (asks (one_table 0 station_is raise_terms [])) raise_is in
    let f = λ (s : Station). record s { version = pos 2 } in
    let now = changed_at station_id station_row (λ _. refl) station_in station_schema _ station old.now.trees new.now.trees was [] station_is raise_terms (pos 1) (at_one [])
    (λ s. Int s.id ∷ Int s.id ∷ Null ∷ Text s.airport ∷ Int (pos 2) ∷ Int s.confirmed ∷ []) (λ _. refl) (λ _. refl) f (λ _. refl)
    (λ s. rw (cast_null, cast_int s.id, cast_int (pos 2), cast_int s.confirmed)) ran.0 ran.1 ran.2.applies in
    edits_stations old new inside ran.2.kept ran.2.applies.tables ran.2.shown (λ xs. update_where (λ s. int_eq (station_id s) (pos 1)) f xs) now.rows now.up

pub raise_survives : (old new : State) → Survives old new (CommitsBy raise_text [] old) → Survives old new (λ _. ¬ IsInside old)
raise_survives old new = execute_survives raise_text [] old new _ raise_is.0 ((λ e. cc), λ _ e. cc)
