-- What the statements on `waybill2` do.
use Rattle.station_rows.proofs.Common.{Edits, Eq, Executes, Int, IsInside, IsKeyedBy, IsKeyedBy-insert_by, IsPlaced, IsStation, Null, Ok, Row, State, Text, Waybill, [], asks, at_ints, cast_int, cast_null, changed_at, changing_waybill, edits_waybills, false, get_by, holds, insert_by, insert_ran, insert_waybill_text, int_eq, last_term, list_all, one_table, option_to_list, puts, refl, station_schema, tables_of, typed_waybills, update_ran, update_waybill_text, update_where, value_rows, waybill2, waybill_id, waybill_in, waybill_row, waybill_shown, with_waybill, ℕ, ℤ, ◌∷◌, ◌≡◌}
use Rattle.station_rows.proofs.NumberedLemmas.{all_listed, gets, lists}
use Rattle.station_rows.proofs.Terms.{Lists}
use Rattle.station_rows.proofs.Texts.{all_waybill_is, get_waybill_is, insert_waybill_is, update_waybill_is, update_waybill_terms, waybill_key_is, waybill_terms}

waybill_placed : IsPlaced station_schema 13 waybill2
waybill_placed = record { there = refl; uncounted = refl; unstamped = refl; idle = λ _ _ _. refl }

-- WHERE awb = ?1
at_key : (id : ℤ) (more : Row) (w : Waybill) → list_all (holds ((Int id ∷ more) ∷ waybill_row w ∷ [])) waybill_key_is ≡ int_eq w.awb id
at_key id more w = last_term (at_ints false Eq w.awb id)

pub inserts_waybill : (old new : State) (w : Waybill) (count : ℕ) → IsInside old → Executes insert_waybill_text (waybill_shown w) old new (Ok count) → Edits old new (with_waybill w)
inserts_waybill old new w count inside h =
    let was = typed_waybills old.now inside.station in
    let ran = insert_ran station_schema old new inside.station.schema 13 waybill2 waybill_placed insert_waybill_text (waybill_shown w) count h waybill_terms 9 insert_waybill_is in
    let put = puts waybill_id waybill_row (λ _. refl) station_schema _ waybill2 old.now.trees new.now.trees (tables_of old.now.trees).waybills was.rows (value_rows (waybill_shown w) 9 1 waybill_terms) w
    (rw (cast_null, cast_int w.awb, cast_int w.pieces, cast_int w.tenths, cast_int w.notified, cast_int w.since)) ran.applies in
    edits_waybills old new inside ran.kept ran.applies.tables ran.shown (λ xs. insert_by waybill_id xs w) put.rows (IsKeyedBy-insert_by waybill_id _ w was.keyed)

pub updates_waybill : (old new : State) (w : Waybill) (count : ℕ) → IsInside old → Executes update_waybill_text (waybill_shown w) old new (Ok count) → Edits old new (changing_waybill w)
updates_waybill old new w count inside h =
    let was = typed_waybills old.now inside.station in
    let ran = update_ran station_schema old new inside.station.schema 13 waybill2 waybill_placed update_waybill_text (waybill_shown w) count h (asks (one_table 22 waybill_key_is update_waybill_terms [])) update_waybill_is in
    let f = λ (x : Waybill). record w { awb = x.awb } in
    let now = changed_at waybill_id waybill_row (λ _. refl) waybill_in station_schema _ waybill2 old.now.trees new.now.trees was (waybill_shown w) waybill_key_is update_waybill_terms w.awb (at_key w.awb (Text w.origin ∷ Text w.destination ∷ Int w.pieces ∷ Int w.tenths ∷ Text w.goods ∷ Int w.notified ∷ Int w.since ∷ []))
    (λ x. Int x.awb ∷ Int x.awb ∷ Null ∷ Text w.origin ∷ Text w.destination ∷ Int w.pieces ∷ Int w.tenths ∷ Text w.goods ∷ Int w.notified ∷ Int w.since ∷ []) (λ _. refl) (λ _. refl) f (λ _. refl)
    (λ x. rw (cast_null, cast_int x.awb, cast_int w.pieces, cast_int w.tenths, cast_int w.notified, cast_int w.since)) ran.0 ran.1 ran.2.applies in
    edits_waybills old new inside ran.2.kept ran.2.applies.tables ran.2.shown (λ xs. update_where (λ x. int_eq (waybill_id x) w.awb) f xs) now.rows now.up

pub gets_waybill : (id : ℤ) → Lists get_waybill_is (Int id ∷ []) waybill_shown (λ tables. option_to_list (get_by waybill_id tables.waybills id))
gets_waybill id = gets typed_waybills (λ _. refl) (λ tables. tables.waybills) (λ _. refl) get_waybill_is _ id (at_key id []) _ (λ _. refl)

pub lists_all_waybills : Lists all_waybill_is [] waybill_shown (λ tables. tables.waybills)
lists_all_waybills = all_listed (lists typed_waybills (λ _. refl) (λ tables. tables.waybills) (λ _. refl) all_waybill_is _ _ (λ _. refl) _ (λ _. refl))

-- the numbers ascend
pub waybills_ascend : (s : State) → IsStation s.now → IsKeyedBy waybill_id (tables_of s.now.trees).waybills
waybills_ascend s was = (typed_waybills s.now was).keyed
