-- What the statements on `moves` do.
use Rattle.station_rows.proofs.Common.{Le, is_flown_within, Edits, Eq, Executes, Gt, Int, IsInside, IsKeyedBy-insert_by, IsPlaced, List, Move, Ok, State, Text, [], at_ints, at_texts, cast_int, cast_null, edits_moves, false, filter, insert_by, insert_move_text, insert_ran, is_flown, is_move_after, is_of, last_term, move_id, move_row, move_shown, moves, puts, refl, station_schema, tables_of, then_term, typed_moves, value_rows, with_move, ℕ, ℤ, ◌∷◌}
use Rattle.station_rows.proofs.NumberedLemmas.{all_listed, lists}
use Rattle.station_rows.proofs.Terms.{Lists}
use Rattle.station_rows.proofs.Texts.{after_move_is, all_move_is, flown_move_is, insert_move_is, list_move_is, move_terms, within_move_is}

move_placed : IsPlaced station_schema 4 moves
move_placed = record { there = refl; uncounted = refl; unstamped = refl; idle = λ _ _ _. refl }

pub inserts_move : (old new : State) (m : Move) (count : ℕ) → IsInside old → Executes insert_move_text (move_shown m) old new (Ok count) → Edits old new (with_move m)
inserts_move old new m count inside h =
    let was = typed_moves old.now inside.station in
    let ran = insert_ran station_schema old new inside.station.schema 4 moves move_placed insert_move_text (move_shown m) count h move_terms 11 insert_move_is in
    let put = puts move_id move_row (λ _. refl) station_schema _ moves old.now.trees new.now.trees (tables_of old.now.trees).moves was.rows (value_rows (move_shown m) 11 1 move_terms) m
    (rw (cast_null, cast_int m.number, cast_int m.awb, cast_int m.src, cast_int m.dst, cast_int m.pieces, cast_int m.tenths, cast_int m.fday, cast_int m.day, cast_int m.minute)) ran.applies in
    edits_moves old new inside ran.kept ran.applies.tables ran.shown (λ xs. insert_by move_id xs m) put.rows (IsKeyedBy-insert_by move_id _ m was.keyed)

pub lists_move : (awb : ℤ) → Lists list_move_is (Int awb ∷ []) move_shown (λ tables. filter (is_of awb) tables.moves)
lists_move awb = lists typed_moves (λ _. refl) (λ tables. tables.moves) (λ _. refl) list_move_is _ _ (λ m. last_term (at_ints false Eq m.awb awb)) _ (λ _. refl)

pub lists_all_moves : Lists all_move_is [] move_shown (λ tables. tables.moves)
lists_all_moves = all_listed (lists typed_moves (λ _. refl) (λ tables. tables.moves) (λ _. refl) all_move_is _ _ (λ _. refl) _ (λ _. refl))

pub lists_after : (number : ℤ) → Lists after_move_is (Int number ∷ []) move_shown (λ tables. filter (is_move_after number) tables.moves)
lists_after number = lists typed_moves (λ _. refl) (λ tables. tables.moves) (λ _. refl) after_move_is _ _ (λ m. last_term (at_ints false Gt m.number number)) _ (λ _. refl)

pub lists_flown : (flight : List ℕ) (day : ℤ) → Lists flown_move_is (Text flight ∷ Int day ∷ []) move_shown (λ tables. filter (is_flown flight day) tables.moves)
lists_flown flight day = lists typed_moves (λ _. refl) (λ tables. tables.moves) (λ _. refl) flown_move_is _ _ (λ m. then_term (at_texts false Eq m.flight flight) (last_term (at_ints false Eq m.fday day))) _ (λ _. refl)

pub lists_within : (flight : List ℕ) (day after last : ℤ) → Lists within_move_is (Text flight ∷ Int day ∷ Int after ∷ Int last ∷ []) move_shown (λ tables. filter (is_flown_within flight day after last) tables.moves)
lists_within flight day after last =
    lists typed_moves (λ _. refl) (λ tables. tables.moves) (λ _. refl) within_move_is _ _
    (λ m. then_term (at_ints false Gt m.number after) (then_term (at_ints false Le m.number last) (then_term (at_texts false Eq m.flight flight) (last_term (at_ints false Eq m.fday day))))) _ (λ _. refl)
