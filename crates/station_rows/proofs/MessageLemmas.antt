-- What the statements on `outbox` do.
use Rattle.station_rows.proofs.Common.{Edits, Executes, Gt, Int, IsInside, IsKeyedBy-insert_by, IsPlaced, Message, Ok, State, [], at_ints, cast_int, cast_null, edits_outbox, false, filter, insert_by, insert_message_text, insert_ran, is_message_after, last_term, message_id, message_row, message_shown, outbox, puts, refl, station_schema, tables_of, typed_outbox, value_rows, with_message, ℕ, ℤ, ◌∷◌}
use Rattle.station_rows.proofs.NumberedLemmas.{lists}
use Rattle.station_rows.proofs.Terms.{Lists}
use Rattle.station_rows.proofs.Texts.{after_message_is, insert_message_is, message_terms}

message_placed : IsPlaced station_schema 8 outbox
message_placed = record { there = refl; uncounted = refl; unstamped = refl; idle = λ _ _ _. refl }

pub inserts_message : (old new : State) (m : Message) (count : ℕ) → IsInside old → Executes insert_message_text (message_shown m) old new (Ok count) → Edits old new (with_message m)
inserts_message old new m count inside h =
    let was = typed_outbox old.now inside.station in
    let ran = insert_ran station_schema old new inside.station.schema 8 outbox message_placed insert_message_text (message_shown m) count h message_terms 3 insert_message_is in
    let put = puts message_id message_row (λ _. refl) station_schema _ outbox old.now.trees new.now.trees (tables_of old.now.trees).outbox was.rows (value_rows (message_shown m) 3 1 message_terms) m
    (rw (cast_null, cast_int m.number)) ran.applies in
    edits_outbox old new inside ran.kept ran.applies.tables ran.shown (λ xs. insert_by message_id xs m) put.rows (IsKeyedBy-insert_by message_id _ m was.keyed)

pub lists_message : (number : ℤ) → Lists after_message_is (Int number ∷ []) message_shown (λ tables. filter (is_message_after number) tables.outbox)
lists_message number = lists typed_outbox (λ _. refl) (λ tables. tables.outbox) (λ _. refl) after_message_is _ _ (λ m. last_term (at_ints false Gt m.number number)) _ (λ _. refl)
