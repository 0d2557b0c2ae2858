-- What a row holds as a text is one.
use Rattle.table_audits.proofs.Common.{Bool, IsUtf8-string_bytes, KeptKeyEntry, List, MessageRow, [], and_from, ap, false, is_airport, is_count, is_day, is_flight_text, is_kept_row, is_kept_text_row, is_key, is_message_row, is_part_row, is_utf8, is_utf8-from_IsUtf8, is_within, kept_key_entry, kept_text_entry, list_all, map, message_meant, part_entry, refl, string_bytes, true, ◌&&◌, ◌∙◌, ◌∷◌, ◌≡◌}
use Rattle.std.specs.declared.alloc.Global.{Global}
use Rattle.std.specs.declared.string.String.{String}
use Rattle.table_load.specs.declared.part.PartEntry.{PartEntry}
use Rattle.table_load.specs.declared.kept_text.KeptTextEntry.{KeptTextEntry}

is_text : (text : String Global) → is_utf8 (string_bytes text) ≡ true
is_text text = is_utf8-from_IsUtf8 _ (IsUtf8-string_bytes text)

pub and_so : (b : Bool) → b && true ≡ b
and_so true = refl
and_so false = refl

-- so a row is within range where its other columns are

pub part_is : (row : PartEntry) → is_part_row (part_entry row)
    ≡ is_flight_text (string_bytes row.flight) && is_day row.day && is_airport (string_bytes row.airport) && is_within 1 9999 row.seq
part_is row =
    let others = is_flight_text (string_bytes row.flight) && is_day row.day && is_airport (string_bytes row.airport) && is_within 1 9999 row.seq in
    ap (λ b. others && b) (is_text row.body) ∙ and_so others

pub kept_key_is : (row : KeptKeyEntry) → is_kept_row (kept_key_entry row) ≡ is_key (string_bytes row.id) && is_count row.count
kept_key_is row =
    ap (λ b. is_key (string_bytes row.id) && b && is_count row.count) (is_text row.command)
    ∙ ap (λ b. b && is_count row.count) (and_so (is_key (string_bytes row.id)))

pub kept_text_is : (row : KeptTextEntry) → is_kept_text_row (kept_text_entry row) ≡ is_count row.count
kept_text_is row = ap (λ b. b && is_count row.count) (is_text row.body)

pub messages_are : (rows : List MessageRow) → list_all is_message_row (map message_meant rows) ≡ true
messages_are [] = refl
messages_are (row ∷ rows) = and_from _ _ (is_text row.body) (messages_are rows)
