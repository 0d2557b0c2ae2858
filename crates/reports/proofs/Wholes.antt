-- Objects of rows whose texts are put byte by byte.
use Rattle.reports.proofs.Common.{List, [], append_assoc, codes, compact_text, decimal, kept_data, message_data, number_text, string, trail_data, ℕ, ◌++◌, ◌∷◌, ◌≡◌}
use Rattle.serde_json.proofs.OnLiterals.{serde_json_on_literals}
use Rattle.station_core.specs.declared.rows.Message.{Message}
use Rattle.station_core.specs.declared.rows.TrailRow.{TrailRow}
use Rattle.reports.specs.declared.readings.KeptRow.{KeptRow}

put : (old k a l t x : List ℕ) → ((old ++ (k ++ (a ++ l))) ++ t) ++ x ≡ old ++ (k ++ (a ++ (l ++ (t ++ x))))
put old k a l t x = simp append_assoc

-- a number and a text, as they are put
pub message_put : (old : List ℕ) (row : Message) → ((old ++ (codes "{\"number\":" ++ (decimal row.number ++ codes ",\"text\":"))) ++ compact_text (string row.text)) ++ 125 ∷ [] ≡ old ++ compact_text (message_data row)
unfolding serde_json_on_literals
message_put old row = put old (codes "{\"number\":") (decimal row.number) (codes ",\"text\":") (compact_text (string row.text)) (125 ∷ [])

-- a number, a waybill and a line
put_more : (old k a m b l t x : List ℕ) → ((old ++ (k ++ (a ++ (m ++ (b ++ l))))) ++ t) ++ x ≡ old ++ (k ++ (a ++ (m ++ (b ++ (l ++ (t ++ x))))))
put_more old k a m b l t x = simp append_assoc

pub trail_put : (old : List ℕ) (row : TrailRow) → ((old ++ (codes "{\"number\":" ++ (decimal row.number ++ (codes ",\"awb\":" ++ (compact_text (string (number_text row.awb)) ++ codes ",\"line\":"))))) ++ compact_text (string row.line)) ++ 125 ∷ [] ≡ old ++ compact_text (trail_data row)
unfolding serde_json_on_literals
trail_put old row = put_more old (codes "{\"number\":") (decimal row.number) (codes ",\"awb\":") (compact_text (string (number_text row.awb))) (codes ",\"line\":") (compact_text (string row.line)) (125 ∷ [])

-- a key, a count and a command
pub kept_put : (old : List ℕ) (row : KeptRow) → ((old ++ (codes "{\"key\":" ++ (compact_text (string row.key) ++ (codes ",\"count\":" ++ (decimal row.count ++ codes ",\"command\":"))))) ++ compact_text (string row.command)) ++ 125 ∷ [] ≡ old ++ compact_text (kept_data row)
unfolding serde_json_on_literals
kept_put old row = put_more old (codes "{\"key\":") (compact_text (string row.key)) (codes ",\"count\":") (decimal row.count) (codes ",\"command\":") (compact_text (string row.command)) (125 ∷ [])
