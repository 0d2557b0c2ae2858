-- A line of the trail and a message are written behind the others, under the next number.
use Rattle.row_codec.proofs.Common.{List, Means, Message, Some, State, Tables, Trail, [], ap, insert_by, is_message_row, is_trail_row, is_utf8, length, length-map, line_by, line_row, map-append, meaning_of, message_id, message_row, on_cargo, outbox_in, pos, sym, trail_id, trail_in, true, with_message, with_messages, with_trail_line, written, ℕ, ◌++◌, ◌+◌, ◌∙◌, ◌∷◌, ◌≡◌}
use Rattle.row_codec.proofs.Listed.{list_all-insert_by, next_row, still_numbered}

module _ (t : Tables) (s : State) (n : ℕ) (means : Means t (Some s)) where
  pub adds_line : (w : ℕ) (line text : List ℕ) → is_trail_row (line_row n w line) ≡ true → n ≡ length s.cargo.trail + 1
      → Means (with_trail_line (line_row n w line) t) (Some (on_cargo (written text (Trail w line)) s))
  adds_line w line text fits next = (
    assumption (list_all-insert_by trail_id is_trail_row t.trail (line_row n w line) fits means.0.trail, still_numbered trail_id (line_row n w line) t.trail means.0.lines number, means),
    (λ i. record (meaning_of t) { cargo = record (meaning_of t).cargo { trail = trail i } }) ∙ ap (on_cargo (written text (Trail w line))) means.1,
  )
    where
      number : ◌≡◌ (pos n) (pos (length t.trail + 1))
      number = ap pos (next ∙ ap (λ (x : State). length x.cargo.trail + 1) (sym means.1) ∙ ap (λ k. k + 1) (length-map t.trail line_by))

      trail : trail_in (insert_by trail_id t.trail (line_row n w line)) ≡ trail_in t.trail ++ (w, line) ∷ []
      trail = ap trail_in (next_row trail_id (line_row n w line) t.trail means.0.lines number) ∙ map-append line_by t.trail (line_row n w line ∷ [])

  pub adds_message : (text : List ℕ) → is_utf8 text ≡ true → n ≡ length s.cargo.outbox + 1 → Means (with_message (message_row n text) t) (Some (with_messages (text ∷ []) s))
  adds_message text fits next = (
    assumption (list_all-insert_by message_id is_message_row t.outbox (message_row n text) fits means.0.messages, still_numbered message_id (message_row n text) t.outbox means.0.outbox number, means),
    (λ i. record (meaning_of t) { cargo = record (meaning_of t).cargo { outbox = outbox i } }) ∙ ap (with_messages (text ∷ [])) means.1,
  )
    where
      number : ◌≡◌ (pos n) (pos (length t.outbox + 1))
      number = ap pos (next ∙ ap (λ (x : State). length x.cargo.outbox + 1) (sym means.1) ∙ ap (λ k. k + 1) (length-map t.outbox (λ (row : Message). row.body)))

      outbox : outbox_in (insert_by message_id t.outbox (message_row n text)) ≡ outbox_in t.outbox ++ text ∷ []
      outbox = ap outbox_in (next_row message_id (message_row n text) t.outbox means.0.outbox number) ∙ map-append (λ (row : Message). row.body) t.outbox (message_row n text ∷ [])
