-- The pieces of a text are the text of its form.
use Rattle.std.proofs.Common.{arith, true, ◌≡◌, ◌∙◌, ap, sym, refl, ℕ, zero, suc, ◌+◌, ◌<◌, List, [], ◌∷◌, ◌++◌, length, append_assoc, length-append, decimal, codes}
use Rattle.serde_json.proofs.OnLiterals.{serde_json_on_literals}
use Rattle.reports.proofs.Common.{Data, Form, before_row, close_of_none, compact_text, count_data, end_line, end_piece, flat_map, items_of, items_text, member, members_text, no_members, row_piece, rows_data, rows_text}
use Rattle.reports.proofs.Pieces.{pieces_of, whole_text}
use Rattle.reports.specs.declared.layout.Form.TheVariants as form

module _ {Row : Type 0} (line : Row → List ℕ) (json : Row → Data) where
  abbrev pub piece : Form → ℕ → Row → List ℕ
  piece f n row = row_piece f n (line row) (json row)

  line_pieces : (n : ℕ) (rows : List Row) → pieces_of (piece form.Text) n rows ≡ flat_map line rows
  line_pieces n [] = refl
  line_pieces n (row ∷ rows) = ap (λ t. line row ++ t) (line_pieces (n + 1) rows)

  -- what follows the last object
  abbrev after_rows : ℕ → List ℕ
  after_rows n = codes "],\"count\":" ++ (decimal n ++ codes "}\n")

  abbrev after_bracket : ℕ → List ℕ
  after_bracket n = codes ",\"count\":" ++ (decimal n ++ codes "}\n")

  before_more : (n : ℕ) → 0 < n → before_row n ≡ codes ","
  before_more zero some = absurd (omega (arith, some))
  before_more (suc n) some = refl

  close_more : (n : ℕ) → 0 < n → close_of_none n ≡ []
  close_more zero some = absurd (omega (arith, some))
  close_more (suc n) some = refl

  -- objects after the first
  more_items : (n k : ℕ) (rows : List Row) → 0 < n → pieces_of (piece form.Json) n rows ++ after_rows k ≡ items_text true (items_of json rows) ++ after_bracket k
  more_items n k [] some = refl
  more_items n k (row ∷ rows) some =
      let text : List ℕ = compact_text (json row) in
      let more : 0 < n + 1 = omega arith in
      append_assoc (before_row n ++ text) (pieces_of (piece form.Json) (n + 1) rows) (after_rows k)
      ∙ (λ i. (before_more n some i ++ text) ++ more_items (n + 1) k rows more i)
      ∙ ap (λ t. 44 ∷ t) (sym (append_assoc text (items_text true (items_of json rows)) (after_bracket k)))

  -- the count, and the line's end
  count_text : (n : ℕ) → members_text true (member (codes "count") (count_data n) no_members) ++ 10 ∷ [] ≡ after_bracket n
  unfolding serde_json_on_literals
  count_text n = ap (λ t. codes ",\"count\":" ++ t) (append_assoc (decimal n) (125 ∷ []) (10 ∷ []))

  behind : (a b c d : List ℕ) → ((a ++ b) ++ c) ++ d ≡ a ++ (b ++ (c ++ d))
  behind a b c d = simp append_assoc

  front : List ℕ → List ℕ
  front text = codes "{\"rows\":[" ++ text

  object_pieces : (rows : List Row) → whole_text (piece form.Json) (end_piece form.Json) rows ≡ compact_text (rows_data json rows) ++ 10 ∷ []
  unfolding serde_json_on_literals front
  object_pieces [] = ap (λ t. codes "{\"rows\":[]" ++ t) (sym (count_text 0))
  object_pieces (row ∷ rows) =
      let k : ℕ = length (row ∷ rows) in
      let some : 0 < k = omega arith in
      let one : 0 < 0 + 1 = omega arith in
      let text : List ℕ = compact_text (json row) in
      let more : List ℕ = pieces_of (piece form.Json) (0 + 1) rows in
      let items : List ℕ = items_text true (items_of json rows) in
      let count : List ℕ = members_text true (member (codes "count") (count_data k) no_members) in
      ap (λ t. front ((text ++ more) ++ (t ++ after_rows k))) (close_more k some)
      ∙ ap front (append_assoc text more (after_rows k) ∙ ap (λ t. text ++ t) (more_items (0 + 1) k rows one ∙ ap (λ t. items ++ t) (sym (count_text k))) ∙ sym (behind text items count (10 ∷ [])))

  -- the pieces of a form are its text
  pub in_form : (f : Form) (rows : List Row) → whole_text (piece f) (end_piece f) rows ≡ rows_text f line json rows
  in_form form.Text rows = ap (λ t. t ++ end_line (length rows)) (line_pieces 0 rows)
  in_form form.Json rows = object_pieces rows

  before_some : (n : ℕ) → 0 < length (before_row n)
  before_some zero = omega arith
  before_some (suc n) = omega arith

  -- each piece has a byte at least, where each line has
  pub piece_some : ((row : Row) → 0 < length (line row)) → (f : Form) (n : ℕ) (row : Row) → 0 < length (piece f n row)
  piece_some some form.Text n row = some row
  piece_some some form.Json n row = omega (arith, before_some n, length-append (before_row n) (compact_text (json row)))
