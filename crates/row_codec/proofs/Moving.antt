-- A move is written behind the others, under the next number.
use Rattle.row_codec.proofs.Common.{AreNumbered, IsTrue, Move, Tables, [], ap, book_in, is_move_row, length, list_all, map-append, move_by, move_id, move_row, pos, with_move, ℕ, ◌++◌, ◌+◌, ◌∙◌, ◌∷◌, ◌≡◌}
use Rattle.row_codec.proofs.Listed.{list_all-insert_by, next_row, still_numbered}

-- the book has one move more, and its rows are in order
pub record HasMove (old new : Tables) (m : Move) : Type 0 where
  pub book : book_in new.moves ≡ book_in old.moves ++ m ∷ []
  pub numbered : AreNumbered move_id new.moves
  pub rows : IsTrue (list_all is_move_row new.moves)

pub adds_move : (t : Tables) (n : ℕ) (m : Move) → AreNumbered move_id t.moves → IsTrue (list_all is_move_row t.moves) → n ≡ length t.moves + 1 → IsTrue (is_move_row (move_row n m)) → move_by (move_row n m) ≡ m
    → HasMove t (with_move (move_row n m) t) m
adds_move t n m numbered rows next fits again = record {
  book = ap book_in (next_row move_id (move_row n m) t.moves numbered (ap pos next)) ∙ map-append move_by t.moves (move_row n m ∷ []) ∙ ap (λ (x : Move). book_in t.moves ++ x ∷ []) again;
  numbered = still_numbered move_id (move_row n m) t.moves numbered (ap pos next);
  rows = list_all-insert_by move_id is_move_row t.moves (move_row n m) fits rows;
}
