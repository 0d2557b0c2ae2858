use Rattle.row_codec.proofs.MoveRows.{columns_again}
use Rattle.row_codec.proofs.moves.flight_columns.Goals as goal

pub returns-in_ok-text-in-Some-clause-again : goal.returns-in_ok-text-in-Some-clause-again
returns-in_ok-text-in-Some-clause-again c = rw c.in-Some.is (columns_again c.in-Some.flight c.flight_text.ensures.designator)
