-- The rows of `moves` are lawful exactly where each is good.
use Rattle.table_audits.proofs.Common.{AllByRecursion, AreNumbered, IsGoodRow, IsLawfulMove, all_both, all_from_test, all_map, all_unmap, all_weaker, cargo_in, is_move_row, move_by, move_id, test_from_all, true, ◌≡◌}
use Rattle.std.specs.Prelude.{IsTrue}
use Rattle.std.specs.List.{list_all}
use Rattle.station_schema.specs.Tables as table

-- each row is in range, numbered from 1, and a lawful move by itself
pub record AreMoveRows (t : table.Tables) : Type 0 where
  pub rows : IsTrue (list_all is_move_row t.moves)
  pub numbers : AreNumbered move_id t.moves
  pub moves : AllByRecursion (IsLawfulMove (cargo_in t)) (cargo_in t).book

module _ (t : table.Tables) where
  pub rows_good : AreMoveRows t → AllByRecursion (IsGoodRow t) t.moves
  rows_good law = all_both (λ row. is_move_row row ≡ true) (λ row. IsLawfulMove (cargo_in t) (move_by row)) (IsGoodRow t) (λ row a b. record { within = a; lawful = b }) t.moves
      (all_from_test is_move_row t.moves law.rows) (all_unmap (IsLawfulMove (cargo_in t)) move_by t.moves law.moves)

  pub good_rows : AreNumbered move_id t.moves → AllByRecursion (IsGoodRow t) t.moves → AreMoveRows t
  good_rows numbers all = record {
    rows = test_from_all is_move_row t.moves (all_weaker (IsGoodRow t) (λ row. is_move_row row ≡ true) (λ row good. good.within) t.moves all);
    numbers = numbers;
    moves = all_map (IsLawfulMove (cargo_in t)) move_by t.moves (all_weaker (IsGoodRow t) (λ row. IsLawfulMove (cargo_in t) (move_by row)) (λ row good. good.lawful) t.moves all);
  }
