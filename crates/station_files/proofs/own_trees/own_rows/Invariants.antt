use Rattle.station_files.proofs.Common.{List, Row, drop, map, rows_from, take, ◌++◌, ◌≡◌}
use Rattle.station_files.proofs.own_trees.own_rows.Given as goal

abbrev pub invariant-loop-tree : goal.invariant-loop-tree
invariant-loop-tree l = (all : List Row) → l.rows ≡ map (take 5) all
    → l.own.items ++ map (take 5) (rows_from l.tree (drop l.tree l.numbers) all) ≡ map (take 5) (rows_from 0 l.numbers all)
