use Rattle.std.proofs.Common.{arith}
use Rattle.station_files.proofs.Owning.{all_rows, more_rows}
use Rattle.station_files.proofs.own_trees.own_rows.Goals as goal

pub loop-tree-preserved : goal.loop-tree-preserved
loop-tree-preserved c all is =
    more_rows c.loop-tree.tree c.args.numbers.now all c.loop-tree.own.items c.push_row.new.own.items _ (omega arith) (c.loop-tree.invariant all is) (c.in_ok-push_row.ensures all is)

pub returns : goal.returns
returns c all is = all_rows c.loop-tree.tree c.args.numbers.now all c.loop-tree.own.items _ (omega arith) (c.loop-tree.invariant all is)
