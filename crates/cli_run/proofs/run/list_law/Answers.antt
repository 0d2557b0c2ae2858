use Rattle.cli_run.proofs.ListLaw.{run_of_rows}
use Rattle.cli_run.proofs.run.list_law.Goals as goal

pub returns : goal.returns
returns g c rows at old new good are s kept works sound = run_of_rows g.K.Keeper.keeping at g.E.ByteOut.taken 1 rows old new good are s kept works sound
