use Rattle.cli_run.proofs.ActsLaws.{run_of_lines}
use Rattle.cli_run.proofs.run.acts_law.Goals as goal

pub returns : goal.returns
returns g c lines at old new good are s kept works sound = run_of_lines g.K.Keeper.keeping at g.E.ByteOut.taken 1 lines old new good are s kept works sound
