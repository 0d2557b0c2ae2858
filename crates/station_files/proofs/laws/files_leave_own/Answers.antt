use Rattle.station_files.proofs.OwnFiles.{leaves_own}
use Rattle.station_files.proofs.laws.files_leave_own.Goals as goal

pub returns : goal.returns
returns g c = λ it numbers few low sound. leaves_own {g = g.D.Disk} it numbers few low sound
