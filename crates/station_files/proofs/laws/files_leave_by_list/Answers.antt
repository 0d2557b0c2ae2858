use Rattle.station_files.proofs.ByList.{leaves}
use Rattle.station_files.proofs.laws.files_leave_by_list.Goals as goal

pub returns : goal.returns
returns g c = λ it sound. leaves {g = g.D.Disk} it sound
