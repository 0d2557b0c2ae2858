use Rattle.station_files.proofs.ByList.{copied_by_list}
use Rattle.station_files.proofs.opening.ConnectionFileStoreFileBackedFilesFileStore.into_files.Goals as goal

pub returns-in-Ok : goal.returns-in-Ok
returns-in-Ok g c = record {
  copied = λ honest. let copied = c.in-Ok.ensures.copied honest in (copied, copied_by_list c.args.self c.in-Ok.files copied);
  left = tt;
}

pub returns-in-Err : goal.returns-in-Err
returns-in-Err g c = record { copied = λ _. tt; left = c.in-Err.ensures.err.0 }
