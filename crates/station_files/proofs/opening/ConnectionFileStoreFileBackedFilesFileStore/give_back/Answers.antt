use Rattle.station_files.proofs.opening.ConnectionFileStoreFileBackedFilesFileStore.give_back.Goals as goal

pub returns : goal.returns
returns g c = record {
  left = record { quiet = c.into_store.ensures.quiet; sound = c.into_store.ensures.sound };
  numbered = c.into_store.ensures.numbered;
}
