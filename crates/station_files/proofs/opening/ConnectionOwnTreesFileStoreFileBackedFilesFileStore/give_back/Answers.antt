use Rattle.station_files.proofs.opening.ConnectionOwnTreesFileStoreFileBackedFilesFileStore.give_back.Goals as goal

pub returns : goal.returns
returns g c = record { left = c.file_inside.ensures.closed; numbered = λ _. tt }
